-- Answers of the proof of host/CoreHost/kick_all.
use Rattle.core_host.specs.Views.{staffed_in}
use Rattle.core_host.proofs.Sending.{on_it, kick_made}
use Rattle.core_host.proofs.host.CoreHost.kick_all.Goals as goal

pub returns : goal.returns
returns g c =
    let k = c.kick_all in
    record {
      kicked = on_it k.result k.ensures.kicked (kick_made c.kicks_alone_keep_it.ensures (staffed_in c.self.inside)
          c.args.self.now c.deref.result.now k.new.self c.self.view_is c.deref.ensures c.requires.sound
          k.ensures.kickers);
    }

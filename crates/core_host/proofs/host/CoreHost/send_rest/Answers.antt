-- Answers of the proof of host/CoreHost/send_rest.
use Rattle.core_host.specs.Views.{staffed_in}
use Rattle.core_host.proofs.Sending.{on_it, rest_made}
use Rattle.core_host.proofs.host.CoreHost.send_rest.Goals as goal

pub returns : goal.returns
returns c =
    let s = c.send_rest in
    record {
      sent = on_it s.result s.ensures.sent (rest_made c.rests_sent_alone_are_emit_phases.ensures
          (staffed_in c.self.inside) c.args.self.now c.args.tick s.new.self c.self.view_is c.requires.sound
          s.ensures.table s.ensures.rest);
    }

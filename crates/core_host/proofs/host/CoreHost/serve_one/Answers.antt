-- Answers of the proof of host/CoreHost/serve_one.
use Rattle.core_host.specs.Handing.{coming}
use Rattle.core_host.specs.Views.{staffed_in}
use Rattle.core_host.proofs.Served.{on_both, frame_taken}
use Rattle.core_host.proofs.host.CoreHost.serve_one.Goals as goal

pub returns : goal.returns
returns g c =
    let s = c.serve_frame in
    on_both s.result s.ensures.served s.ensures.books (frame_taken (staffed_in c.self.inside) c.args.self.now
    c.deref.result.now (g.N.NumberSource.number c.args.numbers.now) c.args.tick (coming c.args.frame.now) s.new.slow
    s.new.books c.self.view_is c.deref.ensures c.requires.sound c.requires.few s.ensures.rest s.ensures.senders)

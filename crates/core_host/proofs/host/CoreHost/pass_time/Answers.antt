-- Answers of the proof of host/CoreHost/pass_time.
use Rattle.core_host.specs.Views.{staffed_in}
use Rattle.core_host.proofs.Staffs.{time_passed_on}
use Rattle.core_host.proofs.host.CoreHost.pass_time.Goals as goal

pub returns : goal.returns
returns g c =
    let t = c.turn_first in
    time_passed_on t.result (staffed_in c.self.inside) c.args.self.now c.deref.result.now
    (λ tuple n. record { 0 = 0 }) c.args.tick t.new.slow t.new.books c.self.view_is c.deref.ensures c.requires.sound
    c.requires.risen t.ensures.sound t.ensures.senders t.ensures.kickers t.ensures.turned t.ensures.kept

use Rattle.std.proofs.Common.{◌≤◌, ◌+◌, suc, arith}
use Rattle.host_tests.proofs.Steps.{risen_by}
use Rattle.host_tests.proofs.workers.serve_in.Goals as goal

pub returns : goal.returns
returns g c =
    let done = c.in-Ok.ensures in
    let next : c.args.tick ≤ suc c.args.tick = omega arith in
    record {
      sound = done.sound;
      risen = risen_by c.args.tick (suc c.args.tick) c.turn.new.self.time done.time next;
      senders = done.senders;
      kickers = done.kickers;
    }

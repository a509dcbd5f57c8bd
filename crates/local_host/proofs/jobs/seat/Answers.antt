use Rattle.std.proofs.Common.{arith}
use Rattle.local_host.proofs.HandingOut.{lane_added}
use Rattle.local_host.proofs.jobs.seat.Goals as goal

pub returns : goal.returns
returns c = λ jobs strays trials are.
    c.seat_last-2.ensures jobs strays trials
    (lane_added 0 c.empty_lane.result c.push.new.self.items c.in_ok-push.ensures.items (omega arith)
    c.empty_lane.ensures are)

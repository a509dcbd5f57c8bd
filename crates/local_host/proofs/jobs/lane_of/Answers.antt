use Rattle.local_host.proofs.HandingOut.{lane_added}
use Rattle.local_host.proofs.jobs.lane_of.Goals as goal

pub returns-clause-lanes : goal.returns-clause-lanes
returns-clause-lanes c = λ jobs strays trials are.
    lane_added c.args.core c.empty_lane.result c.push.new.self.items c.in_ok-push.ensures.items c.requires
    c.empty_lane.ensures are

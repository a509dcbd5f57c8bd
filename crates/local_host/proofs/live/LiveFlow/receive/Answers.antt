use Rattle.flow_state.specs.Calls.{seg_of}
use Rattle.local_host.proofs.FastSegments.{took_serially}
use Rattle.local_host.proofs.live.LiveFlow.receive.Goals as goal

pub returns-then-branch : goal.returns-then-branch
returns-then-branch c =
    let taken = c.in_ok-take_segment in
    took_serially c.args.self.now c.take_segment.new.self c.args.tick c.args.frame (seg_of c.args.seg.now) c.args.taking
    taken.field-0 c.in-Serially.is c.if-branch.true taken.ensures.taken taken.ensures.made

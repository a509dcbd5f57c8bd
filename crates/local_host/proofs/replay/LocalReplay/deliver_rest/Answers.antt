use Rattle.std.proofs.Common.{map, ◌∙◌}
use Rattle.tas_runs.specs.Starts.{first_start}
use Rattle.capture_items.specs.Starts.{kept_starts}
use Rattle.capture_items.proofs.Listed.{starts_are}
use Rattle.local_host.specs.Arriving.{arrival_in}
use Rattle.local_host.proofs.CoreRecording.{rests, rests_less, slow_alike}
use Rattle.local_host.proofs.replay.LocalReplay.deliver_rest.Goals as goal

pub loop-arrival-preserved : goal.loop-arrival-preserved
loop-arrival-preserved c = λ items are.
    rests_less items c.args.tick c.loop-arrival.self c.deliver_slowly.new.self
    (rests items c.args.tick c.args.self.now (map arrival_in c.args.rest.now))
    c.args.rest.now c.loop-arrival.arrival-index _ c.loop-arrival-test.true
    (c.in_ok-deliver_slowly.ensures
    ∙ slow_alike (kept_starts c.args.starts.now) (first_start items) c.args.tick (arrival_in _) c.loop-arrival.self
    (λ tuple k n. starts_are items c.args.starts.now tuple k n are))
    (c.loop-arrival.invariant items are)

use Rattle.std.proofs.Common.{map, ◌∙◌}
use Rattle.tas_runs.specs.Starts.{first_start}
use Rattle.capture_items.specs.Items.{item_in}
use Rattle.capture_items.specs.Starts.{kept_starts}
use Rattle.capture_items.proofs.Listed.{starts_are}
use Rattle.local_host.proofs.Recording.{frames, frames_less, came_alike}
use Rattle.local_host.proofs.replay.LocalReplay.deliver_all.Goals as goal

pub loop-item-preserved : goal.loop-item-preserved
loop-item-preserved c = λ items are.
    frames_less items c.args.tick c.loop-item.self c.deliver.new.self
    (frames items c.args.tick c.args.self.now (map item_in c.args.batch.now))
    c.args.batch.now c.loop-item.item-index _ c.loop-item-test.true
    (c.in_ok-deliver.ensures
    ∙ came_alike (kept_starts c.args.starts.now) (first_start items) c.args.tick (item_in _) c.loop-item.self
    (λ tuple k n. starts_are items c.args.starts.now tuple k n are))
    (c.loop-item.invariant items are)

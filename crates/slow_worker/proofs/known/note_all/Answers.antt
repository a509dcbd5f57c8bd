use Rattle.std.proofs.Common.{◌<◌, sym, arith, length}
use Rattle.std.specs.HashMap.{get}
use Rattle.flow_index.specs.Changes.{is_same}
use Rattle.slow_worker.proofs.Found.{more_found}
use Rattle.slow_worker.proofs.known.note_all.Goals as goal

pub loop-place-preserved : goal.loop-place-preserved
loop-place-preserved c =
    let end = c.len-place-end.ensures in
    let len = c.args.flows.now.ok.0 in
    let near : c.loop-place.place < length c.args.flows.now.items =
    let test = c.loop-place-test.true in omega (arith, test, end, len) in (
      more_found (get is_same c.loop-place.firsts) (get is_same c.note.new.firsts) c.args.flows.now.items
          c.loop-place.place c.index.result.now near (sym c.index.ensures) c.loop-place.invariant.0
          c.note.ensures.flows,
      omega (arith, c.loop-place.invariant.1, c.note.ensures.few),
      omega (arith, c.loop-place.invariant.2, c.note.ensures.room),
    )

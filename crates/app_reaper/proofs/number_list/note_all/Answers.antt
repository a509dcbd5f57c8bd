use Rattle.std.proofs.Common.{◌<◌, sym, arith, length}
use Rattle.std.specs.Prelude.{nat_eq}
use Rattle.std.specs.HashMap.{get}
use Rattle.app_reaper.proofs.Places.{more_placed}
use Rattle.app_reaper.proofs.number_list.note_all.Goals as goal

pub loop-place-preserved : goal.loop-place-preserved
loop-place-preserved c =
    let end = c.len-place-end.ensures in
    let len = c.args.numbers.now.ok.0 in
    let near : c.loop-place.place < length c.args.numbers.now.items =
    let test = c.loop-place-test.true in omega (arith, test, end, len) in (
      more_placed (get nat_eq c.loop-place.places) (get nat_eq c.note.new.places) c.args.numbers.now.items
          c.loop-place.place c.index.result.now near (sym c.index.ensures) c.loop-place.invariant.0
          c.note.ensures.places,
      omega (arith, c.loop-place.invariant.1, c.note.ensures.few),
      omega (arith, c.loop-place.invariant.2, c.note.ensures.room),
    )

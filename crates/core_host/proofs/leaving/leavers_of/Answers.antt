-- Answers of the proof of leaving/leavers_of.
use Rattle.std.proofs.Common.{◌≡◌, Some, slice_get, length, refl, ap, ◌∙◌}
use Rattle.std.proofs.lemmas.Option.{slice_get_read}
use Rattle.core_phase.specs.declared.lane.Lane.{Lane}
use Rattle.core_host.proofs.Left.{named_at}
use Rattle.core_host.proofs.leaving.leavers_of.Goals as goal

pub leaver_at-requires-clause-named : goal.leaver_at-requires-clause-named
leaver_at-requires-clause-named c l e =
    let ls = c.args.lanes.now in
    let i = c.loop-i.i in
    let there : slice_get ls i ≡ Some c.index-lanes-i.result =
    slice_get_read ls (length ls) i c.index-lanes-i.result refl c.loop-i-test.true c.index-lanes-i.is in
    named_at c.args.cores 0 c.args.names.now ls i l c.requires.staff (there ∙ ap (λ (x : Lane). Some x) e)

use Rattle.std.proofs.Common.{◌≡◌, List, flat_map, slice_get, Some, subst, arith}
use Rattle.tas_model.specs.declared.entry.Entry.{Entry}
use Rattle.flow_state.specs.Views.{seen_entry, seen_stretch}
use Rattle.flow_state.proofs.Looking.{got_in, front_more}
use Rattle.flow_state.proofs.stretches.Stretches.entry.Goals as goal

pub returns-in-Ok : goal.returns-in-Ok
returns-in-Ok c =
    let all = c.args.self.now in
    subst (λ n. slice_get (flat_map (λ (xs : List Entry). xs) all) n
    ≡ Some (seen_entry c.in-Ok.entry)) c.loop-k.invariant
    (got_in all c.loop-k.k c.loop-k.left (seen_stretch c.get.result) (seen_entry c.in-Ok.entry) c.get.ensures.entries
    (c.in-Ok.ensures.found))

pub loop-k-preserved : goal.loop-k-preserved
loop-k-preserved c =
    let all = c.args.self.now in
    omega (
      arith,
      front_more all c.loop-k.k (seen_stretch c.get.result) c.get.ensures.entries,
      c.in-Err.ensures.past,
      c.loop-k.invariant,
    )

use Rattle.std.proofs.Common.{◌<◌, List, length, slice_get, Some, sym, ◌∙◌, ap, arith}
use Rattle.std.proofs.lemmas.List.{length-map}
use Rattle.tas_model.specs.declared.entry.Entry.{Entry}
use Rattle.flow_state.specs.Arena.{memory_of}
use Rattle.flow_state.specs.Stretches.{entries_in}
use Rattle.flow_state.proofs.Looking.{within_at, stretch_at}
use Rattle.flow_state.proofs.stretches.Stretches.get.Goals as goal

pub stretch_view-requires : goal.stretch_view-requires
stretch_view-requires c =
    let below : c.args.i < length c.self.inside.items.now =
    omega (
      arith,
      length-map c.self.inside.items.now (entries_in (memory_of c.self.inside.arena.now c.self.inside.came.now)),
      ap (length {A = List Entry}) c.self.view_is,
      c.requires,
    ) in
    within_at (length c.self.inside.arena.now) (length c.self.inside.came.now) c.self.inside.items.now c.args.i _
    below c.self.invariant

pub returns-clause-entries : goal.returns-clause-entries
returns-clause-entries c =
    let below : c.args.i < length c.self.inside.items.now =
    omega (
      arith,
      length-map c.self.inside.items.now (entries_in (memory_of c.self.inside.arena.now c.self.inside.came.now)),
      ap (length {A = List Entry}) c.self.view_is,
      c.requires,
    ) in
    ap (λ (xss : List (List Entry)). slice_get xss c.args.i) (sym c.self.view_is)
    ∙ (stretch_at (memory_of c.self.inside.arena.now c.self.inside.came.now) c.self.inside.items.now c.args.i _ below
    ∙ ap (λ (xs : List Entry). Some xs) (sym c.stretch_view.ensures.entries))

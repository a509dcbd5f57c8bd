use Rattle.std.proofs.Common.{◌≡◌, ◌-◌, length, slice_get, Some, sym, ◌∙◌, ap}
use Rattle.std.specs.Option.{option_copied}
use Rattle.flow_state.specs.declared.stretch.Stretch.{Stretch}
use Rattle.flow_state.specs.declared.stretch.Stretch.TheVariants.{Paced}
use Rattle.flow_state.proofs.Looking.{within_last}
use Rattle.flow_state.proofs.paced.joined_last.Goals.{In-Some-Paced}
use Rattle.flow_state.proofs.paced.joined_last.Goals as goal

there : (c : In-Some-Paced) → slice_get c.args.stretches.now (length c.args.stretches.now - 1)
    ≡ Some (Paced c.in-Some-Paced.runs)
there c =
    sym c.last.ensures.value
    ∙ (ap option_copied c.in-Some-Paced.is ∙ ap (λ (s : Stretch). Some s) c.in-Some-Paced.field-0-is)

pub joined-requires-clause-runs : goal.joined-requires-clause-runs
joined-requires-clause-runs c =
    within_last c.requires.placed.0 c.requires.placed.1 c.args.stretches.now (Paced c.in-Some-Paced.runs) (there c)
    c.requires.placed.2

use Rattle.std.proofs.Common.{◌∙◌, Bool, ℕ, ap}
use Rattle.std.specs.List.{list_any}
use Rattle.std.proofs.lemmas.List.{take_all}
use Rattle.host_rounds.specs.Hosts.{is_in_slot}
use Rattle.local_host.specs.Index.{passes_at}
use Rattle.local_host.proofs.Standing.{any_standing, filed_in_no_slot}
use Rattle.local_host.proofs.slot_marks.mark_anew.Goals as goal

pub returns-clause-taken : goal.returns-clause-taken
returns-clause-taken c = λ slot low.
    let test : ℕ → Bool = passes_at (is_in_slot slot) c.args.flows.now in
    c.loop-place.invariant.taken slot low
    ∙ (ap (list_any test) (take_all c.loop-place.place-index c.args.standing.now c.loop-place-test.false ∙ c.requires)
    ∙ any_standing (is_in_slot slot) (filed_in_no_slot slot) c.args.flows.now)

-- Answers of the proof of attempts/lane_place.
use Rattle.std.proofs.Common.{ℕ, sym, refl, ◌∙◌, subst, true≢false}
use Rattle.std.specs.Prelude.{Option, IsSome}
use Rattle.core_host.proofs.attempts.lane_place.Goals as goal

pub unreachable-requires : goal.unreachable-requires
unreachable-requires c =
    absurd (true≢false
    (sym (subst (λ (o : Option ℕ). IsSome o) (sym c.name_place.ensures.place ∙ c.in_default.is) c.requires.runs)))

pub returns : goal.returns
returns c = (c.in-Some.at, sym c.name_place.ensures.place ∙ c.in-Some.is, refl)

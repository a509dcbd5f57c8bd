use Rattle.std.proofs.Common.{eqb, ℕ}
use Rattle.scenario_text.proofs.Cuts.{no_address}
use Rattle.scenario_text.proofs.words.address_of.Goals as goal

pub returns-in-Some : goal.returns-in-Some
returns-in-Some c =
    no_address (λ (x : ℕ). eqb x 46) c.args.word.now _ _ _ _ c.in_ok-a.rest.now c.in_ok-b.rest.now c.in_ok-c.d.now
    c.in-Some.field-0.1.now c.in_ok-a.ensures.parts c.in_ok-b.ensures.parts c.in_ok-c.ensures.parts
    c.in-Some.ensures.parts

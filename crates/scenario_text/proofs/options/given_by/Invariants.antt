use Rattle.std.proofs.Common.{◌≡◌, map, length}
use Rattle.scenario_text.specs.Statements.{given_by, none_given}
use Rattle.scenario_text.proofs.options.given_by.Given as goal

abbrev pub invariant-loop-rest : goal.invariant-loop-rest
invariant-loop-rest l = given_by l.given (map (λ w. w.now) l.rest) ≡ given_by none_given (map (λ w. w.now) l.fn.words)

abbrev pub decreases-loop-rest : goal.decreases-loop-rest
decreases-loop-rest l = length l.rest

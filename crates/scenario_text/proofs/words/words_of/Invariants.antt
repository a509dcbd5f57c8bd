use Rattle.std.proofs.Common.{◌≡◌, ◌++◌, map, length}
use Rattle.scenario_text.specs.Words.{words_of}
use Rattle.scenario_text.proofs.words.words_of.Given as goal

abbrev pub invariant-loop-word : goal.invariant-loop-word
invariant-loop-word l = map (λ w. w.now) l.found.items ++ words_of l.rest ≡ words_of l.fn.line

abbrev pub decreases-loop-word : goal.decreases-loop-word
decreases-loop-word l = length l.rest

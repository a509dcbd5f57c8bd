use Rattle.std.proofs.Common.{◌≡◌, length}
use Rattle.scenario_text.specs.Words.{behind_word}
use Rattle.scenario_text.proofs.words.behind_word.Given as goal

abbrev pub invariant-loop-rest : goal.invariant-loop-rest
invariant-loop-rest l = behind_word l.rest ≡ behind_word l.fn.text

abbrev pub decreases-loop-rest : goal.decreases-loop-rest
decreases-loop-rest l = length l.rest

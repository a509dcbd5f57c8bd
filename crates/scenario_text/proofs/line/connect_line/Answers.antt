use Rattle.std.proofs.Common.{arith}
use Rattle.std.proofs.lemmas.Bool.Decides.{nat_tests}
use Rattle.scenario_text.proofs.Others.{connect_other}
use Rattle.scenario_text.proofs.line.connect_line.Goals.{in_default-via-then-words-lt3}
use Rattle.scenario_text.proofs.line.connect_line.Goals.{in_default-via-else-words-lt3+else-words-lt4}
use Rattle.scenario_text.proofs.line.connect_line.Goals as goal

pub returns-in_default : goal.returns-in_default
returns-in_default c = connect_other c.args.words.now
    (λ e. elim c.in_default.branch [
      | in_default-via-then-words-lt3 w ↦ let h = w.if-words-lt3-1.true in
          absurd (grind (arith, nat_tests, h))
      | in_default-via-else-words-lt3+else-words-lt4 w ↦ let h =
          w.if-words-lt4-1.false in absurd (grind (arith, nat_tests, h))
    ])

use Rattle.std.proofs.Common.{arith}
use Rattle.std.proofs.lemmas.Bool.Decides.{nat_tests}
use Rattle.scenario_text.proofs.Others.{move_other}
use Rattle.scenario_text.proofs.line.move_line.Goals.{in_default-via-then-words-lt5}
use Rattle.scenario_text.proofs.line.move_line.Goals.{in_default-via-else-words-lt5+else-words-lt6}
use Rattle.scenario_text.proofs.line.move_line.Goals as goal

pub returns-in_default : goal.returns-in_default
returns-in_default c = move_other c.args.words.now
    (λ e. elim c.in_default.branch [
      | in_default-via-then-words-lt5 w ↦ let h = w.if-words-lt5-1.true in
          absurd (grind (arith, nat_tests, h))
      | in_default-via-else-words-lt5+else-words-lt6 w ↦ let h =
          w.if-words-lt6-1.false in absurd (grind (arith, nat_tests, h))
    ])

use Rattle.std.proofs.Common.{◌∙◌, ◌+◌, sym, eqb, ℕ}
use Rattle.std.proofs.lemmas.List.{take_rest}
use Rattle.kv_sessions.proofs.Worded.{parts_at, one_part}
use Rattle.kv_sessions.proofs.words.cut.Goals as goal

pub returns-in-Some-clause-parts : goal.returns-in-Some-clause-parts
returns-in-Some-clause-parts c =
    rw (take_rest c.args.text.now (c.in-Some.at + 1))
    (parts_at (λ (x : ℕ). eqb x 32) c.args.text.now c.in-Some.at (sym c.place_of.ensures.place ∙ c.in-Some.is))

pub returns-in-None-clause-parts : goal.returns-in-None-clause-parts
returns-in-None-clause-parts c =
    one_part (λ (x : ℕ). eqb x 32) c.args.text.now (sym c.place_of.ensures.place ∙ c.in-None.is)

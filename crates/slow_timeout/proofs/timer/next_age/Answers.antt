use Rattle.std.proofs.Common.{◌≡◌, ◌+◌, ◌≤◌, false, true, nat_lt, sym, ◌∙◌, arith}
use Rattle.std.proofs.lemmas.Bool.Decides.{nat_tests}
use Rattle.tas_model.specs.Timers.{is_armed, patience}
use Rattle.slow_timeout.proofs.Ticking.{age_unarmed, age_early, age_late}
use Rattle.slow_timeout.proofs.timer.next_age.Goals as goal

pub returns-then-not-is_armed : goal.returns-then-not-is_armed
returns-then-not-is_armed c e v s = age_unarmed e (sym (c.is_armed.ensures e v s) ∙ c.if-not-is_armed.true)

pub returns-then-from-patience : goal.returns-then-from-patience
returns-then-from-patience c e v s =
    let armed : is_armed e.tx ≡ true = sym (c.is_armed.ensures e v s) ∙ c.if-not-is_armed.false in
    let most : patience e ≤ 16000 = omega (arith, c.patience.ensures.ticks e s, c.patience.ensures.small e v s) in
    let age : c.saturating_add-age.result ≡ e.tx.age + 1 = grind (arith, c.patience.ensures.ticks e s, most, s.age) in
    let early : nat_lt (e.tx.age + 1) (patience e) ≡ true = grind (arith, nat_tests, c.patience.ensures.ticks e s) in
    age_early e c.saturating_add-age.result armed early age

pub returns-else-from-patience : goal.returns-else-from-patience
returns-else-from-patience c e v s =
    let armed : is_armed e.tx ≡ true = sym (c.is_armed.ensures e v s) ∙ c.if-not-is_armed.false in
    let most : patience e ≤ 16000 = omega (arith, c.patience.ensures.ticks e s, c.patience.ensures.small e v s) in
    let late : nat_lt (e.tx.age + 1) (patience e) ≡ false =
    grind (arith, nat_tests, c.patience.ensures.ticks e s, most, s.age) in
    age_late e armed late

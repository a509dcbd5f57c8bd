-- Each segment that goes leaves less to send.
use Rattle.std.proofs.Common.{◌≡◌, ℕ, ◌+◌, ◌-◌, ◌≤◌, ◌<◌, ◌==◌, ◌&&◌, Bool, true, false, length, min, nat_lt, Option}
use Rattle.std.proofs.Common.{Some, None, refl, sym, subst, true≢false, arith, tests}
use Rattle.std.specs.Prelude.{⊤}
use Rattle.tas_model.specs.Endpoint.{Endpoint}
use Rattle.tas_model.specs.Segments.{one_if}
use Rattle.tas_model.specs.ApplicationCalls.{Column, Opening, Over, Running, column}
use Rattle.tas_model.specs.NextSegment.{Going, going, going_in, data_len, waiting}
use Rattle.tas_model.proofs.Tests.{on_cond}

-- the places up to past the FIN's, and a probe that is due
abbrev pub left_by : (out nxt : ℕ) → Bool → ℕ
left_by out nxt probe = out + 2 - nxt + one_if probe

-- how much may still go, at most
abbrev pub left_to_send : Endpoint → ℕ
left_to_send e = left_by (length e.tx.out) e.tx.nxt e.tx.probe

abbrev Falls : Endpoint → Option Going → Type 0
Falls e None = ⊤
Falls e (Some g) = left_to_send g.after < left_to_send e

data_falls : (out nxt n a b : ℕ) (probe : Bool) → n ≡ min a (min (out - (nxt - 1)) b) → nat_lt 0 n ≡ true
    → left_by out (nxt + n) probe < left_by out nxt probe
data_falls out nxt n a b true e t = grind (arith, tests, e, t)
data_falls out nxt n a b false e t = grind (arith, tests, e, t)

one_falls : (out nxt : ℕ) (probe : Bool) → nxt ≤ 1 + out → left_by out (nxt + 1) probe < left_by out nxt probe
one_falls out nxt true h = omega arith
one_falls out nxt false h = omega arith

probe_falls : (out nxt : ℕ) (probe a b c : Bool) → (probe && a && b && c) ≡ true
    → left_by out nxt false < left_by out nxt probe
probe_falls out nxt true a b c h = omega arith
probe_falls out nxt false a b c h = absurd (true≢false (sym h))

is_zero : (n : ℕ) → (n == 0) ≡ true → n ≤ 1
is_zero n h = grind (arith, tests, h)

at_end : (a : Bool) (n m : ℕ) → (a && n == m) ≡ true → n ≤ m
at_end true n m h = grind (arith, tests, h)
at_end false n m h = absurd (true≢false (sym h))

falls_in : (c : Column) (e : Endpoint) → Falls e (going_in c e)
falls_in Opening e = on_cond (Falls e) (e.tx.nxt == 0) _ _
    (λ t. one_falls (length e.tx.out) e.tx.nxt e.tx.probe (let small : e.tx.nxt ≤ 1 = is_zero e.tx.nxt t in
    omega arith)) (λ f. tt)
falls_in (Over why) e = tt
falls_in Running e =
    on_cond (Falls e) (nat_lt 0 (data_len e)) _ _
    (λ t. data_falls (length e.tx.out) e.tx.nxt (data_len e) e.rate.mss
    (min (e.tx.una + e.tx.window - e.tx.nxt) (min (e.tx.una + e.rate.cwnd - e.tx.nxt) e.rate.tokens)) e.tx.probe
    refl t)
    (λ f. on_cond (Falls e) (e.tx.probe && e.tx.window == 0 && e.tx.nxt == e.tx.una && nat_lt 0 (waiting e.tx)) _ _
    (λ t. probe_falls (length e.tx.out) e.tx.nxt e.tx.probe (e.tx.window == 0) (e.tx.nxt == e.tx.una)
    (nat_lt 0 (waiting e.tx)) t)
    (λ f. on_cond (Falls e) (e.tx.shut && e.tx.nxt == 1 + length e.tx.out) _ _
    (λ t. one_falls (length e.tx.out) e.tx.nxt e.tx.probe (at_end e.tx.shut e.tx.nxt (1 + length e.tx.out) t))
    (λ f. tt)))

pub falls : (e : Endpoint) (g : Going) → going e ≡ Some g → left_to_send g.after < left_to_send e
unfolding going
falls e g h = subst (Falls e) h (falls_in (column e) e)

-- How many flows have ports that connects are given.
use Rattle.std.proofs.Common.{◌≡◌, ℕ, zero, suc, ◌+◌, ◌≤◌, ◌++◌, Bool, true, false, cond, List, [], ◌∷◌}
use Rattle.std.proofs.Common.{length, map, refl, sym}
use Rattle.std.proofs.Common.{ap, ◌∙◌, arith, nat_le}
use Rattle.std.proofs.lemmas.List.Sums.{sum_by-cons, sum_by_push}
use Rattle.tas_model.specs.declared.entry.FourTuple.{FourTuple}
use Rattle.host_rounds.specs.Lists.{change_at}
use Rattle.host_rounds.specs.Hosts.{Live, first_port}
use Rattle.local_host.specs.Index.{given_in}
use Rattle.local_host.proofs.Indexing.{Keeps}

abbrev pub one_given : Live → ℕ
one_given l = cond (nat_le first_port l.flow.tuple.lport) 1 0

given_cons : (l : Live) (ls : List Live) → given_in (l ∷ ls) ≡ one_given l + given_in ls
given_cons l ls = sum_by-cons one_given l ls

pub given_push : (ls : List Live) (l : Live) → given_in (ls ++ l ∷ []) ≡ given_in ls + one_given l
given_push ls l = sum_by_push one_given ls l

same_given : (f : Live → Live) → Keeps f → (l : Live) → one_given (f l) ≡ one_given l
same_given f keeps l = ap (λ (t : FourTuple). cond (nat_le first_port t.lport) 1 0) (keeps.same l).tuple

pub given_map : (f : Live → Live) → Keeps f → (ls : List Live) → given_in (map f ls) ≡ given_in ls
given_map f keeps [] = refl
given_map f keeps (l ∷ ls) =
    given_cons (f l) (map f ls) ∙ (ap (λ (n : ℕ). n + given_in (map f ls)) (same_given f keeps l)
    ∙ (ap (λ (n : ℕ). one_given l + n) (given_map f keeps ls) ∙ sym (given_cons l ls)))

pub given_change : (f : Live → Live) → Keeps f → (ls : List Live) (i : ℕ) → given_in (change_at i f ls) ≡ given_in ls
given_change f keeps [] i = refl
given_change f keeps (l ∷ ls) zero = given_cons (f l) ls
    ∙ (ap (λ (n : ℕ). n + given_in ls) (same_given f keeps l) ∙ sym (given_cons l ls))
given_change f keeps (l ∷ ls) (suc i) = given_cons l (change_at i f ls)
    ∙ (ap (λ (n : ℕ). one_given l + n) (given_change f keeps ls i) ∙ sym (given_cons l ls))

one_most : (b : Bool) → cond b 1 0 ≤ 1
one_most true = omega arith
one_most false = omega arith

pub given_few : (ls : List Live) → given_in ls ≤ length ls
given_few [] = omega arith
given_few (l ∷ ls) =
    let rest : given_in ls ≤ length ls = given_few ls in
    let one : one_given l ≤ 1 = one_most (nat_le first_port l.flow.tuple.lport) in
    omega (arith, given_cons l ls, rest, one)

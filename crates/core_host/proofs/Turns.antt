-- Turns in which nothing was done: all are there, and what is learned of them is nothing.
use Rattle.std.proofs.Common.{◌≡◌, ◌<◌, ◌≤◌, ◌+◌, ◌==◌, ◌&&◌, ℕ, zero, suc, Bool, true, false, cond, nat_lt, List, []}
use Rattle.std.proofs.Common.{◌∷◌, refl, sym, ap, ◌∙◌, subst, arith, eq-eqb, length}
use Rattle.std.proofs.lemmas.Bool.Decides.{nat_tests}
use mathlib.Core.Option as O
use lib.ListN.{get_elem?}
use Rattle.flow_lock.specs.Orders.{Order, of, total, once_below, played}
use Rattle.flow_lock.specs.Passes.{new_turn}
use Rattle.flow_lock.specs.Plays.{IsOrdered, IsCounted}
use Rattle.flow_lock.specs.Steps.{HasAll, IsAlone}
use Rattle.flow_lock.specs.declared.view.Deed.{Deed}
use Rattle.flow_lock.specs.declared.view.Turn.{Turn}
use Rattle.flow_lock.specs.declared.view.View.{View}
use Rattle.core_host.specs.Staffing.{new_turns}

-- ----- all are there
abbrev count_in : (p : ℕ) → List Turn → ℕ
count_in p ts = total (λ (t : Turn). cond {A = ℕ} (t.name == p) 1 0) ts

none_before : (p first n : ℕ) → p < first → count_in p (new_turns first n) ≡ 0
none_before p first zero below = refl
none_before p first (suc n) below =
    let rest = none_before p (suc first) n (omega arith) in grind (arith, nat_tests, rest)

one_past : (p first n : ℕ) → first ≤ p → count_in p (new_turns first n) ≡ cond (nat_lt p (first + n)) 1 0
one_past p first zero past = grind (arith, nat_tests)
one_past p first (suc n) past = by (first == p) refl (one_past p (suc first) n)
  where
    same : suc first + n ≡ first + suc n
    same = omega arith

    by : (t : Bool) → (first == p) ≡ t
        → (suc first ≤ p → count_in p (new_turns (suc first) n) ≡ cond (nat_lt p (suc first + n)) 1 0)
        → cond {A = ℕ} (first == p) 1 0 + count_in p (new_turns (suc first) n) ≡ cond (nat_lt p (first + suc n)) 1 0
    by true e rest =
        let here : p < suc first = grind (arith, nat_tests, e) in
        let none = none_before p (suc first) n here in
        grind (arith, nat_tests, e, none)
    by false e rest =
        let past : suc first ≤ p = grind (arith, nat_tests, e, past) in
        let more = rest past in
        grind (arith, nat_tests, e, more, same)

pub all_there : (v : View) (n : ℕ) → v.turns ≡ new_turns 0 n → v.made ≡ n → HasAll v
all_there v n turns made p =
    let same : 0 + n ≡ n = omega arith in
    ap (count_in p) turns ∙ (one_past p 0 n (omega arith) ∙ ap (once_below p) (same ∙ sym made))

-- ----- nothing was done
get_new : (first n k : ℕ) → k < n → get_elem? (new_turns first n) k ≡ O.some (new_turn (first + k))
get_new first zero k below = absurd (omega arith)
get_new first (suc n) zero below =
    let e : first ≡ first + 0 = omega arith in ap (λ m. O.some (new_turn m)) e
get_new first (suc n) (suc k) below =
    let e : suc first + k ≡ first + suc k = omega arith in
    get_new (suc first) n k (omega arith) ∙ ap (λ m. O.some (new_turn m)) e

nothing_done : (order : Order) → ((p : ℕ) → of p order ≡ []) → order ≡ []
nothing_done [] none = refl
nothing_done (x ∷ xs) none =
    let here : (x.1 ∷ of x.0 xs) ≡ [] =
    ap (λ (s : Bool). cond {A = List Deed} s (x.1 ∷ of x.0 xs) (of x.0 xs)) (sym (eq-eqb x.0 x.0 refl)) ∙ none x.0 in
    absurd (cc (here))

no_order : (order : Order) (v w : View) (n : ℕ) → v.turns ≡ new_turns 0 n → v.made ≡ n → IsOrdered order v w
    → order ≡ []
no_order order v w n turns made is = nothing_done order (λ p. by p (nat_lt p n) refl)
  where
    by : (p : ℕ) (t : Bool) → nat_lt p n ≡ t → of p order ≡ []
    by p true e =
        let below : p < n = grind (arith, nat_tests, e) in
        let same : 0 + p ≡ p = omega arith in
        is.0 p (new_turn p)
        (ap (λ ts. get_elem? ts p) turns ∙ (get_new 0 n p below ∙ ap (λ m. O.some (new_turn m)) same))
    by p false e = is.1 p (let past : v.made ≤ p = grind (arith, nat_tests, e, made) in past)

pub learned_nothing : (order : Order) (v w : View) (n : ℕ) → v.turns ≡ new_turns 0 n → v.made ≡ n
    → IsOrdered order v w → w ≡ record v { turns = []; made = 0; words = w.words }
learned_nothing order v w n turns made is =
    is.3 ∙ ap (λ (o : Order). record v { turns = []; made = 0; base = played v.base o; words = w.words })
    (no_order order v w n turns made is)

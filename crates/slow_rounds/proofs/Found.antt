-- Flows that the slow path's list leads to, and the flows of a run: for the law later_turns_are_rest_phases.
use Rattle.std.proofs.Common.{◌≡◌, ℕ, zero, suc, ◌||◌, Bool, true, false, List, [], ◌∷◌, map}
use Rattle.std.proofs.Common.{refl, sym, ap, ◌∙◌, subst, arith}
use Rattle.std.specs.Prelude.{Option, Some, None}
use Rattle.std.specs.List.{list_any}
use Rattle.std.proofs.lemmas.Bool.Decides.{nat_tests}
use Rattle.tas_model.specs.declared.entry.FlowId.{FlowId}
use Rattle.tas_model.specs.declared.entry.FourTuple.{FourTuple}
use Rattle.host_rounds.specs.Hosts.{is_indexed_as}
use Rattle.host_rounds.specs.Lists.{Each, change_first, change_at}
use Rattle.flow_lock.specs.Orders.{same_flow}
use Rattle.flow_lock.specs.declared.view.Held.{Held}
use Rattle.slow_worker.specs.Workers.{flow_with}
use Rattle.host_books.specs.Books.{Book, live_in, IsAt, IsFirstAt}
use Rattle.sound_hosts.specs.Hosts.{flows_in}
use Rattle.sound_hosts.proofs.Leaving.{AreApart}
use Rattle.sound_hosts.proofs.Led.{one_more, listed, at_place}

-- ----- the first that passes a test
pub first_changes : {X : Type 0} (p : X → Bool) (f : X → X) (n : ℕ) (xs : List X) → IsFirstAt p n xs
    → change_first p f xs ≡ change_at n f xs
first_changes p f n [] at = absurd at
first_changes p f zero (x ∷ xs) at =
    ap (λ (c : Bool). elim c [ true ↦ f x ∷ xs | false ↦ x ∷ change_first p f xs ]) at
first_changes {X} p f (suc n) (x ∷ xs) at =
    ap (λ (c : Bool). elim c [ true ↦ f x ∷ xs | false ↦ x ∷ change_first p f xs ]) at.0
    ∙ ap (λ (ys : List X). x ∷ ys) (first_changes p f n xs at.1)

pub first_any : {X : Type 0} (p : X → Bool) (n : ℕ) (xs : List X) → IsFirstAt p n xs → list_any p xs ≡ true
first_any p n [] at = absurd at
first_any p zero (x ∷ xs) at = ap (λ c. c || list_any p xs) at
first_any p (suc n) (x ∷ xs) at = ap (λ c. c || list_any p xs) at.0 ∙ first_any p n xs at.1

-- ----- the list
some_is : (f g : FlowId) → ◌≡◌ {A = Option FlowId} (Some f) (Some g) → f ≡ g
some_is f g e = cc e

not_none : (f : FlowId) → ◌≡◌ {A = Option FlowId} (Some f) None → ⊥
not_none f e = absurd (cc e)

pub flipped : (f g : FlowId) → same_flow f g ≡ false → same_flow g f ≡ false
flipped f g e = mirror ∙ e
  where
    mirror : same_flow g f ≡ same_flow f g
    mirror = grind (arith, nat_tests)

module _ (known : List Held) (t : FourTuple) where
  -- where it leads to none, the index has none
  pub none_indexed : (bs : List Book) → AreApart bs → flow_with t (flows_in known bs) ≡ None
      → list_any (is_indexed_as t) (map (live_in known) bs) ≡ false
  none_indexed [] apart e = refl
  none_indexed (b ∷ bs) apart e = by (is_indexed_as t (live_in known b)) refl (λ q. none_indexed bs apart.1 q)
    where
      by : (s : Bool) → is_indexed_as t (live_in known b) ≡ s
          → (flow_with t (flows_in known bs) ≡ None → list_any (is_indexed_as t) (map (live_in known) bs) ≡ false)
          → (is_indexed_as t (live_in known b) || list_any (is_indexed_as t) (map (live_in known) bs)) ≡ false
      by true s rest = absurd (not_none b.id (sym (listed known t 0 b.id (b ∷ bs) (refl, apart.0) s) ∙ e))
      by false s rest =
          ap (λ c. c || list_any (is_indexed_as t) (map (live_in known) bs)) s
          ∙ rest (sym (one_more known t b bs s) ∙ e)

  -- where it leads to a flow, that is the first that the index has
  pub placed : (bs : List Book) → AreApart bs → (id : FlowId) → flow_with t (flows_in known bs) ≡ Some id
      → (n : ℕ) × IsAt n id bs × IsFirstAt (is_indexed_as t) n (map (live_in known) bs)
  placed [] apart id e = absurd (not_none id (sym e))
  placed (b ∷ bs) apart id e = by (is_indexed_as t (live_in known b)) refl (λ q. placed bs apart.1 id q)
    where
      Place : Type 0
      Place = (n : ℕ) × IsAt n id (b ∷ bs) × IsFirstAt (is_indexed_as t) n (map (live_in known) (b ∷ bs))

      here : is_indexed_as t (live_in known b) ≡ true → b.id ≡ id → Place
      here s same = (0, (same, subst (λ g. Each (λ (c : Book). same_flow g c.id ≡ false) bs) same apart.0), s)

      there : is_indexed_as t (live_in known b) ≡ false
          → (n : ℕ) × IsAt n id bs × IsFirstAt (is_indexed_as t) n (map (live_in known) bs) → Place
      there s (n, at, first) =
          let c = at_place (λ (c : Book). same_flow b.id c.id ≡ false) n id bs apart.0 at in
          (suc n, (flipped b.id id (ap (same_flow b.id) (sym c.1) ∙ c.2), at), (s, first))

      by : (s : Bool) → is_indexed_as t (live_in known b) ≡ s
          → (flow_with t (flows_in known bs) ≡ Some id
          → (n : ℕ) × IsAt n id bs × IsFirstAt (is_indexed_as t) n (map (live_in known) bs))
          → Place
      by true s rest = here s (some_is b.id id (sym (listed known t 0 b.id (b ∷ bs) (refl, apart.0) s) ∙ e))
      by false s rest = there s (rest (sym (one_more known t b bs s) ∙ e))

-- Holders that change by holder and name change at one place: for the law holders_change_at_a_place.
use Rattle.std.proofs.Common.{◌≡◌, ℕ, zero, suc, ◌&&◌, ◌||◌, cond, Bool, true, false, List, [], ◌∷◌, map, refl, sym, ap}
use Rattle.std.proofs.Common.{◌∙◌, arith, true≢false}
use Rattle.std.specs.List.{list_any}
use Rattle.std.proofs.lemmas.Bool.Decides.{nat_tests}
use Rattle.tas_model.specs.declared.entry.FlowId.{FlowId}
use Rattle.host_rounds.specs.Hosts as hosts
use Rattle.host_rounds.specs.Hosts.{Holder, GivenUp}
use Rattle.host_rounds.specs.Lists.{Each}
use Rattle.flow_lock.specs.Orders.{same_flow}
use Rattle.host_books.specs.Books.{Book, IsAt}
use Rattle.host_books.specs.Deeds.{with_holder}
use Rattle.host_books.proofs.Orders.{same_self}
use Rattle.sound_hosts.specs.Hosts.{is_held_of}
use Rattle.sound_hosts.specs.Leaving.{reheld, has_flow, left_by}
use Rattle.sound_calls.specs.Handing.{accepted_by}

same_sym : (f g : FlowId) → same_flow f g ≡ same_flow g f
same_sym f g = grind (arith, nat_tests)

and_false : (b : Bool) → (b && false) ≡ false
and_false true = refl
and_false false = refl

abbrev IsOther : FlowId → Book → Type 0
IsOther id c = same_flow id c.id ≡ false

-- books of other flows are as they were
module _ (n : ℕ) (id : FlowId) where
  not_left : (b : Book) → IsOther id b → has_flow n id b ≡ false
  not_left b other =
      ap (λ t. is_held_of n b && t) (same_sym b.id id ∙ other) ∙ and_false (is_held_of n b)

  others_left : (bs : List Book) → Each (IsOther id) bs → map (reheld (left_by n id)) bs ≡ bs
  others_left [] each = refl
  others_left (b ∷ bs) each =
      λ i. record b { holder = cond (not_left b each.0 i) GivenUp b.holder } ∷ others_left bs each.1 i

  others_accepted : (bs : List Book) → Each (IsOther id) bs → map (reheld (accepted_by n id)) bs ≡ bs
  others_accepted [] each = refl
  others_accepted (b ∷ bs) each =
      λ i. record b { holder = cond ((same_sym b.id id ∙ each.0) i) (hosts.Application n) b.holder }
      ∷ others_accepted bs each.1 i

  none_has : (bs : List Book) → Each (IsOther id) bs → list_any (has_flow n id) bs ≡ false
  none_has [] each = refl
  none_has (b ∷ bs) each = λ i. not_left b each.0 i || none_has bs each.1 i

  or_left : (x y : Bool) → y ≡ false → (x || y) ≡ true → x ≡ true
  or_left true y e any = refl
  or_left false y e any = absurd (true≢false (sym any ∙ e))

  or_right : (x y : Bool) → x ≡ false → (x || y) ≡ true → y ≡ true
  or_right true y e any = absurd (true≢false e)
  or_right false y e any = any

  pub left_at : (place : ℕ) (bs : List Book) → IsAt place id bs → list_any (has_flow n id) bs ≡ true
      → map (reheld (left_by n id)) bs ≡ with_holder place (λ (x : Holder). GivenUp) bs
  left_at place [] at any = absurd at
  left_at zero (b ∷ bs) at any =
      let own : has_flow n id b ≡ true =
      or_left (has_flow n id b) (list_any (has_flow n id) bs) (none_has bs at.1) any in
      λ i. record b { holder = cond (own i) GivenUp b.holder } ∷ others_left bs at.1 i
  left_at (suc place) (b ∷ bs) at any =
      λ i. record b { holder = cond (not_left b at.0 i) GivenUp b.holder }
      ∷ left_at place bs at.1 (or_right (has_flow n id b) (list_any (has_flow n id) bs) (not_left b at.0) any) i

  pub accepted_at : (place : ℕ) (bs : List Book) → IsAt place id bs
      → map (reheld (accepted_by n id)) bs ≡ with_holder place (λ (x : Holder). hosts.Application n) bs
  accepted_at place [] at = absurd at
  accepted_at zero (b ∷ bs) at =
      let own : same_flow b.id id ≡ true = ap (λ f. same_flow f id) at.0 ∙ same_self id in
      λ i. record b { holder = cond (own i) (hosts.Application n) b.holder } ∷ others_accepted bs at.1 i
  accepted_at (suc place) (b ∷ bs) at =
      λ i. record b { holder = cond ((same_sym b.id id ∙ at.0) i) (hosts.Application n) b.holder }
      ∷ accepted_at place bs at.1 i

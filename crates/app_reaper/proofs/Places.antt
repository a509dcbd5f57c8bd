-- Where numbers stand first in a list, while it grows.
use Rattle.std.proofs.Common.{◌≡◌, ap, sym, ◌∙◌, refl, ℕ, ◌+◌, ◌<◌, ◌≤◌, List, [], ◌∷◌, ◌++◌, cond, Bool, true, false}
use Rattle.std.proofs.Common.{arith, tests, nat_lt, length, position, take, drop, map, suc, true≢false, get_or}
use Rattle.std.specs.Prelude.{◌==◌, Option, Some, None, remove}
use Rattle.std.specs.List.{position_or_len}
use Rattle.std.proofs.lemmas.List.{length-append, length-map, length-take-le, map-append, take-map, drop-map, take_more}
use Rattle.std.proofs.lemmas.List.Folds.{position_or_len_push}
use Rattle.std.proofs.lemmas.List.Sums.{prefix_len-le-length}
use Rattle.tas_model.specs.declared.entry.FlowId.{FlowId}
use Rattle.app_reaper.specs.Lists.{Roomy, slot_of, HasSlots}
use Rattle.app_reaper.specs.Numbers.{is_number, or_place, AreNumbers}

-- ----- one number more
push_at : (n l : ℕ) (b : Bool) → n ≤ l
    → cond (nat_lt (cond (n == l) (l + cond b 0 1) n) (l + 1)) (Some (cond (n == l) (l + cond b 0 1) n)) None
    ≡ or_place (cond (nat_lt n l) (Some n) None) b l
push_at n l b le = by_equal (n == l) refl b where
  last : nat_lt (l + 0) (l + 1) ≡ true
  last = grind (arith, tests)

  past : nat_lt (l + 1) (l + 1) ≡ false
  past = grind (arith, tests)

  by_equal : (e : Bool) → (n == l) ≡ e → (b : Bool)
      → cond (nat_lt (cond e (l + cond b 0 1) n) (l + 1)) (Some (cond e (l + cond b 0 1) n)) None
      ≡ or_place (cond (nat_lt n l) (Some n) None) b l
  by_equal true h true =
      let ends : nat_lt n l ≡ false = grind (arith, tests, h) in
      let zero_more : l + 0 ≡ l = omega arith in
      rw (last, ends) (ap (λ (k : ℕ). Some k) zero_more)
  by_equal true h false =
      let ends : nat_lt n l ≡ false = grind (arith, tests, h) in
      rw (past, ends) refl
  by_equal false h b =
      let near : nat_lt n l ≡ true = grind (arith, tests, h, le) in
      let nearer : nat_lt n (l + 1) ≡ true = grind (arith, tests, near) in
      rw (nearer, near) refl

pub position_push : {A : Type 0} (p : A → Bool) (xs : List A) (x : A)
    → position p (xs ++ x ∷ []) ≡ or_place (position p xs) (p x) (length xs)
position_push p xs x =
    let longer : length (xs ++ x ∷ []) ≡ length xs + 1 = length-append xs (x ∷ []) in
    ap (λ (n : ℕ). cond (nat_lt n (length (xs ++ x ∷ []))) (Some n) None) (position_or_len_push p xs x)
    ∙ (ap (λ (l : ℕ). cond (nat_lt (cond (position_or_len p xs == length xs) (length xs + cond (p x) 0 1)
    (position_or_len p xs)) l) (Some (cond (position_or_len p xs == length xs) (length xs + cond (p x) 0 1)
    (position_or_len p xs))) None) longer
    ∙ push_at (position_or_len p xs) (length xs) (p x) (prefix_len-le-length _ xs))

-- what holds of the list still holds
pub put_numbers : (list new : List ℕ) (is_indexed : Bool) (room capacity capacity' : ℕ) (places places' : ℕ → Option ℕ)
    (count count' free free' x place : ℕ) → AreNumbers list is_indexed room capacity places count free
    → is_indexed ≡ true → length list < room → place ≡ length list → new ≡ list ++ x ∷ [] → capacity' ≡ capacity
    → ((n : ℕ) → places' n ≡ or_place (places n) (x == n) place) → count' ≤ count + 1 → count + free ≤ count' + free'
    → AreNumbers new is_indexed room capacity' places' count' free'
put_numbers list new is_indexed room capacity capacity' places places' count count' free free' x place
    are indexed less last made same noted few placed =
    let longer : length new ≡ length list + 1 = ap length made ∙ length-append list (x ∷ []) in
    record {
      first = λ _ n. noted n
          ∙ (ap (λ (k : ℕ). or_place (places n) (x == n) k) last
          ∙ (ap (λ (o : Option ℕ). or_place o (x == n) (length list)) (are.first indexed n)
          ∙ (sym (position_push (is_number n) list x) ∙ ap (position (is_number n)) (sym made))));
      empty = λ e. absurd (true≢false (sym indexed ∙ e));
      few = omega (arith, longer, few, are.few);
      within = omega (arith, longer, less);
      listed = omega (arith, are.listed, same);
      placed = omega (arith, are.placed, placed);
    }

-- ----- a list that is gone through
pub more_placed : (before after : ℕ → Option ℕ) (list : List ℕ) (place x : ℕ) → place < length list
    → get_or list place x ≡ x → ((n : ℕ) → before n ≡ position (is_number n) (take place list))
    → ((n : ℕ) → after n ≡ or_place (before n) (x == n) place)
    → (n : ℕ) → after n ≡ position (is_number n) (take (place + 1) list)
more_placed before after list place x near here old new n =
    let far : length (take place list) ≡ place = length-take-le place list (omega (arith, near)) in
    new n
    ∙ (ap (λ (o : Option ℕ). or_place o (x == n) place) (old n)
    ∙ (ap (λ (k : ℕ). or_place (position (is_number n) (take place list)) (x == n) k) (sym far)
    ∙ (sym (position_push (is_number n) (take place list) x)
    ∙ ap (position (is_number n)) (ap (λ (y : ℕ). take place list ++ y ∷ []) (sym here)
    ∙ sym (take_more list place x near)))))

-- ----- numbers of other things
pub position_of : {A : Type 0} (p : ℕ → Bool) (f : A → ℕ) (xs : List A)
    → position p (map f xs) ≡ position (λ x. p (f x)) xs
position_of p f xs =
    let len : length (map f xs) ≡ length xs = length-map xs f in
    ap (λ (l : ℕ). cond (nat_lt (position_or_len p (map f xs)) l) (Some (position_or_len p (map f xs))) None) len
    ∙ ap (λ (n : ℕ). cond (nat_lt n (length xs)) (Some n) None) (of p f xs)
  where
    of : {A : Type 0} (p : ℕ → Bool) (f : A → ℕ) (xs : List A)
        → position_or_len p (map f xs) ≡ position_or_len (λ x. p (f x)) xs
    of p f [] = refl
    of p f (x ∷ xs) = by_first (p (f x)) refl (of p f xs) where
      by_first : (b : Bool) → p (f x) ≡ b → position_or_len p (map f xs) ≡ position_or_len (λ x. p (f x)) xs
          → position_or_len p (f x ∷ map f xs) ≡ position_or_len (λ x. p (f x)) (x ∷ xs)
      by_first true h e = rw (h) refl
      by_first false h e = rw (h) (ap (λ (n : ℕ). 1 + n) e)

-- ----- pins and their slots
map_remove : (pins : List FlowId) (i : ℕ) → remove (map slot_of pins) i ≡ map slot_of (remove pins i)
map_remove pins i =
    ap (λ l. l ++ drop (suc i) (map slot_of pins)) (take-map slot_of i pins)
    ∙ (ap (λ l. map slot_of (take i pins) ++ l) (drop-map slot_of (suc i) pins)
    ∙ sym (map-append slot_of (take i pins) (drop (suc i) pins)))

pub slots_less : (pins left : List FlowId) (i capacity capacity' : ℕ) (slots slots' : Roomy ℕ)
    → HasSlots pins capacity slots → slots'.list ≡ remove slots.list i → slots'.spare ≡ slots.spare + 1
    → left ≡ remove pins i → length left + 1 ≡ length pins → capacity' ≡ capacity → HasSlots left capacity' slots'
slots_less pins left i capacity capacity' slots slots' has less spare out fewer same = record {
  slots_are = less ∙ (ap (λ l. remove l i) has.slots_are ∙ (map_remove pins i ∙ ap (map slot_of) (sym out)));
  room = omega (arith, has.room, spare, fewer, same);
}

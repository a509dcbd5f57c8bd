-- A flow at its place among the flows, and the slots that they stand in.
use Rattle.std.proofs.Common.{◌≡◌, ℕ, zero, suc, ◌+◌, ◌-◌, ◌<◌, ◌≤◌, Bool, true, false, List, [], ◌∷◌}
use Rattle.std.proofs.Common.{length, set, get_or, slice_get, position, Some, None, Result, Ok, Err, OnOk, IfOk}
use Rattle.std.proofs.Common.{refl, sym}
use Rattle.std.proofs.Common.{ap, subst, ◌∙◌, arith}
use Rattle.std.specs.List.{list_any}
use Rattle.std.proofs.lemmas.List.Quantifiers.{position-Some}
use Rattle.host_rounds.specs.Lists.{change_first, change_at}
use Rattle.host_rounds.specs.Hosts.{Live, free_from, is_in_slot}
use Rattle.host_rounds.proofs.Loops.{changed_at}
use Rattle.local_host.specs.Index.{AreMarked}
use Rattle.local_host.specs.Marks.{IsLowest}

pub ok_by : {T E : Type 0} {P Q : Type 0} (r : Result T E) → (P → Q) → OnOk r P → OnOk r Q
ok_by (Ok x) f p = f p
ok_by (Err e) f p = tt

pub ok_both : {T E : Type 0} {P Q R : Type 0} (r : Result T E) → (P → Q → R) → OnOk r P → OnOk r Q → OnOk r R
ok_both (Ok x) f p q = f p q
ok_both (Err e) f p q = tt

pub if_by : {T E : Type 0} {P Q : T → Type 0} (r : Result T E) → ((x : T) → P x → Q x) → IfOk r P → IfOk r Q
if_by (Ok x) f p = f x p
if_by (Err e) f p = tt

-- the same answer
pub if_as : {T E : Type 0} (P : T → Type 0) (r s : Result T E) → s ≡ r → IfOk r P → IfOk s P
if_as {T} {E} P r s is kept = subst (λ (q : Result T E). IfOk q P) (sym is) kept

-- a write of what the element there becomes
pub set_change : {X : Type 0} (f : X → X) (xs : List X) (i : ℕ) (d : X) → i < length xs
    → set xs i (f (get_or xs i d)) ≡ change_at i f xs
set_change f [] i d below = absurd (omega arith)
set_change f (x ∷ xs) zero d below = refl
set_change {X} f (x ∷ xs) (suc i) d below = ap (λ (zs : List X). x ∷ zs) (set_change f xs i d (omega arith))

-- the same of what was written, where the element was read
pub wrote_change : {X : Type 0} (f : X → X) (inside xs : List X) (i : ℕ) (old new : X) → inside ≡ xs → i < length xs
    → old ≡ get_or inside i old → new ≡ f old → set inside i new ≡ change_at i f xs
wrote_change {X} f inside xs i old new same below read made =
    let here : old ≡ get_or xs i old = subst (λ (zs : List X). old ≡ get_or zs i old) same read in
    ap (λ (zs : List X). set zs i new) same ∙ (ap (set xs i) (made ∙ ap f here) ∙ set_change f xs i old below)

-- the flow that is found is the first that passes
pub found_change : {X : Type 0} (test : X → Bool) (f : X → X) (xs : List X) (i : ℕ) → position test xs ≡ Some i
    → (i < length xs) × (change_at i f xs ≡ change_first test f xs)
found_change test f [] i found = absurd (cc (found))
found_change test f (x ∷ xs) i found =
    let at = position-Some test (x ∷ xs) i x found in
    (at.0, sym (set_change f (x ∷ xs) i x at.0) ∙ sym (changed_at test f (x ∷ xs) i x at.0 at.1 at.2))

-- what was read at a place stands there
pub read_is : {X : Type 0} (inside xs : List X) (i : ℕ) (was x : X) → inside ≡ xs → was ≡ get_or inside i was
    → slice_get xs i ≡ Some x → was ≡ x
read_is {X} inside xs i was x same read here = read
    ∙ (ap (λ (zs : List X). get_or zs i was) same ∙ there xs i here) where
      there : (zs : List X) (k : ℕ) → slice_get zs k ≡ Some x → get_or zs k was ≡ x
      there [] k h = absurd (cc (h))
      there (z ∷ zs) zero h = cc (h)
      there (z ∷ zs) (suc k) h = there zs k h

-- ----- slots
past_taken : (most slot : ℕ) (flows : List Live) → list_any (is_in_slot slot) flows ≡ true
    → free_from (suc most) slot flows ≡ free_from most (slot + 1) flows
past_taken most slot flows taken = rw (taken, free_from) refl

here_free : (most slot : ℕ) (flows : List Live) → list_any (is_in_slot slot) flows ≡ false
    → free_from (suc most) slot flows ≡ Some slot
here_free most slot flows free = rw (free, free_from) refl

-- the search goes on past a slot that is taken
pub slot_taken : (slots slot : ℕ) (flows : List Live) → slot < slots → list_any (is_in_slot slot) flows ≡ true
    → free_from (slots - slot) slot flows ≡ free_from (slots - (slot + 1)) (slot + 1) flows
slot_taken slots slot flows below taken =
    let more : slots - slot ≡ suc (slots - (slot + 1)) = omega arith in
    ap (λ (n : ℕ). free_from n slot flows) more ∙ past_taken (slots - (slot + 1)) slot flows taken

-- and ends at one that is free
pub slot_free : (slots slot : ℕ) (flows : List Live) → slot < slots → list_any (is_in_slot slot) flows ≡ false
    → free_from (slots - slot) slot flows ≡ Some slot
slot_free slots slot flows below free =
    let more : slots - slot ≡ suc (slots - (slot + 1)) = omega arith in
    ap (λ (n : ℕ). free_from n slot flows) more ∙ here_free (slots - (slot + 1)) slot flows free

pub no_slots : (slots slot : ℕ) (flows : List Live) → slots ≤ slot → free_from (slots - slot) slot flows ≡ None
no_slots slots slot flows past = ap (λ (n : ℕ). free_from n slot flows) (none_left slots slot past) where
  none_left : (a b : ℕ) → a ≤ b → a - b ≡ 0
  none_left a b h = omega arith

-- all slots below one are taken
pub slots_taken : (slots slot : ℕ) (flows : List Live) → slot ≤ slots
    → ((k : ℕ) → k < slot → list_any (is_in_slot k) flows ≡ true)
    → free_from (slots - slot) slot flows ≡ free_from slots 0 flows
slots_taken slots zero flows within taken =
    let all : slots - 0 ≡ slots = omega arith in
    ap (λ (n : ℕ). free_from n 0 flows) all
slots_taken slots (suc k) flows within taken =
    let next : suc k ≡ k + 1 = omega arith in
    ap (λ (n : ℕ). free_from (slots - n) n flows) next
    ∙ (sym (slot_taken slots k flows (omega arith) (taken k (omega arith)))
    ∙ slots_taken slots k flows (omega arith) (λ j low. taken j (omega arith)))

-- the lowest one that is not marked
pub lowest_is : (marks : List Bool) (flows : List Live) (slots lowest : ℕ) → IsLowest marks lowest
    → AreMarked marks flows → lowest < slots → Some lowest ≡ free_from slots 0 flows
lowest_is marks flows slots lowest is marked within =
    sym (slot_free slots lowest flows within (sym (marked lowest) ∙ is.free))
    ∙ slots_taken slots lowest flows (omega arith) (λ k low. sym (marked k) ∙ is.below k low)

pub none_is : (marks : List Bool) (flows : List Live) (slots lowest : ℕ) → IsLowest marks lowest
    → AreMarked marks flows → slots ≤ lowest → None ≡ free_from slots 0 flows
none_is marks flows slots lowest is marked past =
    sym (no_slots slots slots flows (omega arith))
    ∙ slots_taken slots slots flows (omega arith) (λ k low. sym (marked k) ∙ is.below k (omega arith))

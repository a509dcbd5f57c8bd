-- Where flows stand: what keeps their slots, and what opens a flow in a free one.
use Rattle.std.proofs.Common.{◌≡◌, ℕ, zero, suc, ◌+◌, ◌==◌, ◌&&◌, ◌||◌, not, Bool, true, false, List, [], ◌∷◌, ◌++◌}
use Rattle.std.proofs.Common.{map, Option, Some, None, refl, sym, ap, ◌∙◌, true≢false, tests, arith, if◌then◌else◌}
use Rattle.std.specs.List.{list_any}
use Rattle.std.proofs.lemmas.List.Folds.{list_any-append}
use Rattle.tas_model.specs.declared.entry.Caller.{Caller}
use Rattle.tas_model.specs.declared.entry.Call.TheVariants as calls
use Rattle.tas_model.specs.NextSegment.{Going, going}
use Rattle.tas_model.proofs.Tests.{on_cond}
use Rattle.host_rounds.specs.Lists.{Each, change_first, change_at}
use Rattle.host_rounds.specs.Hosts.{Live, endpoint, is_over, is_held, with_call, is_in_slot, free_from, free_slot}
use Rattle.host_rounds.proofs.Slots.{given_slot}
use Rattle.host_rounds.specs.Upkeep.{swept, controlled, timed, timed_unless, emits, emits_where}
use Rattle.host_rounds.specs.Standing.{AreApart, AreFiled}
use Rattle.host_rounds.proofs.Flows.{on_control}

-- ----- one flow
-- it stands where it stood
abbrev pub KeepsPlace : (Live → Live) → Type 0
KeepsPlace f = (l : Live) → ((f l).filed ≡ l.filed) × ((f l).flow.id.slot ≡ l.flow.id.slot)

controlled_place : (by : Caller) (t : ℕ) → KeepsPlace (controlled by t)
controlled_place by t l =
    on_control (λ (m : Live). (m.filed ≡ l.filed) × (m.flow.id.slot ≡ l.flow.id.slot)) _ by t l (λ h. (refl, refl))
    (λ h. (refl, refl))

pub timed_place : (by : Caller) (t : ℕ) → KeepsPlace (timed by t)
timed_place by t l = by_over (is_over l) where
  by_over : (b : Bool) → ((timed_unless b by t l).filed ≡ l.filed)
      × ((timed_unless b by t l).flow.id.slot ≡ l.flow.id.slot)
  by_over true = (refl, refl)
  by_over false = controlled_place by t (with_call l by t calls.Tick [])

pub emits_place : (by : Caller) (t : ℕ) → KeepsPlace (emits by t)
emits_place by t l = by_going (going (endpoint l)) where
  by_going : (o : Option Going) → ((emits_where o by t l).filed ≡ l.filed)
      × ((emits_where o by t l).flow.id.slot ≡ l.flow.id.slot)
  by_going None = (refl, refl)
  by_going (Some g) = (refl, refl)

in_same : (f : Live → Live) → KeepsPlace f → (slot : ℕ) (l : Live) → is_in_slot slot (f l) ≡ is_in_slot slot l
in_same f keeps slot l =
    ap (λ (b : Bool). not b && (f l).flow.id.slot == slot) (keeps l).0
    ∙ ap (λ (s : ℕ). not l.filed && s == slot) (keeps l).1

-- ----- lists
or_false : (a b : Bool) → a ≡ false → b ≡ false → (a || b) ≡ false
or_false true b h g = h
or_false false b h g = g

or_left : (a b : Bool) → (a || b) ≡ false → a ≡ false
or_left true b h = h
or_left false b h = refl

or_right : (a b : Bool) → (a || b) ≡ false → b ≡ false
or_right true b h = absurd (true≢false h)
or_right false b h = h

-- the flows stand where they stood, and those that were opened since stand in theirs
abbrev pub Stay : (ls ms : List Live) → Type 0
Stay [] ms = Each (λ (l : Live). l.filed ≡ false) ms
Stay (l ∷ ls) [] = ⊥
Stay (l ∷ ls) (m ∷ ms) = (m.filed ≡ l.filed) × Stay ls ms

pub stay : (ls : List Live) → Stay ls ls
stay [] = tt
stay (l ∷ ls) = (refl, stay ls)

stay_fresh : (ms ps : List Live) → Each (λ (l : Live). l.filed ≡ false) ms → Stay ms ps
    → Each (λ (l : Live). l.filed ≡ false) ps
stay_fresh [] ps fresh more = more
stay_fresh (m ∷ ms) [] fresh more = absurd more
stay_fresh (m ∷ ms) (p ∷ ps) fresh more = (more.0 ∙ fresh.0, stay_fresh ms ps fresh.1 more.1)

pub stay_both : (ls ms ps : List Live) → Stay ls ms → Stay ms ps → Stay ls ps
stay_both [] ms ps a b = stay_fresh ms ps a b
stay_both (l ∷ ls) [] ps a b = absurd a
stay_both (l ∷ ls) (m ∷ ms) [] a b = absurd b
stay_both (l ∷ ls) (m ∷ ms) (p ∷ ps) a b = (b.0 ∙ a.0, stay_both ls ms ps a.1 b.1)

-- ----- what keeps places
first_stay : (test : Live → Bool) (f : Live → Live) → KeepsPlace f → (ls : List Live) → Stay ls (change_first test f ls)
first_stay test f keeps [] = tt
first_stay test f keeps (l ∷ ls) = by_test (test l) (first_stay test f keeps ls) where
  by_test : (b : Bool) → Stay ls (change_first test f ls)
      → Stay (l ∷ ls) (elim b [ true ↦ f l ∷ ls | false ↦ l ∷ change_first test f ls ])
  by_test true rest = ((keeps l).0, stay ls)
  by_test false rest = (refl, rest)

at_stay : (n : ℕ) (f : Live → Live) → KeepsPlace f → (ls : List Live) → Stay ls (change_at n f ls)
at_stay n f keeps [] = tt
at_stay zero f keeps (l ∷ ls) = ((keeps l).0, stay ls)
at_stay (suc n) f keeps (l ∷ ls) = (refl, at_stay n f keeps ls)

first_any : (test : Live → Bool) (f : Live → Live) → KeepsPlace f → (slot : ℕ) (ls : List Live)
    → list_any (is_in_slot slot) (change_first test f ls) ≡ list_any (is_in_slot slot) ls
first_any test f keeps slot [] = refl
first_any test f keeps slot (l ∷ ls) = by_test (test l) (first_any test f keeps slot ls) where
  by_test : (b : Bool) → list_any (is_in_slot slot) (change_first test f ls) ≡ list_any (is_in_slot slot) ls
      → list_any (is_in_slot slot) (elim b [ true ↦ f l ∷ ls | false ↦ l ∷ change_first test f ls ])
      ≡ (is_in_slot slot l || list_any (is_in_slot slot) ls)
  by_test true rest = ap (λ (b : Bool). b || list_any (is_in_slot slot) ls) (in_same f keeps slot l)
  by_test false rest = ap (λ (b : Bool). is_in_slot slot l || b) rest

at_any : (n : ℕ) (f : Live → Live) → KeepsPlace f → (slot : ℕ) (ls : List Live)
    → list_any (is_in_slot slot) (change_at n f ls) ≡ list_any (is_in_slot slot) ls
at_any n f keeps slot [] = refl
at_any zero f keeps slot (l ∷ ls) = ap (λ (b : Bool). b || list_any (is_in_slot slot) ls) (in_same f keeps slot l)
at_any (suc n) f keeps slot (l ∷ ls) = ap (λ (b : Bool). is_in_slot slot l || b) (at_any n f keeps slot ls)

-- the first of a list changes
head_apart : (f : Live → Live) → KeepsPlace f → (l : Live) (ls : List Live) → AreApart (l ∷ ls) → AreApart (f l ∷ ls)
head_apart f keeps l ls apart =
    (λ h. ap (λ (s : ℕ). list_any (is_in_slot s) ls) (keeps l).1 ∙ apart.0 (sym (keeps l).0 ∙ h), apart.1)

first_apart : (test : Live → Bool) (f : Live → Live) → KeepsPlace f → (ls : List Live) → AreApart ls
    → AreApart (change_first test f ls)
first_apart test f keeps [] apart = tt
first_apart test f keeps (l ∷ ls) apart = by_test (test l) (first_apart test f keeps ls apart.1) where
  by_test : (b : Bool) → AreApart (change_first test f ls)
      → AreApart (elim b [ true ↦ f l ∷ ls | false ↦ l ∷ change_first test f ls ])
  by_test true rest = head_apart f keeps l ls apart
  by_test false rest = (λ h. first_any test f keeps l.flow.id.slot ls ∙ apart.0 h, rest)

at_apart : (n : ℕ) (f : Live → Live) → KeepsPlace f → (ls : List Live) → AreApart ls → AreApart (change_at n f ls)
at_apart n f keeps [] apart = tt
at_apart zero f keeps (l ∷ ls) apart = head_apart f keeps l ls apart
at_apart (suc n) f keeps (l ∷ ls) apart = (
  λ h. at_any n f keeps l.flow.id.slot ls ∙ apart.0 h,
  at_apart n f keeps ls apart.1,
)

-- ----- one flow more
-- a slot that is found is free
found_free : (most slot found : ℕ) (ls : List Live) → free_from most slot ls ≡ Some found
    → list_any (is_in_slot found) ls ≡ false
found_free zero slot found ls h = absurd (cc (h))
found_free (suc most) slot found ls h =
    by_test (list_any (is_in_slot slot) ls) refl h (λ g. found_free most (slot + 1) found ls g) where
      by_test : (b : Bool) → list_any (is_in_slot slot) ls ≡ b
          → elim b [ true ↦ free_from most (slot + 1) ls | false ↦ Some slot ] ≡ Some found
          → (free_from most (slot + 1) ls ≡ Some found → list_any (is_in_slot found) ls ≡ false)
          → list_any (is_in_slot found) ls ≡ false
      by_test true e g rest = rest g
      by_test false e g rest = let same : slot ≡ found = cc (g) in
          ap (λ (s : ℕ). list_any (is_in_slot s) ls) (sym same) ∙ e

push_stay : (ls : List Live) (m : Live) → m.filed ≡ false → Stay ls (ls ++ m ∷ [])
push_stay [] m h = (h, tt)
push_stay (l ∷ ls) m h = (refl, push_stay ls m h)

other_slot : (filed other : Bool) (i j : ℕ) → filed ≡ false → (not filed && i == j) ≡ false
    → (not other && j == i) ≡ false
other_slot true other i j f h = absurd (true≢false f)
other_slot false true i j f h = refl
other_slot false false i j f h = grind (arith, tests, h)

push_apart : (ls : List Live) (m : Live) → list_any (is_in_slot m.flow.id.slot) ls ≡ false → AreApart ls
    → AreApart (ls ++ m ∷ [])
push_apart [] m free apart = ((λ h. refl), tt)
push_apart (l ∷ ls) m free apart =
    let here : is_in_slot m.flow.id.slot l ≡ false =
    or_left (is_in_slot m.flow.id.slot l) (list_any (is_in_slot m.flow.id.slot) ls) free in
    let rest : list_any (is_in_slot m.flow.id.slot) ls ≡ false =
    or_right (is_in_slot m.flow.id.slot l) (list_any (is_in_slot m.flow.id.slot) ls) free in (
      (λ h. list_any-append (is_in_slot l.flow.id.slot) ls (m ∷ [])
          ∙ or_false (list_any (is_in_slot l.flow.id.slot) ls) (is_in_slot l.flow.id.slot m || false) (apart.0 h)
          (or_false (is_in_slot l.flow.id.slot m) false
          (other_slot l.filed m.filed l.flow.id.slot m.flow.id.slot h here) refl)),
      push_apart ls m rest apart.1,
    )

-- ----- both
-- The flows stay, and stand apart where they stood so.
pub record Stands (ls ms : List Live) : Type 0 where
  pub stay : Stay ls ms
  pub apart : AreApart ls → AreApart ms

pub stands : (ls : List Live) → Stands ls ls
stands ls = record { stay = stay ls; apart = λ a. a }

pub stands_both : (ls ms ps : List Live) → Stands ls ms → Stands ms ps → Stands ls ps
stands_both ls ms ps a b = record { stay = stay_both ls ms ps a.stay b.stay; apart = λ h. b.apart (a.apart h) }

pub first_stands : (test : Live → Bool) (f : Live → Live) → KeepsPlace f → (ls : List Live)
    → Stands ls (change_first test f ls)
first_stands test f keeps ls = record { stay = first_stay test f keeps ls; apart = first_apart test f keeps ls }

pub at_stands : (n : ℕ) (f : Live → Live) → KeepsPlace f → (ls : List Live) → Stands ls (change_at n f ls)
at_stands n f keeps ls = record { stay = at_stay n f keeps ls; apart = at_apart n f keeps ls }

pub push_stands : (slots : ℕ) (ls : List Live) (m : Live) → free_slot slots ls ≡ Some m.flow.id.slot → m.filed ≡ false
    → Stands ls (ls ++ m ∷ [])
push_stands slots ls m free h =
    let found : free_from slots 0 ls ≡ Some m.flow.id.slot = (given_slot slots m.flow.id.slot ls free).1 in
    record { stay = push_stay ls m h; apart = push_apart ls m (found_free slots 0 m.flow.id.slot ls found) }

-- ----- closed flows that are given up
with_false : (b : Bool) → b ≡ (b || false)
with_false true = refl
with_false false = refl

swept_filed : (l : Live) → (swept l).filed ≡ (l.filed || (is_over l && not (is_held l)))
swept_filed l = by_over (is_over l) where
  by_over : (b : Bool) → (if b then record l { indexed = false; filed = l.filed || not (is_held l) } else l).filed
      ≡ (l.filed || (b && not (is_held l)))
  by_over true = refl
  by_over false = with_false l.filed

swept_slot : (l : Live) → (swept l).flow.id.slot ≡ l.flow.id.slot
swept_slot l = on_cond (λ (m : Live). m.flow.id.slot ≡ l.flow.id.slot) (is_over l) _ _ (λ t. refl) (λ f. refl)

in_before : (filed given_up : Bool) (i slot : ℕ) → (not filed && i == slot) ≡ false
    → (not (filed || given_up) && i == slot) ≡ false
in_before true given_up i slot h = refl
in_before false true i slot h = refl
in_before false false i slot h = h

swept_in : (slot : ℕ) (l : Live) → is_in_slot slot l ≡ false → is_in_slot slot (swept l) ≡ false
swept_in slot l h =
    ap (λ (b : Bool). not b && (swept l).flow.id.slot == slot) (swept_filed l)
    ∙ ap (λ (s : ℕ). not (l.filed || (is_over l && not (is_held l))) && s == slot) (swept_slot l)
    ∙ in_before l.filed (is_over l && not (is_held l)) l.flow.id.slot slot h

swept_any : (slot : ℕ) (ls : List Live) → list_any (is_in_slot slot) ls ≡ false
    → list_any (is_in_slot slot) (map swept ls) ≡ false
swept_any slot [] h = refl
swept_any slot (l ∷ ls) h =
    or_false (is_in_slot slot (swept l)) (list_any (is_in_slot slot) (map swept ls))
    (swept_in slot l (or_left (is_in_slot slot l) (list_any (is_in_slot slot) ls) h))
    (swept_any slot ls (or_right (is_in_slot slot l) (list_any (is_in_slot slot) ls) h))

pub swept_apart : (ls : List Live) → AreApart ls → AreApart (map swept ls)
swept_apart [] apart = tt
swept_apart (l ∷ ls) apart = (
  (λ h. ap (λ (s : ℕ). list_any (is_in_slot s) (map swept ls)) (swept_slot l)
      ∙ swept_any l.flow.id.slot ls
      (apart.0 (or_left l.filed (is_over l && not (is_held l)) (sym (swept_filed l) ∙ h)))),
  swept_apart ls apart.1,
)

pub filed_by_sweep : (ls ms : List Live) → Stay (map swept ls) ms → AreFiled ls ms
filed_by_sweep [] ms all = all
filed_by_sweep (l ∷ ls) [] all = absurd all
filed_by_sweep (l ∷ ls) (m ∷ ms) all = (all.0 ∙ swept_filed l, filed_by_sweep ls ms all.1)

-- The flows of a host one after the other: which the index has, and whether they are closed.
use Rattle.std.proofs.Common.{◌≡◌, ℕ, ◌+◌, ◌<◌, ◌&&◌, Bool, true, false, List, [], ◌∷◌, length, take, drop, get_or}
use Rattle.std.proofs.Common.{count_by, zero, suc, Some, slice_get, sym, ap, ◌∙◌, subst, arith}
use Rattle.std.proofs.lemmas.List.Folds.{list_all_at}
use Rattle.std.proofs.lemmas.List.Sums.{count_by_more_no, count_by_more_yes}
use Rattle.std.proofs.lemmas.Option.{slice_get_within, get_or_from_slice_get, slice_get-get_or}
use Rattle.std.specs.List.{list_all}
use Rattle.host_rounds.specs.Hosts.{Host, Live, is_over}
use Rattle.host_rounds.specs.Lists.{Each}
use Rattle.scenario_world.proofs.Lists.{cut_at}
use Rattle.core_host.specs.Emission.{IsIndexedAt}
use Rattle.core_host.specs.Views.{Staffed, seen_by}
use Rattle.shared_world.specs.Looking.{IsLookedAt}
use Rattle.shared_world.proofs.Looked.{looked_on}

-- ----- an item of a list
pub each_there : {X : Type 0} (P : X → Type 0) (xs : List X) (i : ℕ) (x : X) → Each P xs → slice_get xs i ≡ Some x → P x
each_there P [] i x all here = absurd (cc (here))
each_there P (y ∷ ys) zero x all here = let same : y ≡ x = cc (here) in subst P same all.0
each_there P (y ∷ ys) (suc i) x all here = each_there P ys i x all.1 here

pub found_in : {X : Type 0} (xs : List X) (i : ℕ) → i < length xs → (x : X) × (slice_get xs i ≡ Some x)
found_in [] i inside = absurd (omega (arith, inside))
found_in (x ∷ xs) i inside = (get_or (x ∷ xs) i x, slice_get-get_or (x ∷ xs) i x inside)

-- ----- flows of the index
abbrev pub indexed_before : (place : ℕ) → List Live → ℕ
indexed_before i ls = count_by (λ (l : Live). l.indexed) (take i ls)

-- one more
pub indexed_more : (ls : List Live) (i at : ℕ) (l : Live) → slice_get ls i ≡ Some l → l.indexed ≡ true
    → at ≡ indexed_before i ls → at + 1 ≡ indexed_before (i + 1) ls
indexed_more ls i at l here indexed is =
    ap (λ n. n + 1) is
    ∙ sym (count_by_more_yes (λ (k : Live). k.indexed) ls i l (slice_get_within ls i l here)
    (ap (λ (k : Live). k.indexed) (get_or_from_slice_get ls i l l here) ∙ indexed))

-- and one that isn't in it
pub indexed_still : (ls : List Live) (i at : ℕ) (l : Live) → slice_get ls i ≡ Some l → l.indexed ≡ false
    → at ≡ indexed_before i ls → at ≡ indexed_before (i + 1) ls
indexed_still ls i at l here indexed is =
    is
    ∙ sym (count_by_more_no (λ (k : Live). k.indexed) ls i l (slice_get_within ls i l here)
    (ap (λ (k : Live). k.indexed) (get_or_from_slice_get ls i l l here) ∙ indexed))

-- A flow stands where it stood, once records were looked at.
pub still_there : (old now : Staffed) (i : ℕ) (l : Live) → IsLookedAt old now
    → slice_get (seen_by old).flows i ≡ Some l → slice_get (seen_by now).flows i ≡ Some l
still_there old now i l looked here = ap (λ (h : Host). slice_get h.flows i) looked.step.made ∙ here

-- what the host answers of the flow at a place: whether the index has it
abbrev pub SaysIndexed : Staffed → (place : ℕ) → Bool → Type 0
SaysIndexed h i answer = (l : Live) → slice_get (seen_by h).flows i ≡ Some l → answer ≡ l.indexed

-- the flow at a place, of which the host answered so
pub record IsSaid (old : Staffed) (i : ℕ) (answer : Bool) : Type 0 where
  pub flow : Live
  pub here : slice_get (seen_by old).flows i ≡ Some flow
  pub is : flow.indexed ≡ answer

pub said : (old now : Staffed) (i : ℕ) (given answer : Bool) → IsLookedAt old now → i < length (seen_by old).flows
    → SaysIndexed now i given → given ≡ answer → IsSaid old i answer
said old now i given answer looked inside says is =
    let found = found_in (seen_by old).flows i inside in
    record {
      flow = found.0;
      here = found.1;
      is = sym (says found.0 (still_there old now i found.0 looked found.1)) ∙ is;
    }

-- So its record may be taken.
pub indexed_there : (old now : Staffed) (i at : ℕ) (given : Bool) → IsLookedAt old now
    → at ≡ indexed_before i (seen_by old).flows → i < length (seen_by old).flows
    → SaysIndexed now i given → given ≡ true → IsIndexedAt i at (seen_by now)
indexed_there old now i at given looked count inside says is =
    let found = said old now i given true looked inside says is in
    record {
      flow = found.flow;
      there = still_there old now i found.flow looked found.here;
      indexed = found.is;
      behind = count ∙ ap (λ (h : Host). indexed_before i h.flows) (sym looked.step.made);
    }

-- ----- whether all are closed
-- The flows before this place are closed.
pub record AreClosedTo (old now : Staffed) (i at : ℕ) : Type 0 where
  pub count : at ≡ indexed_before i (seen_by old).flows
  pub looked : IsLookedAt old now
  pub left : list_all is_over (drop i (seen_by old).flows) ≡ list_all is_over (seen_by old).flows

closed_more : (ls : List Live) (i : ℕ) (l : Live) (all : Bool) → slice_get ls i ≡ Some l → is_over l ≡ true
    → list_all is_over (drop i ls) ≡ all → list_all is_over (drop (i + 1) ls) ≡ all
closed_more ls i l all here over is =
    sym (ap (list_all is_over) (cut_at ls i l here) ∙ ap (λ b. b && list_all is_over (drop (i + 1) ls)) over) ∙ is

-- The flow of the next place is closed, as its record says.
pub closed_on : (old now next : Staffed) (i at : ℕ) (given closed : Bool) → AreClosedTo old now i at
    → i < length (seen_by old).flows → SaysIndexed now i given → given ≡ true
    → ((l : Live) → slice_get (seen_by now).flows i ≡ Some l → closed ≡ is_over l) → closed ≡ true
    → IsLookedAt now next → AreClosedTo old next (i + 1) (at + 1)
closed_on old now next i at given closed to inside says is told over looked =
    let ls = (seen_by old).flows in
    let found = said old now i given true to.looked inside says is in
    let l = found.flow in
    record {
      count = indexed_more ls i at l found.here found.is to.count;
      looked = looked_on old now next to.looked looked;
      left = closed_more ls i l (list_all is_over ls) found.here
          (sym (told l (still_there old now i l to.looked found.here)) ∙ over) to.left;
    }

-- or as the index hasn't it
pub closed_past : (old now : Staffed) (i at : ℕ) (given : Bool) → AreClosedTo old now i at
    → i < length (seen_by old).flows → SaysIndexed now i given → given ≡ false
    → Each (λ (l : Live). l.indexed ≡ false → is_over l ≡ true) (seen_by old).flows → AreClosedTo old now (i + 1) at
closed_past old now i at given to inside says is open_there =
    let ls = (seen_by old).flows in
    let found = said old now i given false to.looked inside says is in
    let l = found.flow in
    record {
      count = indexed_still ls i at l found.here found.is to.count;
      looked = to.looked;
      left = closed_more ls i l (list_all is_over ls) found.here
          (each_there (λ (k : Live). k.indexed ≡ false → is_over k ≡ true) ls i l open_there found.here found.is)
          to.left;
    }

-- An open flow was found.
pub one_open : (old now : Staffed) (i : ℕ) (closed : Bool) → IsLookedAt old now
    → i < length (seen_by old).flows
    → ((l : Live) → slice_get (seen_by now).flows i ≡ Some l → closed ≡ is_over l) → closed ≡ false
    → list_all is_over (seen_by old).flows ≡ false
one_open old now i closed looked inside told is =
    let ls = (seen_by old).flows in
    let found = found_in ls i inside in
    let l = found.0 in
    list_all_at is_over ls i l inside
    (ap is_over (get_or_from_slice_get ls i l l found.1)
    ∙ (sym (told l (still_there old now i l looked found.1)) ∙ is))

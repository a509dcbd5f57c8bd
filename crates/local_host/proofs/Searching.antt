-- Searches among the flows that stand find what searches among all flows would: a filed flow passes none of the tests.
use Rattle.std.proofs.Common.{◌≡◌, ℕ, suc, ◌+◌, ◌&&◌, ◌||◌, ◌==◌, not, count_by, Bool, true, false, cond, List, []}
use Rattle.std.proofs.Common.{◌∷◌, length, map, position, Option, Some, None, is_some, refl, sym, ap}
use Rattle.std.proofs.Common.{◌∙◌, true≢false, arith, tests}
use Rattle.std.proofs.Common.{nat_lt}
use Rattle.std.specs.List.{filter, find, list_all, position_or_len}
use Rattle.std.specs.Option.{option_map}
use Rattle.std.proofs.lemmas.List.{length-map}
use Rattle.std.proofs.lemmas.List.Sums.{sum_by-cons}
use Rattle.std.proofs.lemmas.List.Folds.{list_all-map}
use Rattle.tas_model.specs.ApplicationCalls.{Running, column_by}
use Rattle.tas_model.specs.declared.entry.Reason.{Reason}
use Rattle.tas_model.specs.Endpoint.{Endpoint}
use Rattle.host_rounds.specs.Lists.{Each}
use Rattle.host_rounds.specs.Hosts.{Live, endpoint, is_over, is_held, is_running, is_ready, waits_at, is_waiting_by}
use Rattle.host_rounds.specs.Upkeep.{swept}
use Rattle.local_host.specs.Index.{passes_at, with_first, standing_places, IsAtRest, AreAtRest, is_settled}
use Rattle.local_host.proofs.Standing.{filter_next, swept_rests}

-- ----- the first of all
and_one : (a b : Bool) → (a && b) ≡ true → a ≡ true
and_one true b is = refl
and_one false b is = is

and_other : (a b : Bool) → (a && b) ≡ true → b ≡ true
and_other true b is = is
and_other false b is = absurd (true≢false (sym is))

lower : (n m : ℕ) → nat_lt (1 + n) (suc m) ≡ nat_lt n m
lower n m = grind (arith, tests)

next_place : (a b : Bool) (n : ℕ) → a ≡ b
    → cond a (Some (1 + n)) None ≡ option_map (λ (place : ℕ). suc place) (cond b (Some n) None)
next_place true true n same = let next : 1 + n ≡ suc n = omega arith in ap (λ (k : ℕ). Some k) next
next_place false false n same = refl
next_place true false n same = absurd (true≢false same)
next_place false true n same = absurd (true≢false (sym same))

first_or : (b : Bool) (n m : ℕ) → cond (nat_lt (cond (not b) (1 + n) 0) (suc m)) (Some (cond (not b) (1 + n) 0)) None
    ≡ cond b (Some 0) (option_map (λ (place : ℕ). suc place) (cond (nat_lt n m) (Some n) None))
first_or true n m = let some : nat_lt 0 (suc m) ≡ true = grind (arith, tests) in
    ap (λ (b : Bool). cond b (Some 0) None) some
first_or false n m = next_place (nat_lt (1 + n) (suc m)) (nat_lt n m) n (lower n m)

position_next : (test : Live → Bool) (l : Live) (ls : List Live)
    → position test (l ∷ ls) ≡ cond (test l) (Some 0) (option_map (λ (place : ℕ). suc place) (position test ls))
position_next test l ls = first_or (test l) (position_or_len test ls) (length ls)

-- no flow passes
pub position_none : (test : Live → Bool) (ls : List Live) → Each (λ (l : Live). test l ≡ false) ls
    → position test ls ≡ None
position_none test [] all = refl
position_none test (l ∷ ls) all =
    position_next test l ls
    ∙ (ap (λ (b : Bool). cond b (Some 0) (option_map (λ (place : ℕ). suc place) (position test ls))) all.0
    ∙ ap (option_map (λ (place : ℕ). suc place)) (position_none test ls all.1))

find_or : (b : Bool) (p : ℕ) (some rest : Option ℕ) → some ≡ option_map (λ (place : ℕ). suc place) rest
    → cond b (Some (suc p)) some ≡ option_map (λ (place : ℕ). suc place) (cond b (Some p) rest)
find_or true p some rest same = refl
find_or false p some rest same = same

find_next : (test : ℕ → Bool) (ps : List ℕ) → find test (map (λ (place : ℕ). suc place) ps)
    ≡ option_map (λ (place : ℕ). suc place) (find (λ (p : ℕ). test (suc p)) ps)
find_next test [] = refl
find_next test (p ∷ ps) = find_or (test (suc p)) p _ _ (find_next test ps)

-- the place of the first that passes
pub find_standing : (test : Live → Bool) → ((l : Live) → IsAtRest l → test l ≡ false) → (ls : List Live)
    → AreAtRest ls → find (passes_at test ls) (standing_places ls) ≡ position test ls
find_standing test never [] at = refl
find_standing test never (l ∷ ls) at = by_filed l.filed refl
    (find_next (passes_at test (l ∷ ls)) (standing_places ls)
    ∙ ap (option_map (λ (place : ℕ). suc place)) (find_standing test never ls at.1)) where
      by_filed : (b : Bool) → l.filed ≡ b
          → find (passes_at test (l ∷ ls)) (map (λ (place : ℕ). suc place) (standing_places ls))
          ≡ option_map (λ (place : ℕ). suc place) (position test ls)
          → find (passes_at test (l ∷ ls))
          (with_first (not b) (map (λ (place : ℕ). suc place) (standing_places ls)))
          ≡ position test (l ∷ ls)
      by_filed true is rest = rest
          ∙ (ap (λ (c : Bool). cond c (Some 0) (option_map (λ (place : ℕ). suc place) (position test ls)))
          (sym (never l (at.0 is))) ∙ sym (position_next test l ls))
      by_filed false is rest = ap (cond (test l) (Some 0)) rest ∙ sym (position_next test l ls)

-- ----- a test of each
pub all_standing : (test : Live → Bool) → ((l : Live) → IsAtRest l → test l ≡ true) → (ls : List Live)
    → AreAtRest ls → list_all (passes_at test ls) (standing_places ls) ≡ list_all test ls
all_standing test always [] at = refl
all_standing test always (l ∷ ls) at = by_filed l.filed refl
    (list_all-map (passes_at test (l ∷ ls)) (λ (place : ℕ). suc place) (standing_places ls)
    ∙ all_standing test always ls at.1) where
      by_filed : (b : Bool) → l.filed ≡ b
          → list_all (passes_at test (l ∷ ls)) (map (λ (place : ℕ). suc place) (standing_places ls))
          ≡ list_all test ls
          → list_all (passes_at test (l ∷ ls))
          (with_first (not b) (map (λ (place : ℕ). suc place) (standing_places ls)))
          ≡ list_all test (l ∷ ls)
      by_filed true is rest = rest ∙ ap (λ (b : Bool). b && list_all test ls) (sym (always l (at.0 is)))
      by_filed false is rest = ap (λ (b : Bool). test l && b) rest

-- ----- what a sweep leaves as it is
settled_by : (l : Live) (over indexed filed held : Bool) → is_over l ≡ over → l.indexed ≡ indexed → l.filed ≡ filed
    → is_held l ≡ held → not (over && (indexed || not (filed || held))) ≡ true → swept l ≡ l
settled_by l false indexed filed held o i f h is = rw o refl
settled_by l true true filed held o i f h is = absurd (true≢false (sym is))
settled_by l true false true held o i f h is = rw (o, i, f) refl
settled_by l true false false true o i f h is = rw (o, i, f, h) refl
settled_by l true false false false o i f h is = absurd (true≢false (sym is))

settled_is : (l : Live) → is_settled l ≡ true → swept l ≡ l
settled_is l is = settled_by l (is_over l) l.indexed l.filed (is_held l) refl refl refl refl is

both_settled : (l : Live) (ls : List Live) (rest : Bool) → (rest ≡ true → map swept ls ≡ ls)
    → (is_settled l && rest) ≡ true → map swept (l ∷ ls) ≡ l ∷ ls
both_settled l ls rest others is =
    ap (λ (m : Live). m ∷ map swept ls) (settled_is l (and_one (is_settled l) rest is))
    ∙ ap (λ (ms : List Live). l ∷ ms) (others (and_other (is_settled l) rest is))

pub all_settled : (ls : List Live) → AreAtRest ls → list_all (passes_at is_settled ls) (standing_places ls) ≡ true
    → map swept ls ≡ ls
all_settled [] at is = refl
all_settled (l ∷ ls) at is = by_filed l.filed refl is
    (λ rest. all_settled ls at.1
    (sym (list_all-map (passes_at is_settled (l ∷ ls)) (λ (place : ℕ). suc place) (standing_places ls)) ∙ rest)) where
      by_filed : (b : Bool) → l.filed ≡ b
          → list_all (passes_at is_settled (l ∷ ls))
          (with_first (not b) (map (λ (place : ℕ). suc place) (standing_places ls))) ≡ true
          → (list_all (passes_at is_settled (l ∷ ls)) (map (λ (place : ℕ). suc place) (standing_places ls)) ≡ true
          → map swept ls ≡ ls)
          → map swept (l ∷ ls) ≡ l ∷ ls
      by_filed true is all rest = ap (λ (m : Live). m ∷ map swept ls) (swept_rests l is (at.0 is))
          ∙ ap (λ (ms : List Live). l ∷ ms) (rest all)
      by_filed false is all rest = both_settled l ls _ rest all

-- ----- how many pass
count_next : (test : ℕ → Bool) (ps : List ℕ) → length (filter test (map (λ (place : ℕ). suc place) ps))
    ≡ length (filter (λ (p : ℕ). test (suc p)) ps)
count_next test ps = ap length (filter_next test ps)
    ∙ length-map (filter (λ (p : ℕ). test (suc p)) ps) (λ (place : ℕ). suc place)

count_cons : (test : Live → Bool) (l : Live) (ls : List Live) → count_by test (l ∷ ls)
    ≡ cond (test l) 1 0 + count_by test ls
count_cons test l ls = sum_by-cons (λ (m : Live). cond (test m) 1 0) l ls

count_or : (b : Bool) (p : ℕ) (ps : List ℕ) → length (cond b (p ∷ ps) ps) ≡ cond b 1 0 + length ps
count_or true p ps = omega arith
count_or false p ps = omega arith

none_more : (b : Bool) (n : ℕ) → b ≡ false → n ≡ cond b 1 0 + n
none_more false n h = omega arith
none_more true n h = absurd (true≢false h)

pub count_standing : (test : Live → Bool) → ((l : Live) → IsAtRest l → test l ≡ false) → (ls : List Live)
    → AreAtRest ls → length (filter (passes_at test ls) (standing_places ls)) ≡ count_by test ls
count_standing test never [] at = refl
count_standing test never (l ∷ ls) at = by_filed l.filed refl
    (count_next (passes_at test (l ∷ ls)) (standing_places ls) ∙ count_standing test never ls at.1) where
      by_filed : (b : Bool) → l.filed ≡ b
          → length (filter (passes_at test (l ∷ ls)) (map (λ (place : ℕ). suc place) (standing_places ls)))
          ≡ count_by test ls
          → length (filter (passes_at test (l ∷ ls))
          (with_first (not b) (map (λ (place : ℕ). suc place) (standing_places ls))))
          ≡ count_by test (l ∷ ls)
      by_filed true is rest = rest ∙ (none_more (test l) (count_by test ls) (never l (at.0 is))
          ∙ sym (count_cons test l ls))
      by_filed false is rest = count_or (test l) 0 _ ∙ (ap (λ (n : ℕ). cond (test l) 1 0 + n) rest
          ∙ sym (count_cons test l ls))

-- ----- flows at rest
and_last : (a b : Bool) → b ≡ false → (a && b) ≡ false
and_last true b h = h
and_last false b h = refl

closed_not_running : (e : Endpoint) (r : Option Reason) → is_some r ≡ true
    → ◌≡◌ {A = Bool} (elim (column_by r e.peer e.tx.una) [ Running ↦ true | _ ↦ false ]) false
closed_not_running e None h = absurd (true≢false (sym h))
closed_not_running e (Some why) h = refl

pub never_ready : (port : ℕ) (l : Live) → IsAtRest l → is_ready port l ≡ false
never_ready port l at = and_last (l.flow.tuple.lport == port && is_waiting_by l.holder) (is_running l)
    (closed_not_running (endpoint l) (endpoint l).reason at.over)

pub never_waits : (port : ℕ) (l : Live) → IsAtRest l → waits_at port l ≡ false
never_waits port l at = and_last (l.flow.tuple.lport == port && is_waiting_by l.holder) (not (is_over l))
    (ap not at.over)

pub always_over : (l : Live) → IsAtRest l → is_over l ≡ true
always_over l at = at.over

-- an answer that is what was searched
pub same_option : {X : Type 0} (o : Option X) → option_map (λ (x : X). x) o ≡ o
same_option None = refl
same_option (Some x) = refl

-- The names of a scenario's hosts: of letters and digits, and each is found at its own place alone.
use Rattle.std.proofs.Common.{◌≡◌, ℕ, zero, suc, ◌+◌, ◌≤◌, ◌<◌, Bool, true, false, not, cond, ltb, List, [], ◌∷◌}
use Rattle.std.proofs.Common.{◌++◌, length, Option, Some, None, is_some, Result, Ok, Err, IfOk, refl, sym, ◌∙◌}
use Rattle.std.proofs.Common.{ap, subst, arith, append_assoc, length-append}
use Rattle.std.specs.Prelude.{slice_get, bytes_eq, ◌||◌, if◌then◌else◌, ⊤}
use Rattle.std.proofs.lemmas.List.{append-nil, length-map}
use Rattle.std.specs.List.{position, position_or_len, list_all}
use Rattle.std.specs.Str.Lines.{lines}
use Rattle.std.proofs.lemmas.Bool.{and_parts}
use Rattle.std.proofs.lemmas.Bool.Decides.{nat_tests}
use Rattle.std.proofs.lemmas.Option.{same_Some}
use Rattle.std.proofs.lemmas.Result.{IfOk-at_ok}
use Rattle.std.proofs.lemmas.Slice.Eq.{bytes_eq-Decides}
use Rattle.host_rounds.specs.Lists.{Each}
use Rattle.host_rounds.proofs.Lists.{map_append}
use Rattle.report_lines.specs.Shown.{AreNames}
use Rattle.scenario_text.specs.Words.{is_letter, is_digit, is_name}
use Rattle.scenario_text.specs.Statements.{reading}
use Rattle.scenario_text.specs.Drafts.{no_draft, has_host, has_address, repeats, judged, host_with, with_line}
use Rattle.scenario_text.specs.Reads.{taken_if, taken_by, taken, finished, read_from, reads}
use Rattle.scenario_text.specs.declared.draft.Draft.{Draft}
use Rattle.scenario_text.specs.declared.scenario.HostLine.{HostLine}
use Rattle.scenario_text.specs.declared.scenario.Scenario.{Scenario}
use Rattle.scenario_text.specs.declared.statement.Statement.{Statement}
use Rattle.scenario_text.specs.declared.statement.Statement.TheVariants as says
use Rattle.scenario_text.specs.declared.statement.Reading.{Reading}
use Rattle.scenario_text.specs.declared.statement.Reading.TheVariants.{Nothing, Wrong, Says}
use Rattle.scenario_text.specs.declared.reading.ScenarioFault.{ScenarioFault}
use Rattle.scenario_text.specs.declared.reading.ScenarioFault.TheVariants.{Refused}
use Rattle.scenario_ranges.proofs.Drafts.{read_in_range}
use Rattle.trace_audit.specs.Forms.{names_of}
use Rattle.trace_audit.proofs.NamedLines.{IsHostSaid, IsHostRead, host_read}

-- ----- places
-- none of them passes
none_pass : {X : Type 0} (p : X → Bool) (xs : List X) → ltb (position_or_len p xs) (length xs) ≡ false
    → Each (λ x. p x ≡ false) xs
none_pass p [] h = tt
none_pass p (x ∷ xs) h = by_first (p x) refl h (none_pass p xs) where
  by_first : (b : Bool) → p x ≡ b → ltb (cond (not b) (1 + position_or_len p xs) 0) (suc (length xs)) ≡ false
      → (ltb (position_or_len p xs) (length xs) ≡ false → Each (λ x. p x ≡ false) xs)
      → (p x ≡ false) × Each (λ x. p x ≡ false) xs
  by_first true is h more = absurd (grind (arith, nat_tests))
  by_first false is h more =
      let later : ltb (position_or_len p xs) (length xs) ≡ false = grind (arith, nat_tests, h) in
      (is, more later)

none_at : {X : Type 0} (p : X → Bool) (xs : List X) → is_some (position p xs) ≡ false → Each (λ x. p x ≡ false) xs
none_at p xs h = none_pass p xs (by_test (ltb (position_or_len p xs) (length xs)) (position_or_len p xs) h) where
  by_test : (b : Bool) (n : ℕ) → is_some (cond b (Some n) None) ≡ false → b ≡ false
  by_test true n h = absurd (cc (h))
  by_test false n h = refl

-- the first that passes stands behind those that do not
first_at : {X : Type 0} (p : X → Bool) (xs : List X) (y : X) (ys : List X) → Each (λ x. p x ≡ false) xs → p y ≡ true
    → position_or_len p (xs ++ y ∷ ys) ≡ length xs
first_at p [] y ys none passes = by_test (p y) passes where
  by_test : (b : Bool) → b ≡ true → cond (not b) (1 + position_or_len p ys) 0 ≡ 0
  by_test true e = refl
  by_test false e = absurd (cc (e))
first_at p (x ∷ xs) y ys none passes =
    by_test (p x) none.0 ∙ ap (λ (n : ℕ). 1 + n) (first_at p xs y ys none.1 passes) ∙ one (length xs) where
      by_test : (b : Bool) → b ≡ false
          → cond (not b) (1 + position_or_len p (xs ++ y ∷ ys)) 0 ≡ 1 + position_or_len p (xs ++ y ∷ ys)
      by_test false e = refl
      by_test true e = absurd (cc (e))

      one : (n : ℕ) → 1 + n ≡ suc n
      one n = omega arith

place_of : {X : Type 0} (p : X → Bool) (xs : List X) (y : X) (ys : List X) → Each (λ x. p x ≡ false) xs → p y ≡ true
    → position p (xs ++ y ∷ ys) ≡ Some (length xs)
place_of p xs y ys none passes =
    by_place (position_or_len p (xs ++ y ∷ ys)) (length (xs ++ y ∷ ys)) (length xs) (first_at p xs y ys none passes)
    below where
      below : length xs < length (xs ++ y ∷ ys)
      below = let all : length (xs ++ y ∷ ys) ≡ length xs + length (y ∷ ys) = length-append xs (y ∷ ys) in
          omega (arith, all)

      by_place : (at all n : ℕ) → at ≡ n → n < all → cond (ltb at all) (Some at) None ≡ Some n
      by_place at all n e h =
          let t : ltb at all ≡ true = grind (arith, nat_tests, e, h) in
          ap (λ (b : Bool). cond b (Some at) None) t ∙ ap (λ (k : ℕ). Some k) e

-- ----- hosts, each behind those before it
abbrev AreNamed : (before hosts : List HostLine) → Type 0
AreNamed before [] = ⊤
AreNamed before (h ∷ hs) =
    ((is_name h.name ≡ true) × (has_host before h.name ≡ false)) × AreNamed (before ++ h ∷ []) hs

named_more : (before hosts : List HostLine) (h : HostLine) → AreNamed before hosts → is_name h.name ≡ true
    → has_host (before ++ hosts) h.name ≡ false → AreNamed before (hosts ++ h ∷ [])
named_more before [] h named is fresh =
    ((is, subst (λ (hs : List HostLine). has_host hs h.name ≡ false) (append-nil before) fresh), tt)
named_more before (x ∷ xs) h named is fresh = (
  named.0,
  named_more (before ++ x ∷ []) xs h named.1 is
      (subst (λ (hs : List HostLine). has_host hs h.name ≡ false) (sym (append_assoc before (x ∷ []) xs)) fresh),
)

all_letters : (name : List ℕ) → is_name name ≡ true → list_all (λ (c : ℕ). is_letter c || is_digit c) name ≡ true
all_letters name e = (and_parts _ _ e).1

plain_at : (before hosts : List HostLine) (i : ℕ) (name : List ℕ) → AreNamed before hosts
    → slice_get (names_of hosts) i ≡ Some name → list_all (λ (c : ℕ). is_letter c || is_digit c) name ≡ true
plain_at before [] i name named e = absurd (cc (e))
plain_at before (h ∷ hs) zero name named e =
    subst (λ (n : List ℕ). list_all (λ (c : ℕ). is_letter c || is_digit c) n ≡ true) (same_Some h.name name e)
    (all_letters h.name named.0.0)
plain_at before (h ∷ hs) (suc i) name named e = plain_at (before ++ h ∷ []) hs i name named.1 e

-- the names before it are others
others : (hosts : List HostLine) (name : List ℕ) → Each (λ (h : HostLine). bytes_eq h.name name ≡ false) hosts
    → Each (λ (n : List ℕ). bytes_eq n name ≡ false) (names_of hosts)
others [] name each = tt
others (h ∷ hs) name each = (each.0, others hs name each.1)

same_names : (name : List ℕ) → bytes_eq name name ≡ true
same_names name = (bytes_eq-Decides name name).1 refl

own_at : (before hosts : List HostLine) (i : ℕ) (name : List ℕ) → AreNamed before hosts
    → slice_get (names_of hosts) i ≡ Some name
    → position (λ (n : List ℕ). bytes_eq n name) (names_of (before ++ hosts)) ≡ Some (length before + i)
own_at before [] i name named e = absurd (cc (e))
own_at before (h ∷ hs) zero name named e =
    subst (λ (n : List ℕ). position (λ (m : List ℕ). bytes_eq m n) (names_of (before ++ h ∷ hs))
    ≡ Some (length before + 0)) (same_Some h.name name e)
    (ap (position (λ (m : List ℕ). bytes_eq m h.name)) (map_append (λ (x : HostLine). x.name) before (h ∷ hs))
    ∙ (place_of (λ (m : List ℕ). bytes_eq m h.name) (names_of before) h.name (names_of hs)
    (others before h.name (none_at (λ (x : HostLine). bytes_eq x.name h.name) before named.0.1))
    (same_names h.name) ∙ ap (λ (k : ℕ). Some k) (count before))) where
      count : (before : List HostLine) → length (names_of before) ≡ length before + 0
      count before = let e : length (names_of before) ≡ length before = length-map before (λ (x : HostLine). x.name) in
          omega (arith, e)
own_at before (h ∷ hs) (suc i) name named e =
    ap (λ (l : List HostLine). position (λ (n : List ℕ). bytes_eq n name) (names_of l))
    (sym (append_assoc before (h ∷ []) hs))
    ∙ (own_at (before ++ h ∷ []) hs i name named.1 e ∙ ap (λ (k : ℕ). Some k) (count before h i)) where
      count : (before : List HostLine) (h : HostLine) (i : ℕ) → length (before ++ h ∷ []) + i ≡ length before + suc i
      count before h i =
          let e : length (before ++ h ∷ []) ≡ length before + 1 = length-append before (h ∷ []) in omega (arith, e)

-- ----- what is read
fresh_name : (unknown repeated full : Bool) (again has addr : Bool) → repeated ≡ (again || has || addr)
    → ◌≡◌ {A = Option ℕ} (if unknown then Some 6 else if repeated then Some 7 else if full then Some 8 else None) None
    → has ≡ false
fresh_name true repeated full again has addr is e = absurd (cc (e))
fresh_name false true full again has addr is e = absurd (cc (e))
fresh_name false false true again has addr is e = absurd (cc (e))
fresh_name false false false true has addr is e = absurd (cc (is))
fresh_name false false false false true addr is e = absurd (cc (is))
fresh_name false false false false false addr is e = refl

line_named : (d : Draft) (statement : Statement) → AreNamed [] d.hosts → IsHostSaid statement
    → judged d statement ≡ None → AreNamed [] (with_line d statement).hosts
line_named d (says.Host name addr given) named is e =
    named_more [] d.hosts (host_with name addr given) named is
    (fresh_name given.unknown (repeats d (says.Host name addr given)) _ given.repeated (has_host d.hosts name)
    (has_address d.hosts addr) refl e)
line_named d (says.Limit ticks) named is e = named
line_named d (says.App host name) named is e = named
line_named d (says.Do step) named is e = named
line_named d (says.OnFrame host flow number act) named is e = named
line_named d (says.DropEach host k) named is e = named
line_named d (says.Move line worded) named is e = named
line_named d (says.Kill line worded) named is e = named

abbrev IsDraftNamed : Draft → Type 0
IsDraftNamed d = AreNamed [] d.hosts

taken_if_named : (d : Draft) (statement : Statement) (refusal : Option ℕ) → judged d statement ≡ refusal
    → IsDraftNamed d → IsHostSaid statement → IfOk (taken_if d statement refusal) IsDraftNamed
taken_if_named d statement None e named is = line_named d statement named is e
taken_if_named d statement (Some kind) e named is = tt

taken_by_named : (d : Draft) (reading : Reading) → IsDraftNamed d → IsHostRead reading
    → IfOk (taken_by d reading) IsDraftNamed
taken_by_named d Nothing named is = named
taken_by_named d (Wrong kind) named is = tt
taken_by_named d (Says statement) named is = taken_if_named d statement (judged d statement) refl named is

abbrev IsNamed : Scenario → Type 0
IsNamed s = AreNamed [] s.hosts

finished_named : (line : ℕ) (d : Draft) (hosts : List HostLine) → IsDraftNamed d → IfOk (finished line d hosts) IsNamed
finished_named line d [] named = tt
finished_named line d (host ∷ hosts) named = named

all_named : (line : ℕ) (d : Draft) (texts : List (List ℕ)) → IsDraftNamed d → IfOk (read_from line d texts) IsNamed
all_named line d [] named = finished_named line d d.hosts named
all_named line d (text ∷ texts) named =
    by_line (taken d text) (taken_by_named d (reading text) named (host_read text))
    (λ next. all_named (line + 1) next texts) where
      by_line : (next : Result Draft ℕ) → IfOk next IsDraftNamed
          → ((next : Draft) → IsDraftNamed next → IfOk (read_from (line + 1) next texts) IsNamed)
          → IfOk (elim next as (λ r. Result Scenario ScenarioFault)
          [ Ok d ↦ read_from (line + 1) d texts | Err kind ↦ Err (Refused line kind) ]) IsNamed
      by_line (Ok next) h rest = rest next h
      by_line (Err kind) h rest = tt

read_named : (text : List ℕ) (s : Scenario) → reads text ≡ Ok s → IsNamed s
unfolding reads
read_named text s e = IfOk-at_ok IsNamed e (all_named 1 no_draft (lines text) tt)

-- The names of the hosts of a scenario that was read.
pub names_are : (text : List ℕ) (s : Scenario) → reads text ≡ Ok s → AreNames (names_of s.hosts)
names_are text s e = record {
  few = (let count = (read_in_range text s e).count in
      let same : length (names_of s.hosts) ≡ length s.hosts = length-map s.hosts (λ (x : HostLine). x.name) in
      let most : length s.hosts ≤ 8 = count.1 in omega (arith, same, most));
  plain = λ i name there. plain_at [] s.hosts i name (read_named text s e) there;
  own = λ i name there. own_at [] s.hosts i name (read_named text s e) there
      ∙ ap (λ (k : ℕ). Some k) (none_before i);
} where
  none_before : (i : ℕ) → 0 + i ≡ i
  none_before i = omega arith

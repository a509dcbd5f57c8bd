-- All scripts of a host make their turns, one after the other: each is found by its number at its own place.
use Rattle.std.proofs.Common.{◌≡◌, ◌<◌, ◌≤◌, ◌+◌, ◌==◌, ℕ, zero, suc, Bool, true, false, List, [], ◌∷◌}
use Rattle.std.proofs.Common.{length, map, fold, drop}
use Rattle.std.proofs.Common.{set, slice_get, get_or, Option, Some, refl, sym, ap, subst, ◌∙◌, arith}
use Rattle.std.specs.List.{find}
use Rattle.std.proofs.lemmas.Bool.Decides.{nat_tests}
use Rattle.host_rounds.specs.Lists.{Each, change_first}
use Rattle.host_rounds.specs.Hosts.{Host, Starts}
use Rattle.host_rounds.specs.Scripts.{Site}
use Rattle.scenario_runs.specs.Applications.{Script, Turn, turn}
use Rattle.scenario_runs.specs.Worlds.{asked_of, with_turn}
use Rattle.scenario_host.specs.Sound.{IsFit, AreRising}
use Rattle.scenario_host.specs.Turns.{turn_of}
use Rattle.scenario_host.proofs.Lasting.{Lasts, lasts_same, lasts_both}
use Rattle.scenario_host.proofs.Fit.{fit_more}
use Rattle.scenario_host.proofs.Going.{Goes, turn_goes}

-- ----- facts of each
pub each_at : {X : Type 0} (P : X → Type 0) (xs : List X) (i : ℕ) (x : X) → Each P xs → slice_get xs i ≡ Some x → P x
each_at P [] i x each here = absurd (cc (here))
each_at P (y ∷ ys) zero x each here = let same : y ≡ x = cc (here) in subst P same each.0
each_at P (y ∷ ys) (suc i) x each here = each_at P ys i x each.1 here

each_set : {X : Type 0} (P : X → Type 0) (xs : List X) (i : ℕ) (x : X) → Each P xs → P x → Each P (set xs i x)
each_set P [] i x each p = tt
each_set P (y ∷ ys) zero x each p = (p, each.1)
each_set P (y ∷ ys) (suc i) x each p = (each.0, each_set P ys i x each.1 p)

pub each_weaker : {X : Type 0} (P Q : X → Type 0) → ((x : X) → P x → Q x) → (xs : List X) → Each P xs → Each Q xs
each_weaker P Q weaker [] each = tt
each_weaker P Q weaker (x ∷ xs) each = (weaker x each.0, each_weaker P Q weaker xs each.1)

-- ----- numbers
abbrev pub has_number : ℕ → Script → Bool
has_number k s = s.number == k

same_number : (a b : ℕ) → a ≡ b → (a == b) ≡ true
same_number a b same = grind (arith, nat_tests, same)

apart_number : (a b : ℕ) → a < b → (a == b) ≡ false
apart_number a b below = grind (arith, nat_tests, below)

-- the script at a place is the one of its number
find_by_number : (ss : List Script) (i : ℕ) (s : Script) → AreRising ss → slice_get ss i ≡ Some s
    → find (has_number s.number) ss ≡ Some s
find_by_number [] i s rising here = absurd (cc (here))
find_by_number (x ∷ xs) zero s rising here =
    let same : x ≡ s = cc (here) in
    let test : has_number s.number x ≡ true =
    same_number x.number s.number (ap (λ (r : Script). r.number) same) in
    rw test here
find_by_number (x ∷ xs) (suc i) s rising here =
    let past : has_number s.number x ≡ false =
    apart_number x.number s.number (each_at (λ (later : Script). x.number < later.number) xs i s rising.0 here) in
    rw past (find_by_number xs i s rising.1 here)

-- and a script of that number is put at that place
put_by_number : (ss : List Script) (i : ℕ) (s y : Script) → AreRising ss → slice_get ss i ≡ Some s
    → y.number ≡ s.number
    → change_first (has_number y.number) (λ (r : Script). y) ss ≡ set ss i y
put_by_number [] i s y rising here same = absurd (cc (here))
put_by_number (x ∷ xs) zero s y rising here same =
    let first : x ≡ s = cc (here) in
    let test : has_number y.number x ≡ true =
    same_number x.number y.number (ap (λ (r : Script). r.number) first ∙ sym same) in
    rw (test, change_first) refl
put_by_number (x ∷ xs) (suc i) s y rising here same =
    let below : x.number < s.number = each_at (λ (later : Script). x.number < later.number) xs i s rising.0 here in
    let past : has_number y.number x ≡ false = apart_number x.number y.number (omega (arith, below, same)) in
    rw (past, change_first) (ap (λ (zs : List Script). x ∷ zs) (put_by_number xs i s y rising.1 here same))

rising_set : (ss : List Script) (i : ℕ) (s y : Script) → AreRising ss → slice_get ss i ≡ Some s → y.number ≡ s.number
    → AreRising (set ss i y)
rising_set [] i s y rising here same = tt
rising_set (x ∷ xs) zero s y rising here same =
    let number : y.number ≡ x.number = same ∙ ap (λ (r : Script). r.number) (sym (first here)) in (
      each_weaker (λ (later : Script). x.number < later.number) (λ (later : Script). y.number < later.number)
          (λ later above. omega (arith, above, number)) xs rising.0,
      rising.1,
    )
  where
    first : slice_get (x ∷ xs) zero ≡ Some s → x ≡ s
    first h = cc (h)
rising_set (x ∷ xs) (suc i) s y rising here same =
    let below : x.number < s.number = each_at (λ (later : Script). x.number < later.number) xs i s rising.0 here in (
      each_set (λ (later : Script). x.number < later.number) xs i y rising.0 (omega (arith, below, same)),
      rising_set xs i s y rising.1 here same,
    )

pub drop_place : (ss : List Script) (i : ℕ) (s : Script) → slice_get ss i ≡ Some s → drop i ss ≡ s ∷ drop (suc i) ss
drop_place [] i s here = absurd (cc (here))
drop_place (x ∷ xs) zero s here = let same : x ≡ s = cc (here) in ap (λ (r : Script). r ∷ xs) same
drop_place (x ∷ xs) (suc i) s here = drop_place xs i s here

pub drop_set : (ss : List Script) (i : ℕ) (y : Script) → drop (suc i) (set ss i y) ≡ drop (suc i) ss
drop_set [] i y = refl
drop_set (x ∷ xs) zero y = refl
drop_set (x ∷ xs) (suc i) y = drop_set xs i y

pub set_same : (ss : List Script) (i : ℕ) (s : Script) → slice_get ss i ≡ Some s → set ss i s ≡ ss
set_same [] i s here = absurd (cc (here))
set_same (x ∷ xs) zero s here = let first : s ≡ x = cc (here) in ap (λ (r : Script). r ∷ xs) first
set_same (x ∷ xs) (suc i) s here = ap (λ (zs : List Script). x ∷ zs) (set_same xs i s here)

-- ----- turns
abbrev pub numbers_in : List Script → List ℕ
numbers_in ss = map (λ (s : Script). s.number) ss

abbrev pub asked_by : Starts → (address : List ℕ → ℕ) → (tick : ℕ) → Site (List Script) → ℕ → Site (List Script)
asked_by starts address t site k = asked_of starts address t (find (has_number k) site.scripts) site

abbrev pub asked_all : Starts → (address : List ℕ → ℕ) → (tick : ℕ) → Site (List Script) → List ℕ → Site (List Script)
asked_all starts address t site ks = fold (asked_by starts address t) site ks

-- Some turns were made, and those of these applications lead from what there is to the end.
pub record Leads (starts : Starts) (address : List ℕ → ℕ) (t : ℕ) (left : List ℕ) (start end : Site (List Script))
    (host : Host) (scripts : List Script) : Type 0 where
  pub rest : asked_all starts address t (record { host = host; scripts = scripts }) left ≡ end
  pub lasts : Lasts start.host host
  pub same : numbers_in scripts ≡ numbers_in start.scripts
  pub rising : AreRising scripts
  pub fit : Each (IsFit (length host.flows)) scripts

pub leads_start : (starts : Starts) (address : List ℕ → ℕ) (t : ℕ) (left : List ℕ) (start : Site (List Script))
    → AreRising start.scripts → Each (IsFit (length start.host.flows)) start.scripts
    → Leads starts address t left start (asked_all starts address t start left) start.host start.scripts
leads_start starts address t left start rising fit =
    record { rest = refl; lasts = lasts_same start.host; same = refl; rising = rising; fit = fit }

set_number : (ss : List Script) (i : ℕ) (s y : Script) → slice_get ss i ≡ Some s → y.number ≡ s.number
    → numbers_in (set ss i y) ≡ numbers_in ss
set_number [] i s y here same = refl
set_number (x ∷ xs) zero s y here same =
    let first : x ≡ s = cc (here) in
    ap (λ (k : ℕ). k ∷ numbers_in xs) (same ∙ ap (λ (r : Script). r.number) (sym first))
set_number (x ∷ xs) (suc i) s y here same = ap (λ (ks : List ℕ). x.number ∷ ks) (set_number xs i s y here same)

-- one more
pub leads_on : (starts : Starts) (address : List ℕ → ℕ) (t i : ℕ) (left : List ℕ) (start end : Site (List Script))
    (host after : Host) (scripts : List Script) (s y : Script)
    → Leads starts address t (s.number ∷ left) start end host scripts → slice_get scripts i ≡ Some s
    → turn_of after y ≡ turn starts address t (turn_of host s)
    → Leads starts address t left start end after (set scripts i y)
leads_on starts address t i left start end host after scripts s y leads here made =
    let site : Site (List Script) = record { host = host; scripts = scripts } in
    let x : Turn = turn_of host s in
    let goes : Goes x (turn_of after y) =
    subst (Goes x) (sym made)
    (turn_goes starts address t x (each_at (IsFit (length host.flows)) scripts i s leads.fit here)) in
    let one : asked_by starts address t site s.number ≡ record { host = after; scripts = set scripts i y } =
    ap (λ (o : Option Script). asked_of starts address t o site) (find_by_number scripts i s leads.rising here)
    ∙ (ap (λ (z : Turn). with_turn z scripts) (sym made)
    ∙ ap (λ (zs : List Script). record { host = after; scripts = zs })
    (put_by_number scripts i s y leads.rising here goes.number)) in
    record {
      rest = ap (λ (z : Site (List Script)). asked_all starts address t z left) (sym one) ∙ leads.rest;
      lasts = lasts_both start.host host after leads.lasts goes.host;
      same = set_number scripts i s y here goes.number ∙ leads.same;
      rising = rising_set scripts i s y leads.rising here goes.number;
      fit = each_set (IsFit (length after.flows)) scripts i y
          (each_weaker (IsFit (length host.flows)) (IsFit (length after.flows))
          (λ r fit. fit_more (length host.flows) (length after.flows) r goes.host.grown fit) scripts leads.fit)
          goes.fit;
    }

-- ----- all of them
-- The scripts before this place have made their turns.
abbrev pub Walks : Starts → (address : List ℕ → ℕ) → (t i : ℕ) → (start : Site (List Script)) → Host → List Script
    → Type 0
Walks starts address t i start host scripts =
    Leads starts address t (numbers_in (drop i scripts)) start
    (asked_all starts address t start (numbers_in start.scripts)) host scripts

pub walks_start : (starts : Starts) (address : List ℕ → ℕ) (t : ℕ) (start : Site (List Script))
    → AreRising start.scripts → Each (IsFit (length start.host.flows)) start.scripts
    → Walks starts address t 0 start start.host start.scripts
walks_start starts address t start rising fit =
    leads_start starts address t (numbers_in start.scripts) start rising fit

pub walks_more : (starts : Starts) (address : List ℕ → ℕ) (t i : ℕ) (start : Site (List Script)) (host after : Host)
    (scripts : List Script) (s y : Script)
    → Walks starts address t i start host scripts → slice_get scripts i ≡ Some s
    → turn_of after y ≡ turn starts address t (turn_of host s)
    → Walks starts address t (i + 1) start after (set scripts i y)
walks_more starts address t i start host after scripts s y walks here made =
    let end : Site (List Script) = asked_all starts address t start (numbers_in start.scripts) in
    let next : suc i ≡ i + 1 = omega arith in
    subst (λ (n : ℕ). Walks starts address t n start after (set scripts i y)) next
    (leads_on starts address t i (numbers_in (drop (suc i) (set scripts i y))) start end host after scripts s y
    (subst (λ (zs : List Script). Leads starts address t (numbers_in zs) start end host scripts)
    (drop_place scripts i s here ∙ ap (λ (zs : List Script). s ∷ zs) (sym (drop_set scripts i y))) walks) here made)

pub get_at : {X : Type 0} (xs : List X) (i : ℕ) (d : X) → i < length xs → slice_get xs i ≡ Some (get_or xs i d)
get_at [] i d below = absurd (omega (arith, below))
get_at (x ∷ xs) zero d below = refl
get_at (x ∷ xs) (suc i) d below = get_at xs i d (omega (arith, below))

drop_past : (ss : List Script) (i : ℕ) → length ss ≤ i → drop i ss ≡ []
drop_past [] zero past = refl
drop_past [] (suc i) past = refl
drop_past (s ∷ ss) zero past = absurd (omega (arith, past))
drop_past (s ∷ ss) (suc i) past = drop_past ss i (omega (arith, past))

-- all of them
pub walks_end : (starts : Starts) (address : List ℕ → ℕ) (t i : ℕ) (start : Site (List Script)) (host : Host)
    (scripts : List Script) → Walks starts address t i start host scripts → length scripts ≤ i
    → ◌≡◌ {A = Site (List Script)} (record { host = host; scripts = scripts })
    (asked_all starts address t start (numbers_in start.scripts))
walks_end starts address t i start host scripts walks past =
    ap (λ (zs : List Script). asked_all starts address t (record { host = host; scripts = scripts }) (numbers_in zs))
    (sym (drop_past scripts i past)) ∙ walks.rest

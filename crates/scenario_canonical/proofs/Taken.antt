-- What holds of each line of a scenario that was read, by what stands before it among the lines of its kind.
use Rattle.std.proofs.Common.{◌≡◌, ℕ, suc, ◌+◌, ◌&&◌, ◌||◌, Bool, true, false, not, nat_le, List, [], ◌∷◌, ◌++◌}
use Rattle.std.proofs.Common.{length, Option, Some, None, IfSome, is_some, refl, sym, ◌∙◌, ap, subst, cond, ltb, arith}
use Rattle.std.proofs.Common.{length-append, append_assoc}
use Rattle.std.proofs.lemmas.List.{append-nil}
use Rattle.std.specs.Prelude.{⊤, codes, decimal, bytes_eq}
use Rattle.std.specs.List.{position, position_or_len, list_any}
use Rattle.std.proofs.lemmas.Bool.Decides.{nat_tests}
use Rattle.std.proofs.lemmas.List.Folds.{list_any-append}
use Rattle.link_script.specs.LinkLines.{LinkLines, drop_each_of}
use Rattle.link_script.specs.declared.script.DropEach.{DropEach}
use Rattle.scenario_text.specs.Canonical.{line_of, host_text, step_text, act_line, move_text, kill_text}
use Rattle.scenario_text.specs.Drafts.{host_of, has_host, has_address, has_app, has_kill, brings, brings_again}
use Rattle.scenario_text.specs.Drafts.{is_large, is_lost_step, is_nil, last_steps, with_step, host_with}
use Rattle.scenario_text.specs.declared.draft.Draft.{Draft}
use Rattle.scenario_text.specs.declared.scenario.HostLine.{HostLine}
use Rattle.scenario_text.specs.declared.scenario.AppLine.{AppLine}
use Rattle.scenario_text.specs.declared.scenario.MoveLine.{MoveLine}
use Rattle.scenario_text.specs.declared.scenario.KillLine.{KillLine}
use Rattle.scenario_text.specs.declared.scenario.Step.{Step}
use Rattle.scenario_text.specs.declared.scenario.Step.TheVariants as steps
use Rattle.scenario_text.specs.declared.statement.Statement.TheVariants as says
use Rattle.scenario_canonical.proofs.WordForms.{IsLine}
use Rattle.scenario_canonical.proofs.HostOptions.{given_of}
use Rattle.scenario_canonical.proofs.Order.{Entry, Each, each_if, IsRising}

-- ----- lists in which each stands behind those before it
abbrev pub EachAfter : {X : Type 0} → (List X → X → Type 0) → (before : List X) → List X → Type 0
EachAfter P before [] = ⊤
EachAfter P before (x ∷ xs) = P before x × EachAfter P (before ++ x ∷ []) xs

pub after_if : {X : Type 0} (P Q : List X → X → Type 0) (before xs : List X)
    → ((before : List X) (x : X) → P before x → Q before x) → EachAfter P before xs → EachAfter Q before xs
after_if P Q before [] f h = tt
after_if P Q before (x ∷ xs) f h = (f before x h.0, after_if P Q (before ++ x ∷ []) xs f h.1)

pub after_more : {X : Type 0} (P : List X → X → Type 0) (before xs : List X) (x : X) → EachAfter P before xs
    → P (before ++ xs) x → EachAfter P before (xs ++ x ∷ [])
after_more P before [] x h p = (subst (λ zs. P zs x) (append-nil before) p, tt)
after_more P before (y ∷ ys) x h p =
    (h.0, after_more P (before ++ y ∷ []) ys x h.1 (subst (λ zs. P zs x) (sym (append_assoc before (y ∷ []) ys)) p))

-- ----- the lines
pub record IsHostTaken (before : List HostLine) (h : HostLine) : Type 0 where
  pub line : IsLine (host_text h) (says.Host h.name h.params.addr (given_of h.params))
  pub same : host_with h.name h.params.addr (given_of h.params) ≡ h
  pub name : has_host before h.name ≡ false
  pub address : has_address before h.params.addr ≡ false
  pub few : nat_le 8 (length before) ≡ false
  pub fits : is_large (given_of h.params) ≡ false

pub record IsStepTaken (hosts : List HostLine) (before : List Step) (step : Step) : Type 0 where
  pub line : IsLine (step_text step) (says.Do step)
  pub found : is_lost_step hosts before step ≡ false
  pub fresh : brings_again before (brings step) ≡ false
  pub few : nat_le 1000 (length before) ≡ false

pub record IsAppTaken (hosts : List HostLine) (before : List AppLine) (app : AppLine) : Type 0 where
  pub line : IsLine (line_of (codes "app") (app.host ∷ app.name ∷ [])) (says.App app.host app.name)
  pub known : has_host hosts app.host ≡ true
  pub fresh : has_app before app.host app.name ≡ false
  pub few : nat_le 2048 (length before) ≡ false
  pub steps : EachAfter (IsStepTaken hosts) [] app.steps

pub record IsActTaken (hosts : List HostLine) (e : Entry) : Type 0 where
  pub name : List ℕ
  pub line : IsLine (act_line name (decimal e.0.flow) (decimal e.0.number) e.1)
      (says.OnFrame name e.0.flow e.0.number e.1)
  pub host : host_of hosts name ≡ Some e.0.host

pub record IsDropTaken (hosts : List HostLine) (before : List DropEach) (d : DropEach) : Type 0 where
  pub name : List ℕ
  pub line : IsLine (line_of (codes "dropeach") (name ∷ decimal d.k ∷ [])) (says.DropEach name d.k)
  pub host : host_of hosts name ≡ Some d.host
  pub fresh : drop_each_of before d.host ≡ None

pub record IsMoveTaken (hosts : List HostLine) (m : MoveLine) : Type 0 where
  pub line : IsLine (move_text m) (says.Move m true)
  pub known : has_host hosts m.host ≡ true

pub record IsKillTaken (apps : List AppLine) (before : List KillLine) (k : KillLine) : Type 0 where
  pub line : IsLine (kill_text k) (says.Kill k true)
  pub known : has_app apps k.host k.app ≡ true
  pub fresh : has_kill before k.host k.app ≡ false

abbrev pub IsLimitLine : ℕ → Type 0
IsLimitLine n = IsLine (line_of (codes "limit") (decimal n ∷ [])) (says.Limit n)

-- A draft whose lines can all be printed and read again.
pub record IsTaken (d : Draft) : Type 0 where
  pub limit : IfSome d.limit IsLimitLine
  pub hosts : EachAfter IsHostTaken [] d.hosts
  pub apps : EachAfter (IsAppTaken d.hosts) [] d.apps
  pub acts : Each (IsActTaken d.hosts) d.link.acts
  pub order : IsRising d.link.acts
  pub drops : EachAfter (IsDropTaken d.hosts) [] d.link.drops
  pub moves : Each (IsMoveTaken d.hosts) d.moves
  pub kills : EachAfter (IsKillTaken d.apps) [] d.kills

-- ----- one host more
place_more : (p : HostLine → Bool) (hosts : List HostLine) (h : HostLine)
    → ltb (position_or_len p hosts) (length hosts) ≡ true
    → position_or_len p (hosts ++ h ∷ []) ≡ position_or_len p hosts
place_more p [] h e = absurd (cc (e))
place_more p (x ∷ xs) h e = by_test (p x) e (place_more p xs h) where
  by_test : (b : Bool) → ltb (cond (not b) (1 + position_or_len p xs) 0) (suc (length xs)) ≡ true
      → (ltb (position_or_len p xs) (length xs) ≡ true → position_or_len p (xs ++ h ∷ []) ≡ position_or_len p xs)
      → cond (not b) (1 + position_or_len p (xs ++ h ∷ [])) 0 ≡ cond (not b) (1 + position_or_len p xs) 0
  by_test true e r = refl
  by_test false e r =
      let later : ltb (position_or_len p xs) (length xs) ≡ true = grind (arith, nat_tests, e) in
      ap (λ (n : ℕ). 1 + n) (r later)

found_more : (p : HostLine → Bool) (hosts : List HostLine) (h : HostLine) (i : ℕ) → position p hosts ≡ Some i
    → position p (hosts ++ h ∷ []) ≡ Some i
found_more p hosts h i e = by_test (ltb (position_or_len p hosts) (length hosts)) refl e where
  by_test : (b : Bool) → ltb (position_or_len p hosts) (length hosts) ≡ b
      → cond b (Some (position_or_len p hosts)) None ≡ Some i → position p (hosts ++ h ∷ []) ≡ Some i
  by_test true t e =
      let place : position_or_len p (hosts ++ h ∷ []) ≡ position_or_len p hosts = place_more p hosts h t in
      let size : length (hosts ++ h ∷ []) ≡ length hosts + 1 = length-append hosts (h ∷ []) in
      let within : ltb (position_or_len p hosts) (length hosts + 1) ≡ true = grind (arith, nat_tests, t) in
      rw (place, size, within) e
  by_test false t e = absurd (cc (e))

pub host_more : (hosts : List HostLine) (h : HostLine) (name : List ℕ) (i : ℕ) → host_of hosts name ≡ Some i
    → host_of (hosts ++ h ∷ []) name ≡ Some i
host_more hosts h name i e = found_more (λ (x : HostLine). bytes_eq x.name name) hosts h i e

-- the number of a host that is known
pub number_known : (hosts : List HostLine) (name : List ℕ) (o : Option ℕ) → host_of hosts name ≡ o → is_some o ≡ true
    → (i : ℕ) × (host_of hosts name ≡ Some i)
number_known hosts name None e h = absurd (cc (h))
number_known hosts name (Some i) e h = (i, e)

pub known_more : (hosts : List HostLine) (h : HostLine) (name : List ℕ) → has_host hosts name ≡ true
    → has_host (hosts ++ h ∷ []) name ≡ true
known_more hosts h name e =
    let known : (i : ℕ) × (host_of hosts name ≡ Some i) = number_known hosts name (host_of hosts name) refl e in
    ap is_some (host_more hosts h name known.0 known.1)

found_step : (hosts : List HostLine) (h : HostLine) (before : List Step) (step : Step)
    → is_lost_step hosts before step ≡ false → is_lost_step (hosts ++ h ∷ []) before step ≡ false
found_step hosts h before (steps.Listen name port) e = refl
found_step hosts h before (steps.Accept name listener) e = e
found_step hosts h before (steps.Connect name host port) e =
    ap not (known_more hosts h host (not_not (has_host hosts host) e)) where
      not_not : (b : Bool) → not b ≡ false → b ≡ true
      not_not true e = refl
      not_not false e = absurd (cc (e))
found_step hosts h before (steps.Send name text) e = e
found_step hosts h before (steps.Fill name count) e = e
found_step hosts h before (steps.Recv name count) e = e
found_step hosts h before (steps.Drain name) e = e
found_step hosts h before (steps.Shut name) e = e
found_step hosts h before (steps.Close name) e = e
found_step hosts h before (steps.Abort name) e = e
found_step hosts h before (steps.Wait ticks) e = refl

step_with_host : (hosts : List HostLine) (h : HostLine) (before : List Step) (step : Step)
    → IsStepTaken hosts before step → IsStepTaken (hosts ++ h ∷ []) before step
step_with_host hosts h before step t =
    record { line = t.line; found = found_step hosts h before step t.found; fresh = t.fresh; few = t.few }

pub app_with_host : (hosts : List HostLine) (h : HostLine) (before : List AppLine) (app : AppLine)
    → IsAppTaken hosts before app → IsAppTaken (hosts ++ h ∷ []) before app
app_with_host hosts h before app t = record {
  line = t.line;
  known = known_more hosts h app.host t.known;
  fresh = t.fresh;
  few = t.few;
  steps = after_if (IsStepTaken hosts) (IsStepTaken (hosts ++ h ∷ [])) [] app.steps (step_with_host hosts h) t.steps;
}

pub act_with_host : (hosts : List HostLine) (h : HostLine) (e : Entry) → IsActTaken hosts e
    → IsActTaken (hosts ++ h ∷ []) e
act_with_host hosts h e t = record { name = t.name; line = t.line; host = host_more hosts h t.name e.0.host t.host }

pub drop_with_host : (hosts : List HostLine) (h : HostLine) (before : List DropEach) (d : DropEach)
    → IsDropTaken hosts before d → IsDropTaken (hosts ++ h ∷ []) before d
drop_with_host hosts h before d t =
    record { name = t.name; line = t.line; host = host_more hosts h t.name d.host t.host; fresh = t.fresh }

pub move_with_host : (hosts : List HostLine) (h : HostLine) (m : MoveLine) → IsMoveTaken hosts m
    → IsMoveTaken (hosts ++ h ∷ []) m
move_with_host hosts h m t = record { line = t.line; known = known_more hosts h m.host t.known }

-- ----- one application or one step more
pub kill_with_app : (apps : List AppLine) (app : AppLine) (before : List KillLine) (k : KillLine)
    → IsKillTaken apps before k → IsKillTaken (apps ++ app ∷ []) before k
kill_with_app apps app before k t = record {
  line = t.line;
  known = list_any-append (λ (a : AppLine). bytes_eq a.host k.host && bytes_eq a.name k.app) apps (app ∷ [])
      ∙ rw t.known refl;
  fresh = t.fresh;
}

same_names : (apps : List AppLine) (step : Step) (host name : List ℕ)
    → has_app (with_step apps step) host name ≡ has_app apps host name
same_names [] step host name = refl
same_names (app ∷ []) step host name = refl
same_names (app ∷ other ∷ apps) step host name =
    ap (λ (b : Bool). (bytes_eq app.host host && bytes_eq app.name name) || b)
    (same_names (other ∷ apps) step host name)

pub kill_with_step : (apps : List AppLine) (step : Step) (before : List KillLine) (k : KillLine)
    → IsKillTaken apps before k → IsKillTaken (with_step apps step) before k
kill_with_step apps step before k t =
    record { line = t.line; known = same_names apps step k.host k.app ∙ t.known; fresh = t.fresh }

pub step_more : (hosts : List HostLine) (before apps : List AppLine) (step : Step)
    → EachAfter (IsAppTaken hosts) before apps → is_nil apps ≡ false → IsStepTaken hosts (last_steps apps) step
    → EachAfter (IsAppTaken hosts) before (with_step apps step)
step_more hosts before [] step h some t = tt
step_more hosts before (app ∷ []) step h some t = (
  record {
    line = h.0.line;
    known = h.0.known;
    fresh = h.0.fresh;
    few = h.0.few;
    steps = after_more (IsStepTaken hosts) [] app.steps step h.0.steps t;
  },
  tt,
)
step_more hosts before (app ∷ other ∷ apps) step h some t =
    (h.0, step_more hosts (before ++ app ∷ []) (other ∷ apps) step h.1 refl t)

-- The sets of the names of applications.
use Rattle.std.proofs.Common.{◌≡◌, ℕ, Bool, true, false, not, ◌&&◌, ◌||◌, cond, List, [], ◌∷◌, ◌++◌, Result, Ok, Err}
use Rattle.std.proofs.Common.{IfOk, refl}
use Rattle.std.proofs.Common.{sym, ◌∙◌, ap, ap₂}
use Rattle.std.specs.Prelude.{bytes_eq}
use Rattle.std.specs.declared.vec.Vec.{Vec}
use Rattle.std.specs.declared.alloc.Global.{Global}
use Rattle.std.specs.declared.cmp.Ordering.{Ordering}
use Rattle.std.specs.declared.cmp.Ordering.TheVariants.{Less, Equal, Greater}
use Rattle.std.specs.Ordering.{nat_cmp, is_eq, ordering_then}
use Rattle.std.specs.Cmp.Lexicographic.{slice_cmp}
use Rattle.std.specs.BTreeMap.{BTreeMap}
use Rattle.std.specs.BTreeSet.{BTreeSet, contains}
use Rattle.std.proofs.lemmas.List.Folds.{list_any-append}
use Rattle.std.proofs.lemmas.Map.Text.{is_eq-slice_cmp}
use Rattle.scenario_text.specs.Drafts.{AreRoles, AreNames, HaveNames, name_cmp, has_app, has_kill, with_step}
use Rattle.scenario_text.specs.Drafts.{last_steps, is_nil, brings, brings_again, is_unknown, with_line}
use Rattle.scenario_text.specs.declared.scenario.AppLine.{AppLine}
use Rattle.scenario_text.specs.declared.scenario.KillLine.{KillLine}
use Rattle.scenario_text.specs.declared.scenario.Step.{Step}
use Rattle.scenario_text.specs.declared.draft.Draft.{Draft}
use Rattle.scenario_text.specs.declared.names.Names.{Names}
use Rattle.scenario_text.specs.declared.statement.Role.{Role}
use Rattle.scenario_text.specs.declared.statement.Statement.{Statement}
use Rattle.scenario_text.specs.declared.statement.Statement.TheVariants as says
use Rattle.scenario_text.proofs.RoleMaps.{no_roles, roles_stay}

abbrev pub Name : Type 0
Name = Vec ℕ Global × Vec ℕ Global

tied : (x y : Ordering) (a b : Bool) → is_eq x ≡ a → is_eq y ≡ b → is_eq (ordering_then x y) ≡ (a && b)
tied Less y a b ea eb = ap (λ z. z && b) ea
tied Equal y a b ea eb = eb ∙ ap (λ z. z && b) ea
tied Greater y a b ea eb = ap (λ z. z && b) ea

same_name : (k q : Name) (host name : List ℕ) → k.0.items ≡ host → k.1.items ≡ name
    → is_eq (name_cmp k q) ≡ (bytes_eq host q.0.items && bytes_eq name q.1.items)
same_name k q host name eh en =
    tied (slice_cmp nat_cmp k.0.items q.0.items) (slice_cmp nat_cmp k.1.items q.1.items) _ _
    (is_eq-slice_cmp k.0.items q.0.items ∙ ap (λ (h : List ℕ). bytes_eq h q.0.items) eh)
    (is_eq-slice_cmp k.1.items q.1.items ∙ ap (λ (n : List ℕ). bytes_eq n q.1.items) en)

either : (b c : Bool) → cond b true c ≡ (c || b)
either true true = refl
either true false = refl
either false true = refl
either false false = refl

-- one name more in a set
pub name_taken : (m n : BTreeSet Name) (k : Name) (host name : List ℕ) → k.0.items ≡ host → k.1.items ≡ name
    → ((q : Name) → contains name_cmp n q ≡ cond (is_eq (name_cmp k q)) true (contains name_cmp m q))
    → (test : List ℕ → List ℕ → Bool) → HaveNames m test
    → HaveNames n (λ h a. test h a || (bytes_eq host h && bytes_eq name a))
name_taken m n k host name eh en more test h = λ q.
    more q ∙ (ap₂ (λ (b c : Bool). cond b true c) (same_name k q host name eh en) (h q)
    ∙ either (bytes_eq host q.0.items && bytes_eq name q.1.items) (test q.0.items q.1.items))

or_false : (b : Bool) → (b || false) ≡ b
or_false true = refl
or_false false = refl

pub one_app_more : (apps : List AppLine) (app : AppLine) (host name : List ℕ)
    → (has_app apps host name || (bytes_eq app.host host && bytes_eq app.name name))
    ≡ has_app (apps ++ app ∷ []) host name
one_app_more apps app host name =
    let test : AppLine → Bool = λ (a : AppLine). bytes_eq a.host host && bytes_eq a.name name in
    sym (list_any-append test apps (app ∷ []) ∙ ap (λ (b : Bool). has_app apps host name || b) (or_false (test app)))

pub one_kill_more : (kills : List KillLine) (kill : KillLine) (host name : List ℕ)
    → (has_kill kills host name || (bytes_eq kill.host host && bytes_eq kill.app name))
    ≡ has_kill (kills ++ kill ∷ []) host name
one_kill_more kills kill host name =
    let test : KillLine → Bool = λ (k : KillLine). bytes_eq k.host host && bytes_eq k.app name in
    sym (list_any-append test kills (kill ∷ [])
    ∙ ap (λ (b : Bool). has_kill kills host name || b) (or_false (test kill)))

-- a step brings no application
pub same_apps : (apps : List AppLine) (step : Step) (host name : List ℕ)
    → has_app apps host name ≡ has_app (with_step apps step) host name
same_apps [] step host name = refl
same_apps (app ∷ []) step host name = refl
same_apps (app ∷ other ∷ apps) step host name =
    ap (λ (b : Bool). (bytes_eq app.host host && bytes_eq app.name name) || b) (same_apps (other ∷ apps) step host name)

-- the same names by another test
pub have_so : (names : BTreeSet Name) (test other : List ℕ → List ℕ → Bool)
    → ((host name : List ℕ) → test host name ≡ other host name) → HaveNames names test → HaveNames names other
have_so names test other e h = λ q. h q ∙ e q.0.items q.1.items

-- ----- a line more
-- the set has one name more
abbrev TakesName : BTreeSet Name → BTreeSet Name → (host name : List ℕ) → Type 0
TakesName m n host name = (test : List ℕ → List ℕ → Bool) → HaveNames m test
    → HaveNames n (λ h a. test h a || (bytes_eq host h && bytes_eq name a))

pub takes_so : (m n : BTreeSet Name) (h a host name : List ℕ) → h ≡ host → a ≡ name → TakesName m n h a
    → TakesName m n host name
takes_so m n h a host name eh ea more = λ test have q.
    more test have q
    ∙ ap₂ (λ (x y : List ℕ). test q.0.items q.1.items || (bytes_eq x q.0.items && bytes_eq y q.1.items)) eh ea

pub app_named : (names : Names) (d : Draft) (roles : BTreeMap (Vec ℕ Global) Role) (apps : BTreeSet Name)
    (host name : List ℕ) → roles.entries ≡ [] → TakesName names.apps apps host name → AreNames names d
    → AreNames (record names { roles = roles; apps = apps }) (with_line d (says.App host name))
app_named names d roles apps host name e more h = record {
  roles = no_roles roles d.apps host name e;
  apps = have_so apps _ (has_app (d.apps ++ (record { host = host; name = name; steps = [] }) ∷ []))
      (one_app_more d.apps (record { host = host; name = name; steps = [] })) (more (has_app d.apps) h.apps);
  kills = h.kills;
}

pub step_named : (names : Names) (d : Draft) (roles : BTreeMap (Vec ℕ Global) Role) (step : Step)
    → is_nil d.apps ≡ false → brings_again (last_steps d.apps) (brings step) ≡ false
    → ((before : List Step) → AreRoles names.roles before → brings_again before (brings step) ≡ false
    → AreRoles roles (before ++ step ∷ []))
    → AreNames names d → AreNames (record names { roles = roles }) (record d { apps = with_step d.apps step })
step_named names d roles step some fresh more h = record {
  roles = roles_stay roles d.apps step some (more (last_steps d.apps) h.roles fresh);
  apps = have_so names.apps (has_app d.apps) (has_app (with_step d.apps step)) (same_apps d.apps step) h.apps;
  kills = h.kills;
}

pub kill_named : (names : Names) (d : Draft) (kills : BTreeSet Name) (line : KillLine)
    → TakesName names.kills kills line.host line.app → AreNames names d
    → AreNames (record names { kills = kills }) (record d { kills = d.kills ++ line ∷ [] })
kill_named names d kills line more h = record {
  roles = h.roles;
  apps = h.apps;
  kills = have_so kills _ (has_kill (d.kills ++ line ∷ [])) (one_kill_more d.kills line)
      (more (has_kill d.kills) h.kills);
}

-- whether a line kills an application that does not stand
pub kill_known : {E : Type 0} (r : Result Bool E) (names : Names) (d : Draft) (line : KillLine) (worded : Bool)
    (statement : Statement) → statement ≡ says.Kill line worded
    → IfOk r (λ (b : Bool). (test : List ℕ → List ℕ → Bool) → HaveNames names.apps test
    → b ≡ (not worded || not (test line.host line.app)))
    → IfOk r (λ (b : Bool). AreNames names d → b ≡ is_unknown d statement)
kill_known (Ok b) names d line worded statement e h = λ n. h (has_app d.apps) n.apps ∙ ap (is_unknown d) (sym e)
kill_known (Err fault) names d line worded statement e h = tt

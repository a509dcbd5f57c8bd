-- The map of an application's names, and the steps of the last application.
use Rattle.std.proofs.Common.{◌≡◌, ℕ, zero, suc, ◌+◌, Bool, true, false, cond, List, [], ◌∷◌, ◌++◌, Option, Some}
use Rattle.std.proofs.Common.{None, Result, Ok, Err, OnOk, is_some, length, get_or, set, bytes_eq, refl, sym, ◌∙◌, ap}
use Rattle.std.proofs.Common.{arith}
use Rattle.std.specs.declared.vec.Vec.{Vec}
use Rattle.std.specs.declared.alloc.Global.{Global}
use Rattle.std.specs.declared.cmp.Ordering.{Ordering}
use Rattle.std.specs.declared.cmp.Ordering.TheVariants.{Less, Equal, Greater}
use Rattle.std.specs.Ordering.{nat_cmp, is_eq, match_ordering}
use Rattle.std.specs.Cmp.Lexicographic.{slice_cmp}
use Rattle.std.specs.Map.{lookup}
use Rattle.std.specs.BTreeMap.{BTreeMap, insert_entry}
use Rattle.std.proofs.lemmas.Map.Text.{is_eq-slice_cmp}
use Rattle.std.proofs.lemmas.Slice.Eq.{bytes_eq-Decides}
use Rattle.scenario_text.specs.Drafts.{AreRoles, role_of, role_by, or_else, brings, brings_again, with_step, last_steps}
use Rattle.scenario_text.specs.Drafts.{is_nil}
use Rattle.scenario_text.specs.declared.scenario.AppLine.{AppLine}
use Rattle.scenario_text.specs.declared.scenario.Step.{Step}
use Rattle.scenario_text.specs.declared.statement.Role.{Role}

-- ----- equal texts
same_text : (a b : List ℕ) → bytes_eq a b ≡ true → a ≡ b
same_text a b e = (bytes_eq-Decides a b).0 e

is_itself : (a b : List ℕ) → a ≡ b → bytes_eq a b ≡ true
is_itself a b e = (bytes_eq-Decides a b).1 e

other_way : (a b : List ℕ) → bytes_eq a b ≡ bytes_eq b a
other_way a b = by_tests (bytes_eq a b) (bytes_eq b a) refl refl
  where
    by_tests : (p q : Bool) → bytes_eq a b ≡ p → bytes_eq b a ≡ q → p ≡ q
    by_tests true true ep eq = refl
    by_tests false false ep eq = refl
    by_tests true false ep eq = sym (is_itself b a (sym (same_text a b ep))) ∙ eq
    by_tests false true ep eq = sym ep ∙ is_itself a b (sym (same_text b a eq))

-- ----- one entry more, as every name finds it
abbrev key_cmp : Vec ℕ Global → Vec ℕ Global → Ordering
key_cmp a b = slice_cmp nat_cmp a.items b.items

abbrev finds : List ℕ → Vec ℕ Global → Bool
finds name key = is_eq (slice_cmp nat_cmp name key.items)

lookup_inserted : (q : List ℕ) (es : List (Vec ℕ Global × Role)) (k : Vec ℕ Global) (v : Role)
    → lookup (finds q) (insert_entry key_cmp es k v) ≡ cond (bytes_eq q k.items) (Some v) (lookup (finds q) es)
lookup_inserted q [] k v = ap (λ b. cond b (Some v) None) (is_eq-slice_cmp q k.items)
lookup_inserted q (e ∷ es) k v = by_order (slice_cmp nat_cmp k.items e.0.items) refl (lookup_inserted q es k v)
  where
    by_order : (o : Ordering) → slice_cmp nat_cmp k.items e.0.items ≡ o
        → lookup (finds q) (insert_entry key_cmp es k v) ≡ cond (bytes_eq q k.items) (Some v) (lookup (finds q) es)
        → lookup (finds q) (match_ordering o ((k, v) ∷ e ∷ es) ((e.0, v) ∷ es) (e ∷ insert_entry key_cmp es k v))
        ≡ cond (bytes_eq q k.items) (Some v) (cond (finds q e.0) (Some e.1) (lookup (finds q) es))
    by_order Less i r = ap (λ b. cond b (Some v) (cond (finds q e.0) (Some e.1) (lookup (finds q) es)))
        (is_eq-slice_cmp q k.items)
    by_order Equal i r =
        let same : k.items ≡ e.0.items = same_text k.items e.0.items (sym (is_eq-slice_cmp k.items e.0.items)
        ∙ ap is_eq i) in
        let found : finds q e.0 ≡ bytes_eq q k.items = is_eq-slice_cmp q e.0.items ∙ ap (bytes_eq q) (sym same) in
        rw found (twice (bytes_eq q k.items))
      where
        twice : (b : Bool) → cond b (Some v) (lookup (finds q) es)
            ≡ cond b (Some v) (cond b (Some e.1) (lookup (finds q) es))
        twice true = refl
        twice false = refl
    by_order Greater i r = ap (λ o. cond (finds q e.0) (Some e.1) o) r
        ∙ by_tests (finds q e.0) (bytes_eq q k.items) refl refl
      where
        by_tests : (p b : Bool) → finds q e.0 ≡ p → bytes_eq q k.items ≡ b
            → cond p (Some e.1) (cond b (Some v) (lookup (finds q) es))
            ≡ cond b (Some v) (cond p (Some e.1) (lookup (finds q) es))
        by_tests true true ep eb =
            let here : q ≡ e.0.items = same_text q e.0.items (sym (is_eq-slice_cmp q e.0.items) ∙ ep) in
            let there : q ≡ k.items = same_text q k.items eb in
            let both : is_eq (slice_cmp nat_cmp k.items e.0.items) ≡ true = is_eq-slice_cmp k.items e.0.items
            ∙ is_itself k.items e.0.items (sym there ∙ here) in
            absurd (let no_eq : is_eq (slice_cmp nat_cmp k.items e.0.items) ≡ false = ap is_eq i in cc (both, no_eq))
        by_tests true false ep eb = refl
        by_tests false true ep eb = refl
        by_tests false false ep eb = refl

-- ----- one step more
or_none : (o : Option Role) → or_else o None ≡ o
or_none None = refl
or_none (Some r) = refl

or_assoc : (a b d : Option Role) → or_else a (or_else b d) ≡ or_else (or_else a b) d
or_assoc None b d = refl
or_assoc (Some r) b d = refl

role_more : (before : List Step) (step : Step) (name : List ℕ)
    → role_of (before ++ step ∷ []) name ≡ or_else (role_of before name) (role_by (brings step) name)
role_more [] step name = or_none (role_by (brings step) name)
role_more (s ∷ before) step name = ap (or_else (role_by (brings s) name)) (role_more before step name)
    ∙ or_assoc (role_by (brings s) name) (role_of before name) (role_by (brings step) name)

-- a step that brings no name
pub none_taken : (m : BTreeMap (Vec ℕ Global) Role) (before : List Step) (step : Step) → brings step ≡ None
    → AreRoles m before → AreRoles m (before ++ step ∷ [])
none_taken m before step e h = λ name. h name
    ∙ sym (role_more before step name ∙ (ap (λ b. or_else (role_of before name) (role_by b name)) e
    ∙ or_none (role_of before name)))

-- a step that brings a new one
pub role_taken : (m n : BTreeMap (Vec ℕ Global) Role) (before : List Step) (step : Step) (name : List ℕ) (role : Role)
    (key : Vec ℕ Global) → brings step ≡ Some (name, role) → key.items ≡ name
    → n.entries ≡ insert_entry key_cmp m.entries key role → AreRoles m before
    → brings_again before (brings step) ≡ false → AreRoles n (before ++ step ∷ [])
role_taken m n before step name role key e same entries h fresh = λ q.
    ap (lookup (finds q)) entries ∙ (lookup_inserted q m.entries key role ∙ by_name q (bytes_eq q key.items) refl)
  where
    new : role_of before name ≡ None
    new = by_role (role_of before name) (sym (ap (brings_again before) e) ∙ fresh)
      where
        by_role : (o : Option Role) → is_some o ≡ false → o ≡ None
        by_role None i = refl
        by_role (Some r) i = absurd (cc (i))

    by_name : (q : List ℕ) (b : Bool) → bytes_eq q key.items ≡ b
        → cond b (Some role) (lookup (finds q) m.entries) ≡ role_of (before ++ step ∷ []) q
    by_name q true i =
        let is_name : q ≡ name = same_text q key.items i ∙ same in
        let none : role_of before q ≡ None = ap (role_of before) is_name ∙ new in
        let brought : role_by (brings step) q ≡ Some role = ap (λ o. role_by o q) e
        ∙ (let t : bytes_eq name q ≡ true = is_itself name q (sym is_name) in rw t refl) in
        sym (role_more before step q ∙ rw (none, brought) refl)
    by_name q false i =
        let apart : bytes_eq name q ≡ false = other_way name q ∙ (ap (bytes_eq q) (sym same) ∙ i) in
        let none : role_by (brings step) q ≡ None = ap (λ o. role_by o q) e ∙ rw apart refl in
        h q ∙ sym (role_more before step q ∙ (ap (or_else (role_of before q)) none ∙ or_none (role_of before q)))

-- ----- the last application's steps
pub set_last : (apps : List AppLine) (i : ℕ) (old : AppLine) (after : List Step) (step : Step) → i + 1 ≡ length apps
    → old ≡ get_or apps i old → after ≡ old.steps ++ step ∷ []
    → set apps i (record { host = old.host; name = old.name; steps = after }) ≡ with_step apps step
set_last [] i old after step n is more = absurd (omega arith)
set_last (app ∷ []) zero old after step n is more = let same : old ≡ app = is in rw (more, same) refl
set_last (app ∷ []) (suc i) old after step n is more = absurd (omega arith)
set_last (app ∷ other ∷ apps) zero old after step n is more = absurd (omega arith)
set_last (app ∷ other ∷ apps) (suc i) old after step n is more =
    ap (λ rest. app ∷ rest) (set_last (other ∷ apps) i old after step (omega arith) is more)

pub last_at : (apps : List AppLine) (i : ℕ) (app : AppLine) → i + 1 ≡ length apps → app ≡ get_or apps i app
    → last_steps apps ≡ app.steps
last_at [] i app n is = absurd (omega arith)
last_at (a ∷ []) zero app n is = ap (λ (x : AppLine). x.steps) (sym is)
last_at (a ∷ []) (suc i) app n is = absurd (omega arith)
last_at (a ∷ other ∷ apps) zero app n is = absurd (omega arith)
last_at (a ∷ other ∷ apps) (suc i) app n is = last_at (other ∷ apps) i app (omega arith) is

-- one step more, or one application more
pub last_more : (apps : List AppLine) (step : Step) → is_nil apps ≡ false
    → last_steps (with_step apps step) ≡ last_steps apps ++ step ∷ []
last_more [] step h = absurd (cc (h))
last_more (app ∷ []) step h = refl
last_more (app ∷ a ∷ []) step h = refl
last_more (app ∷ a ∷ b ∷ apps) step h = last_more (a ∷ b ∷ apps) step refl

pub last_new : (apps : List AppLine) (app : AppLine) → last_steps (apps ++ app ∷ []) ≡ app.steps
last_new [] app = refl
last_new (a ∷ []) app = refl
last_new (a ∷ b ∷ apps) app = last_new (b ∷ apps) app

-- no names of an application without steps
pub no_roles : (m : BTreeMap (Vec ℕ Global) Role) (apps : List AppLine) (host name : List ℕ) → m.entries ≡ []
    → AreRoles m (last_steps (apps ++ (record { host = host; name = name; steps = [] }) ∷ []))
no_roles m apps host name e = λ q. ap (lookup (finds q)) e
    ∙ ap (λ before. role_of before q) (sym (last_new apps (record { host = host; name = name; steps = [] })))

pub roles_stay : (m : BTreeMap (Vec ℕ Global) Role) (apps : List AppLine) (step : Step) → is_nil apps ≡ false
    → AreRoles m (last_steps apps ++ step ∷ []) → AreRoles m (last_steps (with_step apps step))
roles_stay m apps step some h = λ q. h q ∙ ap (λ before. role_of before q) (sym (last_more apps step some))

-- what holds in any case holds where a call succeeds
pub on_ok : {T E : Type 0} (r : Result T E) (P : Type 0) → P → OnOk r P
on_ok (Ok x) P p = p
on_ok (Err e) P p = tt

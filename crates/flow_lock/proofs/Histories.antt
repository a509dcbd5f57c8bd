-- Histories that begin with others, and those that are known.
use Rattle.std.proofs.Common.{◌≡◌, ◌≢◌, ◌⊎◌, ℕ, zero, suc, ◌+◌, ◌≤◌, Bool, true, false, eq-eqb, ne_eqb, nat_lt, cond}
use Rattle.std.proofs.Common.{◌&&◌, ◌==◌, List, [], ◌∷◌, ◌++◌, length, drop, sym, refl, ap, ◌∙◌, subst, inl, inr}
use Rattle.std.proofs.Common.{⊎_elim, arith, true≢false, append_assoc, append-nil}
use Rattle.std.proofs.lemmas.Bool.{eqb-true}
use Rattle.std.proofs.lemmas.Bool.Decides.{nat_tests}
use mathlib.Core.Option as O
use mathlib.Core.Option.{some-injective}
use mathlib.Core.Logic.{dite}
use native.Mathlib.Decide.{ℕ_discrete}
use lib.ListN.{get_elem?}
use Rattle.tas_model.specs.declared.entry.Entry.{Entry}
use Rattle.tas_model.specs.declared.entry.FlowId.{FlowId}
use Rattle.flow_lock.specs.Histories.{longer, IsLonger, Begins}
use Rattle.flow_lock.specs.Orders.{total, same_flow, once_below, known_of}
use Rattle.flow_lock.specs.Claims.{in_span}
use Rattle.flow_lock.specs.declared.view.History.{History}
use Rattle.flow_lock.specs.declared.view.Held.{Held}
use Rattle.flow_lock.specs.declared.view.Span.{Span}

-- ----- flows
pub same_yes : (f : FlowId) → same_flow f f ≡ true
same_yes f = ap (λ b. b && (f.generation == f.generation)) (eq-eqb f.slot f.slot refl)
    ∙ eq-eqb f.generation f.generation refl

pub same_no : (f g : FlowId) → f.slot ≢ g.slot → same_flow f g ≡ false
same_no f g ne = ap (λ b. b && (f.generation == g.generation)) (ne_eqb f.slot g.slot ne)

same_is : (f g : FlowId) → (b : Bool) → same_flow f g ≡ b → ((b ≡ true) × (f ≡ g)) ⊎ (b ≡ false)
same_is f g false e = inr refl
same_is f g true e = inl (
  refl,
  dite (ℕ_discrete f.slot g.slot)
      (λ s. let q : (f.generation == g.generation) ≡ true = ap (λ b. b && (f.generation == g.generation))
      (sym (eq-eqb f.slot g.slot s)) ∙ e in
      λ i. record { slot = s i; generation = eqb-true f.generation g.generation q i })
      (λ ne. absurd (true≢false (sym e ∙ same_no f g ne))),
)

pub either_flow : (f g : FlowId) → ((same_flow f g ≡ true) × (f ≡ g)) ⊎ (same_flow f g ≡ false)
either_flow f g = ⊎_elim (λ t. inl (t.0, t.1)) (λ t. inr t) (same_is f g (same_flow f g) refl)

-- ----- histories that grow
no_front : (xs ys : List Entry) → xs ++ ys ≡ [] → xs ≡ []
no_front [] ys e = refl
no_front (x ∷ xs) ys e = absurd (let n : suc (length (xs ++ ys)) ≡ 0 = ap (length {A = Entry}) e in omega arith)

pub longer_nil : (h : History) → longer h [] ≡ h
longer_nil h = λ i. record h { entries = append-nil h.entries i }

pub longer_twice : (h : History) (xs ys : List Entry) → longer (longer h xs) ys ≡ longer h (xs ++ ys)
longer_twice h xs ys = λ i. record h { entries = append_assoc h.entries xs ys i }

pub begins_trans : (h k m : History) → Begins h k → Begins k m → Begins h m
begins_trans h k m a b = ⊎_elim
    (λ (e : h.entries ≡ []). inl e)
    (λ (t : IsLonger h k). ⊎_elim
    (λ (e : k.entries ≡ []). inl (no_front h.entries t.0 (ap (λ (x : History). x.entries) (sym t.1) ∙ e)))
    (λ (u : IsLonger k m). inr (t.0 ++ u.0, u.1 ∙ (ap (λ x. longer x u.0) t.1 ∙ longer_twice h t.0 u.0)))
    b)
    a

pub begins_itself : (h : History) → Begins h h
begins_itself h = inr ([], sym (longer_nil h))

pub drop_front : (xs ys : List Entry) → drop (length xs) (xs ++ ys) ≡ ys
drop_front [] ys = refl
drop_front (x ∷ xs) ys = drop_front xs ys

-- ----- the histories of the flows, where f has the history l
abbrev pub after : (FlowId → History) → FlowId → History → FlowId → History
after H f l g = cond (same_flow f g) l (H g)

pub after_same : (H : FlowId → History) (f : FlowId) (l : History) → after H f l f ≡ l
after_same H f l = ap (λ b. cond b l (H f)) (same_yes f)

pub after_else : (H : FlowId → History) (f g : FlowId) (l : History) → f.slot ≢ g.slot → after H f l g ≡ H g
after_else H f g l ne = ap (λ b. cond b l (H g)) (same_no f g ne)

pub after_other : (H : FlowId → History) (f g : FlowId) (l : History) → f.generation ≢ g.generation
    → after H f l g ≡ H g
after_other H f g l ne =
    ⊎_elim (λ (t : (same_flow f g ≡ true) × (f ≡ g)). absurd (ne (ap (λ (x : FlowId). x.generation) t.1)))
    (λ t. ap (λ b. cond b l (H g)) t) (either_flow f g)

-- what begins a history of H begins the one afterwards
pub still : (H : FlowId → History) (f g : FlowId) (l : History) → Begins (H f) l → (x : History) → Begins x (H g)
    → Begins x (after H f l g)
still H f g l more x b = ⊎_elim
    (λ (t : (same_flow f g ≡ true) × (f ≡ g)). subst (λ z. Begins x (cond z l (H g))) (sym t.0)
    (begins_trans x (H f) l (subst (Begins x) (ap H (sym t.1)) b) more))
    (λ t. subst (λ z. Begins x (cond z l (H g))) (sym t) b)
    (either_flow f g)

pub more_seen : (H : FlowId → History) (f : FlowId) (l : History) (seen : List Held) → Begins (H f) l
    → ((k : ℕ) (h : Held) → get_elem? seen k ≡ O.some h → Begins h.history (H h.flow))
    → (k : ℕ) (h : Held) → get_elem? (record { flow = f; history = l } ∷ seen) k ≡ O.some h
    → Begins h.history (after H f l h.flow)
more_seen H f l seen more all zero h e =
    subst (λ (y : Held). Begins y.history (after H f l y.flow)) (some-injective (record { flow = f; history = l }) h e)
    (subst (Begins l) (sym (after_same H f l)) (begins_itself l))
more_seen H f l seen more all (suc k) h e = still H f h.flow l more h.history (all k h e)

span_adds : (p a b : ℕ) → a ≤ b → once_below p a + cond (nat_lt p b) (cond (nat_lt p a) 0 1) 0 ≡ once_below p b
span_adds p a b le = grind (arith, nat_tests)

-- a span of new places, counted
pub span_counts : (H : FlowId → History) (f g : FlowId) (p a : ℕ) (l : History) → length (H f).entries ≡ a
    → a ≤ length l.entries → (mine : List Span)
    → (in_span g p (record { flow = f; from = a; upto = length l.entries }) + total (in_span g p) mine) + once_below p
    (length (H g).entries)
    ≡ total (in_span g p) mine + once_below p (length (after H f l g).entries)
span_counts H f g p a l is le mine = ⊎_elim
    (λ (t : (same_flow f g ≡ true) × (f ≡ g)).
    let span : in_span g p (record { flow = f; from = a; upto = length l.entries })
    ≡ cond (nat_lt p (length l.entries)) (cond (nat_lt p a) 0 1) 0 =
    ap (λ z. cond z (cond (nat_lt p (length l.entries)) (cond (nat_lt p a) 0 1) 0) 0) t.0 in
    let here : once_below p (length (after H f l g).entries) ≡ once_below p (length l.entries) =
    ap (λ z. once_below p (length (cond z l (H g)).entries)) t.0 in
    let old : once_below p (length (H g).entries) ≡ once_below p a =
    ap (λ x. once_below p (length (H x).entries)) (sym t.1) ∙ ap (once_below p) is in
    omega (arith, span_adds p a (length l.entries) le))
    (λ t.
    let span : in_span g p (record { flow = f; from = a; upto = length l.entries }) ≡ 0 =
    ap (λ z. cond z (cond (nat_lt p (length l.entries)) (cond (nat_lt p a) 0 1) 0) 0) t in
    let here : once_below p (length (after H f l g).entries) ≡ once_below p (length (H g).entries) =
    ap (λ z. once_below p (length (cond z l (H g)).entries)) t in
    omega arith)
    (either_flow f g)

-- ----- what is known
pub known_first : (f : FlowId) (l : History) (hs : List Held) → known_of f (record { flow = f; history = l } ∷ hs) ≡ l
known_first f l hs = ap (λ b. cond b l (known_of f hs)) (same_yes f)

pub known_past : (f g : FlowId) (l : History) (hs : List Held) → same_flow f g ≡ false
    → known_of g (record { flow = f; history = l } ∷ hs) ≡ known_of g hs
known_past f g l hs e = ap (λ b. cond b l (known_of g hs)) e

-- what is known of all flows, after one of them has another history
pub known_after : (H : FlowId → History) (f : FlowId) (l : History) (hs : List Held)
    → ((g : FlowId) → H g ≡ known_of g hs)
    → (g : FlowId) → after H f l g ≡ known_of g (record { flow = f; history = l } ∷ hs)
known_after H f l hs all g = ⊎_elim
    (λ (t : (same_flow f g ≡ true) × (f ≡ g)).
    subst (λ x. after H f l x ≡ known_of x (record { flow = f; history = l } ∷ hs)) t.1 (after_same H f l
    ∙ sym (known_first f l hs)))
    (λ t. ap (λ b. cond b l (H g)) t ∙ (all g ∙ sym (known_past f g l hs t)))
    (either_flow f g)

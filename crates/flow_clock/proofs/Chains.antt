-- What became of flows one after the other.
use Rattle.std.proofs.Common.{◌≡◌, ◌∙◌, ap, sym, ℕ, List, [], ◌∷◌, ◌++◌, refl, subst, inl, inr, length}
use Rattle.std.specs.Prelude.{take, drop}
use Rattle.tas_model.specs.declared.entry.FlowId.{FlowId}
use Rattle.flow_lock.specs.Steps.{IsAlone}
use Rattle.flow_clock.specs.Ledgers.{Ledger}
use Rattle.flow_clock.specs.Walks.{OneByOne, AreServed, AreServedAlone, IsWalkStopped}
use Rattle.flow_clock.proofs.Keeping.{after_use, after_sweep}

-- one flow more
pub one_more : (became : FlowId → Ledger → Ledger → Type 0) (done : List FlowId) (f : FlowId) (l n m : Ledger)
    → OneByOne became done l n → became f n m → OneByOne became (done ++ f ∷ []) l m
one_more became [] f l n m e s = (m, subst (λ x. became f x m) e s, refl)
one_more became (g ∷ gs) f l n m a s = (a.0, a.1, one_more became gs f a.0 n m a.2 s)

-- Who is alone finds no record out, and is alone after each flow.
pub served_alone : (tick : ℕ) (fs : List FlowId) (l m : Ledger) → IsAlone l.view → AreServed tick fs l m
    → AreServedAlone tick fs l m
served_alone tick [] l m alone s = s
served_alone tick (f ∷ fs) l m alone (n, inl timed, rest) =
    let still : IsAlone n.view = (after_use f timed.flow _ l.view n.view timed.grown).alone alone in
    (n, inl timed, served_alone tick fs n m still rest)
served_alone tick (f ∷ fs) l m alone (n, inr (inl closed), rest) =
    let found : IsAlone closed.found = (after_use f closed.flow _ l.view closed.found closed.kept).alone alone in
    let still : IsAlone n.view =
    (after_sweep f closed.found n.view closed.swept.swept closed.swept.sweep).alone found in
    (n, inr closed, served_alone tick fs n m still rest)
served_alone tick (f ∷ fs) l m alone (n, inr (inr busy), rest) = absurd (busy.busy.1 alone)

take_front : (xs ys : List FlowId) → take (length xs) (xs ++ ys) ≡ xs
take_front [] ys = refl
take_front (x ∷ xs) ys = ap (λ l. x ∷ l) (take_front xs ys)

drop_front : (xs ys : List FlowId) → drop (length xs) (xs ++ ys) ≡ ys
drop_front [] ys = refl
drop_front (x ∷ xs) ys = drop_front xs ys

-- What a walk that stopped has still to serve is what it hadn't served.
pub gone_on : (t from from' : ℕ) (l m : Ledger) → IsWalkStopped t from from' l m
    → (done : List FlowId) × (after : Ledger) × AreServed t done (record l { pins = take from l.pins }) after
    × (drop from l.pins ≡ done ++ drop from' m.pins) × (take from' m.pins ≡ after.pins)
gone_on t from from' l m is =
    let pins : m.pins ≡ is.after.pins ++ is.at ∷ is.left = ap (λ (x : Ledger). x.pins) is.rest in
    let left : drop from' m.pins ≡ is.at ∷ is.left =
    ap (λ n. drop n m.pins) is.place ∙ (ap (drop (length is.after.pins)) pins
    ∙ drop_front is.after.pins (is.at ∷ is.left)) in
    let front : take from' m.pins ≡ is.after.pins =
    ap (λ n. take n m.pins) is.place ∙ (ap (take (length is.after.pins)) pins
    ∙ take_front is.after.pins (is.at ∷ is.left)) in
    (is.done, is.after, is.served, is.all ∙ ap (λ k. is.done ++ k) (sym left), front)

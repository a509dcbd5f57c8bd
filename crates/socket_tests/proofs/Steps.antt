-- What a pass, and an application, may do after a call.
use Rattle.std.proofs.Common.{◌≡◌, ℕ, eq-eqb, Bool, true, false, List, [], ◌∷◌, ◌++◌, sym, refl, ap, ◌∙◌, subst}
use Rattle.std.proofs.Common.{append-nil, cond, ⊎_elim}
use Rattle.std.specs.Prelude.{Option, Some, None, Result, Ok, Err, IfOk, IfNone, ◌||◌, ⊤}
use Rattle.std.specs.List.{list_any, find, filter}
use Rattle.std.proofs.lemmas.List.Folds.{list_any-append}
use Rattle.atomic_table.specs.Seated.{TableId}
use Rattle.tas_model.specs.declared.entry.FlowId.{FlowId}
use Rattle.tas_model.specs.declared.entry.FourTuple.{FourTuple}
use Rattle.tas_model.specs.declared.entry.HostParams.{HostParams}
use Rattle.tas_model.specs.declared.entry.Reply.{Reply}
use Rattle.tas_num.specs.declared.seq.Seq.{Seq}
use Rattle.flow_state.specs.declared.call.CallIn.{CallIn}
use Rattle.flow_state.specs.Flow.{Flow}
use Rattle.flow_lock.specs.Callers.{IsTurned, IsGuest, IsUser, IsKeeper, IsOwner}
use Rattle.flow_lock.specs.Passes.{Seen, both}
use Rattle.flow_lock.specs.Answers.{IsHeldBack}
use Rattle.flow_lock.specs.Histories.{longer}
use Rattle.flow_lock.specs.Steps.{counted, looked, is_held, condemned}
use Rattle.flow_lock.specs.declared.word.Word.{Word}
use Rattle.flow_lock.specs.declared.view.History.{History}
use Rattle.flow_lock.specs.declared.view.View.{View}
use Rattle.flow_lock.proofs.Calling.{still_turn, turned, user_waits, owner_dooms, keeper_frees, keeper_held_back}
use Rattle.app_reaper.specs.Lists.{is_on}
use Rattle.app_reaper.specs.OneCall.{IsUse, IsCallRefused}
use Rattle.app_reaper.specs.Sweeping.{KeepsPin, IsSweep}
use Rattle.app_reaper.specs.declared.sweeping.Swept.{Swept}
use Rattle.app_reaper.specs.declared.sweeping.Swept.TheVariants.{Freed, Pinned}
use Rattle.app_reaper.specs.declared.one_call.CallFault.{CallFault}
use Rattle.app_reaper.specs.declared.one_call.CallFault.TheVariants.{Busy, OutOfMemory}
use Rattle.app_reaper.proofs.Walking.{use_turned, refused_turned}
use Rattle.libtas_sockets.specs.Apps.{Application, flow_of}
use Rattle.libtas_sockets.specs.Calling.{HasCalled}
use Rattle.libtas_sockets.specs.Connecting.{Opener, IsConnectionAs, IsJoined}
use Rattle.libtas_sockets.specs.declared.socket.Socket.{Socket}
use Rattle.libtas_sockets.specs.declared.socket_error.SocketError.{SocketError}
use Rattle.socket_tests.specs.Going.{HasOpened}

-- ----- a history that grows by nothing
pub longer_nil : (h : History) → longer h [] ≡ h
longer_nil h = λ i. record h { entries = append-nil h.entries i }

-- ----- a pass with one pin
pub user_uses : (t : TableId) (f : FlowId) (r : Flow) (after : History) (s n : Seen) → n.table ≡ s.table
    → IsUse f r after s.view n.view → IsUser t f s → IsUser t f n
user_uses t f r after s n table u is = (
  use_turned t f r after s n table u is.0,
  ap (λ (v : View). v.pins) u.3 ∙ is.1,
  ap (λ (v : View). v.held) u.3,
)

pub user_refused : (t : TableId) (f : FlowId) (e : CallFault) (s n : Seen) → n.table ≡ s.table
    → IsCallRefused f s.view n.view e → IsUser t f s → IsUser t f n
user_refused t f (Busy x) s n table r is = user_waits t f s n x table r.0 is
user_refused t f OutOfMemory s n table r is = user_uses t f r.0 _ s n table r.2 is

-- ----- a pass without pins
pub guest_looks : (t : TableId) (slot : ℕ) (x : Word) (s n : Seen) → n ≡ record s { view = looked slot x s.view }
    → IsGuest t s → IsGuest t n
guest_looks t slot x s n e is =
    let v : n.view ≡ counted slot x s.view = ap (λ (y : Seen). y.view) e
    ∙ ap (λ l. cond (is_held slot l) s.view (counted slot x s.view)) is.2 in (
      turned t s n (ap (λ (y : Seen). y.table) e) (ap (λ (y : View). y.turns) v) (ap (λ (y : View). y.slow) v)
          (ap (λ (y : View). y.baton) v) is.0,
      ap (λ (y : View). y.pins) v ∙ is.1,
      ap (λ (y : View). y.held) v ∙ is.2,
    )

-- ----- the slow path's pass
-- after a sweep the flow is gone, or the slow path still has its pin
abbrev pub StaysOwner : FlowId → Seen → Swept → Type 0
StaysOwner f n Freed = ⊤
StaysOwner f n (Pinned k p) = IsOwner p n × (p.slot ≡ f.slot)

held_opened : (f : FlowId) (v w : View) (k : ℕ) → IsHeldBack f v w k → w.opened ≡ v.opened
held_opened f v w k p = ⊎_elim (λ e. ap (λ (x : View). x.opened) e) (λ y. ap (λ (x : View). x.opened) y.1) p.3

pub sweeps : (t : TableId) (f : FlowId) (s n : Seen) (x : Swept) → n.table ≡ s.table → KeepsPin f x
    → IsSweep f s.view n.view x → IsKeeper t s → IsOwner f s
    → IsKeeper t n × StaysOwner f n x × (n.view.opened ≡ s.view.opened)
sweeps t f s n Freed table kept swept is own =
    let m : Seen = record s { view = condemned f s.view } in
    let d = owner_dooms t f s m refl is own in
    (keeper_frees t f m n table swept d.0, tt, ap (λ (y : View). y.opened) swept.1)
sweeps t f s n (Pinned k p) table kept swept is own =
    let m : Seen = record s { view = condemned f s.view } in
    let d = owner_dooms t f s m refl is own in
    let b = keeper_held_back t k f m n table swept d.0 d.1 d.2 in
    let owner : StaysOwner f n (Pinned k p) =
    (subst (λ (q : FlowId). IsOwner q n) (sym kept) b.1, ap (λ (q : FlowId). q.slot) kept) in
    (b.0, owner, held_opened f m.view n.view k swept)

pub keeper_joins : (t : TableId) (s p n : Seen) → n ≡ record s { view = both s.view p.view } → IsKeeper t s
    → IsKeeper t n
keeper_joins t s p n e is = (
  ap (λ (x : Seen). x.table) e ∙ is.0,
  (is.1.0, is.1.1 ++ p.view.turns, ap (λ (x : Seen). x.view.turns) e ∙ ap (λ l. l ++ p.view.turns) is.1.2),
  ap (λ (x : Seen). x.view.held) e ∙ is.2,
)

-- ----- an application with a socket
pub opened_calls : (t : TableId) (a b : Application) (s : Socket) (tick : ℕ) (call : CallIn) (o : Option CallFault)
    (told : Reply → Type 0) → HasCalled a b s tick call o told → HasOpened t s a → HasOpened t s b
opened_calls t a b s tick call None told h is = (
  use_turned t (flow_of a s) h.0.1.flow _ a.pass b.pass (ap (λ (x : Application). x.pass.table) h.1) h.0.1.given is.0,
  ap (λ (x : Application). list_any (is_on s.0) x.sockets) h.1 ∙ is.1,
)
opened_calls t a b s tick call (Some e) told h is = (
  refused_turned t (flow_of a s) e a.pass b.pass (ap (λ (x : Application). x.pass.table) h.1) h.0 is.0,
  ap (λ (x : Application). list_any (is_on s.0) x.sockets) h.1 ∙ is.1,
)

or_true : (b : Bool) → (b || true) ≡ true
or_true true = refl
or_true false = refl

on_last : (f : FlowId) (l : List FlowId) → list_any (is_on f.slot) (l ++ f ∷ []) ≡ true
on_last f l = list_any-append (is_on f.slot) l (f ∷ [])
    ∙ (ap (λ b. list_any (is_on f.slot) l || (b || false)) (eq-eqb f.slot f.slot refl) ∙ or_true _)

pub joined : (t : TableId) (id : FlowId) (tuple : FourTuple) (a b : Application) (s : Socket)
    → IsJoined id tuple a b (Ok s) → IsTurned t a.pass → HasOpened t s b
joined t id tuple a b s j is =
    let e = j.1.3 in
    let table = ap (λ (x : Application). x.pass.table) j.2 ∙ is.0 in
    let turn = still_turn a.pass.view b.pass.view [] (id ∷ []) [] (ap (λ (v : View). v.turns) e) is.1 in
    let listed = ap (λ (x : Application). list_any (is_on s.0) x.sockets) j.2 in
    let here = subst (λ (q : Socket). list_any (is_on q.0) (a.sockets ++ id ∷ []) ≡ true) (sym j.0)
    (on_last id a.sockets) in
    ((table, turn, ap (λ (v : View). v.slow) e ∙ is.2, ap (λ (v : View). v.baton) e ∙ is.3), listed ∙ here)

pub connects : (t : TableId) (tuple : FourTuple) (iss : Seq) (tick : ℕ) (params : HostParams) (a b : Application)
    (s n : Opener) (x : Result Socket SocketError) → IsConnectionAs tuple iss tick params a b s n x
    → IsTurned t a.pass → IfOk x (λ q. HasOpened t q b)
connects t tuple iss tick params a b s n (Ok q) c is = joined t c.0 tuple a b q c.2 is
connects t tuple iss tick params a b s n (Err e) c is = tt

-- nothing is found in an empty list
pub none_found : {A : Type 0} (p q : A → Bool) (l : List A) (X : Type 0) → l ≡ [] → IfNone (find p (filter q l)) X → X
none_found {A} p q l X e found = subst (λ (m : List A). IfNone (find p (filter q m)) X) e found

-- What each step of a call puts into a turn, for the law calls_are_deeds.
use Rattle.std.proofs.Common.{◌≡◌, ℕ, List, [], ◌∷◌, ◌++◌, length, drop, sym, refl, ap, ◌∙◌, subst}
use Rattle.std.proofs.Common.{append_assoc, append-nil}
use Rattle.std.specs.Prelude.{Option, Some, None, Result, Ok, Err}
use Rattle.tas_model.specs.declared.entry.Caller.TheVariants.{App}
use Rattle.tas_model.specs.declared.entry.FlowId.{FlowId}
use Rattle.tas_model.specs.declared.entry.Reply.{Reply}
use Rattle.flow_state.specs.declared.call.CallIn.{CallIn}
use Rattle.flow_state.specs.Flow.{Flow}
use Rattle.flow_lock.specs.Steps.{noted, deeds_of, unpinned}
use Rattle.flow_lock.specs.declared.view.Deed.{Deed}
use Rattle.flow_lock.specs.declared.view.Turn.{Turn}
use Rattle.flow_lock.specs.declared.view.View.{View}
use Rattle.flow_lock.specs.declared.view.History.{History}
use Rattle.app_reaper.specs.OneCall.{history, history_with, IsUse}
use Rattle.app_reaper.specs.declared.one_call.CallFault.{CallFault}
use Rattle.app_reaper.specs.declared.one_call.CallFault.TheVariants.{Busy, OutOfMemory}
use Rattle.libtas_sockets.specs.Answers.{fault_in}
use Rattle.libtas_sockets.specs.Apps.{Application, flow_of, without_socket}
use Rattle.libtas_sockets.specs.Calling.{IsCalled, HasCalled, after_close, after_abort}
use Rattle.libtas_sockets.specs.declared.socket.Socket.{Socket}
use Rattle.libtas_sockets.specs.declared.socket_error.SocketError.{SocketError}
use Rattle.libtas_sockets.specs.declared.socket_error.SocketError.TheVariants as errors
use Rattle.app_deeds.specs.Deeds.{Grows, AreOfCall, HasDone, left_by_close, left_by_abort}

-- ----- turns
pub noted_none : (ts : List Turn) → noted [] [] [] ts ≡ ts
noted_none [] = refl
noted_none (t ∷ ts) =
    λ i. record t {
      deeds = append-nil t.deeds i;
      pinned = append-nil t.pinned i;
      unpinned = append-nil t.unpinned i;
    } ∷ ts

pub noted_then : (ds es : List Deed) (p q l m : List FlowId) (ts : List Turn)
    → noted es q m (noted ds p l ts) ≡ noted (ds ++ es) (p ++ q) (l ++ m) ts
noted_then ds es p q l m [] = refl
noted_then ds es p q l m (t ∷ ts) =
    λ i. record t {
      deeds = append_assoc t.deeds ds es i;
      pinned = append_assoc t.pinned p q i;
      unpinned = append_assoc t.unpinned l m i;
    } ∷ ts

pub grows_same : (v w : View) → w.turns ≡ v.turns → Grows [] [] [] v w
grows_same v w e = e ∙ sym (noted_none v.turns)

pub grows_then : (ds es : List Deed) (p q l m : List FlowId) (v w x : View) → Grows ds p l v w → Grows es q m w x
    → Grows (ds ++ es) (p ++ q) (l ++ m) v x
grows_then ds es p q l m v w x a b = b ∙ (ap (noted es q m) a ∙ noted_then ds es p q l m v.turns)

pub grows_unpinned : (id : FlowId) (v w : View) → w ≡ unpinned id v → Grows [] [] (id ∷ []) v w
grows_unpinned id v w e = ap (λ (x : View). x.turns) e

-- ----- records
pub drop_all : {A : Type 0} (l : List A) → drop (length l) l ≡ []
drop_all [] = refl
drop_all (x ∷ xs) = drop_all xs

pub drop_front : {A : Type 0} (l m : List A) → drop (length l) (l ++ m) ≡ m
drop_front [] m = refl
drop_front (x ∷ xs) m = drop_front xs m

-- what is added to a record that was taken and given back
abbrev pub put_by : FlowId → Flow → History → List Deed
put_by id r after = deeds_of id (history r) (drop (length r.entries) after.entries)

pub put_none : (id : FlowId) (r : Flow) → put_by id r (history r) ≡ []
put_none id r = ap (deeds_of id (history r)) (drop_all r.entries)

pub grows_use : (id : FlowId) (r : Flow) (after : History) (v w : View) → IsUse id r after v w
    → Grows (put_by id r after) [] [] v w
grows_use id r after v w u = ap (λ (x : View). x.turns) u.3

-- ----- a call
called : (id : FlowId) (app tick : ℕ) (call : CallIn) (v w : View) (fault : Option CallFault) (tells : Reply → Type 0)
    → IsCalled id (App app) tick call v w fault tells
    → (ds : List Deed) × AreOfCall app id tick call fault tells ds × Grows ds [] [] v w
called id app tick call v w None tells (reply, e, t) =
    let r : Flow = e.flow in
    let after : History = history_with r (App app) tick call in
    let ds : List Deed = put_by id r after in
    let one : ds ≡ _ = ap (deeds_of id (history r)) (drop_front r.entries _) in (
      ds,
      (_, one, refl, record { legal = e.own.legal; replied = subst tells e.replied t; made = refl }),
      grows_use id r after v w e.given,
    )
called id app tick call v w (Some (Busy x)) tells r = ([], refl, grows_same v w (ap (λ (y : View). y.turns) r.0.1))
called id app tick call v w (Some OutOfMemory) tells (r, own, used) = (
  [],
  refl,
  subst (λ ds. Grows ds [] [] v w) (put_none id r) (grows_use id r (history r) v w used),
)

pub has_called : (a b : Application) (s : Socket) (tick : ℕ) (call : CallIn) (fault : Option CallFault)
    (tells : Reply → Type 0) → HasCalled a b s tick call fault tells
    → HasDone a b s tick call fault tells []
has_called a b s tick call fault tells h =
    called (flow_of a s) a.number tick call a.pass.view b.pass.view fault tells h.0

-- ----- calls that end a socket
-- what Close and Abort leave of the socket
abbrev Leaves : List FlowId → Socket → Application → Application → Application → Type 0
Leaves lost s a m b =
    (ds : List Deed) → Grows ds [] [] a.pass.view m.pass.view → Grows ds [] lost a.pass.view b.pass.view

flow_kept : (a m : Application) (s : Socket) (tick : ℕ) (call : CallIn) (fault : Option CallFault)
    (tells : Reply → Type 0) → HasCalled a m s tick call fault tells → flow_of m s ≡ flow_of a s
flow_kept a m s tick call fault tells h = ap (λ (x : Application). flow_of x s) h.1

left : (a m b : Application) (s : Socket) → flow_of m s ≡ flow_of a s → b ≡ without_socket s m
    → Leaves (flow_of a s ∷ []) s a m b
left a m b s same e ds g =
    let given : Grows [] [] (flow_of a s ∷ []) m.pass.view b.pass.view =
    subst (λ f. Grows [] [] (f ∷ []) m.pass.view b.pass.view) same
    (grows_unpinned (flow_of m s) m.pass.view b.pass.view (ap (λ (x : Application). x.pass.view) e)) in
    subst (λ l. Grows l [] (flow_of a s ∷ []) a.pass.view b.pass.view) (append-nil ds)
    (grows_then ds [] [] [] [] (flow_of a s ∷ []) a.pass.view m.pass.view b.pass.view g given)

stays : (a m b : Application) (s : Socket) → b ≡ m → Leaves [] s a m b
stays a m b s e ds g = subst (λ (x : Application). Grows ds [] [] a.pass.view x.pass.view) (sym e) g

closes : {T : Type 0} (result : Result T SocketError) (a m b : Application) (s : Socket) → flow_of m s ≡ flow_of a s
    → b ≡ after_close result s m → Leaves (left_by_close result (flow_of a s)) s a m b
closes (Ok x) a m b s same e = left a m b s same e
closes (Err x) a m b s same e = stays a m b s e

aborts : {T : Type 0} (result : Result T SocketError) (a m b : Application) (s : Socket) → flow_of m s ≡ flow_of a s
    → b ≡ after_abort result s m → Leaves (left_by_abort result (flow_of a s)) s a m b
aborts (Ok x) a m b s same e = left a m b s same e
aborts (Err (errors.Closed x)) a m b s same e = left a m b s same e
aborts (Err errors.NotYet) a m b s same e = stays a m b s e
aborts (Err errors.NotOpen) a m b s same e = stays a m b s e
aborts (Err errors.Shut) a m b s same e = stays a m b s e
aborts (Err (errors.Busy x)) a m b s same e = stays a m b s e
aborts (Err (errors.Stale x)) a m b s same e = stays a m b s e
aborts (Err (errors.Moved x y)) a m b s same e = stays a m b s e
aborts (Err (errors.Early x)) a m b s same e = stays a m b s e
aborts (Err (errors.SlotInUse x)) a m b s same e = stays a m b s e
aborts (Err (errors.PortInUse x)) a m b s same e = stays a m b s e
aborts (Err errors.NoPort) a m b s same e = stays a m b s e
aborts (Err errors.NoFlowSlot) a m b s same e = stays a m b s e
aborts (Err errors.OutOfMemory) a m b s same e = stays a m b s e

pub has_closed : {T : Type 0} (result : Result T SocketError) (a m b : Application) (s : Socket) (tick : ℕ)
    (call : CallIn) (tells : Reply → Type 0) → HasCalled a m s tick call (fault_in result) tells
    → b ≡ after_close result s m
    → HasDone a b s tick call (fault_in result) tells (left_by_close result (flow_of a s))
has_closed result a m b s tick call tells h e =
    let c = has_called a m s tick call (fault_in result) tells h in
    (c.0, c.1, closes result a m b s (flow_kept a m s tick call (fault_in result) tells h) e c.0 c.2)

pub has_aborted : {T : Type 0} (result : Result T SocketError) (a m b : Application) (s : Socket) (tick : ℕ)
    (call : CallIn) (tells : Reply → Type 0) → HasCalled a m s tick call (fault_in result) tells
    → b ≡ after_abort result s m
    → HasDone a b s tick call (fault_in result) tells (left_by_abort result (flow_of a s))
has_aborted result a m b s tick call tells h e =
    let c = has_called a m s tick call (fault_in result) tells h in
    (c.0, c.1, aborts result a m b s (flow_kept a m s tick call (fault_in result) tells h) e c.0 c.2)

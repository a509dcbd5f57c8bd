-- What a call on a socket puts into the order of deeds, and into the turn that it is made in.
use Rattle.std.specs.Prelude.{◌≡◌, ℕ, List, [], ◌∷◌, Option, Some, None, Result, Ok, Err, length}
use Rattle.tas_model.specs.declared.entry.Caller.TheVariants.{App}
use Rattle.tas_model.specs.declared.entry.FlowId.{FlowId}
use Rattle.tas_model.specs.declared.entry.Reply.{Reply}
use Rattle.tas_model.specs.LegalHistory.{Legal, extended_by}
use Rattle.flow_state.specs.declared.call.CallIn.{CallIn}
use Rattle.flow_state.specs.Calls.{call_of, offer_of, reply_bytes}
use Rattle.flow_state.specs.Flow.{reply_to}
use Rattle.flow_lock.specs.Histories.{longer}
use Rattle.flow_lock.specs.Steps.{noted}
use Rattle.flow_lock.specs.declared.view.Deed.{Deed}
use Rattle.flow_lock.specs.declared.view.View.{View}
use Rattle.app_reaper.specs.declared.one_call.CallFault.{CallFault}
use Rattle.libtas_sockets.specs.Answers.{answer_by}
use Rattle.libtas_sockets.specs.Apps.{Application, flow_of}
use Rattle.libtas_sockets.specs.declared.socket.Socket.{Socket}
use Rattle.libtas_sockets.specs.declared.socket_error.SocketError.{SocketError}
use Rattle.libtas_sockets.specs.declared.socket_error.SocketError.TheVariants as errors

-- The first turn has these deeds more, and these pins that were won and given up.
abbrev pub Grows : List Deed → (won lost : List FlowId) → View → View → Type 0
Grows ds won lost v w = w.turns ≡ noted ds won lost v.turns

-- The deed is this call by this application: the entry is the one that it makes of the history before, which is legal,
-- and `tells` holds of its reply.
pub record IsCall (app tick : ℕ) (call : CallIn) (tells : Reply → Type 0) (d : Deed) : Type 0 where
  pub legal : Legal d.before.params d.before.entries
  pub replied : tells (reply_to d.before.params d.before.entries tick (call_of call) (offer_of call))
  pub made : longer d.before (d.entry ∷ [])
      ≡ record (d.before) {
        entries = extended_by d.before.params d.before.entries (App app) tick (call_of call) (offer_of call);
      }

-- one deed, which is the call, and none where it was refused with a fault
abbrev pub AreOfCall : (app : ℕ) → FlowId → (tick : ℕ) → CallIn → Option CallFault → (tells : Reply → Type 0)
    → List Deed → Type 0
AreOfCall app id tick call None tells ds = (d : Deed) × (ds ≡ d ∷ []) × (d.flow ≡ id) × IsCall app tick call tells d
AreOfCall app id tick call (Some fault) tells ds = ds ≡ []

-- What the call on this socket did in the application's turn: its deed, and pins given up.
abbrev pub HasDone : (before after : Application) → Socket → (tick : ℕ) → CallIn → Option CallFault
    → (tells : Reply → Type 0) → (lost : List FlowId) → Type 0
HasDone a b s tick call fault tells lost =
    (ds : List Deed)
    × AreOfCall a.number (flow_of a s) tick call fault tells ds
    × Grows ds [] lost a.pass.view b.pass.view

-- the pin that Close gives up where it was made
abbrev pub left_by_close : {T : Type 0} → Result T SocketError → FlowId → List FlowId
left_by_close (Ok x) id = id ∷ []
left_by_close (Err e) id = []

-- and Abort, also where the flow was closed
abbrev pub left_by_abort : {T : Type 0} → Result T SocketError → FlowId → List FlowId
left_by_abort (Err (errors.Closed reason)) id = id ∷ []
left_by_abort result id = left_by_close result id

-- ----- what the answers are to the replies of entries
-- how many bytes were taken, or a refusal
abbrev pub tells_sent : Result ℕ SocketError → Reply → Type 0
tells_sent result reply = result ≡ answer_by reply (length (reply_bytes reply))

-- done, or a refusal
abbrev pub tells_done : Result (Unit {0}) SocketError → Reply → Type 0
tells_done result reply = result ≡ answer_by reply tt

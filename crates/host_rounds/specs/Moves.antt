-- What an application may do to its host, step by step.
use Rattle.std.specs.Prelude.{◌≡◌, ℕ, List, [], ◌∷◌, slice_get, Some, IsSome, IfSome, ⊤}
use Rattle.tas_model.specs.declared.entry.FourTuple.{FourTuple}
use Rattle.tas_model.specs.declared.entry.Caller.{Caller}
use Rattle.tas_model.specs.declared.entry.Caller.TheVariants.{Slow, App}
use Rattle.tas_model.specs.declared.entry.Call.{Call}
use Rattle.tas_model.specs.declared.entry.Call.TheVariants as calls
use Rattle.tas_model.specs.LegalHistory.{Offers, shown, step}
use Rattle.host_rounds.specs.declared.log.LogEvent.{LogEvent}
use Rattle.host_rounds.specs.declared.log.LogEvent.TheVariants as events
use Rattle.host_rounds.specs.declared.opening.Start.{Start}
use Rattle.host_rounds.specs.Hosts.{Live, Host, Holder, Application, Listener, Starts, next_start, endpoint}
use Rattle.host_rounds.specs.Hosts.{with_call, logged, at_flow, lowest_free, first_entry, opened_in}
use Rattle.host_rounds.specs.Lists.{Each}
use Rattle.host_rounds.specs.Histories.{HasHistory}
use Rattle.host_rounds.specs.Scripts.{Scripts, Site}

pub data Move : Type 0 where
  Calls : (flow : ℕ) → Caller → Call → (offer : List ℕ) → Move  -- the flow with this opening number makes the call
  Opens : (slot : ℕ) → FourTuple → (app : ℕ) → Move  -- its connect opens a flow
  Notes : LogEvent → Move
  Holds : (flow : ℕ) → Holder → Move  -- the socket of the flow changes hands
  Listens : List Listener → Move  -- its listeners come or go

-- What a move leaves.
abbrev pub moved : Starts → (tick : ℕ) → Host → Move → Host
moved starts t host (Calls n by call offer) = at_flow n (λ (l : Live). with_call l by t call offer) host
moved starts t host (Opens slot tuple app) =
    let start : Start = next_start starts host tuple in
    opened_in host slot tuple start.scale (Application app) (first_entry (App app) t (calls.Connect start.number))
moved starts t host (Notes event) = logged host t event
moved starts t host (Holds n holder) = at_flow n (λ (l : Live). record l { holder = holder }) host
moved starts t host (Listens listeners) = record host { listeners = listeners }

-- ----- which moves there are
-- the calls of an application on a flow that stands; a flow of an application that is killed is aborted by the slow
-- path
abbrev pub IsAppCall : Caller → Call → Type 0
IsAppCall (App k) calls.Accept = ⊤
IsAppCall (App k) calls.Ready = ⊤
IsAppCall (App k) (calls.Send offered) = ⊤
IsAppCall (App k) (calls.Recv most) = ⊤
IsAppCall (App k) calls.Shut = ⊤
IsAppCall (App k) calls.Close = ⊤
IsAppCall (App k) calls.Abort = ⊤
IsAppCall Slow calls.Abort = ⊤
IsAppCall _ _ = ⊥

-- the line tells of a call that concerns no flow, and of no frame
abbrev pub IsCallLine : LogEvent → Type 0
IsCallLine (events.Listen app port ok) = ⊤
IsCallLine (events.AcceptNotYet app port) = ⊤
IsCallLine (events.ConnectRefused app raddr rport no_port) = ⊤
IsCallLine _ = ⊥

-- the call is a step of the flow's endpoint
pub record MayCall (l : Live) (by : Caller) (call : Call) (offer : List ℕ) : Type 0 where
  pub kind : IsAppCall by call
  pub offers : Offers call offer
  pub steps : (t : ℕ) → IsSome (step (endpoint l) t call (shown (endpoint l) offer))

abbrev pub MayMove : Host → Move → Type 0
MayMove host (Calls n by call offer) = IfSome (slice_get host.flows n) (λ l. MayCall l by call offer)
MayMove host (Opens slot tuple app) = lowest_free host ≡ Some slot
MayMove host (Notes event) = IsCallLine event
MayMove host (Holds n holder) = ⊤
MayMove host (Listens listeners) = ⊤

-- these moves, one after the other, lead from one host to the other
abbrev pub AreMoves : Starts → (tick : ℕ) → (before : Host) → List Move → (after : Host) → Type 0
AreMoves starts t before [] after = before ≡ after
AreMoves starts t before (m ∷ ms) after = MayMove before m × AreMoves starts t (moved starts t before m) ms after

-- Whatever these scripts ask is a row of such moves.
abbrev pub AreByMoves : {S A : Type 0} → Scripts S A → Type 0
AreByMoves {S} {A} scripts =
    (t : ℕ) (site : Site S) (a : A) → Each HasHistory site.host.flows
    → (moves : List Move) × AreMoves scripts.starts t site.host moves (scripts.asked t site a).host

-- The lanes of a host in a phase, with what the scripts of its applications ask, and what each lane did in its turn.
use Rattle.std.specs.Prelude.{◌≡◌, ℕ, zero, suc, ◌<◌, Bool, false, List, [], ◌∷◌, ◌++◌, length, Option, Some, None, ⊤}
use Rattle.tas_model.specs.declared.entry.Reply.{Reply}
use Rattle.host_rounds.specs.Deliveries.{Arrival}
use Rattle.host_rounds.specs.Lists.{Each}
use Rattle.host_rounds.specs.Scripts.{Scripts}
use Rattle.flow_lock.specs.Orders.{Order, of, played, same_flow}
use Rattle.flow_lock.specs.declared.view.Deed.{Deed}
use Rattle.flow_lock.specs.declared.view.View.{View}
use Rattle.host_books.specs.Books.{Book, Setting}
use Rattle.host_books.specs.Indexes.{AreIndexed}
use Rattle.host_books.specs.Leavings.{Leaving, LeaveAlike}
use Rattle.host_books.specs.Tries.{Try, IsTry, MayPrecede}
use Rattle.host_books.specs.Words.{AreAllPairs}
use Rattle.libtas_sockets.specs.Apps.{flow_of}
use Rattle.core_phase.specs.Phases.{IsPhase}
use Rattle.core_phase.specs.Words.{IsTryOf}
use Rattle.core_phase.specs.declared.attempt.Attempt.TheVariants as attempts
use Rattle.core_phase.specs.declared.lane.CoreLane.{CoreLane}
use Rattle.core_phase.specs.declared.lane.AppLane.{AppLane}
use Rattle.core_phase.specs.declared.lane.Lane.{Lane}
use Rattle.core_phase.specs.declared.lane.Lane.TheVariants as lanes
use Rattle.lane_orders.specs.Turns.{Did, did_nothing, words_in, IsByWorkers, handed_below, left_below, asked_below}
use Rattle.lane_orders.specs.Turns.{leavings_below}
use Rattle.lane_orders.specs.Ticks.{Phase}
use Rattle.phase_orders.specs.CoreTurns.{IsCoreTurn, arrivals_of, left_by}
use Rattle.phase_orders.specs.AppTurns.{asked_by, app_did, IsLeftBy}

-- ----- before a phase
-- A core with a number below so many, in this tick. It looks at checksums where `check` says so, and what it passed on
-- before was collected.
pub record IsCoreAt (check : Bool) (cores t : ℕ) (l : CoreLane) : Type 0 where
  pub tick : l.tick ≡ t
  pub below : l.worker.core < cores
  pub checks : l.worker.check_sums ≡ check
  pub exceptions : l.worker.exceptions ≡ []
  pub deferred : l.worker.deferred ≡ []

-- an application that tries what its script asks, or nothing where that asks nothing
abbrev pub IsTryBy : {S A : Type 0} → Option (Try S A) → AppLane → Type 0
IsTryBy None l = l.attempt ≡ attempts.Nothing
IsTryBy (Some x) l = IsTryOf l.app.number (flow_of l.app l.socket) l.attempt x

abbrev pub IsSetOut : {S A : Type 0} → (check : Bool) (cores t : ℕ) → Option (Try S A) → Lane → Type 0
IsSetOut check cores t o (lanes.Core l) = (o ≡ None) × IsCoreAt check cores t l
IsSetOut check cores t o (lanes.App l) = (l.tick ≡ t) × IsTryBy o l

-- each lane has what its script asks, where it is an application
abbrev pub AreSetOut : {S A : Type 0} → (check : Bool) (cores t : ℕ) → List (Option (Try S A)) → List Lane → Type 0
AreSetOut check cores t [] [] = ⊤
AreSetOut check cores t [] (l ∷ ls) = ⊥
AreSetOut check cores t (o ∷ os) [] = ⊥
AreSetOut check cores t (o ∷ os) (l ∷ ls) = IsSetOut check cores t o l × AreSetOut check cores t os ls

-- ----- what scripts ask
-- it is an ask of its script as that stands
abbrev pub IsAsk : {S A : Type 0} → Scripts S A → (t : ℕ) → Setting → S → Option (Try S A) → Type 0
IsAsk scripts t s state None = ⊤
IsAsk scripts t s state (Some x) = IsTry scripts t s state x

-- Each leaves the other as it is, whatever it is answered. They are of different flows, and it doesn't matter which of
-- their scripts goes on first.
pub record AreApart {S A : Type 0} (scripts : Scripts S A) (t : ℕ) (x y : Try S A) : Type 0 where
  pub first : MayPrecede scripts t x y
  pub second : MayPrecede scripts t y x
  pub flow : same_flow x.flow y.flow ≡ false
  pub next : (r q : Reply) (state : S) → y.next q (x.next r state) ≡ x.next r (y.next q state)

abbrev pub IsApart : {S A : Type 0} → Scripts S A → (t : ℕ) → Option (Try S A) → Option (Try S A) → Type 0
IsApart scripts t None q = ⊤
IsApart scripts t (Some x) None = ⊤
IsApart scripts t (Some x) (Some y) = AreApart scripts t x y

-- so it is with each two of them
abbrev pub AreAllApart : {S A : Type 0} → Scripts S A → (t : ℕ) → List (Option (Try S A)) → Type 0
AreAllApart scripts t [] = ⊤
AreAllApart scripts t (o ∷ os) = Each (IsApart scripts t o) os × AreAllApart scripts t os

-- ----- a phase
-- The lanes of a host before and after a phase of this tick, what the slow path knows of the flows then, and what the
-- scripts ask of each lane. All that is asked is asked of the host as it is before, whatever else is.
pub record LanePhase {S A : Type 0} (scripts : Scripts S A) (check : Bool) (cores t : ℕ) : Type 0 where
  pub setting : Setting
  pub state : S
  pub asks : List (Option (Try S A))
  pub before : List Lane
  pub after : List Lane
  pub view : View
  pub next : View
  pub phase : IsPhase before after view next
  pub indexed : AreIndexed setting.books view.base
  pub set_out : AreSetOut check cores t asks before
  pub stand : Each (IsAsk scripts t setting state) asks
  pub apart : AreAllApart scripts t asks

-- ----- what a lane did
-- the frames that were handed to it, those that it left, and what it asked
abbrev pub handed_to : Lane → List Arrival
handed_to (lanes.Core l) = arrivals_of l.worker.check_sums l.worker.frames
handed_to (lanes.App l) = []

abbrev pub left_in : Lane → Lane → List Arrival
left_in (lanes.Core v) (lanes.Core w) = left_by v.worker w.worker
left_in v w = []

abbrev pub asked_in : {S A : Type 0} → Option (Try S A) → Lane → List A
asked_in o (lanes.Core l) = []
asked_in o (lanes.App l) = asked_by o l.answer

-- what that leaves of the books and the scripts
abbrev pub IsLeavingIn : {S A : Type 0} → (t : ℕ) → Option (Try S A) → Lane → Lane → List (Leaving S) → Type 0
IsLeavingIn t o (lanes.App v) (lanes.App w) ls = IsLeftBy t o v.attempt w.attempt w.answer ls
IsLeavingIn t o v w ls = ls ≡ []

-- those of all lanes, one lane after the other
abbrev pub all_handed : List Lane → List Arrival
all_handed [] = []
all_handed (v ∷ vs) = handed_to v ++ all_handed vs

abbrev pub all_left : List Lane → List Lane → List Arrival
all_left [] ws = []
all_left (v ∷ vs) [] = []
all_left (v ∷ vs) (w ∷ ws) = left_in v w ++ all_left vs ws

abbrev pub all_asked : {S A : Type 0} → List (Option (Try S A)) → List Lane → List A
all_asked [] ws = []
all_asked (o ∷ os) [] = []
all_asked (o ∷ os) (w ∷ ws) = asked_in o w ++ all_asked os ws

abbrev pub AreLeavings : {S A : Type 0} → (t : ℕ) → List (Option (Try S A)) → List Lane → List Lane
    → List (Leaving S) → Type 0
AreLeavings t [] vs ws ls = ls ≡ []
AreLeavings t (o ∷ os) [] ws ls = ⊥
AreLeavings t (o ∷ os) (v ∷ vs) [] ls = ⊥
AreLeavings {S} t (o ∷ os) (v ∷ vs) (w ∷ ws) ls =
    (a b : List (Leaving S)) × (ls ≡ a ++ b) × IsLeavingIn t o v w a × AreLeavings t os vs ws b

-- its turn, in the words of a run
abbrev pub IsLaneTurn : {S A : Type 0} → (t : ℕ) → List Book → Option (Try S A) → Lane → Lane → List Deed → Did S A
    → Type 0
IsLaneTurn t books o (lanes.Core v) (lanes.Core w) ds d = IsCoreTurn t books v.worker w.worker ds d
IsLaneTurn t books o (lanes.App v) (lanes.App w) ds d = d ≡ app_did o ds
IsLaneTurn t books o v w ds d = ⊥

-- ----- what all lanes did
-- the turn with this name
abbrev pub did_at : {S A : Type 0} → List (Did S A) → ℕ → Did S A
did_at [] p = did_nothing
did_at (d ∷ ds) zero = d
did_at (d ∷ ds) (suc p) = did_at ds p

-- the lanes' turns, in the order of deeds that all did, with names from this one on
abbrev pub AreLaneTurns : {S A : Type 0} → (t : ℕ) → List Book → Order → (p : ℕ) → List (Option (Try S A))
    → List Lane → List Lane → List (Did S A) → Type 0
AreLaneTurns t books order p [] vs ws ds = (vs ≡ []) × (ws ≡ []) × (ds ≡ [])
AreLaneTurns t books order p (o ∷ os) [] ws ds = ⊥
AreLaneTurns t books order p (o ∷ os) (v ∷ vs) [] ds = ⊥
AreLaneTurns t books order p (o ∷ os) (v ∷ vs) (w ∷ ws) [] = ⊥
AreLaneTurns t books order p (o ∷ os) (v ∷ vs) (w ∷ ws) (d ∷ ds) =
    IsLaneTurn t books o v w (of p order) d × AreLaneTurns t books order (suc p) os vs ws ds

-- each was handed the frames that its lane was
abbrev pub AreFramesOf : {S A : Type 0} → List Lane → List (Did S A) → Type 0
AreFramesOf [] [] = ⊤
AreFramesOf [] (d ∷ ds) = ⊥
AreFramesOf (v ∷ vs) [] = ⊥
AreFramesOf (v ∷ vs) (d ∷ ds) = (d.frames ≡ handed_to v) × AreFramesOf vs ds

-- The turns of a phase are those of these lanes, each with the name of its place. They lead to what the slow path knows
-- after it, took and left the frames that the lanes did, asked what these asked, and leave the books and the scripts as
-- these do, whatever their order was.
pub record IsOfLanes {S A : Type 0} {scripts : Scripts S A} {check : Bool} {cores t : ℕ}
    (l : LanePhase scripts check cores t) (p : Phase scripts t) : Type 0 where
  pub setting : p.setting ≡ l.setting
  pub state : p.state ≡ l.state
  pub known : p.known ≡ l.view.base
  pub learned : played p.known p.order ≡ l.next.base
  pub turns : p.turns ≡ length l.before
  pub dids : List (Did S A)
  pub did : p.did ≡ did_at dids
  pub lane_turns : AreLaneTurns t l.setting.books p.order 0 l.asks l.before l.after dids
  pub frames : AreFramesOf l.before dids
  pub workers : (n : ℕ) → IsByWorkers cores (p.did n)
  pub handed : handed_below p.turns p.did ≡ all_handed l.before
  pub left : left_below p.turns p.did ≡ all_left l.before l.after
  pub asked : asked_below p.turns p.did ≡ all_asked l.asks l.after
  pub leave : AreLeavings t l.asks l.before l.after (leavings_below t p.turns p.did)
  pub alike : AreAllPairs (LeaveAlike t) (words_in p.did)

-- How a tick begins: time passes, frames are handed to cores, and applications try the calls of their steps.
use Rattle.std.specs.Prelude.{◌≡◌, ℕ, ◌==◌, Bool, List, map, filter, Option, Some, None}
use Rattle.std.specs.List.{find}
use Rattle.flow_state.specs.Calls.{call_of, offer_of}
use Rattle.flow_state.specs.declared.call.CallIn.{CallIn}
use Rattle.core_phase.specs.declared.lane.Lane.{Lane}
use Rattle.core_phase.specs.declared.lane.Lane.TheVariants as lanes
use Rattle.core_worker.specs.declared.frames.Frame.{Frame}
use Rattle.frame_steering.specs.declared.handing.GroupMove.{GroupMove}
use Rattle.host_books.specs.Books.{Book}
use Rattle.local_host.specs.declared.steer.GroupMove as local
use Rattle.scenario_host.specs.GroupMoves.{is_move_of}
use Rattle.scenario_runs.specs.Applications.{Script}
use Rattle.scenario_text.specs.declared.scenario.MoveLine.{MoveLine}
use Rattle.scenario_text.specs.declared.scenario.Scenario.{Scenario}
use Rattle.script_tries.specs.Tries.{ScriptTry, try_of}
use Rattle.core_host.specs.Attempts.{IsTrying}
use Rattle.core_host.specs.Emission.{AreTriesSet}
use Rattle.core_host.specs.Handing.{IsHandedOut}
use Rattle.core_host.specs.Sharing.{MayAllPlay}
use Rattle.core_host.specs.Steps.{IsTimePassed}
use Rattle.core_host.specs.Ticks.{AreSetTo}
use Rattle.core_host.specs.Views.{Staffed}

-- ----- groups of flows that move
abbrev pub group_move : MoveLine → GroupMove
group_move m = record { group = m.group; core = m.core }

-- a move, as frames are handed out by it
abbrev pub handed_move : local.GroupMove → GroupMove
handed_move m = record { group = m.group; core = m.core }

-- the moves of the tick, by the lines of the scenario, of groups of the host with this name
abbrev pub moves_of : Scenario → (name : List ℕ) → (tick : ℕ) → List GroupMove
moves_of s name t = map group_move (filter (is_move_of name t) s.moves)

-- ----- what is tried
abbrev pub has_number : (number : ℕ) → Script → Bool
has_number n x = x.number == n

-- what the script that was found tries
abbrev pub try_in : (tick : ℕ) → List Book → Option Script → Option ScriptTry
try_in t books None = None
try_in t books (Some x) = try_of t books x

-- what the application of the lane tries, by its script
abbrev pub lane_try : (tick : ℕ) → List Book → List Script → Lane → Option ScriptTry
lane_try t books scripts (lanes.Core l) = None
lane_try t books scripts (lanes.App l) = try_in t books (find (has_number l.app.number) scripts)

-- what each lane tries
abbrev pub tries_of : (tick : ℕ) → List Script → Staffed → List (Option ScriptTry)
tries_of t scripts h = map (lane_try t h.host.books scripts) h.lanes

-- The application tried this, or nothing.
abbrev pub HasTried : (app : ℕ) → Option ScriptTry → (before after : Staffed) → Type 0
HasTried app None before after = after ≡ before
HasTried app (Some x) before after =
    (call : CallIn) × IsTrying app x.flow call before after × (call_of call ≡ x.call) × (offer_of call ≡ x.offer)

-- ----- the step
-- Time passed; the frames that came were handed to cores, while groups moved by the lines of the scenario; and each
-- application tries the call of its step, beside the cores, where that is one on a socket.
pub record IsBegun (s : Scenario) (t : ℕ) (name : List ℕ) (frames : List Frame) (scripts : List Script)
    (before trying : Staffed) : Type 0 where
  pub passed : Staffed
  pub time : IsTimePassed t before passed
  pub handed : Staffed
  pub dealt : IsHandedOut (moves_of s name t) frames passed handed
  pub tries : AreTriesSet handed trying
  pub set : AreSetTo (tries_of t scripts trying) trying.lanes
  pub may : MayAllPlay trying

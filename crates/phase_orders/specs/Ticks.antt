-- A tick of a host whose lanes of cores and applications work side by side in two phases.
use Rattle.std.specs.Prelude.{◌≡◌, ℕ, ◌<◌, Bool, List, [], Option, None, IsPermutation}
use Rattle.host_rounds.specs.Deliveries.{Arrival}
use Rattle.host_rounds.specs.Lists.{Each}
use Rattle.host_rounds.specs.Scripts.{Site, Scripts}
use Rattle.host_rounds.specs.Rounds.{Due, on_host}
use Rattle.host_rounds.specs.SerialOrder.{slow_phase, emit_phase}
use Rattle.core_rounds.specs.SharedTicks.{alone_phase}
use Rattle.core_rounds.specs.Shares.{AreDistinct}
use Rattle.steering.specs.Tables.{Table}
use Rattle.frame_steering.specs.declared.handing.GroupMove.{GroupMove}
use Rattle.host_books.specs.Books.{site_of}
use Rattle.host_books.specs.Leavings.{Leaving, books_after, scripts_after}
use Rattle.host_books.specs.Tries.{Try}
use Rattle.core_worker.specs.declared.frames.Frame.{Frame}
use Rattle.core_phase.specs.declared.lane.Lane.{Lane}
use Rattle.lane_orders.specs.Ticks.{AreTried}
use Rattle.phase_orders.specs.CoreTurns.{arrivals_of}
use Rattle.phase_orders.specs.Lanes.{LanePhase, handed_to, all_left, all_asked, AreLeavings}
use Rattle.phase_orders.specs.Handing.{AreHandedOver}

-- the host and the scripts before a phase, and after it where this is what its asks leave
abbrev pub site_at : {S A : Type 0} → {scripts : Scripts S A} → {check : Bool} → {cores t : ℕ}
    → LanePhase scripts check cores t → Site S
site_at l = site_of l.setting l.view.base l.state

abbrev pub site_with : {S A : Type 0} → {scripts : Scripts S A} → {check : Bool} → {cores t : ℕ}
    → LanePhase scripts check cores t → List (Leaving S) → Site S
site_with l ls =
    site_of (record (l.setting) { books = books_after ls l.setting.books }) l.next.base (scripts_after ls l.state)

-- no frame is handed to the lane
abbrev pub HasNoFrames : Lane → Type 0
HasNoFrames v = handed_to v ≡ []

-- no script asks anything of it
abbrev pub IsSilent : {S A : Type 0} → Option (Try S A) → Type 0
IsSilent o = o ≡ None

-- The frames and asks that are due in a tick, and what is done with them. Who plays the tick shows of each part:
-- * `slow`: the slow path's first turn of the tick, whose time passes once for each flow (`IsTimePassed` of
--   `slow_worker`), each of its calls a move of the host (`calls_alone_are_moves` of `host_books`);
-- * `first`, `second`: what `play_phase` or `play_phases` of `core_phase` ensures, on lanes that were set out with what
--   the scripts ask of the host as it is before;
-- * `handed`: what `hand_out` of `frame_steering` ensures, and that each core's worker was handed those of its core;
-- * `left`: the slow path takes, in whatever order, the frames whose packets break a rule of reading, which are a
--   line each, and those that the cores passed on, as it has collected them (`left_frames_are_collected`);
-- * `tried`: that the scripts of this tick are asked in their order, one ask of each beside the others at most;
-- * `alone`: the slow path's later turns, and the calls of applications, one after the other, each a move of the host;
--   the books and scripts before them are what the asks that were made leave, each by the reply of some legal history
--   that its answer is by;
-- * `idle`, `silent`: the cores were handed nothing for the second phase, and no application tries anything in it;
-- * `made`: the segments that the slow path sends alone.
pub record IsTickOfLanes {S A : Type 0} (scripts : Scripts S A) (check : Bool) (cores t : ℕ) (due : Due A)
    (before after : Site S) : Type 0 where
  pub some : 0 < cores
  pub first : LanePhase scripts check cores t
  pub slow : on_host (slow_phase t) before ≡ site_at first
  pub frames : List Frame
  pub come : arrivals_of check frames ≡ due.frames
  pub distinct : AreDistinct due.frames
  pub tables : List Table
  pub moves : List GroupMove
  pub now : List Table
  pub handed : AreHandedOver cores tables moves frames now first.before
  pub rest : List Arrival
  pub left : IsPermutation (all_left first.before first.after) rest
  pub later : List A
  pub tried : AreTried scripts due.asks (all_asked first.asks first.after) later
  pub second : LanePhase scripts check cores t
  pub alone : (ls : List (Leaving S)) → AreLeavings t first.asks first.before first.after ls
      → alone_phase scripts t (site_with first ls) rest later ≡ site_at second
  pub idle : Each HasNoFrames second.before
  pub silent : Each IsSilent second.asks
  pub made : on_host (emit_phase t) (site_with second []) ≡ after

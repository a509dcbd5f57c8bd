-- What a core did in its turn, in the words of a run.
use Rattle.std.specs.Prelude.{◌≡◌, ℕ, Bool, List, [], ◌∷◌, ◌++◌, map, filter, Option, Some, None, is_some}
use Rattle.segment_fields.specs.declared.segment.Refused.{Refused}
use Rattle.segment_fields.specs.Refusals.{number_of}
use Rattle.segment_fields.specs.Text.{refusal}
use Rattle.tas_model.specs.declared.entry.Caller.TheVariants.{Core}
use Rattle.tas_model.specs.declared.entry.FrameId.{FrameId}
use Rattle.host_rounds.specs.Deliveries.{Arrival}
use Rattle.host_rounds.specs.Lists.{Each}
use Rattle.host_rounds.specs.declared.log.LogLine.{LogLine}
use Rattle.host_rounds.specs.declared.log.LogEvent.TheVariants as events
use Rattle.flow_lock.specs.declared.view.Deed.{Deed}
use Rattle.core_worker.specs.Workers.{Worker}
use Rattle.core_worker.specs.declared.frames.Frame.{Frame}
use Rattle.core_worker.specs.declared.frames.PassedFrame.{PassedFrame}
use Rattle.host_books.specs.Books.{Book}
use Rattle.host_books.specs.Tries.{Word, IsFrameWord, IsSendWord, deed_of}
use Rattle.host_books.specs.Words.{joined}
use Rattle.core_phase.specs.Words.{arrival_of}
use Rattle.lane_orders.specs.Turns.{Did, IsDone, ask_by}

-- ----- frames
-- as they come to the host
abbrev pub arrivals_of : (check : Bool) → List Frame → List Arrival
arrivals_of check fs = map (arrival_of check) fs

abbrev pub frame_in : PassedFrame → Frame
frame_in p = p.frame

-- what the worker passed on: the exceptions, and then the deferred ones
abbrev pub passed_of : Worker → List Frame
passed_of w = map frame_in (w.exceptions ++ w.deferred)

-- its packet breaks a rule of reading
abbrev pub is_broken : (check : Bool) → Frame → Bool
is_broken check f = is_some (refusal check f.packet)

abbrev pub broken_in : (check : Bool) → List Frame → List Frame
broken_in check fs = filter (is_broken check) fs

-- what a worker left of the frames that were handed to it: those that break a rule, and those that it passed on
abbrev pub left_by : Worker → Worker → List Arrival
left_by v w =
    arrivals_of v.check_sums (broken_in v.check_sums v.frames) ++ arrivals_of v.check_sums (passed_of w)

-- ----- lines
-- the line of a frame that breaks this rule, as a list of one, or none
abbrev pub line_for : (tick : ℕ) → FrameId → Option Refused → List LogLine
line_for tick frame None = []
line_for tick frame (Some r) = record { tick = tick; event = events.Refused frame (number_of r) } ∷ []

abbrev pub lines_of : (check : Bool) (tick : ℕ) → List Frame → List LogLine
lines_of check tick fs = joined (λ (f : Frame). line_for tick f.id (refusal check f.packet)) fs

-- ----- a turn
-- the word is by this core, and asks nothing
abbrev pub IsOfCore : {S A : Type 0} → (core : ℕ) → Word S A → Type 0
IsOfCore core w = (w.told.by ≡ Core core) × (ask_by w ≡ []) × (w.tries ≡ [])

-- The turn's words are those of its deeds, and the core's: the frames that it took, and then the segments that it sent.
-- Its frames are those that were handed to it, each taken or left once. Lines of those that break a rule of reading
-- stand in the worker's log.
pub record IsCoreTurn {S A : Type 0} (tick : ℕ) (books : List Book) (v w : Worker) (ds : List Deed) (d : Did S A)
    : Type 0 where
  pub deeds : map deed_of d.words ≡ ds
  pub taken : List (Word S A)
  pub sent : List (Word S A)
  pub words : d.words ≡ taken ++ sent
  pub each_taken : Each (IsFrameWord tick) taken
  pub each_sent : Each (IsSendWord tick books) sent
  pub of_core : Each (IsOfCore v.core) d.words
  pub frames : d.frames ≡ arrivals_of v.check_sums v.frames
  pub left : d.left ≡ left_by v w
  pub done : IsDone tick books d
  pub lines : w.log ≡ v.log ++ lines_of v.check_sums tick (broken_in v.check_sums v.frames)

-- The frames that lanes left, as the slow path collects them: the lines of those whose packets break a rule of reading,
-- then the exceptions of all cores, and then what they deferred.
use Rattle.std.specs.Prelude.{◌≡◌, Bool, List, [], ◌++◌, map}
use Rattle.host_rounds.specs.Deliveries.{Arrival}
use Rattle.host_rounds.specs.declared.log.LogLine.{LogLine}
use Rattle.host_books.specs.Words.{joined}
use Rattle.core_worker.specs.declared.frames.Frame.{Frame}
use Rattle.core_worker.specs.declared.frames.PassedFrame.{PassedFrame}
use Rattle.core_phase.specs.declared.lane.Lane.{Lane}
use Rattle.core_phase.specs.declared.lane.Lane.TheVariants as lanes
use Rattle.phase_orders.specs.CoreTurns.{arrivals_of, frame_in, broken_in}

-- ----- one lane
abbrev pub frames_of : Lane → List Frame
frames_of (lanes.Core l) = l.worker.frames
frames_of (lanes.App l) = []

abbrev pub exceptions_of : Lane → List PassedFrame
exceptions_of (lanes.Core l) = l.worker.exceptions
exceptions_of (lanes.App l) = []

abbrev pub deferred_of : Lane → List PassedFrame
deferred_of (lanes.Core l) = l.worker.deferred
deferred_of (lanes.App l) = []

abbrev pub log_of : Lane → List LogLine
log_of (lanes.Core l) = l.worker.log
log_of (lanes.App l) = []

-- its lines were collected
abbrev pub HasNoLines : Lane → Type 0
HasNoLines v = log_of v ≡ []

-- ----- all lanes
-- of the frames that were handed to them, those whose packets break a rule of reading
abbrev pub all_broken : (check : Bool) → List Lane → List Frame
all_broken check vs = broken_in check (joined frames_of vs)

-- what they passed on
abbrev pub all_passed : List Lane → List PassedFrame
all_passed ws = joined exceptions_of ws ++ joined deferred_of ws

abbrev pub collected : (check : Bool) → (before after : List Lane) → List Arrival
collected check vs ws =
    arrivals_of check (all_broken check vs) ++ arrivals_of check (map frame_in (all_passed ws))

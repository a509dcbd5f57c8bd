-- In how many places of a host's histories and log a frame stands.
use Rattle.std.specs.Prelude.{ℕ, ◌+◌, Bool, false, List, [], ◌∷◌}
use Rattle.tas_model.specs.declared.entry.Entry.{Entry}
use Rattle.tas_model.specs.declared.entry.FrameId.{FrameId}
use Rattle.tas_model.specs.declared.entry.Call.{Call}
use Rattle.tas_model.specs.declared.entry.Call.TheVariants as calls
use Rattle.tas_model.specs.Segments.{one_if}
use Rattle.host_rounds.specs.declared.log.LogLine.{LogLine}
use Rattle.host_rounds.specs.declared.log.LogEvent.{LogEvent}
use Rattle.host_rounds.specs.declared.log.LogEvent.TheVariants as events
use Rattle.host_rounds.specs.Logs.{Flow, HostRun}
use Rattle.host_rounds.specs.Hosts.{Live, Host}
use Rattle.host_rounds.specs.Deliveries.{Arrival, same_frame}

-- ----- one place
-- the call takes this frame
abbrev pub is_call_with : FrameId → Call → Bool
is_call_with f (calls.Passive frame iss seg) = same_frame f frame
is_call_with f (calls.Rx frame seg) = same_frame f frame
is_call_with f _ = false

-- the line of the log is of this frame
abbrev pub is_line_with : FrameId → LogEvent → Bool
is_line_with f (events.Stray frame tuple seg answer) = same_frame f frame
is_line_with f (events.Dropped frame backlog) = same_frame f frame
is_line_with f (events.Refused frame number) = same_frame f frame
is_line_with f _ = false

-- ----- all places
-- in how many entries of a history, and in how many lines of a log
abbrev pub uses_in : FrameId → List Entry → ℕ
uses_in f [] = 0
uses_in f (x ∷ xs) = one_if (is_call_with f x.call) + uses_in f xs

abbrev pub lines_with : FrameId → List LogLine → ℕ
lines_with f [] = 0
lines_with f (l ∷ ls) = one_if (is_line_with f l.event) + lines_with f ls

-- in how many entries of all these flows
abbrev pub uses_flows : FrameId → List Flow → ℕ
uses_flows f [] = 0
uses_flows f (g ∷ gs) = uses_in f g.entries + uses_flows f gs

-- In how many places of a finished run.
abbrev pub uses_hosts : FrameId → List HostRun → ℕ
uses_hosts f [] = 0
uses_hosts f (h ∷ hs) = uses_flows f h.flows + lines_with f h.log + uses_hosts f hs

-- the same while the run goes on
abbrev pub uses_live : FrameId → List Live → ℕ
uses_live f [] = 0
uses_live f (l ∷ ls) = uses_in f l.flow.entries + uses_live f ls

abbrev pub uses : FrameId → Host → ℕ
uses f host = uses_live f host.flows + lines_with f host.log

-- ----- the frames
-- How often this frame comes.
abbrev pub coming : FrameId → List Arrival → ℕ
coming f [] = 0
coming f (x ∷ xs) = one_if (same_frame f x.frame) + coming f xs

-- What the lines of a log's report say.
use Rattle.std.specs.Prelude.{ℕ, ◌+◌, List, [], ◌∷◌, ◌++◌, length, map}
use Rattle.tas_model.specs.declared.entry.Entry.{Entry}
use Rattle.tas_model.specs.declared.entry.HostParams.{HostParams}
use Rattle.tas_model.specs.Endpoint.{phase}
use Rattle.tas_model.specs.LegalHistory.{replay}
use Rattle.tas_model.specs.Outputs.{bytes_read}
use Rattle.host_rounds.specs.declared.log.LogLine.{LogLine}
use Rattle.host_rounds.specs.declared.log.LogEvent.{LogEvent}
use Rattle.host_rounds.specs.declared.log.LogEvent.TheVariants as events
use Rattle.host_rounds.specs.Logs.{Flow, HostRun, RunLog}
use Rattle.report_lines.specs.Events.{Event, Listened, NotAccepted, NotConnected, Strayed, Dropped, Refused}
use Rattle.report_lines.specs.Lines.{Line, Title, Host, Logged, Begins, Made, State, Read, End}

-- The event that a line of a log tells; of a stray's four-tuple it tells nothing.
abbrev pub told_event : LogEvent → Event
told_event (events.Listen app port ok) = Listened app port ok
told_event (events.AcceptNotYet app port) = NotAccepted app port
told_event (events.ConnectRefused app raddr rport no_port) = NotConnected app raddr rport no_port
told_event (events.Stray frame tuple seg answer) = Strayed frame seg answer
told_event (events.Dropped frame backlog) = Dropped frame backlog
told_event (events.Refused frame rule) = Refused frame rule

abbrev pub log_lines : List LogLine → List Line
log_lines log = map (λ (l : LogLine). Logged l.tick (told_event l.event)) log

abbrev pub entry_lines : List Entry → List Line
entry_lines xs = map (λ (x : Entry). Made x) xs

-- the state that these entries lead to, and what they read
abbrev pub end_lines : HostParams → List Entry → List Line
end_lines params h =
    State (phase (replay params h)) (replay params h).reason ∷ Read (length (bytes_read h)) (bytes_read h) ∷ []

-- a flow with this opening number
abbrev pub flow_lines : (number : ℕ) → Flow → List Line
flow_lines n f = Begins n f.id f.tuple ∷ entry_lines f.entries ++ end_lines f.params f.entries

abbrev pub flows_lines : (number : ℕ) → List Flow → List Line
flows_lines n [] = []
flows_lines n (f ∷ fs) = flow_lines n f ++ flows_lines (n + 1) fs

abbrev pub host_lines : (host : ℕ) → HostRun → List Line
host_lines i h = Host i h.addr ∷ log_lines h.log ++ flows_lines 0 h.flows

abbrev pub hosts_lines : (host : ℕ) → List HostRun → List Line
hosts_lines i [] = []
hosts_lines i (h ∷ hs) = host_lines i h ++ hosts_lines (i + 1) hs

-- The lines of the report of a run.
abbrev pub lines_of : RunLog → List Line
lines_of log = Title ∷ hosts_lines 0 log.hosts ++ End log.ticks ∷ []

-- how many flows there are, and how many entries
abbrev pub flows_in : List HostRun → ℕ
flows_in [] = 0
flows_in (h ∷ hs) = length h.flows + flows_in hs

abbrev pub entries_of : List Flow → ℕ
entries_of [] = 0
entries_of (f ∷ fs) = length f.entries + entries_of fs

abbrev pub entries_in : List HostRun → ℕ
entries_in [] = 0
entries_in (h ∷ hs) = entries_of h.flows + entries_in hs

-- How many calls an application makes in a tick, as the histories and the log of its host show.
use Rattle.std.specs.Prelude.{ℕ, ◌+◌, ◌==◌, ◌&&◌, Bool, false, List, [], ◌∷◌}
use Rattle.tas_model.specs.declared.entry.Entry.{Entry}
use Rattle.tas_model.specs.declared.entry.Caller.{Caller}
use Rattle.tas_model.specs.declared.entry.Caller.TheVariants.{App}
use Rattle.tas_model.specs.Segments.{one_if}
use Rattle.host_rounds.specs.declared.log.LogLine.{LogLine}
use Rattle.host_rounds.specs.declared.log.LogEvent.{LogEvent}
use Rattle.host_rounds.specs.declared.log.LogEvent.TheVariants as events
use Rattle.host_rounds.specs.Logs.{Flow, HostRun}

abbrev pub is_by_app : (app : ℕ) → Caller → Bool
is_by_app n (App other) = other == n
is_by_app n _ = false

-- the entry is a call of the application in this tick
abbrev pub is_call_at : (app tick : ℕ) → Entry → Bool
is_call_at n t x = is_by_app n x.caller && x.tick == t

abbrev pub calls_in : (app tick : ℕ) → List Entry → ℕ
calls_in n t [] = 0
calls_in n t (x ∷ xs) = one_if (is_call_at n t x) + calls_in n t xs

abbrev pub calls_of : (app tick : ℕ) → List Flow → ℕ
calls_of n t [] = 0
calls_of n t (f ∷ fs) = calls_in n t f.entries + calls_of n t fs

-- the line tells of a call of the application that concerns no flow
abbrev pub is_told : (app : ℕ) → LogEvent → Bool
is_told n (events.Listen app port ok) = app == n
is_told n (events.AcceptNotYet app port) = app == n
is_told n (events.ConnectRefused app raddr rport no_port) = app == n
is_told n _ = false

abbrev pub told_in : (app tick : ℕ) → List LogLine → ℕ
told_in n t [] = 0
told_in n t (l ∷ ls) = one_if (is_told n l.event && l.tick == t) + told_in n t ls

-- all of them
abbrev pub calls_at : (app tick : ℕ) → HostRun → ℕ
calls_at n t h = calls_of n t h.flows + told_in n t h.log

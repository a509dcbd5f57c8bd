-- Where the lines of a report stand, and what they show of its flows.
use Rattle.std.specs.Prelude.{ℕ, ◌==◌, Bool, true, false, ◌&&◌, List, [], ◌∷◌, ◌++◌, fold}
use Rattle.std.specs.Prelude.{Option, Some, None, if◌then◌else◌}
use Rattle.tas_model.specs.declared.entry.Entry.{Entry}
use Rattle.report_lines.specs.Events.{Event}
use Rattle.report_lines.specs.Lines.{Line, Host, Logged, Begins, Made}
use Rattle.ladder_picture.specs.declared.row.Row.{Row}
use Rattle.report_picture.specs.Rows.{logged_row}
use Rattle.report_picture.specs.declared.flows.Above.{Above}
use Rattle.report_picture.specs.declared.flows.Flow.{Flow}

-- ----- places
-- The host and the flow that a line belongs to are those of the last such lines above it.
abbrev pub nowhere : Above
nowhere = record { host = 0; flow = None }

abbrev pub with_line : Above → Line → Above
with_line a (Host host addr) = record { host = host; flow = None }
with_line a (Begins number id tuple) = record { host = a.host; flow = Some number }
with_line a _ = a

-- what is told along lines, each by itself and by what stands above it
abbrev pub along : {A : Type 0} → (Above → Line → List A) → Above → List Line → List A
along f a [] = []
along f a (l ∷ ls) = f a l ++ along f (with_line a l) ls

-- ----- flows
abbrev pub begun : Above → Line → List Flow
begun a (Begins number id tuple) = record { host = a.host; number = number; tuple = tuple } ∷ []
begun a _ = []

-- The flows that lines of a report begin, in their order.
abbrev pub flows_in : List Line → List Flow
flows_in lines = along begun nowhere lines

-- ----- entries and logs
abbrev pub is_flow : (flow : Option ℕ) → (number : ℕ) → Bool
is_flow None number = false
is_flow (Some flow) number = flow == number

-- the line belongs to this host's flow
abbrev pub is_in : Above → (host number : ℕ) → Bool
is_in a host number = a.host == host && is_flow a.flow number

abbrev pub made : (host number : ℕ) → Above → Line → List Entry
made host number a (Made x) = if is_in a host number then x ∷ [] else []
made host number a _ = []

-- The entries of a host's flow.
abbrev pub entries_in : (host number : ℕ) → List Line → List Entry
entries_in host number lines = along (made host number) nowhere lines

abbrev pub one : Option Row → List Row
one None = []
one (Some r) = r ∷ []

abbrev pub logged : (host : ℕ) → Above → Line → List Row
logged host a (Logged tick event) = if a.host == host then one (logged_row tick event) else []
logged host a _ = []

-- The rows of a host's log.
abbrev pub log_in : (host : ℕ) → List Line → List Row
log_in host lines = along (logged host) nowhere lines

-- What a tick makes of a flow's history.
use Rattle.std.specs.Prelude.{ℕ, Bool, true, false, ◌&&◌, []}
use Rattle.tas_model.specs.declared.entry.Call.{Call}
use Rattle.tas_model.specs.declared.entry.Call.TheVariants as calls
use Rattle.tas_model.specs.declared.entry.Caller.TheVariants.{Slow}
use Rattle.tas_model.specs.ApplicationCalls.{Column, Running, column}
use Rattle.tas_model.specs.Endpoint.{Endpoint, is_closed}
use Rattle.tas_model.specs.LegalHistory.{replay, extended_by}
use Rattle.flow_lock.specs.declared.view.History.{History}
use Rattle.host_rounds.specs.Hosts.{Live}
use Rattle.host_rounds.specs.Upkeep.{is_control_tick}

-- the endpoint that a history leads to
abbrev pub endpoint_of : History → Endpoint
endpoint_of h = replay h.params h.entries

-- it is CLOSED
abbrev pub is_over : History → Bool
is_over h = is_closed (endpoint_of h)

abbrev pub is_running_in : Column → Bool
is_running_in Running = true
is_running_in _ = false

-- it is past SYN-RECEIVED and not CLOSED
abbrev pub is_running : History → Bool
is_running h = is_running_in (column (endpoint_of h))

-- with this call of the slow path entered
abbrev pub with_call : Call → (tick : ℕ) → History → History
with_call call t h = record h { entries = extended_by h.params h.entries Slow t call [] }

abbrev pub with_tick : (tick : ℕ) → History → History
with_tick t h = with_call calls.Tick t h

-- A Control is due behind the Tick: in each tenth tick, of a flow that is then past SYN-RECEIVED and not closed.
abbrev pub is_control_due : (tick : ℕ) → History → Bool
is_control_due t h = is_control_tick h.params.fixed t && is_running (with_tick t h)

abbrev pub controlled_where : (due : Bool) → (tick : ℕ) → History → History
controlled_where true t h = with_call calls.Control t h
controlled_where false t h = h

-- with one Tick, and one Control at once behind it where it is due
abbrev pub timed_by : (tick : ℕ) → History → History
timed_by t h = controlled_where (is_control_due t h) t (with_tick t h)

-- the history of a flow of a host in a run
abbrev pub history_in : Live → History
history_in l = record { tuple = l.flow.tuple; params = l.flow.params; entries = l.flow.entries }

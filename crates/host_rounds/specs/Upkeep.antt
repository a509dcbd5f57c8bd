-- What the host does by itself in a tick: closed flows are given up, time passes, and what may go is sent.
use Rattle.std.specs.Prelude.{ℕ, zero, suc, ◌+◌, ◌%◌, ◌==◌, ◌&&◌, ◌||◌, not, Bool, true, false, [], length, map, nat_lt}
use Rattle.std.specs.Prelude.{Option, Some, None, if◌then◌else◌}
use Rattle.tas_model.specs.declared.entry.Caller.{Caller}
use Rattle.tas_model.specs.declared.entry.Caller.TheVariants.{Core}
use Rattle.tas_model.specs.declared.entry.Call.TheVariants as calls
use Rattle.tas_model.specs.NextSegment.{Going, going}
use Rattle.host_rounds.specs.Hosts.{Live, Host, endpoint, is_over, is_running, is_held, with_call}

-- ----- closed flows
-- A closed flow leaves the index, and where no application holds it, its record is filed and its slot freed.
abbrev pub swept : Live → Live
swept l = if is_over l then record l { indexed = false; filed = l.filed || not (is_held l) } else l

abbrev pub all_swept : Host → Host
all_swept host = record host { flows = map swept host.flows }

-- ----- time
-- The rate of a flow is controlled in each tenth tick, but for a replay's.
abbrev pub is_control_tick : (fixed : Bool) → (tick : ℕ) → Bool
is_control_tick fixed t = not fixed && nat_lt 0 t && t % 10 == 0

abbrev pub controlled_where : (due : Bool) → Caller → (tick : ℕ) → Live → Live
controlled_where true by t l = with_call l by t calls.Control []
controlled_where false by t l = l

-- Control, of a flow that is past SYN-RECEIVED and not closed.
abbrev pub controlled : Caller → (tick : ℕ) → Live → Live
controlled by t l = controlled_where (is_control_tick l.flow.params.fixed t && is_running l) by t l

abbrev pub timed_unless : (over : Bool) → Caller → (tick : ℕ) → Live → Live
timed_unless true by t l = l
timed_unless false by t l = controlled by t (with_call l by t calls.Tick [])

-- One Tick, of a flow that is not closed, and Control at once behind it where it is due.
abbrev pub timed : Caller → (tick : ℕ) → Live → Live
timed by t l = timed_unless (is_over l) by t l

-- ----- emission
abbrev pub emits_where : Option Going → Caller → (tick : ℕ) → Live → Live
emits_where None by t l = l
emits_where (Some g) by t l = with_call l by t calls.Emit []

-- One segment more, where one may go.
abbrev pub emits : Caller → (tick : ℕ) → Live → Live
emits by t l = emits_where (going (endpoint l)) by t l

-- all that may go, sent by core 0, in at most so many segments
abbrev pub quieted_within : (most : ℕ) → (tick : ℕ) → Live → Live
quieted_within zero t l = l
quieted_within (suc most) t l =
    elim (going (endpoint l)) [ None ↦ l | Some g ↦ quieted_within most t (with_call l (Core 0) t calls.Emit []) ]

-- All that may go. A segment takes a byte of the stream at least, but for the SYN, one probe and the FIN, so that so
-- many are enough.
abbrev pub quieted : (tick : ℕ) → Live → Live
quieted t l = quieted_within (length (endpoint l).tx.out + 4) t l

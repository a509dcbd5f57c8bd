-- The lines of a report, each by itself.
use Rattle.std.specs.Prelude.{ℕ, ◌==◌, Bool, not, List, [], ◌∷◌, position, bytes_eq, codes, Option, Some, None}
use Rattle.std.specs.List.{take_while}
use Rattle.tas_model.specs.declared.entry.FlowId.{FlowId}
use Rattle.tas_model.specs.declared.entry.FourTuple.{FourTuple}
use Rattle.tas_model.specs.declared.entry.Entry.{Entry}
use Rattle.tas_model.specs.declared.entry.Phase.{Phase}
use Rattle.tas_model.specs.declared.entry.Phase.TheVariants as phases
use Rattle.tas_model.specs.declared.entry.Reason.{Reason}
use Rattle.report_lines.specs.Fronts.{Reader, with, word, made, after, before, both, one_of, past, u32, u64}
use Rattle.report_lines.specs.Fronts.{hex_bytes}
use Rattle.report_lines.specs.Origins.{reason, addr, socket}
use Rattle.report_lines.specs.Entries.{entry}
use Rattle.report_lines.specs.Events.{Event, event}

-- What a line says.
pub data Line : Type 0 where
  -- the head of a run's report
  Title : Line
  -- the number of a host among those that are named, and its address
  Host : (host addr : ℕ) → Line
  -- a line of a log
  Logged : (tick : ℕ) → Event → Line
  -- a flow's opening number, its slot and its two ends
  Begins : (number : ℕ) → FlowId → FourTuple → Line
  Made : Entry → Line
  State : Phase → Option Reason → Line
  -- how many bytes were read, and which
  Read : (count : ℕ) → (bytes : List ℕ) → Line
  End : (ticks : ℕ) → Line

-- ----- hosts
-- a byte of a word
abbrev pub is_of_word : ℕ → Bool
is_of_word c = not (c == 32)

-- the host of this name by its number
unfoldable pub named : (names : List (List ℕ)) → Reader ℕ
named names text = with (λ h. Some (h, past is_of_word text))
    (position (λ (n : List ℕ). bytes_eq n (take_while is_of_word text)) names)

abbrev pub host_of : ℕ × ℕ → Line
host_of (host, addr) = Host host addr

unfoldable pub host_line : (names : List (List ℕ)) → Reader Line
host_line names = made host_of (after (codes "host ") (both (named names) (after (codes " ") addr)))

-- ----- flows
abbrev pub begins_of : ℕ × (ℕ × (ℕ × ((ℕ × ℕ) × (ℕ × ℕ)))) → Line
begins_of (number, (slot, (generation, (here, there)))) = Begins number
    (record { slot = slot; generation = generation })
    (record { laddr = here.0; lport = here.1; raddr = there.0; rport = there.1 })

unfoldable pub begins : Reader Line
begins = made begins_of (both (after (codes "flow ") u32) (both (after (codes " slot ") u32)
    (both (after (codes ".") u32) (both (after (codes " ") socket) (after (codes " ") socket)))))

-- CLOSED with its reason, and the other states
unfoldable pub closed_state : Reader Line
closed_state = made (λ (why : Reason). State phases.Closed (Some why)) (after (codes "CLOSED ") reason)

abbrev pub late_phases : List (Reader Phase)
late_phases = word (codes "FIN-WAIT-1") phases.FinWait1 ∷ word (codes "FIN-WAIT-2") phases.FinWait2
    ∷ word (codes "CLOSE-WAIT") phases.CloseWait ∷ word (codes "CLOSING") phases.Closing
    ∷ word (codes "LAST-ACK") phases.LastAck ∷ word (codes "TIME-WAIT") phases.TimeWait ∷ []

unfoldable pub late_phase : Reader Phase
late_phase = one_of late_phases

abbrev pub phases_of : List (Reader Phase)
phases_of = word (codes "ESTABLISHED") phases.Established ∷ word (codes "SYN-SENT") phases.SynSent
    ∷ word (codes "SYN-RECEIVED") phases.SynReceived ∷ late_phase ∷ []

unfoldable pub open_phase : Reader Phase
open_phase = one_of phases_of

unfoldable pub state : Reader Line
state = after (codes "state ")
    (one_of (closed_state ∷ made (λ (phase : Phase). State phase None) open_phase ∷ []))

abbrev pub read_of : ℕ × List ℕ → Line
read_of (count, bytes) = Read count bytes

unfoldable pub read : Reader Line
read = made read_of (both (after (codes "read ") u64) (after (codes " ") hex_bytes))

-- ----- lines that begin with a tick
unfoldable pub ticked : (names : List (List ℕ)) → (tick : ℕ) → Reader Line
ticked names tick = one_of (made (λ (x : Entry). Made x) (entry names tick)
    ∷ made (λ (e : Event). Logged tick e) (event names) ∷ [])

unfoldable pub tick_line : (names : List (List ℕ)) → Reader Line
tick_line names text = with (λ tick. after (codes " ") (ticked names tick.0) tick.1) (u32 text)

-- ----- the whole
unfoldable pub end : Reader Line
end = made (λ (ticks : ℕ). End ticks) (before (after (codes "end ") u32) (codes " ticks"))

-- most lines begin with a tick
abbrev pub lines_of : (names : List (List ℕ)) → List (Reader Line)
lines_of names = tick_line names ∷ begins ∷ state ∷ read ∷ host_line names ∷ word (codes "tas run") Title ∷ end ∷ []

unfoldable pub line : (names : List (List ℕ)) → Reader Line
line names = one_of (lines_of names)

abbrev pub alone : Line × List ℕ → Option Line
alone (said, []) = Some said
alone (said, c ∷ cs) = None

-- What a line says, its LF apart; names are those of the hosts.
unfoldable pub line_in : (names : List (List ℕ)) → (text : List ℕ) → Option Line
line_in names text = with alone (line names text)

-- The picture of a connection, by the lines of a report.
use Rattle.std.specs.Prelude.{◌≡◌, ℕ, ◌+◌, ◌%◌, ◌^◌, ◌==◌, Bool, true, false, not, ◌&&◌, List, [], ◌∷◌, ◌++◌, length}
use Rattle.std.specs.Prelude.{fold}
use Rattle.std.specs.Prelude.{slice_get, position, bytes_eq, Option, Some, None, is_some, if◌then◌else◌, ⊤}
use Rattle.std.specs.List.{find}
use Rattle.tas_num.specs.declared.seq.Seq.{Seq}
use Rattle.tas_model.specs.declared.entry.Entry.{Entry}
use Rattle.tas_model.specs.declared.entry.FourTuple.{FourTuple}
use Rattle.report_lines.specs.Lines.{Line}
use Rattle.ladder_picture.specs.declared.row.Row.{Row}
use Rattle.ladder_picture.specs.declared.arrows.Look.{Look}
use Rattle.ladder_picture.specs.Rungs.{rungs_of, with_log}
use Rattle.ladder_picture.specs.Drawing.{End, drawing}
use Rattle.trace_audit.specs.TextLines.{text_lines}
use Rattle.report_picture.specs.Known.{nothing, after}
use Rattle.report_picture.specs.Rows.{rows_of}
use Rattle.report_picture.specs.Flows.{flows_in, entries_in, log_in}
use Rattle.report_picture.specs.Hosts.{Named, hosts_in}
use Rattle.report_picture.specs.Forms.{IsForm, IsFault}
use Rattle.report_picture.specs.declared.choice.Wanted.{Wanted}
use Rattle.report_picture.specs.declared.choice.Wanted.TheVariants as wants
use Rattle.report_picture.specs.declared.flows.Flow.{Flow}
use Rattle.report_picture.specs.declared.known.Known.{Known}
use Rattle.report_picture.specs.declared.rows.Owner.{Owner}
use Rattle.report_picture.specs.declared.pictures.PictureFault.{PictureFault}
use Rattle.report_picture.specs.declared.pictures.PictureFault.TheVariants as faults

-- ----- which flow
abbrev pub is_name : Option (List ℕ) → (name : List ℕ) → Bool
is_name None name = false
is_name (Some own) name = bytes_eq own name

-- it is wanted: the first one, or this host's of this number
unfoldable pub is_wanted : (names : List (List ℕ)) → Wanted → Flow → Bool
is_wanted names wants.First f = true
is_wanted names (wants.Flow host number) f = f.number == number && is_name (slice_get names f.host) host.now

-- the flow that is drawn
abbrev pub chosen : (names : List (List ℕ)) → Wanted → List Flow → Option Flow
chosen names wanted flows = find (is_wanted names wanted) flows

-- ----- the other end
-- the host at the other end, where it is in the report; a replay has one host alone
abbrev pub peer_of : (replay : Bool) → (addrs : List ℕ) → Flow → Option ℕ
peer_of replay addrs f = if replay then None else position (λ a. a == f.tuple.raddr) addrs

abbrev pub is_host : Option ℕ → (host : ℕ) → Bool
is_host None host = false
is_host (Some own) host = own == host

-- two four-tuples are one connection's, seen from both ends
abbrev pub are_ends : (one other : FourTuple) → Bool
are_ends one other = one.laddr == other.raddr && one.lport == other.rport && one.raddr == other.laddr
    && one.rport == other.lport

abbrev pub is_same_flow : (one other : Flow) → Bool
is_same_flow one other = one.host == other.host && one.number == other.number

unfoldable pub is_other_end : (peer : Option ℕ) → (drawn : Flow) → Flow → Bool
is_other_end peer drawn f =
    is_host peer f.host && are_ends drawn.tuple f.tuple && not (is_same_flow drawn f)

-- the first flow of that host with the same ends
abbrev pub other_end : (peer : Option ℕ) → (drawn : Flow) → List Flow → Option Flow
other_end peer drawn flows = find (is_other_end peer drawn) flows

-- ----- what is shown of an end
-- its entries
abbrev pub shown_entries : Option Flow → List Line → List Entry
shown_entries None lines = []
shown_entries (Some f) lines = entries_in f.host f.number lines

-- what they tell
abbrev pub known_by : List Entry → Known
known_by entries = fold after nothing entries

-- their rows; hosts are few, so that their numbers are those of frames
abbrev pub rows_from : Owner → Known → List Entry → List Row
rows_from o k [] = []
rows_from o k (x ∷ xs) = rows_of o k x ++ rows_from o (after k x) xs

abbrev pub owner : Flow → Owner
owner f = record { host = f.host % 2 ^ 32; flow = f.number }

abbrev pub shown_rows : Option Flow → List Line → List Row
shown_rows None lines = []
shown_rows (Some f) lines = rows_from (owner f) nothing (entries_in f.host f.number lines)

-- the rows of its host's log
abbrev pub shown_log : (host : Option ℕ) → List Line → List Row
shown_log None lines = []
shown_log (Some host) lines = log_in host lines

-- ----- the ladder
abbrev pub or_0 : Option ℕ → ℕ
or_0 None = 0
or_0 (Some n) = n

abbrev pub number_of : Option Flow → Option ℕ
number_of None = None
number_of (Some f) = Some f.number

-- the rows of the flow that is drawn, and of its log what tells of frames of the other end
abbrev pub left_rows : (drawn : Flow) → (peer : Option ℕ) → (other : Option Flow) → List Line → List Row
left_rows drawn peer other lines =
    with_log (shown_rows (Some drawn) lines) (log_in drawn.host lines) (or_0 peer) (number_of other)

-- and the other way round
abbrev pub right_rows : (drawn : Flow) → (peer : Option ℕ) → (other : Option Flow) → List Line → List Row
right_rows drawn peer other lines =
    with_log (shown_rows other lines) (shown_log peer lines) drawn.host (Some drawn.number)

-- ----- how it is drawn
abbrev pub zero_number : Seq
zero_number = record { 0 = 0 }

abbrev pub or_zero : Option Seq → Seq
or_zero None = zero_number
or_zero (Some s) = s

-- the first number of the other end: its own, or the one that came
abbrev pub first_of_peer : (ours theirs : Known) → Seq
first_of_peer ours theirs = if theirs.begun then theirs.iss else or_zero ours.peer

abbrev pub look : (absolute : Bool) → (peer : Option ℕ) → (ours theirs : Known) → Look
look absolute peer ours theirs = record {
  both = is_some peer;
  left = if absolute then zero_number else ours.iss;
  right = if absolute then zero_number else first_of_peer ours theirs;
}

-- the name of a host, or nothing where it is not in the report
abbrev pub name_of : Option (List ℕ) → List ℕ
name_of None = []
name_of (Some name) = name

abbrev pub peer_name : (names : List (List ℕ)) → (peer : Option ℕ) → List ℕ
peer_name names None = []
peer_name names (Some host) = name_of (slice_get names host)

abbrev pub left_end : (names : List (List ℕ)) → Flow → End
left_end names f =
    record { name = name_of (slice_get names f.host); addr = f.tuple.laddr; port = f.tuple.lport }

abbrev pub right_end : (names : List (List ℕ)) → (peer : Option ℕ) → Flow → End
right_end names peer f = record { name = peer_name names peer; addr = f.tuple.raddr; port = f.tuple.rport }

-- The picture of a flow with its other end.
abbrev pub drawn_text : (names : List (List ℕ)) → (absolute : Bool) → Flow → (peer : Option ℕ)
    → (other : Option Flow) → List Line → List ℕ
drawn_text names absolute f peer other lines =
    drawing (look absolute peer (known_by (shown_entries (Some f) lines)) (known_by (shown_entries other lines)))
    absolute (left_end names f) (right_end names peer f)
    (rungs_of (left_rows f peer other lines) (right_rows f peer other lines))

abbrev pub flow_text : Named → (absolute : Bool) → Flow → List Line → List ℕ
flow_text n absolute f lines = drawn_text n.names absolute f (peer_of n.replay n.addrs f)
    (other_end (peer_of n.replay n.addrs f) f (flows_in lines)) lines

-- ----- the whole
-- The text is a report that has the flow that is wanted, and this is the picture of it.
pub record IsPicture (text : List ℕ) (wanted : Wanted) (absolute : Bool) (picture : List ℕ) : Type 0 where
  pub lines : List Line
  pub form : IsForm text lines
  pub flow : Flow
  pub chosen : chosen (hosts_in text).names wanted (flows_in lines) ≡ Some flow
  pub shown : picture ≡ flow_text (hosts_in text) absolute flow lines

-- The text is a report without the flow that is wanted; the number is that of the line past the last.
pub record IsAbsent (text : List ℕ) (wanted : Wanted) (number : ℕ) : Type 0 where
  pub lines : List Line
  pub form : IsForm text lines
  pub chosen : chosen (hosts_in text).names wanted (flows_in lines) ≡ None
  pub place : number ≡ length (text_lines text) + 1

-- Why there is no picture; want of memory is free.
abbrev pub IsUndrawn : (text : List ℕ) → (wanted : Wanted) → PictureFault → Type 0
IsUndrawn text wanted faults.OutOfMemory = ⊤
IsUndrawn text wanted (faults.Refused line) = IsFault text line
IsUndrawn text wanted (faults.Absent line) = IsAbsent text wanted line

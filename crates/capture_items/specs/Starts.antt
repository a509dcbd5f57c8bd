-- What a capture's flows get at their opening, as it is kept.
use Rattle.std.specs.Prelude.{◌≡◌, ℕ, ◌*◌, ◌%◌, ◌^◌, ◌==◌, ◌&&◌, Bool, List, length, Option, Some, None, if◌then◌else◌}
use Rattle.std.specs.List.{slice_get, list_any}
use Rattle.std.specs.HashMap.{get}
use Rattle.std.specs.HashSet.{contains}
use Rattle.std.specs.Map.{lookup}
use Rattle.std.specs.Option.{unwrap_or}
use Rattle.tas_model.specs.declared.entry.FourTuple.{FourTuple}
use Rattle.tas_runs.specs.Records.{Content, Item}
use Rattle.host_rounds.specs.declared.opening.Start.{Start}
use Rattle.host_rounds.specs.Hosts.{Starts, same_tuple}
use Rattle.tas_runs.specs.Starts.{local_syns, local_syn, limited, with_new}
use Rattle.capture_items.specs.declared.starts.Turn.{Turn}
use Rattle.capture_items.specs.declared.starts.Known.{Known}
use Rattle.capture_items.specs.declared.starts.Numbering.{Numbering}

-- ----- keys are equal where all their fields are
abbrev pub equal_tuple : FourTuple → FourTuple → Bool
equal_tuple a b = a.laddr == b.laddr && (a.lport == b.lport && (a.raddr == b.raddr && a.rport == b.rport))

abbrev pub same_turn : Turn → Turn → Bool
same_turn a b = equal_tuple a.tuple b.tuple && a.place == b.place

abbrev pub same_known : Known → Known → Bool
same_known a b = equal_tuple a.tuple b.tuple && a.number == b.number

-- ----- what is kept
-- what is kept of a four-tuple at this place
abbrev pub syn_at : List (Turn × Start) → FourTuple → (place : ℕ) → Option Start
syn_at kept tuple place = lookup (same_turn (record { tuple = tuple; place = place })) kept

-- What is kept are the local SYN segments among the items: of a four-tuple's different numbers, each at its place.
abbrev pub AreStartsOf : List Item → List (Turn × Start) → Type 0
AreStartsOf items kept = (tuple : FourTuple) (place : ℕ)
    → syn_at kept tuple place ≡ slice_get (local_syns items tuple) place

-- the start by the segment that is kept, or else that of the n-th flow of the host
abbrev pub start_or : (n : ℕ) → Option Start → Start
start_or n (Some syn) = limited syn
start_or n None = record { number = record { 0 = 64000 * n % 2 ^ 32 }; scale = None }

-- the starts that these give
abbrev pub kept_starts : List (Turn × Start) → Starts
kept_starts kept tuple k n = start_or n (syn_at kept tuple k)

-- ----- while the records are gone through
-- what a local SYN segment of this four-tuple shows, in a packet and in a record that may be passed over
abbrev pub syn_in : FourTuple → Option Content → Option Start
syn_in tuple None = None
syn_in tuple (Some content) = local_syn tuple content

abbrev pub syn_of : FourTuple → Option Item → Option Start
syn_of tuple None = None
syn_of tuple (Some x) = local_syn tuple x.content

-- the segments with one more, where there is one
abbrev pub with_one : List Start → Option Start → List Start
with_one list None = list
with_one list (Some syn) = with_new list syn

-- what a segment shows for one four-tuple, where it has a four-tuple and is a SYN
abbrev pub syn_for : FourTuple → Option (FourTuple × Start) → Option Start
syn_for tuple None = None
syn_for tuple (Some found) = if same_tuple tuple found.0 then Some found.1 else None

-- how many different numbers the four-tuple has
abbrev pub count_in : Numbering → FourTuple → ℕ
count_in s tuple = unwrap_or (get equal_tuple s.counts tuple) 0

-- The four-tuple has these SYN segments so far.
pub record AreOf (s : Numbering) (tuple : FourTuple) (list : List Start) : Type 0 where
  pub counted : count_in s tuple ≡ length list
  pub known : (n : ℕ) → contains same_known s.known (record { tuple = tuple; number = n })
      ≡ list_any (λ (syn : Start). syn.number.0 == n) list
  pub syns : (place : ℕ) → syn_at s.syns.entries tuple place ≡ slice_get list place

-- The calls of the local application, which a replay takes from the capture: what the host's own segments show is
-- offered and ended, and all that comes is read.
use Rattle.std.specs.Prelude.{ℕ, ◌+◌, ◌-◌, ◌%◌, ◌^◌, ◌&&◌, ◌||◌, not, Bool, true, false, List, [], ◌∷◌, ◌++◌, length}
use Rattle.std.specs.Prelude.{take, drop, map, filter_map, nat_le, position, slice_get, get_or, Option, Some, None}
use Rattle.std.specs.Prelude.{if◌then◌else◌}
use Rattle.tas_num.specs.Places.{raised}
use Rattle.tas_model.specs.declared.entry.FourTuple.{FourTuple}
use Rattle.tas_model.specs.declared.entry.FrameId.{FrameId}
use Rattle.tas_model.specs.declared.entry.Seg.{Seg}
use Rattle.tas_model.specs.declared.entry.Caller.{Caller}
use Rattle.tas_model.specs.declared.entry.Caller.TheVariants.{App}
use Rattle.tas_model.specs.declared.entry.Call.TheVariants as calls
use Rattle.tas_model.specs.Segments.{is_fin, is_syn, is_rst, is_ack, one_if}
use Rattle.host_rounds.specs.declared.log.LogEvent.TheVariants as events
use Rattle.host_rounds.specs.declared.opening.Start.{Start}
use Rattle.host_rounds.specs.Lists.{change_at}
use Rattle.host_rounds.specs.Hosts.{Live, Host, Application, GivenUp, Starts, next_start, endpoint, is_over}
use Rattle.host_rounds.specs.Hosts.{is_opening, is_running, is_held, with_call, logged, is_known, is_indexed_as}
use Rattle.host_rounds.specs.Hosts.{at_flow, lowest_free, first_entry, opened_in}
use Rattle.host_rounds.specs.Deliveries.{Arrival}
use Rattle.host_rounds.specs.Deliveries.{Damaged as damaged, Segment as segment}
use Rattle.host_rounds.specs.Scripts.{Scripts, Site}
use Rattle.host_rounds.specs.Rounds.{Due, on_host}
use Rattle.tas_runs.specs.Records.{Content, Damaged, Remote, Local, Item, is_remote}
use Rattle.tas_runs.specs.Starts.{first_start}

-- ----- what a capture's script is
-- What is done for the flow of a record, in this order. Each stage makes at most one call.
pub data Stage : Type 0 where
  Beginning : Stage  -- Connect where there is no flow; and what the segment shows is seen
  Accepting : Stage
  Sending : Stage
  Shutting : Stage
  Aborting : Stage
  Receiving : Stage
  Leaving : Stage  -- the socket of a closed flow is given up, which is no call

abbrev pub stages : List Stage
stages = Beginning ∷ Accepting ∷ Sending ∷ Shutting ∷ Aborting ∷ Receiving ∷ Leaving ∷ []

-- One stage of a record's script.
pub record Asking : Type 0 where
  pub stage : Stage
  pub item : Item

-- What the capture showed of a flow's local stream so far.
pub record Shown : Type 0 where
  pub pending : List ℕ  -- the bytes that no Send took yet
  pub ends : Bool  -- it showed a local FIN
  pub shut : Bool  -- and the stream was ended for it

abbrev pub nothing_shown : Shown
nothing_shown = record { pending = []; ends = false; shut = false }

-- One for each flow, by its opening; of a new flow nothing was shown.
abbrev pub all_shown : List Live → List Shown → List Shown
all_shown [] shown = shown
all_shown (l ∷ ls) [] = nothing_shown ∷ all_shown ls []
all_shown (l ∷ ls) (s ∷ shown) = s ∷ all_shown ls shown

-- the one application of the host
abbrev pub the_app : Caller
the_app = App 0

-- ----- what a local segment shows
-- Its bytes from the first place not yet pending or sent on, where it has one there. `known` bytes were shown before,
-- so that this place is `known` + 1. The segment's own is read as the
-- nearest to it; it may be negative, so that both are counted 2^32 higher. The payload of a SYN follows it.
abbrev pub fresh_bytes : (iss : ℕ) → Seg → (known : ℕ) → List ℕ
fresh_bytes iss seg known =
    let wanted : ℕ = known + 1 + 2 ^ 32 in
    let first : ℕ = raised (known + 1) ((seg.head.seq.0 + (2 ^ 32 - iss)) % 2 ^ 32) + one_if (is_syn seg) in
    if nat_le first wanted then drop (wanted - first) seg.bytes else []

-- How many bytes wait at most: as many as a Send may offer. Those past them are not seen yet, and are fresh where the
-- capture shows them again.
abbrev pub most_pending : ℕ
most_pending = 2 ^ 32 - 1

abbrev pub sees : Seg → Live → Shown → Shown
sees seg l s =
    let known : ℕ = length (endpoint l).tx.out + length s.pending in
    record s {
      pending = take most_pending (s.pending ++ fresh_bytes (endpoint l).iss seg known);
      ends = s.ends || is_fin seg;
    }

-- ----- Connect
-- a SYN without ACK is what an application's connect sends
abbrev pub connects : Seg → Bool
connects seg = is_syn seg && not (is_ack seg)

-- Connect opens a flow in the lowest free slot, which the application holds, or is refused where no slot is free.
abbrev pub opened_by_connect : (free : Option ℕ) → (start : Start) (tick : ℕ) → Host → FourTuple → Host
opened_by_connect None start t host tuple = logged host t (events.ConnectRefused 0 tuple.raddr tuple.rport false)
opened_by_connect (Some slot) start t host tuple =
    opened_in host slot tuple start.scale (Application 0) (first_entry the_app t (calls.Connect start.number))

abbrev pub connected_where : (wanted : Bool) → (start : Start) (tick : ℕ) → Host → FourTuple → Host
connected_where true start t host tuple = opened_by_connect (lowest_free host) start t host tuple
connected_where false start t host tuple = host

-- where the segment is a SYN of the host's own and no flow has its four-tuple
abbrev pub connected : Starts → (tick : ℕ) → FourTuple → Seg → Host → Host
connected starts t tuple seg host =
    connected_where (connects seg && not (is_known host tuple)) (next_start starts host tuple) t host tuple

-- ----- the calls of a flow
-- past SYN-SENT and SYN-RECEIVED, in a flow that was accepted or connected; CLOSED is past them too
abbrev pub is_served : Live → Bool
is_served l = is_held l && not (is_opening l)

abbrev pub is_empty : List ℕ → Bool
is_empty [] = true
is_empty (b ∷ bs) = false

-- a local segment with RST
abbrev pub resets_here : Content → Bool
resets_here (Local tuple seg) = is_rst seg
resets_here _ = false

-- Whether the stage's call is made, after the calls of the stages before it.
abbrev pub is_wanted : Stage → Content → Shown → Live → Bool
is_wanted Accepting content s l = not (is_held l) && is_running l
is_wanted Sending content s l = is_served l && not (is_empty s.pending)
is_wanted Shutting content s l = is_served l && s.ends && is_empty s.pending && not s.shut
is_wanted Aborting content s l = resets_here content && (is_held l || is_opening l)
is_wanted Receiving content s l = is_remote content && is_served l
is_wanted _ content s l = false

-- The stage's call. A Send offers all pending bytes.
abbrev pub asked : Stage → (tick : ℕ) → Shown → Live → Live
asked Accepting t s l = record (with_call l the_app t calls.Accept []) { holder = Application 0 }
asked Sending t s l = with_call l the_app t (calls.Send (length s.pending)) s.pending
asked Shutting t s l = with_call l the_app t calls.Shut []
asked Aborting t s l = with_call l the_app t calls.Abort []
asked Receiving t s l = with_call l the_app t (calls.Recv 65535) []
asked _ t s l = l

abbrev pub asked_where : (wanted : Bool) → Stage → (tick : ℕ) → Shown → Live → Live
asked_where true stage t s l = asked stage t s l
asked_where false stage t s l = l

-- the application gives up the socket of a closed flow
abbrev pub given_up : Live → Live
given_up l = if is_over l && is_held l then record l { holder = GivenUp } else l

abbrev pub at_stage : Stage → (tick : ℕ) → Content → Shown → Live → Live
at_stage Leaving t content s l = given_up l
at_stage stage t content s l = asked_where (is_wanted stage content s l) stage t s l

-- how many bytes a call added to the stream
abbrev pub added : (before after : Live) → ℕ
added before after = length (endpoint after).tx.out - length (endpoint before).tx.out

-- What is shown after the stage: a segment's own bytes are, those that a Send took no longer wait, and a stream is
-- ended once.
abbrev pub shown_after : Stage → (tick : ℕ) → Content → Live → Shown → Shown
shown_after Beginning t (Local tuple seg) l s = sees seg l s
shown_after Sending t content l s = record s { pending = drop (added l (at_stage Sending t content s l)) s.pending }
shown_after Shutting t content l s = record s { shut = s.shut || is_wanted Shutting content s l }
shown_after _ t content l s = s

-- ----- one stage
-- the flow with this opening number, where there is one
abbrev pub served_at : (place : ℕ) → Option Live → Stage → (tick : ℕ) → Content → Site (List Shown) → Site (List Shown)
served_at n None stage t content site = site
served_at n (Some l) stage t content site =
    let shown : List Shown = all_shown site.host.flows site.scripts in
    record {
      host = at_flow n (at_stage stage t content (get_or shown n nothing_shown)) site.host;
      scripts = change_at n (shown_after stage t content l) shown;
    }

abbrev pub served_where : (place : Option ℕ) → Stage → (tick : ℕ) → Content → Site (List Shown) → Site (List Shown)
served_where None stage t content site = site
served_where (Some n) stage t content site = served_at n (slice_get site.host.flows n) stage t content site

-- the flow that the index has under this four-tuple, where there is one
abbrev pub served_flow : Stage → (tick : ℕ) → Content → FourTuple → Site (List Shown) → Site (List Shown)
served_flow stage t content tuple site =
    served_where (position (is_indexed_as tuple) site.host.flows) stage t content site

-- The stage of a record: Beginning is that of a local segment alone.
abbrev pub served_content : Starts → Stage → (tick : ℕ) → Content → Site (List Shown) → Site (List Shown)
served_content starts stage t (Damaged rule) site = site
served_content starts Beginning t (Remote tuple seg) site = site
served_content starts Beginning t (Local tuple seg) site =
    served_flow Beginning t (Local tuple seg) tuple (on_host (connected starts t tuple seg) site)
served_content starts stage t (Remote tuple seg) site = served_flow stage t (Remote tuple seg) tuple site
served_content starts stage t (Local tuple seg) site = served_flow stage t (Local tuple seg) tuple site

-- ----- the scripts
abbrev pub capture_scripts : List Item → Scripts (List Shown) Asking
capture_scripts items =
    record {
      starts = first_start items;
      agent = λ (a : Asking). a.item.number;
      asked = λ (t : ℕ) (site : Site (List Shown)) (a : Asking).
          served_content (first_start items) a.stage t a.item.content site;
    }

-- the frame that a record of the capture is
abbrev pub record_frame : (number : ℕ) → FrameId
record_frame n = record { host = 2 ^ 32 - 1; flow = 2 ^ 32 - 1; number = n; copy = 0 }

abbrev pub arrival_by : (number : ℕ) → Content → Option Arrival
arrival_by n (Damaged rule) = Some (record { frame = record_frame n; packet = damaged rule })
arrival_by n (Remote tuple seg) = Some (record { frame = record_frame n; packet = segment tuple seg })
arrival_by n (Local tuple seg) = None

abbrev pub arrival_of : Item → Option Arrival
arrival_of x = arrival_by x.number x.content

-- The frames among these records: what the host sent itself does not come to it.
abbrev pub arrivals_in : List Item → List Arrival
arrivals_in items = filter_map arrival_of items

-- the script of a record, all its stages
abbrev pub asks_of : Item → List Asking
asks_of x = map (λ (stage : Stage). record { stage = stage; item = x }) stages

abbrev pub asks_in : List Item → List Asking
asks_in [] = []
asks_in (x ∷ xs) = asks_of x ++ asks_in xs

-- What is due in the tick of a batch.
abbrev pub due_in : (batch : List Item) → Due Asking
due_in batch = record { frames = arrivals_in batch; asks = asks_in batch }

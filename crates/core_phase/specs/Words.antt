-- Deeds of lanes in the words of a run.
use Rattle.std.specs.Prelude.{◌≡◌, ℕ, Bool, List, [], ◌∷◌, Option, Some, None}
use Rattle.segment_fields.specs.declared.segment.Refused.{Refused}
use Rattle.segment_fields.specs.Refusals.{number_of}
use Rattle.segment_fields.specs.Fields.{Fields}
use Rattle.segment_fields.specs.Text.{fields_in, refusal}
use Rattle.tas_model.specs.declared.entry.Caller.TheVariants.{Core, Slow}
use Rattle.tas_model.specs.declared.entry.FlowId.{FlowId}
use Rattle.tas_model.specs.declared.entry.FourTuple.{FourTuple}
use Rattle.tas_model.specs.declared.entry.Seg.{Seg}
use Rattle.flow_lock.specs.declared.view.Deed.{Deed}
use Rattle.host_rounds.specs.Deliveries.{Arrival, Packet, Damaged, Segment}
use Rattle.host_rounds.specs.Rounds as rounds
use Rattle.host_books.specs.Books.{Book}
use Rattle.host_books.specs.Tries.{Try, Word, place_of}
use Rattle.core_worker.specs.declared.frames.Frame.{Frame}
use Rattle.core_phase.specs.Attempts.{IsCallOf, offer_in}
use Rattle.core_phase.specs.declared.attempt.Attempt.{Attempt}

-- ----- what comes in a frame
-- the four-tuple as the host has it to which the segment comes
abbrev pub tuple_in : Fields → FourTuple
tuple_in f = record { laddr = f.dst; lport = f.dport; raddr = f.src; rport = f.sport }

abbrev pub seg_in : Fields → Seg
seg_in f = record {
  head = record {
    flags = f.flags;
    seq = record { 0 = f.seq };
    ack = record { 0 = f.ack };
    window = f.window;
    mss = f.mss;
    scale = f.scale;
  };
  bytes = f.payload;
}

-- a packet that breaks this rule of reading, or a segment
abbrev pub packet_by : Option Refused → List ℕ → Packet
packet_by (Some r) b = Damaged (number_of r)
packet_by None b = Segment (tuple_in (fields_in b)) (seg_in (fields_in b))

abbrev pub arrival_of : (check : Bool) → Frame → Arrival
arrival_of check f = record { frame = f.id; packet = packet_by (refusal check f.packet) f.packet }

-- ----- words
-- a frame that a core took, and a segment that it sent
abbrev pub frame_word : {S A : Type 0} → (check : Bool) (core : ℕ) → Frame → Deed → Word S A
frame_word check core f d =
    record { deed = d; told = record { by = Core core; action = rounds.Frame (arrival_of check f) }; tries = [] }

abbrev pub send_word : {S A : Type 0} → List Book → (core : ℕ) → Deed → Word S A
send_word books core d =
    record { deed = d; told = record { by = Core core; action = rounds.Emission (place_of d.flow books) }; tries = [] }

-- what an application asked
abbrev pub try_word : {S A : Type 0} → Try S A → Deed → Word S A
try_word x d = record { deed = d; told = record { by = Slow; action = rounds.Ask (x.ask) }; tries = x ∷ [] }

-- what is asked is what was tried: on this flow by this application
pub record IsTryOf {S A : Type 0} (app : ℕ) (id : FlowId) (attempt : Attempt) (x : Try S A) : Type 0 where
  pub app_is : x.app ≡ app
  pub flow : x.flow ≡ id
  pub call_is : IsCallOf attempt x.call
  pub offer : x.offer ≡ offer_in attempt

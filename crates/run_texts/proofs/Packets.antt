-- A packet in its record.
use Rattle.std.proofs.Common.{◌⊎◌, inl, inr, Bool, false, refl, ◌≡◌, ◌≤◌, ◌<◌, nat_lt, ◌++◌, [], ℕ, nat_le, true, cond}
use Rattle.std.proofs.Common.{List, length, take, ap, sym, ◌∙◌, arith}
use Rattle.std.proofs.Math.Seq.{take-append_seam}
use Rattle.std.proofs.lemmas.Grind.{common_steps}
use Rattle.tas_num.specs.Captures.{record_bytes}
use Rattle.segment_fields.specs.Canon.{canon, canon_len}
use Rattle.segment_fields.proofs.RoundTrip.{length-canon}
use Rattle.tas_model.specs.declared.entry.FourTuple.{FourTuple}
use Rattle.tas_model.specs.declared.entry.Seg.{Seg}
use Rattle.tas_runs.specs.SentFrames.{sent_fields}
use Rattle.flow_state.specs.Views.{seen_seg}
use Rattle.run_texts.specs.declared.frames.Frame.{Frame}
use Rattle.run_texts.specs.Frames.{segment_record, sent_record, seen_frame, frame_before}

fits : (n : ℕ) → n ≤ 65487 → nat_le n 65487 ≡ true
fits n h = grind (arith, common_steps, h)

-- what was written of a segment's packet, behind its head
packet_record : (t n : ℕ) (tuple : FourTuple) (seg : Seg) (buf rest : List ℕ) → length seg.bytes ≤ 65487
    → buf ≡ canon (sent_fields tuple seg) ++ rest → n ≡ canon_len (sent_fields tuple seg) → record_bytes t (take n buf)
    ≡ segment_record t tuple seg
packet_record t n tuple seg buf rest small is len =
    let text : List ℕ = canon (sent_fields tuple seg) in
    let size : n ≡ length text = len ∙ sym (length-canon (sent_fields tuple seg)) in
    let front : take n buf ≡ text = ap (λ b. take n b) is
    ∙ (ap (λ m. take m (text ++ rest)) size ∙ take-append_seam text rest) in
    ap (record_bytes t) front ∙ sym (ap (λ b. cond b (record_bytes t text) []) (fits (length seg.bytes) small))

sooner : (n ticks : ℕ) → n < ticks → nat_lt n ticks ≡ true
sooner n ticks h = grind (arith, common_steps, h)

pub frame_packet : (ticks n : ℕ) (f : Frame) (buf rest : List ℕ) → f.tick < ticks → length f.seg.bytes.now ≤ 65487
    → buf ≡ canon (sent_fields f.tuple (seen_seg f.seg)) ++ rest → n ≡ canon_len (sent_fields f.tuple (seen_seg f.seg))
    → record_bytes f.tick (take n buf) ≡ frame_before ticks f
frame_packet ticks n f buf rest soon small is len =
    packet_record f.tick n f.tuple (seen_seg f.seg) buf rest small is len
    ∙ sym (ap (λ b. cond b (sent_record (seen_frame f)) []) (sooner f.tick ticks soon))

-- a frame of a later tick, or one that no packet has room for
pub no_record : (ticks : ℕ) (f : Frame) → (ticks ≤ f.tick) ⊎ (65487 < length f.seg.bytes.now)
    → [] ≡ frame_before ticks f
no_record ticks f (inl late) = sym (ap (λ b. cond b (sent_record (seen_frame f)) []) (later f.tick ticks late))
  where
    later : (t ticks : ℕ) → ticks ≤ t → nat_lt t ticks ≡ false
    later t ticks h = grind (arith, common_steps, h)
no_record ticks f (inr long) = none (nat_lt f.tick ticks)
  where
    large : (n : ℕ) → 65487 < n → nat_le n 65487 ≡ false
    large n h = grind (arith, common_steps, h)

    none : (b : Bool) → [] ≡ cond b (sent_record (seen_frame f)) []
    none true = sym (ap (λ b. cond b (record_bytes f.tick (canon (sent_fields f.tuple (seen_seg f.seg)))) [])
        (large (length f.seg.bytes.now) long))
    none false = refl

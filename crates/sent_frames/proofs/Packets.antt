-- The packet of a segment, cut out of the room that was taken for it.
use Rattle.std.proofs.Common.{◌≡◌, ◌++◌, ℕ, List, length, take, ap, sym, ◌∙◌}
use Rattle.std.proofs.Math.Seq.{take-append_seam}
use Rattle.segment_fields.specs.Canon.{canon, canon_len}
use Rattle.segment_fields.specs.Fields.{Fields}
use Rattle.segment_fields.proofs.RoundTrip.{length-canon}

pub packet_cut : (f : Fields) (n : ℕ) (buf rest : List ℕ) → buf ≡ canon f ++ rest → n ≡ canon_len f
    → take n buf ≡ canon f
packet_cut f n buf rest is len = ap (λ b. take n b) is
    ∙ (ap (λ m. take m (canon f ++ rest)) (len ∙ sym (length-canon f)) ∙ take-append_seam (canon f) rest)

-- the same of the memory that the room is in
pub kept_whole : (xs ys : List ℕ) (n : ℕ) → n ≡ length xs → take n (xs ++ ys) ≡ xs
kept_whole xs ys n is = ap (λ m. take m (xs ++ ys)) is ∙ take-append_seam xs ys

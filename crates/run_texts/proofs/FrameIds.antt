-- The texts that frames are shown by, and those around them.
use Rattle.std.proofs.Common.{◌≡◌, ◌==◌, ◌^◌, ◌-◌, ℕ, false, cond, List, [], ◌∷◌, ◌++◌, codes, decimal, Result, IsErr}
use Rattle.std.proofs.Common.{refl, ap, subst, sym, append_assoc}
use Rattle.tas_num.specs.declared.outside.IoFault.{IoFault}
use Rattle.tas_model.specs.declared.entry.FrameId.{FrameId}
use Rattle.tas_runs.specs.Report.{name_at, flow_text, copy_text, frame_text}
use Rattle.tas_num.specs.Streams.{SinkState}
use Rattle.run_texts.specs.Writes.{Writes}
use Rattle.run_texts.proofs.Writing.{stopped_at}

-- ----- a frame
-- what follows the name of its host
abbrev pub place_text : FrameId → List ℕ
place_text f = codes ":" ++ flow_text f.flow ++ codes "." ++ decimal f.number ++ copy_text f.copy

behind : (a b c d e f : List ℕ) → a ++ (b ++ c ++ d ++ e ++ f) ≡ a ++ b ++ c ++ d ++ e ++ f
behind a b c d e f = simp append_assoc refl

abbrev pub named_text : (names : List (List ℕ)) → FrameId → List ℕ
named_text names f = name_at names f.host ++ codes ":" ++ flow_text f.flow ++ codes "." ++ decimal f.number
    ++ copy_text f.copy

pub named : (names : List (List ℕ)) (f : FrameId) → name_at names f.host ++ place_text f ≡ named_text names f
named names f = behind (name_at names f.host) (codes ":") (flow_text f.flow) (codes ".") (decimal f.number)
    (copy_text f.copy)

pub host_frame : (names : List (List ℕ)) (f : FrameId) → (f.host == 2 ^ 32 - 1) ≡ false
    → named_text names f ≡ frame_text names f
host_frame names f h = sym (ap (λ b. cond b (codes "r:" ++ decimal f.number) (named_text names f)) h)

-- ----- texts one after the other
pub three_behind : (a b c d : List ℕ) → a ++ (b ++ (c ++ d)) ≡ a ++ b ++ c ++ d
three_behind a b c d = simp append_assoc refl

abbrev pub joined : List ℕ → List (List ℕ) → List ℕ
joined x [] = x
joined x (y ∷ ys) = joined (x ++ y) ys

-- A text that was not written, and all that were to follow it.
pub stopped_before : {v w : List ℕ} (a b : SinkState) (r q : Result (Unit {0}) IoFault) (x : List ℕ)
    (ys : List (List ℕ)) → IsErr r → r ≡ q → Writes a v q b w x → Writes a v r b w (joined x ys)
stopped_before {v} {w} a b r q x [] h same first =
    subst (λ (s : Result (Unit {0}) IoFault). Writes a v s b w x) (sym same) first
stopped_before a b r q x (y ∷ ys) h same first =
    stopped_before a b r r (x ++ y) ys h refl (stopped_at a b r q x y h same first)

-- The words of a report's lines have no LF.
use Rattle.std.proofs.Common.{◌≡◌, ℕ, ◌<◌, ◌/◌, ◌%◌, ◌^◌, ◌||◌, true, false, eqb, List, []}
use Rattle.std.proofs.Common.{◌∷◌}
use Rattle.std.proofs.Common.{◌++◌, Option, Some, None, refl, ap, arith, inl, inr, ◌-◌}
use Rattle.std.proofs.lemmas.Bool.{and_parts}
use Rattle.std.proofs.lemmas.Bool.Decides.{nat_tests}
use Rattle.std.specs.Prelude.{decimal, codes, slice_get, IfSome}
use Rattle.std.specs.Fmt.{digit_glyph}
use Rattle.std.specs.List.{list_all}
use Rattle.segment_fields.specs.ControlBits.{fin, syn, rst, psh, ack, urg, ece, cwr, has}
use Rattle.tas_model.specs.declared.entry.FourTuple.{FourTuple}
use Rattle.tas_model.specs.declared.entry.FrameId.{FrameId}
use Rattle.tas_model.specs.declared.entry.Head.{Head}
use Rattle.tas_model.specs.declared.entry.Seg.{Seg}
use Rattle.tas_model.proofs.Tests.{on_cond}
use Rattle.tas_runs.specs.Report.{hex_bytes, hex, data_text, letter, letters, flags_text, mss_text, scale_text}
use Rattle.tas_runs.specs.Report.{head_text, seg_text, name_at, flow_text, copy_text, frame_text, addr_text, port_text}
use Rattle.tas_runs.specs.Report.{tuple_text}
use Rattle.scenario_text.specs.Words.{is_letter, is_digit}
use Rattle.report_lines.specs.Shown.{AreBytes, IsHead, IsSeg, AreNames, IsFrame}
use Rattle.audited_runs.proofs.OneLine.{is_inner, lacks, IsOneLine, word, ◌◂◌, number}

-- ----- bytes and segments
glyph_inner : (n : ℕ) → n < 16 → is_inner (digit_glyph false n) ≡ true
glyph_inner n h = grind (arith, nat_tests, h)

hex_lack : (bytes : List ℕ) → AreBytes bytes → lacks (hex_bytes bytes) ≡ true
hex_lack [] h = refl
hex_lack (b ∷ bs) h =
    let high : is_inner (digit_glyph false (b / 16)) ≡ true = glyph_inner (b / 16) (omega (arith, h.0)) in
    let low : is_inner (digit_glyph false (b % 16)) ≡ true = glyph_inner (b % 16) (omega arith) in
    rw (high, low, hex_lack bs h.1) refl

pub hex_line : (bytes : List ℕ) → AreBytes bytes → IsOneLine (hex bytes)
hex_line [] h = word _ refl
hex_line (b ∷ bs) h = word _ (hex_lack (b ∷ bs) h)

data_line : (bytes : List ℕ) → AreBytes bytes → IsOneLine (data_text bytes)
data_line [] h = word _ refl
data_line (b ∷ bs) h = word (codes " data ") refl ◂ word (hex_bytes (b ∷ bs)) (hex_lack (b ∷ bs) h)

letter_line : (f bit : ℕ) (text : List ℕ) → IsOneLine text → IsOneLine (letter f bit text)
letter_line f bit text one = on_cond IsOneLine (has f bit) text [] (λ t. one) (λ t. word [] refl)

letters_line : (f : ℕ) → IsOneLine (letters f)
letters_line f =
    letter_line f cwr (codes "C") (word _ refl) ◂ letter_line f ece (codes "E") (word _ refl)
    ◂ letter_line f urg (codes "U") (word _ refl) ◂ letter_line f ack (codes "A") (word _ refl)
    ◂ letter_line f psh (codes "P") (word _ refl) ◂ letter_line f rst (codes "R") (word _ refl)
    ◂ letter_line f syn (codes "S") (word _ refl) ◂ letter_line f fin (codes "F") (word _ refl)

flags_line : (f : ℕ) → IsOneLine (flags_text f)
flags_line f = on_cond IsOneLine (eqb f 0) (codes "-") (letters f) (λ t. word _ refl) (λ t. letters_line f)

mss_line : (mss : Option ℕ) → IfSome mss (λ m. m < 2 ^ 16) → IsOneLine (mss_text mss)
mss_line None h = word _ refl
mss_line (Some m) h = word (codes " mss ") refl ◂ number m (omega (arith, h))

scale_line : (scale : Option ℕ) → IfSome scale (λ s. s < 2 ^ 8) → IsOneLine (scale_text scale)
scale_line None h = word _ refl
scale_line (Some s) h = word (codes " ws ") refl ◂ number s (omega (arith, h))

pub head_line : (h : Head) → IsHead h → IsOneLine (head_text h)
head_line h is =
    flags_line h.flags ◂ word (codes " seq ") refl ◂ number h.seq.0 (omega (arith, is.seq))
    ◂ word (codes " ack ") refl ◂ number h.ack.0 (omega (arith, is.ack)) ◂ word (codes " win ") refl
    ◂ number h.window (omega (arith, is.window)) ◂ mss_line h.mss is.mss ◂ scale_line h.scale is.scale

pub seg_line : (s : Seg) → IsSeg s → IsOneLine (seg_text s)
seg_line s is = head_line s.head is.head ◂ data_line s.bytes is.bytes

-- ----- names
plain_inner : (c : ℕ) → (is_letter c || is_digit c) ≡ true → is_inner c ≡ true
plain_inner c e = grind (arith, nat_tests, e)

plain_lack : (name : List ℕ) → list_all (λ (c : ℕ). is_letter c || is_digit c) name ≡ true → lacks name ≡ true
plain_lack [] e = refl
plain_lack (c ∷ cs) e =
    let parts : ((is_letter c || is_digit c) ≡ true) × (list_all (λ (d : ℕ). is_letter d || is_digit d) cs ≡ true) =
    and_parts (is_letter c || is_digit c) (list_all (λ (d : ℕ). is_letter d || is_digit d) cs) e in
    rw (plain_inner c parts.0, plain_lack cs parts.1) refl

pub name_line : (names : List (List ℕ)) (host : ℕ) → AreNames names → IsOneLine (name_at names host)
name_line names host ok = by_name (slice_get names host) refl where
  by_name : (o : Option (List ℕ)) → slice_get names host ≡ o
      → IsOneLine (elim o [ None ↦ codes "-" | Some name ↦ name ])
  by_name None e = word _ refl
  by_name (Some name) e = word name (plain_lack name (ok.plain host name e))

flow_line : (n : ℕ) → n < 2 ^ 32 → IsOneLine (flow_text n)
flow_line n h = on_cond IsOneLine (eqb n (2 ^ 32 - 1)) (codes "x") (decimal n) (λ t. word _ refl)
    (λ t. number n (omega (arith, h)))

copy_line : (n : ℕ) → IsOneLine (copy_text n)
copy_line n = on_cond IsOneLine (eqb n 0) [] (codes "+") (λ t. word _ refl) (λ t. word _ refl)

record_line : (n : ℕ) → n < 2 ^ 64 → IsOneLine (codes "r:" ++ decimal n)
record_line n h = word (codes "r:") refl ◂ number n h

frame_number : (names : List (List ℕ)) (f : FrameId) → IsFrame names f → f.number < 2 ^ 64
frame_number names f (inl sent) = sent.number
frame_number names f (inr is) = is.number

frame_flow : (names : List (List ℕ)) (f : FrameId) → IsFrame names f → f.flow < 2 ^ 32
frame_flow names f (inl sent) = sent.flow
frame_flow names f (inr is) = (let same : f.flow ≡ 2 ^ 32 - 1 = ap (λ (g : FrameId). g.flow) is.is in omega (
  arith,
  same,
))

pub frame_line : (names : List (List ℕ)) (f : FrameId) → AreNames names → IsFrame names f
    → IsOneLine (frame_text names f)
frame_line names f ok is =
    on_cond IsOneLine (eqb f.host (2 ^ 32 - 1)) (codes "r:" ++ decimal f.number)
    (name_at names f.host ++ codes ":" ++ flow_text f.flow ++ codes "." ++ decimal f.number ++ copy_text f.copy)
    (λ t. record_line f.number (frame_number names f is))
    (λ t. name_line names f.host ok ◂ word (codes ":") refl ◂ flow_line f.flow (frame_flow names f is)
    ◂ word (codes ".") refl ◂ number f.number (frame_number names f is) ◂ copy_line f.copy)

pub addr_line : (addr : ℕ) → addr < 2 ^ 32 → IsOneLine (addr_text addr)
addr_line addr h =
    number (addr / 16777216) (omega (arith, h)) ◂ word (codes ".") refl ◂ number (addr / 65536 % 256) (omega arith)
    ◂ word (codes ".") refl ◂ number (addr / 256 % 256) (omega arith) ◂ word (codes ".") refl
    ◂ number (addr % 256) (omega arith)

pub port_line : (addr port : ℕ) → addr < 2 ^ 32 → port < 2 ^ 16 → IsOneLine (port_text addr port)
port_line addr port a p =
    addr_line addr a ◂ word (codes ":") refl ◂ number port (omega (arith, p))

pub tuple_line : (t : FourTuple) → t.laddr < 2 ^ 32 → t.lport < 2 ^ 16 → t.raddr < 2 ^ 32 → t.rport < 2 ^ 16
    → IsOneLine (tuple_text t)
tuple_line t la lp ra rp =
    port_line t.laddr t.lport la lp ◂ word (codes " ") refl ◂ port_line t.raddr t.rport ra rp

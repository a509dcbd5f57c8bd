-- Segments at the front of a text.
use Rattle.std.specs.Prelude.{ℕ, ◌+◌, ◌==◌, List, [], ◌∷◌, codes, Option, Some, None, if◌then◌else◌}
use Rattle.segment_fields.specs.ControlBits.{fin, syn, rst, psh, ack, urg, ece, cwr}
use Rattle.tas_model.specs.declared.entry.Head.{Head}
use Rattle.tas_model.specs.declared.entry.Seg.{Seg}
use Rattle.report_lines.specs.Fronts.{Reader, word, made, after, both, maybe, u8, u16, u32, some_hex}

-- the flags that were read, and what is left of the text
abbrev pub Letters : Type 0
Letters = ℕ × List ℕ

-- one bit more, where its letter comes next
unfoldable pub letter_at : (bit letter : ℕ) → Letters → Letters
letter_at bit letter (flags, []) = (flags, [])
letter_at bit letter (flags, c ∷ cs) = if c == letter then (flags + bit, cs) else (flags, c ∷ cs)

-- the letters C E U A P R S F, each where its bit is set
unfoldable pub letters_at : (text : List ℕ) → Letters
letters_at text = letter_at fin 70 (letter_at syn 83 (letter_at rst 82 (letter_at psh 80 (letter_at ack 65
    (letter_at urg 85 (letter_at ece 69 (letter_at cwr 67 (0, text))))))))

abbrev pub flags_of : Letters → Option (ℕ × List ℕ)
flags_of l = if l.0 == 0 then word (codes "-") 0 l.1 else Some l

-- the flags: their letters, or `-` for none
unfoldable pub flags : Reader ℕ
flags text = flags_of (letters_at text)

-- a segment without its payload, from its parts
abbrev pub HeadParts : Type 0
HeadParts = ℕ × (ℕ × (ℕ × (ℕ × (Option ℕ × Option ℕ))))

abbrev pub head_of : HeadParts → Head
head_of (flags, (seq, (ack, (window, (mss, scale))))) =
    record {
      flags = flags;
      seq = record { 0 = seq };
      ack = record { 0 = ack };
      window = window;
      mss = mss;
      scale = scale;
    }

unfoldable pub head : Reader Head
head = made head_of (both flags (both (after (codes " seq ") u32) (both (after (codes " ack ") u32)
    (both (after (codes " win ") u16) (both (maybe (codes " mss ") u16) (maybe (codes " ws ") u8))))))

-- a payload, where one is shown
abbrev pub payload_of : Option (List ℕ) → List ℕ
payload_of None = []
payload_of (Some bytes) = bytes

unfoldable pub payload : Reader (List ℕ)
payload = made payload_of (maybe (codes " data ") some_hex)

-- a segment
abbrev pub seg_of : Head × List ℕ → Seg
seg_of (head, bytes) = record { head = head; bytes = bytes }

unfoldable pub seg : Reader Seg
seg = made seg_of (both head payload)

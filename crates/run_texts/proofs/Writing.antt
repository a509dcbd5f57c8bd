-- What several writes do, one after the other.
use Rattle.std.proofs.Common.{IsTrue, ◌≡◌, ◌==◌, codes, ℕ, ◌+◌, ◌-◌, ◌≤◌, ◌/◌, ◌%◌, false, [], ◌∷◌, ◌++◌, List, take}
use Rattle.std.proofs.Common.{drop, length, Result, Ok, Err, IsErr, take-append-drop, refl, ap, subst, sym, ◌∙◌}
use Rattle.std.proofs.Common.{append_assoc, append-nil, arith}
use Rattle.std.proofs.Math.Seq.{take-add}
use Rattle.std.proofs.lemmas.Bool.{false≢true}
use Rattle.std.proofs.KnownBytes.{Appends-nil, Appends-trans}
use Rattle.tas_num.specs.declared.outside.IoFault.{IoFault}
use Rattle.std.specs.Fmt.{digit_glyph}
use Rattle.tas_runs.specs.Report.{hex_bytes, hex, data_text}
use Rattle.tas_num.specs.Streams.{SinkState, Counts, Wrote}
use Rattle.run_texts.specs.Writes.{Writes}

-- A text, and a text behind it.
pub wrote_then : {v w u : List ℕ} (a b c : SinkState) (r : Result (Unit {0}) IoFault) (x y : List ℕ)
    → Writes a v (Ok tt) b w x → Writes b w r c u y → Writes a v r c u (x ++ y)
wrote_then {v} {w} {u} a b c r x y before after =
    let first = before.wrote in
    let second = after.wrote in
    let f = first.front in
    let left : f ++ w ≡ v ++ x = ap (λ t. f ++ t) (sym first.whole) ∙ first.split in
    let all : f ++ (w ++ y) ≡ v ++ (x ++ y) =
    sym (append_assoc f w y) ∙ (ap (λ t. t ++ y) left ∙ append_assoc v x y) in
    record {
      wrote = record {
        front = f ++ second.front;
        rest = second.rest;
        split = append_assoc f second.front second.rest ∙ (ap (λ t. f ++ t) second.split ∙ all);
        grown = Appends-trans a.held b.held c.held f second.front first.grown second.grown;
        whole = second.whole;
        counts = subst (λ n. Counts n r c.faults) first.counts second.counts;
        memory = λ e. subst IsTrue first.same (second.memory e);
        same = second.same ∙ first.same;
      };
    }

-- Nothing was to be written.
pub wrote_nothing : (a : SinkState) (v : List ℕ) → Writes a v (Ok tt) a v []
wrote_nothing a v =
    record {
      wrote = record {
        front = [];
        rest = v;
        split = sym (append-nil v);
        grown = Appends-nil a.held;
        whole = refl;
        counts = refl;
        memory = λ e. absurd (cc e);
        same = refl;
      };
    }

-- what was written of a text is so much of a longer one
split_before : (f g v x y : List ℕ) → f ++ g ≡ v ++ x → f ++ (g ++ y) ≡ v ++ (x ++ y)
split_before f g v x y e = sym (append_assoc f g y) ∙ (ap (λ t. t ++ y) e ∙ append_assoc v x y)

-- A text that was not written, and whatever was to follow it.
pub stopped : {v w : List ℕ} (a b : SinkState) (r : Result (Unit {0}) IoFault) (x y : List ℕ) → IsErr r
    → Writes a v r b w x → Writes a v r b w (x ++ y)
stopped {v} {w} a b (Err f) x y e before =
    let first = before.wrote in
    record {
      wrote = record {
        front = first.front;
        rest = first.rest ++ y;
        split = split_before first.front first.rest v x y first.split;
        grown = first.grown;
        whole = tt;
        counts = first.counts;
        memory = first.memory;
        same = first.same;
      };
    }
stopped a b (Ok x) _ _ e _ = absurd (false≢true e)

-- All that waited went to the sink.
pub flushed : (a b : SinkState) (r : Result (Unit {0}) IoFault) (v w u : List ℕ) → w ≡ v → u ≡ [] → Wrote a r b w []
    → Writes a v r b u []
flushed a b r v w u e none first =
    let whole = subst (λ t. Wrote a r b t []) (e ∙ sym (append-nil v)) first in
    record { wrote = subst (λ t. Wrote a r b (v ++ []) t) (sym none) whole }

-- A front of what waited went to the sink.
pub broken : (a b : SinkState) (r : Result (Unit {0}) IoFault) (v w u : List ℕ) → IsErr r → w ≡ v → Wrote a r b w []
    → Writes a v r b u []
broken a b (Err f) v w u _ e first =
    let same = subst (λ t. Wrote a (Err f) b t []) (e ∙ sym (append-nil v)) first in
    record {
      wrote = record {
        front = same.front;
        rest = same.rest;
        split = same.split;
        grown = same.grown;
        whole = tt;
        counts = same.counts;
        memory = same.memory;
        same = same.same;
      };
    }
broken a b (Ok x) v w u h _ _ = absurd (false≢true h)

-- Bytes that were put behind those that wait.
pub put_behind : {v w : List ℕ} (a b : SinkState) (x y waiting : List ℕ) → waiting ≡ w ++ y
    → Writes a v (Ok tt) b w x → Writes a v (Ok tt) b waiting (x ++ y)
put_behind {v} {w} a b x y waiting more before =
    let first = before.wrote in
    record {
      wrote = record {
        front = first.front;
        rest = first.rest ++ y;
        split = split_before first.front first.rest v x y first.split;
        grown = first.grown;
        whole = ap (λ t. t ++ y) first.whole ∙ sym more;
        counts = first.counts;
        memory = first.memory;
        same = first.same;
      };
    }

-- eight texts behind bytes, one after the other
pub eight_behind : (w0 w1 w2 w3 w4 w5 w6 w7 w8 a b c d e f g h : List ℕ) → w1 ≡ w0 ++ a → w2 ≡ w1 ++ b → w3 ≡ w2 ++ c
    → w4 ≡ w3 ++ d → w5 ≡ w4 ++ e → w6 ≡ w5 ++ f → w7 ≡ w6 ++ g → w8 ≡ w7 ++ h
    → w8 ≡ w0 ++ (a ++ b ++ c ++ d ++ e ++ f ++ g ++ h)
eight_behind w0 w1 w2 w3 w4 w5 w6 w7 w8 a b c d e f g h e1 e2 e3 e4 e5 e6 e7 e8 =
    two w7 w8 (a ++ b ++ c ++ d ++ e ++ f ++ g) h
    (two w6 w7 (a ++ b ++ c ++ d ++ e ++ f) g
    (two w5 w6 (a ++ b ++ c ++ d ++ e) f
    (two w4 w5 (a ++ b ++ c ++ d) e (two w3 w4 (a ++ b ++ c) d (two w2 w3 (a ++ b) c (two w1 w2 a b e1 e2) e3) e4)
    e5) e6) e7) e8
  where
    two : (v w x y : List ℕ) → v ≡ w0 ++ x → w ≡ v ++ y → w ≡ w0 ++ (x ++ y)
    two v w x y first second = second ∙ ap (λ t. t ++ y) first ∙ append_assoc w0 x y

-- and one more
pub nine_behind : (w0 w1 w2 w3 w4 w5 w6 w7 w8 w9 a b c d e f g h i : List ℕ) → w1 ≡ w0 ++ a → w2 ≡ w1 ++ b
    → w3 ≡ w2 ++ c → w4 ≡ w3 ++ d → w5 ≡ w4 ++ e → w6 ≡ w5 ++ f → w7 ≡ w6 ++ g → w8 ≡ w7 ++ h → w9 ≡ w8 ++ i
    → w9 ≡ w0 ++ (a ++ b ++ c ++ d ++ e ++ f ++ g ++ h ++ i)
nine_behind w0 w1 w2 w3 w4 w5 w6 w7 w8 w9 a b c d e f g h i e1 e2 e3 e4 e5 e6 e7 e8 e9 =
    let eight : w8 ≡ w0 ++ (a ++ b ++ c ++ d ++ e ++ f ++ g ++ h) =
    eight_behind w0 w1 w2 w3 w4 w5 w6 w7 w8 a b c d e f g h e1 e2 e3 e4 e5 e6 e7 e8 in
    e9 ∙ (ap (λ t. t ++ i) eight ∙ append_assoc w0 (a ++ b ++ c ++ d ++ e ++ f ++ g ++ h) i)

-- ----- pieces
pub text_more : (bytes : List ℕ) (from to : ℕ) → from ≤ to → take from bytes ++ take (to - from) (drop from bytes)
    ≡ take to bytes
text_more bytes from to order =
    let sum : from + (to - from) ≡ to = omega (arith, order) in
    sym (take-add from (to - from) bytes) ∙ ap (λ n. take n bytes) sum

-- ----- digits
pub hex_bytes-append : (xs ys : List ℕ) → hex_bytes (xs ++ ys) ≡ hex_bytes xs ++ hex_bytes ys
hex_bytes-append [] ys = refl
hex_bytes-append (x ∷ xs) ys = ap (λ t. digit_glyph false (x / 16) ∷ digit_glyph false (x % 16) ∷ t)
    (hex_bytes-append xs ys)

-- a piece more
pub hex_more : (bytes : List ℕ) (from to : ℕ) → from ≤ to
    → hex_bytes (take from bytes) ++ hex_bytes (take (to - from) (drop from bytes)) ≡ hex_bytes (take to bytes)
hex_more bytes from to order =
    let sum : from + (to - from) ≡ to = omega (arith, order) in
    sym (hex_bytes-append (take from bytes) (take (to - from) (drop from bytes)))
    ∙ ap hex_bytes (sym (take-add from (to - from) bytes) ∙ ap (λ n. take n bytes) sum)

-- and all that is left
pub hex_rest : (bytes : List ℕ) (to : ℕ) → hex_bytes (take to bytes) ++ hex_bytes (drop to bytes) ≡ hex_bytes bytes
hex_rest bytes to = sym (hex_bytes-append (take to bytes) (drop to bytes)) ∙ ap hex_bytes (take-append-drop to bytes)

-- ----- the same, where the whole text is spelled in another way
pub wrote_as : {v w : List ℕ} (a b : SinkState) (r : Result (Unit {0}) IoFault) (x y : List ℕ)
    → x ≡ y → Writes a v r b w x → Writes a v r b w y
wrote_as {v} {w} a b r x y e = subst (λ t. Writes a v r b w t) e

pub wrote_both : {v w u : List ℕ} (a b c : SinkState) (r : Result (Unit {0}) IoFault) (x y z : List ℕ)
    → x ++ y ≡ z → Writes a v (Ok tt) b w x → Writes b w r c u y → Writes a v r c u z
wrote_both a b c r x y z e first second = wrote_as a c r (x ++ y) z e (wrote_then a b c r x y first second)

pub stopped_in : {v w : List ℕ} (a b : SinkState) (r : Result (Unit {0}) IoFault) (x y z : List ℕ)
    → x ++ y ≡ z → IsErr r → Writes a v r b w x → Writes a v r b w z
stopped_in a b r x y z e h first = wrote_as a b r (x ++ y) z e (stopped a b r x y h first)

-- ----- a text that is written piece by piece
-- Room was made for a piece, which was then put behind what waits.
pub piece_more : {v w u : List ℕ} (a b c : SinkState) (front piece all left : List ℕ) → front ++ piece ≡ all
    → left ≡ u ++ piece → Writes a v (Ok tt) b w front → Writes b w (Ok tt) c u [] → Writes a v (Ok tt) c left all
piece_more a b c front piece all left whole more first second =
    wrote_as a c (Ok tt) (front ++ piece) all whole
    (put_behind a c front piece left more (wrote_both a b c (Ok tt) front [] front (append-nil front) first second))

-- No room was made for the rest.
pub stopped_between : {v w u : List ℕ} (a b c : SinkState) (r q : Result (Unit {0}) IoFault) (front rest all : List ℕ)
    → front ++ rest ≡ all → IsErr r → r ≡ q → Writes a v (Ok tt) b w front → Writes b w q c u [] → Writes a v r c u all
stopped_between {v} {w} {u} a b c r q front rest all whole h e first second =
    let last : Writes b w r c u [] = subst (λ (s : Result (Unit {0}) IoFault). Writes b w s c u []) (sym e) second in
    stopped_in a c r front rest all whole h (wrote_both a b c r front [] front (append-nil front) first last)

-- ----- bytes that are there
pub some_data : (bytes : List ℕ) → (length bytes == 0) ≡ false → codes " data " ++ hex_bytes bytes ≡ data_text bytes
some_data [] h = absurd (false≢true (sym h))
some_data (b ∷ bs) h = refl

pub some_hex : (bytes : List ℕ) → (length bytes == 0) ≡ false → hex_bytes bytes ≡ hex bytes
some_hex [] h = absurd (false≢true (sym h))
some_hex (b ∷ bs) h = refl

-- the same, where the failure is handed on
pub stopped_at : {v w : List ℕ} (a b : SinkState) (r q : Result (Unit {0}) IoFault) (x y : List ℕ)
    → IsErr r → r ≡ q → Writes a v q b w x → Writes a v r b w (x ++ y)
stopped_at {v} {w} a b r q x y h e first =
    stopped a b r x y h (subst (λ (s : Result (Unit {0}) IoFault). Writes a v s b w x) (sym e) first)

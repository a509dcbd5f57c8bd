-- What is written is read as it was.
use Rattle.std.proofs.Common.{◌≡◌, ℕ, ◌+◌, ◌≤◌, ◌==◌, Bool, true, false, List, ◌++◌, Option, Some, None, Result, Ok}
use Rattle.std.proofs.Common.{Err, length, take, drop, refl, ap, ◌∙◌, arith, nat_lt, nat_le, if◌then◌else◌}
use Rattle.std.proofs.Common.{length-append}
use Rattle.std.proofs.lemmas.Bool.Decides.{nat_tests}
use Rattle.std.proofs.lemmas.List.{take_at, drop_at}
use Rattle.tas_num.specs.Captures.{Fault, CutShort, TooLong, Form, Next, form_of, first_record, next_at, captured_len}
use Rattle.tas_num.specs.Captures.{original_len, most_captured, file_header, record_bytes, word_by}

pub form_of_file_header : (b : List ℕ)
    → form_of (file_header ++ b) ≡ Ok (record { big = false; nanos = false; link = 101 })
unfolding form_of
form_of_file_header b =
    let long : nat_lt (length (file_header ++ b)) 24 ≡ false = grind (arith, nat_tests) in
    rw (long) refl

found : (none cut long short : Bool) (a b c : Fault) (n : Next) → none ≡ false → cut ≡ false → long ≡ false
    → short ≡ false
    → ◌≡◌ {A = Result (Option Next) Fault} (if none then Ok None else if cut then Err a else if long then Err b
    else if short then Err c else Ok (Some n)) (Ok (Some n))
found none cut long short a b c n e1 e2 e3 e4 = rw (e1, e2, e3, e4) refl

lengths_written : (big : Bool) (seconds : ℕ) (packet b : List ℕ) → big ≡ false
    → (word_by big (record_bytes seconds packet ++ b) 8 ≡ length packet)
    × (word_by big (record_bytes seconds packet ++ b) 12 ≡ length packet)
lengths_written true seconds packet b e = absurd (cc (e))
lengths_written false seconds packet b e = (omega arith, omega arith)

same_next : (number : ℕ) (w1 w2 : Bool) (f1 f2 r1 r2 : List ℕ) → w1 ≡ w2 → f1 ≡ f2 → r1 ≡ r2
    → ◌≡◌ {A = Next} (record { item = record { number = number; whole = w1; frame = f1 }; rest = r1 })
    (record { item = record { number = number; whole = w2; frame = f2 }; rest = r2 })
same_next number w1 w2 f1 f2 r1 r2 w f r = cc (w, f, r)

pub first_record_written : (form : Form) (number seconds : ℕ) (packet b : List ℕ) → form.big ≡ false
    → length packet ≤ 65549
    → first_record form number (record_bytes seconds packet ++ b)
    ≡ Ok (Some (record { item = record { number = number; whole = true; frame = packet }; rest = b }))
unfolding first_record
first_record_written form number seconds packet b little small =
    let bytes : List ℕ = record_bytes seconds packet ++ b in
    let len : length bytes ≡ 16 + (length packet + length b) = omega (arith, length-append packet b) in
    let lengths = lengths_written form.big seconds packet b little in
    let captured : captured_len form bytes ≡ length packet = lengths.0 in
    let original : original_len form bytes ≡ length packet = lengths.1 in
    let whole : nat_le (original_len form bytes) (captured_len form bytes) ≡ true =
    grind (arith, nat_tests, captured, original) in
    let frame : take (captured_len form bytes) (drop 16 bytes) ≡ packet = ap (λ (n : ℕ). take n (packet ++ b)) captured
    ∙ take_at packet b (length packet) refl in
    let rest : drop (16 + captured_len form bytes) bytes ≡ b = ap (λ (n : ℕ). drop (16 + n) bytes) captured
    ∙ drop_at (record_bytes seconds packet) b (16 + length packet) (omega arith) in
    found (length bytes == 0) (nat_lt (length bytes) 16) (nat_lt most_captured (captured_len form bytes))
    (nat_lt (length bytes) (16 + captured_len form bytes))
    (CutShort number) (TooLong number) (CutShort number) (next_at form number bytes)
    (grind (arith, nat_tests, len)) (grind (arith, nat_tests, len)) (grind (arith, nat_tests, captured, small))
    (grind (arith, nat_tests, captured, len))
    ∙ ap (λ (n : Next). Ok (Some n)) (same_next number _ _ _ _ _ _ whole frame rest)

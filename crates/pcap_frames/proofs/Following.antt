-- The records of a capture, one by one.
use Rattle.std.proofs.Common.{◌≡◌, ℕ, zero, suc, ◌+◌, ◌≤◌, ◌<◌, ◌==◌, Bool, true, false, List, [], ◌∷◌, ◌++◌, Option}
use Rattle.std.proofs.Common.{Some, None, Result, Ok, Err, length, drop, refl, sym, ap, ◌∙◌, arith, nat_lt}
use Rattle.std.proofs.Common.{if◌then◌else◌, append_assoc, append-nil, length-drop, ◌-◌}
use Rattle.std.proofs.lemmas.Bool.Decides.{nat_tests}
use Rattle.tas_num.specs.Captures.{Fault, CutShort, TooLong, Form, Record, Next, Capture, first_record, records_from}
use Rattle.tas_num.specs.Captures.{records_within, joined, form_of, capture_of, capture_with, captured_len}
use Rattle.tas_num.specs.Captures.{most_captured, next_at}

-- what follows from the first record, with at most so many records behind it
abbrev after : (most : ℕ) → Form → (number : ℕ) → Result (Option Next) Fault → Result (List Record) Fault
after most form number (Err fault) = Err fault
after most form number (Ok None) = Ok []
after most form number (Ok (Some next)) = joined (next.item ∷ []) (records_within most form (number + 1) next.rest)

within_by_one : (most : ℕ) (form : Form) (number : ℕ) (b : List ℕ)
    → records_within (suc most) form number b ≡ after most form number (first_record form number b)
within_by_one most form number b = refl

found_after : (none cut long short : Bool) (a b c : Fault) (n next : Next)
    → ◌≡◌ {A = Result (Option Next) Fault} (if none then Ok None else if cut then Err a else if long then Err b
    else if short then Err c else Ok (Some n)) (Ok (Some next))
    → (none ≡ false) × (n ≡ next)
found_after true cut long short a b c n next e = absurd (cc (e))
found_after false true long short a b c n next e = absurd (cc (e))
found_after false false true short a b c n next e = absurd (cc (e))
found_after false false false true a b c n next e = absurd (cc (e))
found_after false false false false a b c n next e = (refl, cc (e))

shorter : (b rest : List ℕ) (n : ℕ) → (length b == 0) ≡ false → drop (16 + n) b ≡ rest → length rest < length b
shorter b rest n some is =
    let len : length rest ≡ length b - (16 + n) = ap length (sym is) ∙ length-drop (16 + n) b in
    grind (arith, nat_tests, some, len)

-- a record takes a byte at least
pub first_record_shorter : (form : Form) (number : ℕ) (b : List ℕ) (next : Next)
    → first_record form number b ≡ Ok (Some next) → length next.rest < length b
unfolding first_record
first_record_shorter form number b next e =
    let len : ℕ = length b in
    let captured : ℕ = captured_len form b in
    let found = found_after (len == 0) (nat_lt len 16) (nat_lt most_captured captured) (nat_lt len (16 + captured))
    (CutShort number) (TooLong number) (CutShort number) (next_at form number b) next e in
    shorter b next.rest (captured_len form b) found.0 (ap (λ (n : Next). n.rest) found.1)

-- no record stands in no bytes
pub first_record_none : (form : Form) (number : ℕ) (b : List ℕ) → length b ≤ 0 → first_record form number b ≡ Ok None
unfolding first_record
first_record_none form number [] few = refl
first_record_none form number (x ∷ b) few = absurd (omega (arith, few))

-- more places for records than bytes change nothing
pub within_enough : (m n : ℕ) (form : Form) (number : ℕ) (b : List ℕ) → length b ≤ m → length b ≤ n
    → records_within m form number b ≡ records_within n form number b
within_enough zero zero form number b low high = refl
within_enough zero (suc n) form number b low high = sym (ap (after n form number) (first_record_none form number b low))
within_enough (suc m) zero form number b low high = ap (after m form number) (first_record_none form number b high)
within_enough (suc m) (suc n) form number b low high =
    by_found (first_record form number b) (λ (next : Next) (e : first_record form number b ≡ Ok (Some next)).
    let less = first_record_shorter form number b next e in
    within_enough m n form (number + 1) next.rest (omega (arith, less, low)) (omega (arith, less, high)))
  where
    by_found : (r : Result (Option Next) Fault)
        → ((next : Next) → r ≡ Ok (Some next)
        → records_within m form (number + 1) next.rest ≡ records_within n form (number + 1) next.rest)
        → after m form number r ≡ after n form number r
    by_found (Err fault) same = refl
    by_found (Ok None) same = refl
    by_found (Ok (Some next)) same = ap (joined (next.item ∷ [])) (same next refl)

-- no byte is left
pub records_from_ends : (form : Form) (number : ℕ) (b : List ℕ) → first_record form number b ≡ Ok None
    → records_from form number b ≡ Ok []
records_from_ends form number b e = within_enough (length b) (suc (length b)) form number b (omega arith) (omega arith)
    ∙ ap (after (length b) form number) e

-- the first record is refused
pub records_from_refused : (form : Form) (number : ℕ) (b : List ℕ) (fault : Fault)
    → first_record form number b ≡ Err fault → records_from form number b ≡ Err fault
records_from_refused form number b fault e =
    within_enough (length b) (suc (length b)) form number b (omega arith) (omega arith)
    ∙ ap (after (length b) form number) e

-- a first record, and those after it
pub records_from_next : (form : Form) (number : ℕ) (b : List ℕ) (next : Next)
    → first_record form number b ≡ Ok (Some next)
    → records_from form number b ≡ joined (next.item ∷ []) (records_from form (number + 1) next.rest)
records_from_next form number b next e =
    let less = first_record_shorter form number b next e in
    within_enough (length b) (suc (length b)) form number b (omega arith) (omega arith)
    ∙ (ap (after (length b) form number) e
    ∙ ap (joined (next.item ∷ [])) (within_enough (length b) (length next.rest) form (number + 1) next.rest
    (omega (arith, less)) (omega arith)))

joined_joined : (front more : List Record) (r : Result (List Record) Fault)
    → joined front (joined more r) ≡ joined (front ++ more) r
joined_joined front more (Ok items) = ap (λ (xs : List Record). Ok xs) (sym (append_assoc front more items))
joined_joined front more (Err fault) = refl

-- ----- for a loop over `next_record`: what it found, joined with the records of the bytes left, is always the same
pub joined_next : (form : Form) (number : ℕ) (b : List ℕ) (next : Next) (found : List Record)
    (whole : Result (List Record) Fault)
    → first_record form number b ≡ Ok (Some next) → joined found (records_from form number b) ≡ whole
    → joined (found ++ next.item ∷ []) (records_from form (number + 1) next.rest) ≡ whole
joined_next form number b next found whole e so_far =
    sym (joined_joined found (next.item ∷ []) (records_from form (number + 1) next.rest))
    ∙ (ap (joined found) (sym (records_from_next form number b next e)) ∙ so_far)

pub joined_ends : (form : Form) (number : ℕ) (b : List ℕ) (found : List Record) (whole : Result (List Record) Fault)
    → first_record form number b ≡ Ok None → joined found (records_from form number b) ≡ whole → whole ≡ Ok found
joined_ends form number b found whole e so_far = sym so_far
    ∙ (ap (joined found) (records_from_ends form number b e) ∙ ap (λ (xs : List Record). Ok xs) (append-nil found))

pub joined_refused : (form : Form) (number : ℕ) (b : List ℕ) (fault : Fault) (found : List Record)
    (whole : Result (List Record) Fault)
    → first_record form number b ≡ Err fault → joined found (records_from form number b) ≡ whole → whole ≡ Err fault
joined_refused form number b fault found whole e so_far = sym so_far
    ∙ ap (joined found) (records_from_refused form number b fault e)

-- where it begins: nothing was found yet
pub joined_nothing : (r : Result (List Record) Fault) → joined [] r ≡ r
joined_nothing (Ok items) = refl
joined_nothing (Err fault) = refl

-- ----- the whole file
pub capture_of_refused : (b : List ℕ) (fault : Fault) → form_of b ≡ Err fault → capture_of b ≡ Err fault
unfolding capture_of
capture_of_refused b fault e = by_form (form_of b) e
  where
    by_form : (r : Result Form Fault) → r ≡ Err fault
        → ◌≡◌ {A = Result Capture Fault}
        (elim r [ Err fault ↦ Err fault | Ok form ↦ capture_with form (records_from form 1 (drop 24 b)) ])
        (Err fault)
    by_form (Ok form) e = absurd (cc (e))
    by_form (Err other) e = cc (e)

pub capture_of_form : (b : List ℕ) (form : Form) → form_of b ≡ Ok form
    → capture_of b ≡ capture_with form (records_from form 1 (drop 24 b))
unfolding capture_of
capture_of_form b form e =
    ap (λ (r : Result Form Fault). elim r as
    (λ x. Result Capture Fault) [
      | Err fault ↦ Err fault
      | Ok form ↦ capture_with form
          (records_from form 1 (drop 24 b))
    ]) e

-- Lines that are alike but for digits, which rise by one from line to line.
use Rattle.std.proofs.Common.{◌≡◌, ℕ, zero, suc, ◌+◌, ◌≤◌, List, ◌∷◌, ◌++◌, length, set, slice_index, refl, ap}
use Rattle.std.proofs.Common.{sym, ◌∙◌, ◌-◌, take, drop, append_assoc, append-nil, arith}
use Rattle.std.proofs.Math.Seq.{set-append_seam, get_or-append_seam, drop-append_seam}
use Rattle.std.proofs.lemmas.List.{length-append, take_all}
use Rattle.run_texts.specs.Counting.{lines_from, raised, IsDigit, AreAlike}

-- ----- one after another
pub lines_append : (f : ℕ → List ℕ) (n j k : ℕ) → lines_from f n j ++ lines_from f (n + j) k ≡ lines_from f n (j + k)
lines_append f n zero k =
    let number : n + 0 ≡ n = omega arith in
    let count : k ≡ 0 + k = omega arith in
    ap (λ (m : ℕ). lines_from f m k) number ∙ ap (lines_from f n) count
lines_append f n (suc j) k =
    let number : n + suc j ≡ n + 1 + j = omega arith in
    let count : suc (j + k) ≡ suc j + k = omega arith in
    append_assoc (f n) (lines_from f (n + 1) j) (lines_from f (n + suc j) k)
    ∙ (ap (λ (x : List ℕ). f n ++ x)
    (ap (λ (m : ℕ). lines_from f (n + 1) j ++ lines_from f m k) number ∙ lines_append f (n + 1) j k)
    ∙ ap (lines_from f n) count)

pub lines_push : (f : ℕ → List ℕ) (n k : ℕ) → lines_from f n k ++ f (n + k) ≡ lines_from f n (k + 1)
lines_push f n k =
    ap (λ (x : List ℕ). lines_from f n k ++ x) (sym (append-nil (f (n + k)))) ∙ lines_append f n k 1

pub first_append : (f : ℕ → List ℕ) (j k : ℕ) → lines_from f 0 j ++ lines_from f j k ≡ lines_from f 0 (j + k)
first_append f j k =
    let from : j ≡ 0 + j = omega arith in
    ap (λ (i : ℕ). lines_from f 0 j ++ lines_from f i k) from ∙ lines_append f 0 j k

-- The next of these lines, put behind those that stand there.
pub line_more : (f : ℕ → List ℕ) (j last first second k x y : ℕ) (line old waiting : List ℕ)
    → AreAlike f j last first second → line ≡ f j → j + (k + 1) ≤ last
    → x ≡ slice_index line first + (k + 1) → y ≡ slice_index line second + (k + 1) → x ≤ 57 → y ≤ 57
    → waiting ≡ old ++ lines_from f j (k + 1)
    → waiting ++ set (set line first x) second y ≡ old ++ lines_from f j (k + 1 + 1)
line_more f j last first second k x y line old waiting alike is within one other low high before =
    let one_is : slice_index line first ≡ slice_index (f j) first = ap (λ (l : List ℕ). slice_index l first) is in
    let other_is : slice_index line second ≡ slice_index (f j) second = ap (λ (l : List ℕ). slice_index l second) is in
    let made : set (set line first x) second y ≡ f (j + (k + 1)) =
    ap (λ (d : ℕ). set (set line first d) second y) one
    ∙ (ap (λ (d : ℕ). set (set line first (slice_index line first + (k + 1))) second d) other
    ∙ (ap (λ (l : List ℕ). raised l first second (k + 1)) is
    ∙ sym (alike.alike (k + 1) within (omega (arith, one, one_is, low)) (omega (arith, other, other_is, high))))) in
    ap (λ (l : List ℕ). l ++ set (set line first x) second y) before
    ∙ (ap (λ (l : List ℕ). (old ++ lines_from f j (k + 1)) ++ l) made
    ∙ (append_assoc old (lines_from f j (k + 1)) (f (j + (k + 1)))
    ∙ ap (λ (l : List ℕ). old ++ l) (lines_push f j (k + 1))))

-- what a slice of what waits holds, from where the last text was put
pub put_there : (line whole waiting old text : List ℕ) (at : ℕ) → line ≡ take (length whole - at) (drop at whole)
    → whole ≡ waiting → waiting ≡ old ++ text → at ≡ length old → line ≡ text
put_there line whole waiting old text at part same more is =
    part
    ∙ (ap (λ (l : List ℕ). take (length l - at) (drop at l)) (same ∙ more)
    ∙ (ap (λ (i : ℕ). take (length (old ++ text) - i) (drop i (old ++ text))) is
    ∙ (ap (take (length (old ++ text) - length old)) (drop-append_seam old text)
    ∙ take_all (length (old ++ text) - length old) text (omega (arith, length-append old text)))))

-- ----- digits in a line
digit_there : (xs ys : List ℕ) (x place : ℕ) → place ≡ length xs → slice_index (xs ++ x ∷ ys) place ≡ x
digit_there xs ys x place at = ap (slice_index (xs ++ x ∷ ys)) at ∙ get_or-append_seam xs x ys 0

set_there : (xs ys : List ℕ) (x y place : ℕ) → place ≡ length xs → set (xs ++ x ∷ ys) place y ≡ xs ++ y ∷ ys
set_there xs ys x y place at = ap (λ (i : ℕ). set (xs ++ x ∷ ys) i y) at ∙ set-append_seam xs x ys y

is_digit : (xs ys line : List ℕ) (x place : ℕ) → line ≡ xs ++ x ∷ ys → place ≡ length xs → 48 ≤ x → x ≤ 57
    → IsDigit line place
is_digit xs ys line x place is at least most =
    let there : slice_index line place ≡ x =
    ap (λ (l : List ℕ). slice_index l place) is ∙ digit_there xs ys x place at in
    record {
      inside = omega (arith, at, ap (length {A = ℕ}) is, length-append xs (x ∷ ys));
      least = omega (arith, there, least);
      most = omega (arith, there, most);
    }

-- the second digit is read before the first one is raised
raised_there : (xs ys us vs line : List ℕ) (x y z first second k : ℕ) → line ≡ xs ++ x ∷ ys
    → xs ++ (x + k) ∷ ys ≡ us ++ z ∷ vs → first ≡ length xs → second ≡ length us → slice_index line second ≡ y
    → raised line first second k ≡ us ++ (y + k) ∷ vs
raised_there xs ys us vs line x y z first second k is joined at behind other =
    let one : slice_index line first ≡ x = ap (λ (l : List ℕ). slice_index l first) is ∙ digit_there xs ys x first at in
    ap (λ (d : ℕ). set (set line first (d + k)) second (slice_index line second + k)) one
    ∙ (ap (λ (d : ℕ). set (set line first (x + k)) second (d + k)) other
    ∙ (ap (λ (l : List ℕ). set (set l first (x + k)) second (y + k)) is
    ∙ (ap (λ (l : List ℕ). set l second (y + k)) (set_there xs ys x (x + k) first at ∙ joined)
    ∙ set_there us vs z (y + k) second behind)))

-- Lines are alike that have the same parts around two digits.
pub alike_by_two : (f : ℕ → List ℕ) (j last first second x y : ℕ) (xs ys zs : List ℕ) → j ≤ last
    → first ≡ length xs → second ≡ length xs + suc (length ys) → 48 ≤ x → x ≤ 57 → 48 ≤ y → y ≤ 57
    → ((k : ℕ) → j + k ≤ last → x + k ≤ 57 → y + k ≤ 57 → f (j + k) ≡ xs ++ (x + k) ∷ (ys ++ (y + k) ∷ zs))
    → AreAlike f j last first second
alike_by_two f j last first second x y xs ys zs within at behind low high least most are =
    let j_is : j ≡ j + 0 = omega arith in
    let x_is : x + 0 ≡ x = omega arith in
    let y_is : y + 0 ≡ y = omega arith in
    let line : List ℕ = xs ++ x ∷ (ys ++ y ∷ zs) in
    let is : f j ≡ line =
    ap f j_is ∙ (are 0 (omega (arith, within)) (omega (arith, high)) (omega (arith, most))
    ∙ (ap (λ (d : ℕ). xs ++ d ∷ (ys ++ (y + 0) ∷ zs)) x_is ∙ ap (λ (d : ℕ). xs ++ x ∷ (ys ++ d ∷ zs)) y_is)) in
    let joined : (d e : ℕ) → xs ++ d ∷ (ys ++ e ∷ zs) ≡ (xs ++ d ∷ ys) ++ e ∷ zs =
    λ d e. sym (append_assoc xs (d ∷ ys) (e ∷ zs)) in
    let size : (d : ℕ) → second ≡ length (xs ++ d ∷ ys) = λ d. omega (arith, behind, length-append xs (d ∷ ys)) in
    let other : IsDigit (f j) second =
    is_digit (xs ++ x ∷ ys) zs (f j) y second (is ∙ joined x y) (size x) least most in
    let read : slice_index (f j) second ≡ y =
    ap (λ (l : List ℕ). slice_index l second) (is ∙ joined x y) ∙ digit_there (xs ++ x ∷ ys) zs y second (size x) in
    let read_one : slice_index (f j) first ≡ x =
    ap (λ (l : List ℕ). slice_index l first) is ∙ digit_there xs (ys ++ y ∷ zs) x first at in
    record {
      one = is_digit xs (ys ++ y ∷ zs) (f j) x first is at low high;
      other = other;
      alike = λ k inside few small. are k inside (omega (arith, few, read_one)) (omega (arith, small, read))
          ∙ (joined (x + k) (y + k)
          ∙ sym (raised_there xs (ys ++ y ∷ zs) (xs ++ (x + k) ∷ ys) zs (f j) x y y first second k is
          (joined (x + k) y) at (size (x + k)) read));
    }

-- The same, where one digit alone rises.
pub alike_by_one : (f : ℕ → List ℕ) (j last place x : ℕ) (xs ys : List ℕ) → j ≤ last → place ≡ length xs
    → 48 ≤ x → x ≤ 57 → ((k : ℕ) → j + k ≤ last → x + k ≤ 57 → f (j + k) ≡ xs ++ (x + k) ∷ ys)
    → AreAlike f j last place place
alike_by_one f j last place x xs ys within at low high are =
    let j_is : j ≡ j + 0 = omega arith in
    let x_is : x + 0 ≡ x = omega arith in
    let is : f j ≡ xs ++ x ∷ ys =
    ap f j_is ∙ (are 0 (omega (arith, within)) (omega (arith, high)) ∙ ap (λ (d : ℕ). xs ++ d ∷ ys) x_is) in
    let digit : IsDigit (f j) place = is_digit xs ys (f j) x place is at low high in
    let read : slice_index (f j) place ≡ x =
    ap (λ (l : List ℕ). slice_index l place) is ∙ digit_there xs ys x place at in
    record {
      one = digit;
      other = digit;
      alike = λ k inside few same. are k inside (omega (arith, few, read))
          ∙ sym (raised_there xs ys xs ys (f j) x x (x + k) place place k is refl at at read);
    }

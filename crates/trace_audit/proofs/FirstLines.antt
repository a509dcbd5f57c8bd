-- The first line of a text, and the lines before its line `==`.
use Rattle.std.proofs.Common.{◌≡◌, ℕ, zero, suc, ◌+◌, ◌<◌, ◌≤◌, Bool, true, false, cond, eqb, List, [], ◌∷◌, ◌++◌}
use Rattle.std.proofs.Common.{length, take, drop, get_or, Some, None, refl, sym, ◌∙◌, ap, subst, arith}
use Rattle.std.proofs.Common.{length-append, position}
use Rattle.std.specs.List.{concat}
use Rattle.std.proofs.lemmas.Slice.Eq.{bytes_eq-Decides}
use Rattle.std.proofs.Common.{◌-◌}
use Rattle.std.proofs.lemmas.List.{append-nil, length-drop}
use Rattle.std.proofs.lemmas.List.Folds.{concat-append}
use Rattle.std.proofs.lemmas.List.Quantifiers.{position-Some}
use Rattle.flow_state.proofs.Counting.{none_found}
use Rattle.host_rounds.proofs.Lists.{each_append}
use Rattle.trace_audit.specs.TextLines.{onto, text_lines, mark, is_mark, LacksMark, AreHalves}
use Rattle.trace_audit.proofs.Lists.{take_next, drop_next, below_next, take_rest, take_within, cut_next}

-- ----- the first line
line_ends : (c : ℕ) (cs : List ℕ) → eqb c 10 ≡ true → text_lines (c ∷ cs) ≡ (c ∷ []) ∷ text_lines cs
line_ends c cs e = ap (λ (b : Bool). cond b ((c ∷ []) ∷ text_lines cs) (onto c (text_lines cs))) e

line_goes_on : (c : ℕ) (cs : List ℕ) → eqb c 10 ≡ false → text_lines (c ∷ cs) ≡ onto c (text_lines cs)
line_goes_on c cs e = ap (λ (b : Bool). cond b ((c ∷ []) ∷ text_lines cs) (onto c (text_lines cs))) e

first_ended : (xs : List ℕ) (i : ℕ) → i < length xs → eqb (get_or xs i 0) 10 ≡ true
    → ((k : ℕ) → k < i → eqb (get_or xs k 0) 10 ≡ false)
    → text_lines xs ≡ take (suc i) xs ∷ text_lines (drop (suc i) xs)
first_ended [] i below here before = absurd (omega (arith, below))
first_ended (c ∷ cs) zero below here before = line_ends c cs here
first_ended (c ∷ cs) (suc i) below here before =
    line_goes_on c cs (before 0 (omega arith))
    ∙ ap (onto c) (first_ended cs i (omega (arith, below)) here (λ k h. before (suc k) (omega (arith, h))))

one_line : (c : ℕ) (cs : List ℕ) → ((k : ℕ) → k < length (c ∷ cs) → eqb (get_or (c ∷ cs) k 0) 10 ≡ false)
    → text_lines (c ∷ cs) ≡ (c ∷ cs) ∷ []
one_line c [] none = line_goes_on c [] (none 0 (omega arith))
one_line c (b ∷ bs) none =
    line_goes_on c (b ∷ bs) (none 0 (omega arith))
    ∙ ap (onto c) (one_line b bs (λ k h. none (suc k) (omega (arith, h))))

-- at the first LF
pub line_at : (xs : List ℕ) (i : ℕ) → position (λ (c : ℕ). eqb c 10) xs ≡ Some i
    → text_lines xs ≡ take (i + 1) xs ∷ text_lines (drop (i + 1) xs)
line_at xs i e =
    let there : (i < length xs) × (eqb (get_or xs i 0) 10 ≡ true)
    × ((k : ℕ) → k < i → eqb (get_or xs k 0) 10 ≡ false) = position-Some (λ (c : ℕ). eqb c 10) xs i 0 e in
    let next : suc i ≡ i + 1 = omega arith in
    subst (λ (n : ℕ). text_lines xs ≡ take n xs ∷ text_lines (drop n xs)) next
    (first_ended xs i there.0 there.1 there.2)

-- where there is none
pub line_alone : (xs : List ℕ) → position (λ (c : ℕ). eqb c 10) xs ≡ None → (length xs ≡ 0 → ⊥)
    → text_lines xs ≡ xs ∷ text_lines []
line_alone [] e some = absurd (some refl)
line_alone (c ∷ cs) e some = one_line c cs (none_found (λ (x : ℕ). eqb x 10) (c ∷ cs) 0 e)

-- ----- up to the line `==`
-- So many lines were looked at, none of which is `==`; they are so many bytes.
pub record AreBefore (text : List ℕ) (count from : ℕ) : Type 0 where
  pub rest : drop count (text_lines text) ≡ text_lines (drop from text)
  pub bytes : take from text ≡ concat (take count (text_lines text))
  pub none : LacksMark (take count (text_lines text))

-- what is there behind a front
taken_on : (text : List ℕ) (from : ℕ) (line rest : List ℕ) → from ≤ length text → drop from text ≡ line ++ rest
    → (take (from + length line) text ≡ take from text ++ line) × (drop (from + length line) text ≡ rest)
taken_on text zero line rest h e =
    subst (λ (n : ℕ). (take n text ≡ take 0 text ++ line) × (drop n text ≡ rest)) (sym (none_more (length line)))
    (by_front text line rest e) where
      none_more : (n : ℕ) → 0 + n ≡ n
      none_more n = omega arith

      by_front : (text line rest : List ℕ) → text ≡ line ++ rest
          → (take (length line) text ≡ line) × (drop (length line) text ≡ rest)
      by_front text [] rest e = (refl, e)
      by_front [] (c ∷ cs) rest e = absurd (cc (e))
      by_front (b ∷ bs) (c ∷ cs) rest e = by_more b c bs cs rest e (by_front bs cs rest) where
        by_more : (b c : ℕ) (bs cs rest : List ℕ) → ◌≡◌ {A = List ℕ} (b ∷ bs) (c ∷ cs ++ rest)
            → (bs ≡ cs ++ rest → (take (length cs) bs ≡ cs) × (drop (length cs) bs ≡ rest))
            → (b ∷ take (length cs) bs ≡ c ∷ cs) × (drop (length cs) bs ≡ rest)
        by_more b c bs cs rest e more =
            let same : b ≡ c = cc (e) in
            let all : bs ≡ cs ++ rest = cc (e) in
            (rw (same, (more all).0) refl, (more all).1)
taken_on [] (suc from) line rest h e = absurd (omega (arith, h))
taken_on (c ∷ cs) (suc from) line rest h e =
    let r = taken_on cs from line rest (omega (arith, h)) e in
    subst (λ (n : ℕ). (take n (c ∷ cs) ≡ take (suc from) (c ∷ cs) ++ line) × (drop n (c ∷ cs) ≡ rest))
    (one_more from (length line)) (ap (λ (l : List ℕ). c ∷ l) r.0, r.1) where
      one_more : (m n : ℕ) → suc (m + n) ≡ suc m + n
      one_more m n = omega arith

pub before_more : (text : List ℕ) (count from : ℕ) (line rest : List ℕ) → AreBefore text count from
    → from ≤ length text → drop from text ≡ line ++ rest → text_lines (drop from text) ≡ line ∷ text_lines rest
    → is_mark line ≡ false → AreBefore text (count + 1) (from + length line)
before_more text count from line rest b within bytes lines other =
    let next : drop count (text_lines text) ≡ line ∷ text_lines rest = b.rest ∙ lines in
    let one : suc count ≡ count + 1 = omega arith in
    let cut = taken_on text from line rest within bytes in
    subst (λ (n : ℕ). AreBefore text n (from + length line)) one
    (record {
      rest = by_rest text count line rest next ∙ ap text_lines (sym cut.1);
      bytes = cut.0 ∙ (ap (λ (l : List ℕ). l ++ line) b.bytes
          ∙ (ap (λ (l : List ℕ). concat (take count (text_lines text)) ++ l) (sym (append-nil line))
          ∙ (sym (concat-append (take count (text_lines text)) (line ∷ []))
          ∙ ap concat (sym (take_next (text_lines text) count line (text_lines rest) next)))));
      none = subst LacksMark (sym (take_next (text_lines text) count line (text_lines rest) next))
          (each_append (λ l. is_mark l ≡ false) (take count (text_lines text)) (line ∷ []) b.none (other, tt));
    }) where
      by_rest : (text : List ℕ) (count : ℕ) (line rest : List ℕ) → drop count (text_lines text) ≡ line ∷ text_lines rest
          → drop (suc count) (text_lines text) ≡ text_lines rest
      by_rest text count line rest next = drop_next (text_lines text) count line (text_lines rest) next

-- the halves of a text at its mark
pub halves_at : (text : List ℕ) (count from : ℕ) (line rest : List ℕ) → AreBefore text count from
    → text_lines (drop from text) ≡ line ∷ text_lines rest → is_mark line ≡ true
    → AreHalves text (take count (text_lines text)) (text_lines rest)
halves_at text count from line rest b lines is = record {
  lines = cut_next (text_lines text) count line (text_lines rest) (b.rest ∙ lines)
      ∙ ap (λ (l : List ℕ). take count (text_lines text) ++ l ∷ text_lines rest) ((bytes_eq-Decides line mark).0 is);
  first = b.none;
}

pub count_within : (text : List ℕ) (count from : ℕ) (line rest : List ℕ) → AreBefore text count from
    → text_lines (drop from text) ≡ line ∷ text_lines rest → count ≡ length (take count (text_lines text))
count_within text count from line rest b lines =
    let h : suc count ≤ length (text_lines text) =
    below_next (text_lines text) count line (text_lines rest) (b.rest ∙ lines) in
    sym (take_within (text_lines text) count (omega (arith, h)))

-- where no text is left, it has no mark
pub none_at_end : (text : List ℕ) (count from : ℕ) → AreBefore text count from → drop from text ≡ []
    → LacksMark (text_lines text)
none_at_end text count from b end =
    subst LacksMark (all_taken (text_lines text) count (b.rest ∙ ap text_lines end)) b.none where
      all_taken : (ls : List (List ℕ)) (n : ℕ) → drop n ls ≡ [] → take n ls ≡ ls
      all_taken ls n e = take_rest ls n e

-- how many bytes and lines there are, with the next line
pub few_more : (text : List ℕ) (count from : ℕ) (line rest : List ℕ) → count ≤ from → from ≤ length text
    → drop from text ≡ line ++ rest → length rest < length (drop from text)
    → (count + length rest + 1 ≤ length text) × (from + length line ≤ length text) × (count + 1 ≤ from + length line)
few_more text count from line rest few within bytes shorter =
    let left : length (drop from text) ≡ length text - from = length-drop from text in
    let same : length (drop from text) ≡ length (line ++ rest) = ap (λ (l : List ℕ). length l) bytes in
    let both : length (line ++ rest) ≡ length line + length rest = length-append line rest in (
      omega (arith, left, same, both, few, within, shorter),
      omega (arith, left, same, both, few, within, shorter),
      omega (arith, left, same, both, few, within, shorter),
    )

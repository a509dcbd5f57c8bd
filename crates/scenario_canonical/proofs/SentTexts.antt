-- The text of `send`: the rest of a line behind two words, as it is printed and read.
use Rattle.std.proofs.Common.{◌≡◌, ◌≤◌, ◌<◌, ℕ, suc, ◌+◌, ◌==◌, ◌&&◌, nat_le, nat_lt, Bool, true, false, not, cond, eqb}
use Rattle.std.proofs.Common.{List, [], ◌∷◌, ◌++◌, length, filter, drop, get_or, Some, refl, sym, ◌∙◌, ap, arith}
use Rattle.std.proofs.Common.{append_assoc, length-append, if◌then◌else◌}
use Rattle.std.proofs.lemmas.List.{append-nil}
use Rattle.std.specs.Prelude.{codes}
use Rattle.std.specs.List.{list_all, slice_split, onto_first, All}
use Rattle.std.proofs.lemmas.Bool.Decides.{nat_tests}
use Rattle.std.proofs.lemmas.List.Folds.{list_all-append}
use Rattle.std.proofs.lemmas.List.Sums.{AllPass-from_list_all}
use Rattle.std.proofs.lemmas.List.Splits.{slice_split_at, slice_split-cons_yes, slice_split-cons_no}
use Rattle.scenario_text.specs.Words.{is_empty, words_of, without_spaces, behind_word, text_of}
use Rattle.scenario_text.specs.Canonical.{line_of}
use Rattle.scenario_text.specs.Statements.{is_printable, by_words, send_line, send_said, reading, said, named}
use Rattle.scenario_text.specs.declared.scenario.Step.TheVariants as steps
use Rattle.scenario_text.specs.declared.statement.Statement.TheVariants as says
use Rattle.scenario_text.specs.declared.statement.Reading.{Reading}
use Rattle.scenario_text.specs.declared.statement.Reading.TheVariants.{Says, Wrong}
use Rattle.scenario_text.proofs.WordedLines.{is_visible, is_word, both}
use Rattle.scenario_canonical.proofs.WordForms.{IsLine, IsNamed}

abbrev is_some_word : List ℕ → Bool
is_some_word word = not (is_empty word)

abbrev parts_of : List ℕ → List (List ℕ)
parts_of text = slice_split (λ (c : ℕ). c == 32) text

-- ----- one byte of a text
abbrev is_space : ℕ → Bool
is_space c = c == 32

behind_space : (c : ℕ) (cs : List ℕ) → is_space c ≡ true → behind_word (c ∷ cs) ≡ c ∷ cs
behind_space c cs t = rw (t, behind_word) refl

behind_other : (c : ℕ) (cs : List ℕ) → is_space c ≡ false → behind_word (c ∷ cs) ≡ behind_word cs
behind_other c cs t = rw (t, behind_word) refl

without_space : (c : ℕ) (cs : List ℕ) → is_space c ≡ true → without_spaces (c ∷ cs) ≡ without_spaces cs
without_space c cs t = rw (t, without_spaces) refl

without_other : (c : ℕ) (cs : List ℕ) → is_space c ≡ false → without_spaces (c ∷ cs) ≡ c ∷ cs
without_other c cs t = rw (t, without_spaces) refl

words_space : (c : ℕ) (cs : List ℕ) → is_space c ≡ true → words_of (c ∷ cs) ≡ words_of cs
words_space c cs t = ap (filter is_some_word) (slice_split-cons_yes is_space c cs t)

words_other : (c : ℕ) (cs first : List ℕ) (parts : List (List ℕ)) → is_space c ≡ false → parts_of cs ≡ first ∷ parts
    → words_of (c ∷ cs) ≡ (c ∷ first) ∷ filter is_some_word parts
words_other c cs first parts t e =
    ap (filter is_some_word) (slice_split-cons_no is_space c cs t ∙ ap (onto_first c) e)

-- ----- how a line is cut at its first words
-- the first part of a text, and the words behind it
record IsFront (text first : List ℕ) (parts : List (List ℕ)) : Type 0 where
  cut : parts_of text ≡ first ∷ parts
  size : length first + length (behind_word text) ≡ length text
  behind : words_of (behind_word text) ≡ filter is_some_word parts

front : (text : List ℕ) → (first : List ℕ) × (parts : List (List ℕ)) × IsFront text first parts
front [] = ([], [], record { cut = refl; size = refl; behind = refl })
front (c ∷ cs) = by_test (is_space c) refl (front cs) where
  by_test : (b : Bool) → is_space c ≡ b → (first : List ℕ) × (parts : List (List ℕ)) × IsFront cs first parts
      → (first : List ℕ) × (parts : List (List ℕ)) × IsFront (c ∷ cs) first parts
  by_test true t h =
      let same : length (behind_word (c ∷ cs)) ≡ length (c ∷ cs) = ap length (behind_space c cs t) in (
        [],
        parts_of cs,
        record {
          cut = slice_split-cons_yes is_space c cs t;
          size = omega (arith, same);
          behind = ap words_of (behind_space c cs t) ∙ words_space c cs t;
        },
      )
  by_test false t h =
      let same : length (behind_word (c ∷ cs)) ≡ length (behind_word cs) = ap length (behind_other c cs t) in
      let size : length h.0 + length (behind_word cs) ≡ length cs = h.2.size in (
        c ∷ h.0,
        h.1,
        record {
          cut = slice_split-cons_no is_space c cs t ∙ ap (onto_first c) h.2.cut;
          size = omega (arith, same, size);
          behind = ap words_of (behind_other c cs t) ∙ h.2.behind;
        },
      )

-- the first word of a text, and the words behind it
record IsCut (text word : List ℕ) (words : List (List ℕ)) : Type 0 where
  size : length word + length (behind_word (without_spaces text)) ≤ length text
  behind : words_of (behind_word (without_spaces text)) ≡ words

same_head : (a b : List ℕ) (more others : List (List ℕ)) → a ∷ more ≡ b ∷ others → (a ≡ b) × (more ≡ others)
same_head a b more others e = (cc (e), cc (e))

first_cut : (text word : List ℕ) (words : List (List ℕ)) → words_of text ≡ word ∷ words → IsCut text word words
first_cut [] word words e = absurd (cc (e))
first_cut (c ∷ cs) word words e = by_test (is_space c) refl (first_cut cs word words) (front cs) where
  by_test : (b : Bool) → is_space c ≡ b → (words_of cs ≡ word ∷ words → IsCut cs word words)
      → (first : List ℕ) × (parts : List (List ℕ)) × IsFront cs first parts → IsCut (c ∷ cs) word words
  by_test true t later f =
      let cut : IsCut cs word words = later (sym (words_space c cs t) ∙ e) in
      let size : length word + length (behind_word (without_spaces cs)) ≤ length cs = cut.size in
      let same : length (behind_word (without_spaces (c ∷ cs))) ≡ length (behind_word (without_spaces cs)) =
      ap (λ (x : List ℕ). length (behind_word x)) (without_space c cs t) in
      record {
        size = omega (arith, size, same);
        behind = ap (λ (x : List ℕ). words_of (behind_word x)) (without_space c cs t) ∙ cut.behind;
      }
  by_test false t later f =
      let heads : (c ∷ f.0 ≡ word) × (filter is_some_word f.1 ≡ words) =
      same_head (c ∷ f.0) word (filter is_some_word f.1) words
      (sym (words_other c cs f.0 f.1 t f.2.cut) ∙ e) in
      let left : behind_word (without_spaces (c ∷ cs)) ≡ behind_word cs =
      ap behind_word (without_other c cs t) ∙ behind_other c cs t in
      let size : length f.0 + length (behind_word cs) ≡ length cs = f.2.size in
      let all : length (c ∷ f.0) ≡ length word = ap length heads.0 in
      let same : length (behind_word (without_spaces (c ∷ cs))) ≡ length (behind_word cs) = ap length left in
      record {
        size = omega (arith, size, all, same);
        behind = ap words_of left ∙ (f.2.behind ∙ heads.1);
      }

-- behind a word stands a space
space_first : (text : List ℕ) (c : ℕ) (cs : List ℕ) → behind_word text ≡ c ∷ cs → is_space c ≡ true
space_first [] c cs e = absurd (cc (e))
space_first (x ∷ xs) c cs e = by_test (is_space x) refl (space_first xs c cs) where
  by_test : (b : Bool) → is_space x ≡ b → (behind_word xs ≡ c ∷ cs → is_space c ≡ true) → is_space c ≡ true
  by_test true t later =
      let both_sides : x ∷ xs ≡ c ∷ cs = sym (behind_space x xs t) ∙ e in
      let same : x ≡ c = cc (both_sides) in
      ap is_space (sym same) ∙ t
  by_test false t later = later (sym (behind_other x xs t) ∙ e)

-- a word behind a space, and what is left
second_cut : (text word : List ℕ) (words : List (List ℕ)) (before : List ℕ) → text ≡ behind_word before
    → words_of text ≡ word ∷ words → length word + length (behind_word (without_spaces text)) + 1 ≤ length text
second_cut [] word words before s e = absurd (cc (e))
second_cut (c ∷ cs) word words before s e =
    let space : is_space c ≡ true = space_first before c cs (sym s) in
    let later : words_of cs ≡ word ∷ words = sym (words_space c cs space) ∙ e in
    let cut : IsCut cs word words = first_cut cs word words later in
    let size : length word + length (behind_word (without_spaces cs)) ≤ length cs = cut.size in
    let same : length (behind_word (without_spaces (c ∷ cs))) ≡ length (behind_word (without_spaces cs)) =
    ap (λ (x : List ℕ). length (behind_word x)) (without_space c cs space) in
    omega (arith, size, same)

text_behind : (rest : List ℕ) → is_empty (drop 1 rest) ≡ false → length (drop 1 rest) + 1 ≡ length rest
text_behind [] e = absurd (cc (e))
text_behind (c ∷ cs) e = omega arith

-- The line of a `send` is at least as long as its two words, its text and what parts them.
pub send_size : (line word socket : List ℕ) (words : List (List ℕ)) → words_of line ≡ word ∷ socket ∷ words
    → is_empty (text_of line) ≡ false → length word + length socket + length (text_of line) + 2 ≤ length line
send_size line word socket words e some =
    let rest : List ℕ = behind_word (without_spaces line) in
    let first : IsCut line word (socket ∷ words) = first_cut line word (socket ∷ words) e in
    let one : length word + length rest ≤ length line = first.size in
    let two : length socket + length (behind_word (without_spaces rest)) + 1 ≤ length rest =
    second_cut rest socket words (without_spaces line) refl first.behind in
    let three : length (text_of line) + 1 ≡ length (behind_word (without_spaces rest)) =
    text_behind (behind_word (without_spaces rest)) some in
    omega (arith, one, two, three)

-- ----- the bytes of the text are bytes of the line
kept_without : (text : List ℕ) → list_all is_printable text ≡ true → list_all is_printable (without_spaces text) ≡ true
kept_without [] e = refl
kept_without (c ∷ cs) e = by_test (c == 32) (kept_without cs (both _ _ e).1) where
  by_test : (b : Bool) → list_all is_printable (without_spaces cs) ≡ true
      → list_all is_printable (elim b as (λ z. List ℕ) [ true ↦ without_spaces cs | false ↦ c ∷ cs ]) ≡ true
  by_test true h = h
  by_test false h = e

kept_behind : (text : List ℕ) → list_all is_printable text ≡ true → list_all is_printable (behind_word text) ≡ true
kept_behind [] e = refl
kept_behind (c ∷ cs) e = by_test (c == 32) (kept_behind cs (both _ _ e).1) where
  by_test : (b : Bool) → list_all is_printable (behind_word cs) ≡ true
      → list_all is_printable (elim b as (λ z. List ℕ) [ true ↦ c ∷ cs | false ↦ behind_word cs ]) ≡ true
  by_test true h = e
  by_test false h = h

kept_drop : (text : List ℕ) → list_all is_printable text ≡ true → list_all is_printable (drop 1 text) ≡ true
kept_drop [] e = refl
kept_drop (c ∷ cs) e = (both _ _ e).1

pub text_printable : (line : List ℕ) → list_all is_printable line ≡ true → list_all is_printable (text_of line) ≡ true
text_printable line e =
    let first : List ℕ = without_spaces line in
    let behind : List ℕ = behind_word first in
    let second : List ℕ = without_spaces behind in
    kept_drop (behind_word second)
    (kept_behind second (kept_without behind (kept_behind first (kept_without line e))))

-- ----- the line that is printed
not_space : (c : ℕ) → is_visible c ≡ true → (c == 32) ≡ false
not_space c e = grind (arith, nat_tests, e)

visible_of : (word : List ℕ) → is_word word ≡ true → list_all is_visible word ≡ true
visible_of word e = (both _ _ e).1

filled : (word : List ℕ) → is_word word ≡ true → is_some_word word ≡ true
filled word e = (both _ _ e).0

word_first : (word rest : List ℕ) → is_word word ≡ true → words_of (word ++ 32 ∷ rest) ≡ word ∷ words_of rest
word_first word rest e =
    let clean : All (λ (c : ℕ). (c == 32) ≡ false) word = λ k d below.
    not_space (get_or word k d) (AllPass-from_list_all is_visible word (visible_of word e) k d below) in
    let cut : parts_of (word ++ 32 ∷ rest) ≡ word ∷ parts_of rest =
    slice_split_at (λ (c : ℕ). c == 32) word 32 rest clean refl in
    ap (filter is_some_word) cut ∙ kept (is_some_word word) (filled word e) where
      kept : (b : Bool) → b ≡ true
          → cond b (word ∷ filter is_some_word (parts_of rest)) (filter is_some_word (parts_of rest))
          ≡ word ∷ filter is_some_word (parts_of rest)
      kept true e = refl
      kept false e = absurd (cc (e))

without_none : (word rest : List ℕ) → is_word word ≡ true → without_spaces (word ++ rest) ≡ word ++ rest
without_none [] rest e = absurd (cc (e))
without_none (c ∷ cs) rest e =
    let here : is_visible c ≡ true = (both _ _ (visible_of (c ∷ cs) e)).0 in
    without_other c (cs ++ rest) (not_space c here)

behind_there : (word rest : List ℕ) → list_all is_visible word ≡ true → behind_word (word ++ 32 ∷ rest) ≡ 32 ∷ rest
behind_there [] rest e = refl
behind_there (c ∷ cs) rest e =
    let parts : (is_visible c ≡ true) × (list_all is_visible cs ≡ true) = both _ _ e in
    behind_other c (cs ++ 32 ∷ rest) (not_space c parts.0) ∙ behind_there cs rest parts.1

skipped : (rest : List ℕ) → without_spaces (32 ∷ rest) ≡ without_spaces rest
skipped rest = refl

text_there : (word socket text : List ℕ) → is_word word ≡ true → is_word socket ≡ true
    → text_of (word ++ 32 ∷ (socket ++ 32 ∷ text)) ≡ text
text_there word socket text a b =
    let behind : List ℕ → List ℕ = behind_word in
    let first : behind_word (without_spaces (word ++ 32 ∷ (socket ++ 32 ∷ text))) ≡ 32 ∷ (socket ++ 32 ∷ text) =
    ap behind (without_none word (32 ∷ (socket ++ 32 ∷ text)) a)
    ∙ behind_there word (socket ++ 32 ∷ text) (visible_of word a) in
    let second : behind_word (without_spaces (socket ++ 32 ∷ text)) ≡ 32 ∷ text =
    ap behind (without_none socket (32 ∷ text) b) ∙ behind_there socket text (visible_of socket b) in
    ap (λ (t : List ℕ). drop 1 (behind_word (without_spaces t))) first ∙ ap (λ (t : List ℕ). drop 1 t) second

visible_printable : (word : List ℕ) → list_all is_visible word ≡ true → list_all is_printable word ≡ true
visible_printable [] e = refl
visible_printable (c ∷ cs) e =
    let parts : (is_visible c ≡ true) × (list_all is_visible cs ≡ true) = both _ _ e in
    let here : is_printable c ≡ true = printable c parts.0 in
    rw (here, visible_printable cs parts.1) refl where
      printable : (c : ℕ) → is_visible c ≡ true → is_printable c ≡ true
      printable c e = grind (arith, nat_tests, e)

spaced_printable : (word rest : List ℕ) → is_word word ≡ true → list_all is_printable rest ≡ true
    → list_all is_printable (word ++ 32 ∷ rest) ≡ true
spaced_printable word rest e h =
    list_all-append is_printable word (32 ∷ rest) ∙ rw (visible_printable word (visible_of word e), h) refl

sent_by : (line socket text : List ℕ) (words : List (List ℕ)) → text_of line ≡ text → is_empty text ≡ false
    → named socket ≡ Some socket → send_line line (socket ∷ words) ≡ Says (says.Do (steps.Send socket text))
sent_by line socket text words e some name =
    ap (λ (t : List ℕ). if is_empty t then Wrong 4 else send_said socket t) e ∙ rw (some, name) refl

reading_by : (line : List ℕ) (words : List (List ℕ)) (said : Reading) → nat_lt 4096 (length line) ≡ false
    → list_all is_printable line ≡ true → words_of line ≡ words → by_words line words ≡ said → reading line ≡ said
unfolding reading
reading_by line words said a b c e = rw (a, b, c) e

abbrev body_of : List ℕ → List ℕ → List ℕ
body_of socket text = codes "send" ++ 32 ∷ (socket ++ 32 ∷ text)

-- A text of printable bytes that is not empty is sent by a line of its own.
pub send_there : (socket text : List ℕ) → IsNamed socket → is_empty text ≡ false → list_all is_printable text ≡ true
    → length socket + length text + 6 ≤ 4096
    → IsLine (line_of (codes "send") (socket ∷ text ∷ [])) (says.Do (steps.Send socket text))
send_there socket text name some clean short = (body_of socket text, same, said_so) where
  same : line_of (codes "send") (socket ∷ text ∷ []) ≡ body_of socket text ++ 10 ∷ []
  same =
      let inner : (32 ∷ (text ++ [])) ++ 10 ∷ [] ≡ (32 ∷ text) ++ 10 ∷ [] =
      ap (λ (t : List ℕ). (32 ∷ t) ++ 10 ∷ []) (append-nil text) in
      ap (λ (t : List ℕ). codes "send" ++ 32 ∷ t)
      (append_assoc socket (32 ∷ (text ++ [])) (10 ∷ []) ∙ (ap (λ (t : List ℕ). socket ++ t) inner
      ∙ sym (append_assoc socket (32 ∷ text) (10 ∷ []))))

  size : length (body_of socket text) ≤ 4096
  size =
      let e : length (socket ++ 32 ∷ text) ≡ length socket + length (32 ∷ text) = length-append socket (32 ∷ text) in
      omega (arith, e, short)

  printable : list_all is_printable (body_of socket text) ≡ true
  printable =
      spaced_printable (codes "send") (socket ++ 32 ∷ text) refl (spaced_printable socket text name.short.word clean)

  words : words_of (body_of socket text) ≡ codes "send" ∷ socket ∷ words_of text
  words =
      word_first (codes "send") (socket ++ 32 ∷ text) refl
      ∙ ap (λ (ws : List (List ℕ)). codes "send" ∷ ws) (word_first socket text name.short.word)

  said_so : reading (body_of socket text) ≡ Says (says.Do (steps.Send socket text))
  said_so =
      let within : nat_lt 4096 (length (body_of socket text)) ≡ false = grind (arith, nat_tests, size) in
      reading_by (body_of socket text) (codes "send" ∷ socket ∷ words_of text) (Says (says.Do (steps.Send socket text)))
      within printable words
      (sent_by (body_of socket text) socket text (words_of text)
      (text_there (codes "send") socket text refl name.short.word) some name.back)

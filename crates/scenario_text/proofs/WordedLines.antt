-- A line of words with a space between two: how it is cut from a text, and what it is read as.
use Rattle.std.proofs.Common.{◌≡◌, ℕ, ◌+◌, ◌-◌, ◌≤◌, ◌<◌, Bool, true, false, not, ◌&&◌, nat_le, nat_lt, List, []}
use Rattle.std.proofs.Common.{◌∷◌, ◌++◌, length, filter, get_or, Result, Ok, cond, eqb, refl, sym, ◌∙◌, ap, arith}
use Rattle.std.proofs.Common.{append_assoc, rules}
use Rattle.std.specs.List.{list_all, flat_map, slice_split, All}
use Rattle.std.specs.Str.Lines.{lines, strip_carriage_return}
use Rattle.std.proofs.lemmas.Bool.Decides.{nat_tests}
use Rattle.std.proofs.lemmas.List.{append-nil}
use Rattle.std.proofs.lemmas.List.Folds.{list_all-append}
use Rattle.std.proofs.lemmas.List.Sums.{AllPass-from_list_all}
use Rattle.std.proofs.lemmas.List.Splits.{slice_split_at, slice_split_none}
use Rattle.scenario_text.specs.Words.{is_empty, words_of}
use Rattle.scenario_text.specs.Canonical.{line_of}
use Rattle.scenario_text.specs.Statements.{is_printable, by_words, reading}
use Rattle.scenario_text.specs.Reads.{taken_by, taken, read_from}
use Rattle.scenario_text.specs.declared.draft.Draft.{Draft}
use Rattle.scenario_text.specs.declared.scenario.Scenario.{Scenario}
use Rattle.scenario_text.specs.declared.reading.ScenarioFault.{ScenarioFault}
use Rattle.scenario_text.proofs.Readings.{line_taken}

-- ----- words
abbrev pub is_visible : ℕ → Bool
is_visible c = nat_le 33 c && nat_le c 126

abbrev pub is_word : List ℕ → Bool
is_word word = not (is_empty word) && list_all is_visible word

abbrev pub spaced : List (List ℕ) → List ℕ
spaced words = flat_map (λ (w : List ℕ). 32 ∷ w) words

pub both : (a b : Bool) → (a && b) ≡ true → (a ≡ true) × (b ≡ true)
both true true e = (refl, refl)
both true false e = absurd (cc (e))
both false b e = absurd (cc (e))

word_parts : (word : List ℕ) → is_word word ≡ true → (is_empty word ≡ false) × (list_all is_visible word ≡ true)
word_parts word e =
    let parts : (not (is_empty word) ≡ true) × (list_all is_visible word ≡ true) = both _ _ e in
    (no_more (is_empty word) parts.0, parts.1) where
      no_more : (b : Bool) → not b ≡ true → b ≡ false
      no_more true e = absurd (cc (e))
      no_more false e = refl

not_byte : (byte c : ℕ) → is_visible c ≡ true → byte < 33 → eqb c byte ≡ false
not_byte byte c e h = grind (arith, nat_tests, e)

without_byte : (byte : ℕ) (word : List ℕ) → byte < 33 → list_all is_visible word ≡ true
    → All (λ (c : ℕ). eqb c byte ≡ false) word
without_byte byte word h e =
    λ k d below. not_byte byte (get_or word k d) (AllPass-from_list_all is_visible word e k d below) h

cut_words : (word : List ℕ) (words : List (List ℕ)) → list_all is_word (word ∷ words) ≡ true
    → slice_split (λ (c : ℕ). eqb c 32) (word ++ spaced words) ≡ word ∷ words
cut_words word [] e =
    let parts : (is_word word ≡ true) × (true ≡ true) = both _ _ e in
    ap (slice_split (λ (c : ℕ). eqb c 32)) (append-nil word)
    ∙ slice_split_none (λ (c : ℕ). eqb c 32) word (without_byte 32 word (omega arith) (word_parts word parts.0).1)
cut_words word (next ∷ words) e =
    let parts : (is_word word ≡ true) × (list_all is_word (next ∷ words) ≡ true) = both _ _ e in
    slice_split_at (λ (c : ℕ). eqb c 32) word 32 (next ++ spaced words)
    (without_byte 32 word (omega arith) (word_parts word parts.0).1) refl
    ∙ ap (λ (zs : List (List ℕ)). word ∷ zs) (cut_words next words parts.1)

kept : (words : List (List ℕ)) → list_all is_word words ≡ true
    → filter (λ (word : List ℕ). not (is_empty word)) words ≡ words
kept [] e = refl
kept (word ∷ words) e =
    let parts : (is_word word ≡ true) × (list_all is_word words ≡ true) = both _ _ e in
    by_test (is_empty word) (word_parts word parts.0).0 (kept words parts.1) where
      by_test : (b : Bool) → b ≡ false → filter (λ (w : List ℕ). not (is_empty w)) words ≡ words
          → cond (not b) (word ∷ filter (λ (w : List ℕ). not (is_empty w)) words)
          (filter (λ (w : List ℕ). not (is_empty w)) words) ≡ word ∷ words
      by_test true e h = absurd (cc (e))
      by_test false e h = ap (λ (ws : List (List ℕ)). word ∷ ws) h

words_there : (word : List ℕ) (words : List (List ℕ)) → list_all is_word (word ∷ words) ≡ true
    → words_of (word ++ spaced words) ≡ word ∷ words
words_there word words e =
    ap (filter (λ (w : List ℕ). not (is_empty w))) (cut_words word words e) ∙ kept (word ∷ words) e

-- ----- bytes of a line
printable_word : (word : List ℕ) → list_all is_visible word ≡ true → list_all is_printable word ≡ true
printable_word [] e = refl
printable_word (c ∷ cs) e =
    let parts : (is_visible c ≡ true) × (list_all is_visible cs ≡ true) = both _ _ e in
    let here : is_printable c ≡ true = grind (arith, nat_tests, parts.0) in
    rw (here, printable_word cs parts.1) refl

printable_rest : (words : List (List ℕ)) → list_all is_word words ≡ true → list_all is_printable (spaced words) ≡ true
printable_rest [] e = refl
printable_rest (word ∷ words) e =
    let parts : (is_word word ≡ true) × (list_all is_word words ≡ true) = both _ _ e in
    list_all-append is_printable word (spaced words)
    ∙ rw (printable_word word (word_parts word parts.0).1, printable_rest words parts.1) refl

printable_line : (word : List ℕ) (words : List (List ℕ)) → list_all is_word (word ∷ words) ≡ true
    → list_all is_printable (word ++ spaced words) ≡ true
printable_line word words e =
    let parts : (is_word word ≡ true) × (list_all is_word words ≡ true) = both _ _ e in
    list_all-append is_printable word (spaced words)
    ∙ rw (printable_word word (word_parts word parts.0).1, printable_rest words parts.1) refl

no_end : (line : List ℕ) → list_all is_printable line ≡ true → All (λ (c : ℕ). eqb c 10 ≡ false) line
no_end line e = λ k d below. no_feed (get_or line k d) (AllPass-from_list_all is_printable line e k d below) where
  no_feed : (c : ℕ) → is_printable c ≡ true → eqb c 10 ≡ false
  no_feed c e = grind (arith, nat_tests, e)

no_return : (line : List ℕ) → list_all is_printable line ≡ true → line ≡ strip_carriage_return line
no_return [] e = refl
no_return (c ∷ cs) e =
    let last : is_printable (get_or (c ∷ cs) (length (c ∷ cs) - 1) 0) ≡ true =
    AllPass-from_list_all is_printable (c ∷ cs) e (length (c ∷ cs) - 1) 0 (omega arith) in
    let other : eqb (get_or (c ∷ cs) (length (c ∷ cs) - 1) 0) 13 ≡ false = grind (arith, nat_tests, last) in
    rw other refl

-- ----- a line of words
pub says : (word : List ℕ) (words : List (List ℕ)) → list_all is_word (word ∷ words) ≡ true
    → length (word ++ spaced words) ≤ 4096
    → reading (word ++ spaced words) ≡ by_words (word ++ spaced words) (word ∷ words)
unfolding reading
says word words e short =
    let within : nat_lt 4096 (length (word ++ spaced words)) ≡ false = grind (arith, nat_tests, short) in
    rw (within, printable_line word words e, words_there word words e) refl

pub parted : (word front rest : List ℕ) → (word ++ (front ++ 10 ∷ [])) ++ rest ≡ (word ++ front) ++ 10 ∷ rest
parted word front rest = search (rules, append_assoc)

-- A draft and a text lead to a result, whatever the number of the next line.
abbrev pub Leads : Draft → (text : List ℕ) → Result Scenario ScenarioFault → Type 0
Leads d text all = (line : ℕ) → read_from line d (lines text) ≡ all

-- a line that is taken at the front of a text
pub line_leads : (d next : Draft) (text rest : List ℕ) → list_all is_printable text ≡ true → taken d text ≡ Ok next
    → (all : Result Scenario ScenarioFault) → Leads next rest all → Leads d (text ++ 10 ∷ rest) all
line_leads d next text rest clean taken_here all h line =
    let cut : slice_split (λ (c : ℕ). eqb c 10) (text ++ 10 ∷ rest) ≡ text ∷ slice_split (λ (c : ℕ). eqb c 10) rest =
    slice_split_at (λ (c : ℕ). eqb c 10) text 10 rest (no_end text clean) refl in
    sym (line_taken line d next (text ++ 10 ∷ rest) text rest text cut (no_return text clean) taken_here _ refl)
    ∙ h (line + 1)

-- a line of words that is taken at the front of a text
pub worded : (d next : Draft) (word : List ℕ) (words : List (List ℕ)) (rest : List ℕ)
    → list_all is_word (word ∷ words) ≡ true → length (word ++ spaced words) ≤ 4096
    → taken_by d (by_words (word ++ spaced words) (word ∷ words)) ≡ Ok next
    → (all : Result Scenario ScenarioFault) → Leads next rest all → Leads d (line_of word words ++ rest) all
worded d next word words rest e short t all h line =
    let text : List ℕ = word ++ spaced words in
    let taken_here : taken d text ≡ Ok next = ap (taken_by d) (says word words e short) ∙ t in
    ap (λ (zs : List ℕ). read_from line d (lines zs)) (parted word (spaced words) rest)
    ∙ line_leads d next text rest (printable_line word words e) taken_here all h line

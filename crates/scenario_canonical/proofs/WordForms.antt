-- Words that were read, and the words that are printed of them.
use Rattle.std.proofs.Common.{◌≡◌, ◌≤◌, ◌<◌, ℕ, zero, suc, ◌+◌, ◌*◌, ◌^◌, ◌&&◌, ◌||◌, nat_le, Bool, true, false, not}
use Rattle.std.proofs.Common.{List, [], ◌∷◌, ◌++◌, length, Option, Some, None, IfSome, refl, sym, ◌∙◌, ap, arith}
use Rattle.std.proofs.Common.{append_assoc, length-append}
use Rattle.std.specs.Prelude.{decimal, ⊤}
use Rattle.std.specs.List.{list_all}
use Rattle.std.specs.Fmt.{digits}
use Rattle.std.proofs.lemmas.Bool.Decides.{nat_tests}
use Rattle.std.proofs.lemmas.Fmt.{length-decimal-le}
use Rattle.tas_model.proofs.Tests.{on_cond}
use Rattle.scenario_text.specs.Words.{is_empty, is_numeral, value_of, number_in, is_letter, is_digit, is_name}
use Rattle.scenario_text.specs.Words.{begins_with_letter}
use Rattle.scenario_text.specs.Statements.{named, by_words, reading}
use Rattle.scenario_text.specs.Canonical.{line_of}
use Rattle.scenario_text.specs.declared.statement.Statement.{Statement}
use Rattle.scenario_text.specs.declared.statement.Reading.TheVariants.{Says}
use Rattle.scenario_text.proofs.Decimals.{number_there, number_is_word}
use Rattle.scenario_text.proofs.WordedLines.{is_visible, is_word, spaced, both, says}

-- ----- words that are printed
pub record IsShort (text : List ℕ) : Type 0 where
  pub word : is_word text ≡ true
  pub short : length text ≤ 16

pub fixed : (word : List ℕ) → is_word word ≡ true → nat_le (length word) 16 ≡ true → IsShort word
fixed word e h = record { word = e; short = grind (arith, nat_tests, h) }

abbrev pub AreShort : List (List ℕ) → Type 0
AreShort [] = ⊤
AreShort (word ∷ words) = IsShort word × AreShort words

all_words : (words : List (List ℕ)) → AreShort words → list_all is_word words ≡ true
all_words [] h = refl
all_words (word ∷ words) h = rw (h.0.word, all_words words h.1) refl

short_rest : (words : List (List ℕ)) → AreShort words → length (spaced words) ≤ 17 * length words
short_rest [] h = omega arith
short_rest (word ∷ words) h =
    let e : length (word ++ spaced words) ≡ length word + length (spaced words) = length-append word (spaced words) in
    let one : length word ≤ 16 = h.0.short in
    let more : length (spaced words) ≤ 17 * length words = short_rest words h.1 in
    omega (arith, e, one, more)

-- ----- lines
-- A text is one line, which says this.
abbrev pub IsLine : (text : List ℕ) → Statement → Type 0
IsLine text statement = (body : List ℕ) × (text ≡ body ++ 10 ∷ []) × (reading body ≡ Says statement)

-- a line of few short words says what its words say
pub line_said : (word : List ℕ) (words : List (List ℕ)) (statement : Statement) → AreShort (word ∷ words)
    → length words ≤ 20 → by_words (word ++ spaced words) (word ∷ words) ≡ Says statement
    → IsLine (line_of word words) statement
line_said word words statement h few e = (
  word ++ spaced words,
  sym (append_assoc word (spaced words) (10 ∷ [])),
  says word words (all_words (word ∷ words) h) fits ∙ e,
) where
  fits : length (word ++ spaced words) ≤ 4096
  fits =
      let all : length (word ++ spaced words) ≡ length word + length (spaced words) =
      length-append word (spaced words) in
      let one : length word ≤ 16 = h.0.short in
      let more : length (spaced words) ≤ 17 * length words = short_rest words h.1 in
      omega (arith, all, one, more, few)

-- ----- numbers
abbrev pub IsFrom : (low high n : ℕ) → Type 0
IsFrom low high n = (low ≤ n) × (n ≤ high)

-- a word that is taken as a number is one of its range
pub number_from : (low high : ℕ) (word : List ℕ) → IfSome (number_in low high word) (IsFrom low high)
number_from low high word =
    on_cond (λ (o : Option ℕ). IfSome o (IsFrom low high))
    (is_numeral word && nat_le low (value_of word) && nat_le (value_of word) high) (Some (value_of word)) None
    (λ t. by_tests (is_numeral word) low high (value_of word) t) (λ f. tt) where
      by_tests : (numeral : Bool) (low high n : ℕ) → (numeral && nat_le low n && nat_le n high) ≡ true
          → IsFrom low high n
      by_tests numeral low high n t = (grind (arith, nat_tests, t), grind (arith, nat_tests, t))

zero_there : (high : ℕ) → number_in 0 high (decimal 0) ≡ Some 0
unfolding digits
zero_there high = let above : nat_le 0 high ≡ true = grind (arith, nat_tests) in rw above refl

zero_again : (low high : ℕ) → low ≤ 0 → number_in low high (decimal 0) ≡ Some 0
zero_again zero high h = zero_there high
zero_again (suc low) high h = absurd (omega (arith, h))

number_again : (low high n : ℕ) → low ≤ n → n ≤ high → high ≤ 4294967295 → number_in low high (decimal n) ≡ Some n
number_again low high zero a b h = zero_again low high a
number_again low high (suc n) a b h = number_there low high (suc n) a b (omega arith) (omega (arith, b, h))

pub short_number : (n : ℕ) → n ≤ 4294967295 → IsShort (decimal n)
short_number n h =
    let ten : length (decimal n) ≤ 10 =
    length-decimal-le 10 n (omega arith) (omega (arith, h)) (omega (arith, h)) in
    record { word = number_is_word n (omega (arith, h)); short = omega (arith, ten) }

-- A number of a range, printed: it is read as itself.
pub record IsNumber (low high n : ℕ) : Type 0 where
  pub back : number_in low high (decimal n) ≡ Some n
  pub short : IsShort (decimal n)

pub number_of : (low high n : ℕ) → IsFrom low high n → high ≤ 4294967295 → IsNumber low high n
number_of low high n h top = record {
  back = number_again low high n h.0 h.1 top;
  short = short_number n (within n high h.1 top);
} where
  within : (n high : ℕ) → n ≤ high → high ≤ 4294967295 → n ≤ 4294967295
  within n high a b = omega (arith, a, b)

if_some : {X : Type 0} (P Q : X → Type 0) (o : Option X) → IfSome o P → ((x : X) → P x → Q x) → IfSome o Q
if_some P Q None h f = tt
if_some P Q (Some x) h f = f x h

pub number_word : (low high : ℕ) (word : List ℕ) → high ≤ 4294967295
    → IfSome (number_in low high word) (IsNumber low high)
number_word low high word top =
    if_some (IsFrom low high) (IsNumber low high) (number_in low high word) (number_from low high word)
    (λ n h. number_of low high n h top)

-- ----- names
pub record IsNamed (name : List ℕ) : Type 0 where
  pub is : is_name name ≡ true
  pub back : named name ≡ Some name
  pub short : IsShort name

visible_names : (word : List ℕ) → list_all (λ (c : ℕ). is_letter c || is_digit c) word ≡ true
    → list_all is_visible word ≡ true
visible_names [] e = refl
visible_names (c ∷ cs) e =
    let parts : ((is_letter c || is_digit c) ≡ true) × (list_all (λ (c : ℕ). is_letter c || is_digit c) cs ≡ true) =
    both _ _ e in
    let here : is_visible c ≡ true = visible c parts.0 in
    rw (here, visible_names cs parts.1) refl where
      visible : (c : ℕ) → (is_letter c || is_digit c) ≡ true → is_visible c ≡ true
      visible c e = grind (arith, nat_tests, e)

name_is_short : (word : List ℕ) → is_name word ≡ true → IsShort word
name_is_short word e =
    let parts : ((begins_with_letter word && nat_le (length word) 16) ≡ true)
    × (list_all (λ (c : ℕ). is_letter c || is_digit c) word ≡ true) = both _ _ e in
    let front : (begins_with_letter word ≡ true) × (nat_le (length word) 16 ≡ true) = both _ _ parts.0 in
    let within : nat_le (length word) 16 ≡ true = front.1 in
    record {
      word = rw (some_bytes word front.0, visible_names word parts.1) refl;
      short = grind (arith, nat_tests, within);
    } where
      some_bytes : (word : List ℕ) → begins_with_letter word ≡ true → is_empty word ≡ false
      some_bytes [] e = absurd (cc (e))
      some_bytes (c ∷ cs) e = refl

name_is_named : (word : List ℕ) → is_name word ≡ true → IsNamed word
name_is_named word e = record { is = e; back = rw e refl; short = name_is_short word e }

pub name_word : (word : List ℕ) → IfSome (named word) IsNamed
name_word word =
    on_cond (λ (o : Option (List ℕ)). IfSome o IsNamed) (is_name word) (Some word) None
    (λ t. name_is_named word t) (λ f. tt)

pub named_by : (word : List ℕ) → is_name word ≡ true → IsNamed word
named_by word e = name_is_named word e

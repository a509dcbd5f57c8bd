-- Addresses, as they are printed and read.
use Rattle.std.proofs.Common.{◌≡◌, ◌≤◌, ◌<◌, ℕ, ◌+◌, ◌*◌, ◌/◌, ◌%◌, ◌&&◌, Bool, true, false, not, eqb}
use Rattle.std.proofs.Common.{List, [], ◌∷◌, ◌++◌, length, get_or, Option, Some, None, IfSome, refl, ◌∙◌, ap, arith}
use Rattle.std.proofs.Common.{length-append}
use Rattle.std.specs.Prelude.{decimal}
use Rattle.std.specs.List.{list_all, slice_split, All}
use Rattle.std.proofs.lemmas.Bool.Decides.{nat_tests}
use Rattle.std.proofs.lemmas.Fmt.{digits_decimal, length-decimal-le}
use Rattle.std.proofs.lemmas.List.Folds.{list_all-append}
use Rattle.std.proofs.lemmas.List.Sums.{AllPass-from_list_all}
use Rattle.std.proofs.lemmas.List.Splits.{slice_split_at, slice_split_none}
use Rattle.scenario_text.specs.Words.{is_empty, is_digit, number_in, joined, address_in, address_of}
use Rattle.scenario_text.specs.Canonical.{address_text}
use Rattle.scenario_text.proofs.Decimals.{all_digits}
use Rattle.scenario_text.proofs.WordedLines.{is_visible, is_word, both}
use Rattle.scenario_canonical.proofs.WordForms.{IsShort, IsFrom, IsNumber, number_from, number_of}

-- ----- what is read
joined_from : (a b c d : Option ℕ) → IfSome a (IsFrom 0 255) → IfSome b (IsFrom 0 255) → IfSome c (IsFrom 0 255)
    → IfSome d (IsFrom 0 255) → IfSome (joined a b c d) (IsFrom 0 4294967295)
joined_from None b c d ha hb hc hd = tt
joined_from (Some a) None c d ha hb hc hd = tt
joined_from (Some a) (Some b) None d ha hb hc hd = tt
joined_from (Some a) (Some b) (Some c) None ha hb hc hd = tt
joined_from (Some a) (Some b) (Some c) (Some d) ha hb hc hd =
    (omega arith, within a b c d ha.1 hb.1 hc.1 hd.1) where
      within : (a b c d : ℕ) → a ≤ 255 → b ≤ 255 → c ≤ 255 → d ≤ 255 → ((a * 256 + b) * 256 + c) * 256 + d ≤ 4294967295
      within a b c d ha hb hc hd = omega (arith, ha, hb, hc, hd)

parts_from : (parts : List (List ℕ)) → IfSome (address_in parts) (IsFrom 0 4294967295)
parts_from [] = tt
parts_from (a ∷ []) = tt
parts_from (a ∷ b ∷ []) = tt
parts_from (a ∷ b ∷ c ∷ []) = tt
parts_from (a ∷ b ∷ c ∷ d ∷ []) =
    joined_from (number_in 0 255 a) (number_in 0 255 b) (number_in 0 255 c) (number_in 0 255 d)
    (number_from 0 255 a) (number_from 0 255 b) (number_from 0 255 c) (number_from 0 255 d)
parts_from (a ∷ b ∷ c ∷ d ∷ e ∷ parts) = tt

pub address_from : (word : List ℕ) → IfSome (address_of word) (IsFrom 0 4294967295)
address_from word = parts_from (slice_split (λ (c : ℕ). eqb c 46) word)

-- ----- what is printed
no_dot : (n : ℕ) → n ≤ 255 → All (λ (c : ℕ). eqb c 46 ≡ false) (decimal n)
no_dot n h =
    let digits : list_all is_digit (decimal n) ≡ true = all_digits n (omega (arith, h)) in
    λ k d below. other (get_or (decimal n) k d) (AllPass-from_list_all is_digit (decimal n) digits k d below) where
      other : (c : ℕ) → is_digit c ≡ true → eqb c 46 ≡ false
      other c e = grind (arith, nat_tests, e)

four_parts : (a b c d : ℕ) → a ≤ 255 → b ≤ 255 → c ≤ 255 → d ≤ 255
    → slice_split (λ (c : ℕ). eqb c 46) (decimal a ++ (46 ∷ decimal b ++ (46 ∷ decimal c ++ (46 ∷ decimal d))))
    ≡ decimal a ∷ decimal b ∷ decimal c ∷ decimal d ∷ []
four_parts a b c d ha hb hc hd =
    let dot : ℕ → Bool = λ (c : ℕ). eqb c 46 in
    let last : slice_split dot (decimal d) ≡ decimal d ∷ [] = slice_split_none dot (decimal d) (no_dot d hd) in
    slice_split_at dot (decimal a) 46 (decimal b ++ (46 ∷ decimal c ++ (46 ∷ decimal d))) (no_dot a ha) refl
    ∙ ap (λ (ps : List (List ℕ)). decimal a ∷ ps)
    (slice_split_at dot (decimal b) 46 (decimal c ++ (46 ∷ decimal d)) (no_dot b hb) refl
    ∙ ap (λ (ps : List (List ℕ)). decimal b ∷ ps)
    (slice_split_at dot (decimal c) 46 (decimal d) (no_dot c hc) refl
    ∙ ap (λ (ps : List (List ℕ)). decimal c ∷ ps) last))

byte_back : (n : ℕ) → n ≤ 255 → number_in 0 255 (decimal n) ≡ Some n
byte_back n h = (number_of 0 255 n (omega arith, h) (omega arith)).back

four_back : (a b c d : ℕ) → a ≤ 255 → b ≤ 255 → c ≤ 255 → d ≤ 255
    → address_in (decimal a ∷ decimal b ∷ decimal c ∷ decimal d ∷ []) ≡ Some (((a * 256 + b) * 256 + c) * 256 + d)
four_back a b c d ha hb hc hd =
    four_joined (number_in 0 255 (decimal a)) (number_in 0 255 (decimal b)) (number_in 0 255 (decimal c))
    (number_in 0 255 (decimal d)) (byte_back a ha) (byte_back b hb) (byte_back c hc) (byte_back d hd) where
      four_joined : (p q r s : Option ℕ) → p ≡ Some a → q ≡ Some b → r ≡ Some c → s ≡ Some d
          → joined p q r s ≡ Some (((a * 256 + b) * 256 + c) * 256 + d)
      four_joined p q r s ep eq er es = rw (ep, eq, er, es) refl

pub address_back : (addr : ℕ) → addr ≤ 4294967295 → address_of (address_text addr) ≡ Some addr
address_back addr h =
    let a : ℕ = addr / 16777216 in
    let b : ℕ = addr / 65536 % 256 in
    let c : ℕ = addr / 256 % 256 in
    let d : ℕ = addr % 256 in
    let ha : a ≤ 255 = omega (arith, h) in
    let hb : b ≤ 255 = omega arith in
    let hc : c ≤ 255 = omega arith in
    let hd : d ≤ 255 = omega arith in
    let whole : ((a * 256 + b) * 256 + c) * 256 + d ≡ addr = omega arith in
    ap address_in (four_parts a b c d ha hb hc hd) ∙ (four_back a b c d ha hb hc hd ∙ ap (λ (n : ℕ). Some n) whole)

-- ----- it is a short word
digits_visible : (ds : List ℕ) → list_all is_digit ds ≡ true → list_all is_visible ds ≡ true
digits_visible [] e = refl
digits_visible (c ∷ cs) e =
    let parts : (is_digit c ≡ true) × (list_all is_digit cs ≡ true) = both _ _ e in
    let here : is_visible c ≡ true = visible c parts.0 in
    rw (here, digits_visible cs parts.1) refl where
      visible : (c : ℕ) → is_digit c ≡ true → is_visible c ≡ true
      visible c e = grind (arith, nat_tests, e)

decimal_visible : (n : ℕ) → n ≤ 255 → list_all is_visible (decimal n) ≡ true
decimal_visible n h = digits_visible (decimal n) (all_digits n (omega (arith, h)))

visible_before : (xs ys : List ℕ) → list_all is_visible xs ≡ true → list_all is_visible ys ≡ true
    → list_all is_visible (xs ++ ys) ≡ true
visible_before xs ys a b = list_all-append is_visible xs ys ∙ rw (a, b) refl

three_digits : (n : ℕ) → n ≤ 255 → length (decimal n) ≤ 3
three_digits n h = length-decimal-le 3 n (omega arith) (omega (arith, h)) (omega (arith, h))

word_by : (text : List ℕ) → is_empty text ≡ false → list_all is_visible text ≡ true → is_word text ≡ true
word_by text a b = rw (a, b) refl

some_behind : (xs ys : List ℕ) (c : ℕ) → is_empty (xs ++ (c ∷ ys)) ≡ false
some_behind [] ys c = refl
some_behind (x ∷ xs) ys c = refl

four_short : (a b c d : ℕ) → a ≤ 255 → b ≤ 255 → c ≤ 255 → d ≤ 255
    → IsShort (decimal a ++ (46 ∷ decimal b ++ (46 ∷ decimal c ++ (46 ∷ decimal d))))
four_short a b c d ha hb hc hd =
    let last : List ℕ = 46 ∷ decimal d in
    let third : List ℕ = 46 ∷ decimal c ++ last in
    let second : List ℕ = 46 ∷ decimal b ++ third in
    let v3 : list_all is_visible third ≡ true =
    visible_before (decimal c) last (decimal_visible c hc) (decimal_visible d hd) in
    let v2 : list_all is_visible second ≡ true = visible_before (decimal b) third (decimal_visible b hb) v3 in
    let v1 : list_all is_visible (decimal a ++ second) ≡ true =
    visible_before (decimal a) second (decimal_visible a ha) v2 in
    let e1 : length (decimal a ++ second) ≡ length (decimal a) + length second = length-append (decimal a) second in
    let e2 : length (decimal b ++ third) ≡ length (decimal b) + length third = length-append (decimal b) third in
    let e3 : length (decimal c ++ last) ≡ length (decimal c) + length last = length-append (decimal c) last in
    let la : length (decimal a) ≤ 3 = three_digits a ha in
    let lb : length (decimal b) ≤ 3 = three_digits b hb in
    let lc : length (decimal c) ≤ 3 = three_digits c hc in
    let ld : length (decimal d) ≤ 3 = three_digits d hd in
    record {
      word = word_by (decimal a ++ second) (some_behind (decimal a) (decimal b ++ third) 46) v1;
      short = omega (arith, e1, e2, e3, la, lb, lc, ld);
    }

pub address_short : (addr : ℕ) → addr ≤ 4294967295 → IsShort (address_text addr)
address_short addr h =
    four_short (addr / 16777216) (addr / 65536 % 256) (addr / 256 % 256) (addr % 256) (omega (arith, h)) (omega arith)
    (omega arith) (omega arith)

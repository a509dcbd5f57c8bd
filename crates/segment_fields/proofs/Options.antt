-- Reading the options from left to right.
use Rattle.std.proofs.Common.{◌≡◌, ℕ, ◌<◌, ◌≤◌, ◌-◌, zero, suc, List, [], ◌∷◌, Option, drop, length, refl, sym, ap}
use Rattle.std.proofs.Common.{arith, ◌∙◌}
use Rattle.std.specs.Option.{option_or}
use Rattle.segment_fields.specs.Options.{options_past, option_at, first_mss, first_scale}
use Rattle.segment_fields.specs.declared.segment.FirstOption.{FirstOption}
use Rattle.segment_fields.specs.declared.segment.FirstOption.TheVariants.{Ends, Mss, Scale, Skips}

-- to skip is to drop
pub options_past_skip : (n : ℕ) (xs : List ℕ) → options_past n xs ≡ options_past 0 (drop n xs)
options_past_skip zero [] = refl
options_past_skip (suc n) [] = refl
options_past_skip zero (x ∷ xs) = refl
options_past_skip (suc n) (x ∷ xs) = options_past_skip n xs

-- what the first option says, and then the options after it
abbrev after : List ℕ → FirstOption → List FirstOption
after xs Ends = []
after xs (Mss m) = Mss m ∷ options_past 3 xs
after xs (Scale s) = Scale s ∷ options_past 2 xs
after xs (Skips n) = options_past (n - 1) xs

pub past_ends : (xs : List ℕ) → Ends ≡ option_at xs → options_past 0 xs ≡ []
past_ends [] e = refl
past_ends (x ∷ xs) e = ap (after xs) (sym e)

pub past_mss : (xs : List ℕ) (m : ℕ) → 4 ≤ length xs → Mss m ≡ option_at xs
    → options_past 0 xs ≡ Mss m ∷ options_past 0 (drop 4 xs)
past_mss [] m some e = absurd (omega (arith, some))
past_mss (x ∷ xs) m some e = ap (after xs) (sym e)
    ∙ ap (λ (os : List FirstOption). Mss m ∷ os) (options_past_skip 3 xs)

pub past_scale : (xs : List ℕ) (s : ℕ) → 3 ≤ length xs → Scale s ≡ option_at xs
    → options_past 0 xs ≡ Scale s ∷ options_past 0 (drop 3 xs)
past_scale [] s some e = absurd (omega (arith, some))
past_scale (x ∷ xs) s some e = ap (after xs) (sym e)
    ∙ ap (λ (os : List FirstOption). Scale s ∷ os) (options_past_skip 2 xs)

pub past_skips : (xs : List ℕ) (n : ℕ) → 0 < n → Skips n ≡ option_at xs
    → options_past 0 xs ≡ options_past 0 (drop n xs)
past_skips xs zero some e = absurd (omega (arith, some))
past_skips [] (suc n) some e = refl
past_skips (x ∷ xs) (suc n) some e =
    let less : suc n - 1 ≡ n = omega arith in
    ap (after xs) (sym e) ∙ (ap (λ (k : ℕ). options_past k xs) less ∙ options_past_skip n xs)

-- ----- what was found so far, and what the rest says
abbrev pub HaveFound : (mss scale : Option ℕ) (rest all : List FirstOption) → Type 0
HaveFound mss scale rest all = (option_or mss (first_mss rest) ≡ first_mss all)
    × (option_or scale (first_scale rest) ≡ first_scale all)

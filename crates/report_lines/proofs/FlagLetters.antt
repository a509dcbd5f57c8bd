-- The letters of flags: what is read is what is written.
use Rattle.std.proofs.Common.{◌≡◌, ℕ, zero, suc, ◌+◌, ◌*◌, ◌/◌, ◌%◌, ◌≤◌, ◌<◌, Bool, true, false, not, ◌&&◌, cond}
use Rattle.std.proofs.Common.{eqb}
use Rattle.std.proofs.Common.{List, [], ◌∷◌, ◌++◌, Some, refl, sym, ap, subst, ◌∙◌, arith, append_assoc}
use Rattle.std.specs.Prelude.{codes, bytes_eq}
use Rattle.std.specs.List.{list_all}
use Rattle.std.proofs.lemmas.Slice.Eq.{bytes_eq-Decides}
use Rattle.std.proofs.lemmas.Bool.{eqb-true, eq-eqb, and_parts, not-true}
use Rattle.std.proofs.lemmas.Option.{some_pair_parts}
use Rattle.segment_fields.specs.ControlBits.{has}
use Rattle.tas_runs.specs.Report as report
use Rattle.report_lines.specs.Fronts.{with, behind, word}
use Rattle.report_lines.specs.Segments.{Letters, letter_at, letters_at, flags_of, flags}
use Rattle.report_lines.proofs.Exactness.{Exact, word_spells}

-- a letter where a bit is set, and what it is worth
abbrev shown : Bool → (letter : ℕ) → List ℕ
shown t letter = cond t (letter ∷ []) []

abbrev worth : Bool → (bit : ℕ) → ℕ
worth t bit = cond t bit 0

-- all eight
abbrev spelled : (c e u a p r s f : Bool) → List ℕ
spelled c e u a p r s f = shown c 67 ++ (shown e 69 ++ (shown u 85 ++ (shown a 65 ++ (shown p 80 ++ (shown r 82
    ++ (shown s 83 ++ shown f 70))))))

abbrev all_worth : (c e u a p r s f : Bool) → ℕ
all_worth c e u a p r s f = worth c 128 + worth e 64 + worth u 32 + worth a 16 + worth p 8 + worth r 4 + worth s 2
    + worth f 1

-- ----- the bits of their sum
-- Both values of a Bool pass.
unfoldable both_pass : (Bool → Bool) → Bool
both_pass test = test true && test false

at_each : (test : Bool → Bool) → both_pass test ≡ true → (b : Bool) → test b ≡ true
unfolding both_pass
at_each test e true = (and_parts (test true) (test false) e).0
at_each test e false = (and_parts (test true) (test false) e).1

-- the letters of the sum are those that are shown, at all values from one of them on
abbrev same_8 : (c e u a p r s f : Bool) → Bool
same_8 c e u a p r s f = bytes_eq (report.letters (all_worth c e u a p r s f)) (spelled c e u a p r s f)

abbrev same_7 : (c e u a p r s : Bool) → Bool
same_7 c e u a p r s = both_pass (same_8 c e u a p r s)

abbrev same_6 : (c e u a p r : Bool) → Bool
same_6 c e u a p r = both_pass (same_7 c e u a p r)

abbrev same_5 : (c e u a p : Bool) → Bool
same_5 c e u a p = both_pass (same_6 c e u a p)

abbrev same_4 : (c e u a : Bool) → Bool
same_4 c e u a = both_pass (same_5 c e u a)

abbrev same_3 : (c e u : Bool) → Bool
same_3 c e u = both_pass (same_4 c e u)

abbrev same_2 : (c e : Bool) → Bool
same_2 c e = both_pass (same_3 c e)

abbrev same_1 : (c : Bool) → Bool
same_1 c = both_pass (same_2 c)

abbrev same_0 : Bool
same_0 = both_pass (same_1)

all_same : same_0 ≡ true
unfolding both_pass
all_same = refl

letters_of_sum : (c e u a p r s f : Bool) → report.letters (all_worth c e u a p r s f) ≡ spelled c e u a p r s f
letters_of_sum c e u a p r s f =
    let e1 : same_1 c ≡ true = at_each same_1 all_same c in
    let e2 : same_2 c e ≡ true = at_each (same_2 c) e1 e in
    let e3 : same_3 c e u ≡ true = at_each (same_3 c e) e2 u in
    let e4 : same_4 c e u a ≡ true = at_each (same_4 c e u) e3 a in
    let e5 : same_5 c e u a p ≡ true = at_each (same_5 c e u a) e4 p in
    let e6 : same_6 c e u a p r ≡ true = at_each (same_6 c e u a p) e5 r in
    let e7 : same_7 c e u a p r s ≡ true = at_each (same_7 c e u a p r) e6 s in
    let e8 : same_8 c e u a p r s f ≡ true = at_each (same_8 c e u a p r s) e7 f in
    (bytes_eq-Decides (report.letters (all_worth c e u a p r s f)) (spelled c e u a p r s f)).0 e8

one : (t : Bool) (bit : ℕ) → worth t bit ≤ bit
one true bit = omega arith
one false bit = omega arith

sum_small : (c e u a p r s f : Bool) → all_worth c e u a p r s f < 256
sum_small c e u a p r s f = omega (
  arith,
  one c 128,
  one e 64,
  one u 32,
  one a 16,
  one p 8,
  one r 4,
  one s 2,
  one
      f 1,
)

worth_of_bit : (q bit : ℕ) → worth (eqb (q % 2) 1) bit ≡ q % 2 * bit
worth_of_bit q bit = by_half (q % 2) (omega arith) where
  by_half : (h : ℕ) → h < 2 → worth (eqb h 1) bit ≡ h * bit
  by_half zero small = omega arith
  by_half (suc zero) small = omega arith
  by_half (suc (suc h)) small = absurd (omega arith)

sum_back : (f : ℕ) → f < 256 → all_worth (has f 128) (has f 64) (has f 32) (has f 16) (has f 8) (has f 4) (has f 2)
    (has f 1) ≡ f
sum_back f small =
    omega (
      arith,
      worth_of_bit (f / 128) 128,
      worth_of_bit (f / 64) 64,
      worth_of_bit (f / 32) 32,
      worth_of_bit (f / 16) 16,
      worth_of_bit (f / 8) 8,
      worth_of_bit (f / 4) 4,
      worth_of_bit (f / 2) 2,
      worth_of_bit (f / 1) 1,
    )

-- ----- one letter
abbrev begins : List ℕ → (letter : ℕ) → Bool
begins [] letter = false
begins (c ∷ cs) letter = eqb c letter

letter_taken : (bit letter acc : ℕ) (t : List ℕ) → (b : Bool)
    × (t ≡ shown b letter ++ (letter_at bit letter (acc, t)).1)
    × ((letter_at bit letter (acc, t)).0 ≡ acc + worth b bit)
unfolding letter_at
letter_taken bit letter acc [] = (false, refl, omega arith)
letter_taken bit letter acc (c ∷ cs) = by_test (eqb c letter) refl where
  taken : Bool → Letters
  taken same = cond same (acc + bit, cs) (acc, c ∷ cs)

  by_test : (same : Bool) → eqb c letter ≡ same → (b : Bool) × (c ∷ cs ≡ shown b letter ++ (taken same).1)
      × ((taken same).0 ≡ acc + worth b bit)
  by_test true e = (true, ap (λ (x : ℕ). x ∷ cs) (eqb-true c letter e), refl)
  by_test false e = (false, refl, omega arith)

letter_again : (bit letter acc : ℕ) (b : Bool) (more : List ℕ) → begins more letter ≡ false
    → letter_at bit letter (acc, shown b letter ++ more) ≡ (acc + worth b bit, more)
unfolding letter_at
letter_again bit letter acc true more e = rw (eq-eqb letter letter refl) refl
letter_again bit letter acc false [] e = ap (λ (n : ℕ). (n, [])) (omega arith)
letter_again bit letter acc false (c ∷ cs) e = rw e (ap (λ (n : ℕ). (n, c ∷ cs)) (omega arith))

-- ----- all letters that are read
record IsSpelled (t : List ℕ) (l : Letters) : Type 0 where
  letters : t ≡ report.letters l.0 ++ l.1
  small : l.0 < 256

regroup : (c e u a p r s f rest : List ℕ) → c ++ (e ++ (u ++ (a ++ (p ++ (r ++ (s ++ (f ++ rest)))))))
    ≡ (c ++ (e ++ (u ++ (a ++ (p ++ (r ++ (s ++ f))))))) ++ rest
regroup c e u a p r s f rest = sym (simp append_assoc refl)

letters_found : (t : List ℕ) → IsSpelled t (letters_at t)
unfolding letters_at
letters_found t =
    let l0 : Letters = (0, t) in
    let s1 = letter_taken 128 67 l0.0 l0.1 in
    let l1 : Letters = letter_at 128 67 l0 in
    let s2 = letter_taken 64 69 l1.0 l1.1 in
    let l2 : Letters = letter_at 64 69 l1 in
    let s3 = letter_taken 32 85 l2.0 l2.1 in
    let l3 : Letters = letter_at 32 85 l2 in
    let s4 = letter_taken 16 65 l3.0 l3.1 in
    let l4 : Letters = letter_at 16 65 l3 in
    let s5 = letter_taken 8 80 l4.0 l4.1 in
    let l5 : Letters = letter_at 8 80 l4 in
    let s6 = letter_taken 4 82 l5.0 l5.1 in
    let l6 : Letters = letter_at 4 82 l5 in
    let s7 = letter_taken 2 83 l6.0 l6.1 in
    let l7 : Letters = letter_at 2 83 l6 in
    let s8 = letter_taken 1 70 l7.0 l7.1 in
    let l8 : Letters = letter_at 1 70 l7 in
    let sum : l8.0 ≡ all_worth s1.0 s2.0 s3.0 s4.0 s5.0 s6.0 s7.0 s8.0 =
    omega (arith, s1.2, s2.2, s3.2, s4.2, s5.2, s6.2, s7.2, s8.2) in
    let text : t ≡ shown s1.0 67 ++ (shown s2.0 69 ++ (shown s3.0 85 ++
    (shown s4.0 65 ++ (shown s5.0 80 ++ (shown s6.0 82 ++ (shown s7.0 83 ++ (shown s8.0 70 ++ l8.1))))))) =
    s1.1
    ∙ ap (λ (w : List ℕ). shown s1.0 67 ++ (w)) s2.1
    ∙ ap (λ (w : List ℕ). shown s1.0 67 ++ (shown s2.0 69 ++ (w))) s3.1
    ∙ ap (λ (w : List ℕ). shown s1.0 67 ++ (shown s2.0 69 ++ (shown s3.0 85 ++ (w)))) s4.1
    ∙ ap (λ (w : List ℕ). shown s1.0 67 ++ (shown s2.0 69 ++ (shown s3.0 85 ++ (shown s4.0 65 ++ (w))))) s5.1
    ∙ ap (λ (w : List ℕ). shown s1.0 67 ++ (shown s2.0 69 ++ (shown s3.0 85 ++
    (shown s4.0 65 ++ (shown s5.0 80 ++ (w)))))) s6.1
    ∙ ap (λ (w : List ℕ). shown s1.0 67 ++ (shown s2.0 69 ++ (shown s3.0 85 ++
    (shown s4.0 65 ++ (shown s5.0 80 ++ (shown s6.0 82 ++ (w))))))) s7.1
    ∙ ap (λ (w : List ℕ). shown s1.0 67 ++ (shown s2.0 69 ++ (shown s3.0 85 ++
    (shown s4.0 65 ++ (shown s5.0 80 ++ (shown s6.0 82 ++ (shown s7.0 83 ++ (w)))))))) s8.1 in
    let whole : t ≡ spelled s1.0 s2.0 s3.0 s4.0 s5.0 s6.0 s7.0 s8.0 ++ l8.1 =
    text ∙ regroup (shown s1.0 67) (shown s2.0 69) (shown s3.0 85) (shown s4.0 65) (shown s5.0 80) (shown s6.0 82)
    (shown s7.0 83) (shown s8.0 70) l8.1 in
    record {
      letters = whole ∙ ap (λ (w : List ℕ). w ++ l8.1)
          (sym (letters_of_sum s1.0 s2.0 s3.0 s4.0 s5.0 s6.0 s7.0 s8.0) ∙ ap report.letters (sym sum));
      small = omega (arith, sum, sum_small s1.0 s2.0 s3.0 s4.0 s5.0 s6.0 s7.0 s8.0);
    }

-- ----- and that are written
-- The text goes on with a space.
abbrev pub is_spaced : List ℕ → Bool
is_spaced [] = false
is_spaced (c ∷ cs) = eqb c 32

abbrev spelled_from : List (Bool × ℕ) → (rest : List ℕ) → List ℕ
spelled_from [] rest = rest
spelled_from (l ∷ ls) rest = shown l.0 l.1 ++ spelled_from ls rest

space_first : (rest : List ℕ) (letter : ℕ) → is_spaced rest ≡ true → eqb 32 letter ≡ false
    → begins rest letter ≡ false
space_first [] letter e h = refl
space_first (c ∷ cs) letter e h = ap (λ (x : ℕ). eqb x letter) (eqb-true c 32 e) ∙ h

begins_from : (ls : List (Bool × ℕ)) (rest : List ℕ) (letter : ℕ)
    → list_all (λ (l : Bool × ℕ). not (eqb l.1 letter)) ls ≡ true → is_spaced rest ≡ true → eqb 32 letter ≡ false
    → begins (spelled_from ls rest) letter ≡ false
begins_from [] rest letter all e h = space_first rest letter e h
begins_from (l ∷ ls) rest letter all e h =
    let parts = and_parts (not (eqb l.1 letter)) (list_all (λ (m : Bool × ℕ). not (eqb m.1 letter)) ls) all in
    by_shown l.0 (begins_from ls rest letter parts.1 e h) (not-true (eqb l.1 letter) parts.0) where
      by_shown : (b : Bool) → begins (spelled_from ls rest) letter ≡ false → eqb l.1 letter ≡ false
          → begins (shown b l.1 ++ spelled_from ls rest) letter ≡ false
      by_shown true more other = other
      by_shown false more other = more

letters_back : (c e u a p r s f : Bool) (rest : List ℕ) → is_spaced rest ≡ true
    → letters_at (spelled c e u a p r s f ++ rest) ≡ (all_worth c e u a p r s f, rest)
unfolding letters_at
letters_back c e u a p r s f rest spaced =
    let r1 : List ℕ = spelled_from ((e, 69) ∷ (u, 85) ∷ (a, 65) ∷ (p, 80) ∷ (r, 82) ∷ (s, 83) ∷ (f, 70) ∷ []) rest
    in
    let r2 : List ℕ = spelled_from ((u, 85) ∷ (a, 65) ∷ (p, 80) ∷ (r, 82) ∷ (s, 83) ∷ (f, 70) ∷ []) rest in
    let r3 : List ℕ = spelled_from ((a, 65) ∷ (p, 80) ∷ (r, 82) ∷ (s, 83) ∷ (f, 70) ∷ []) rest in
    let r4 : List ℕ = spelled_from ((p, 80) ∷ (r, 82) ∷ (s, 83) ∷ (f, 70) ∷ []) rest in
    let r5 : List ℕ = spelled_from ((r, 82) ∷ (s, 83) ∷ (f, 70) ∷ []) rest in
    let r6 : List ℕ = spelled_from ((s, 83) ∷ (f, 70) ∷ []) rest in
    let r7 : List ℕ = spelled_from ((f, 70) ∷ []) rest in
    let r8 : List ℕ = spelled_from ([]) rest in
    let e1 = letter_again 128 67 0 c r1
    (begins_from ((e, 69) ∷ (u, 85) ∷ (a, 65) ∷ (p, 80) ∷ (r, 82) ∷ (s, 83) ∷ (f, 70) ∷ []) rest 67 refl spaced
    refl) in
    let e2 = letter_again 64 69 (0 + worth c 128) e r2
    (begins_from ((u, 85) ∷ (a, 65) ∷ (p, 80) ∷ (r, 82) ∷ (s, 83) ∷ (f, 70) ∷ []) rest 69 refl spaced refl) in
    let e3 = letter_again 32 85 ((0 + worth c 128) + worth e 64) u r3
    (begins_from ((a, 65) ∷ (p, 80) ∷ (r, 82) ∷ (s, 83) ∷ (f, 70) ∷ []) rest 85 refl spaced refl) in
    let e4 = letter_again 16 65 (((0 + worth c 128) + worth e 64) + worth u 32) a r4
    (begins_from ((p, 80) ∷ (r, 82) ∷ (s, 83) ∷ (f, 70) ∷ []) rest 65 refl spaced refl) in
    let e5 = letter_again 8 80 ((((0 + worth c 128) + worth e 64) + worth u 32) + worth a 16) p r5
    (begins_from ((r, 82) ∷ (s, 83) ∷ (f, 70) ∷ []) rest 80 refl spaced refl) in
    let e6 = letter_again 4 82 (((((0 + worth c 128) + worth e 64) + worth u 32) + worth a 16) + worth p 8) r r6
    (begins_from ((s, 83) ∷ (f, 70) ∷ []) rest 82 refl spaced refl) in
    let e7 = letter_again 2 83 ((((((0 + worth c 128) + worth e 64) + worth u 32) + worth a 16) + worth p 8) +
    worth r 4) s r7
    (begins_from ((f, 70) ∷ []) rest 83 refl spaced refl) in
    let e8 = letter_again 1 70 (((((((0 + worth c 128) + worth e 64) + worth u 32) + worth a 16) + worth p 8) +
    worth r 4) + worth s 2) f r8
    (begins_from [] rest 70 refl spaced refl) in
    let sum : ((((((((0 + worth c 128) + worth e 64) + worth u 32) + worth a 16) + worth p 8) + worth r 4) + worth
    s 2) + worth f 1) ≡ all_worth c e u a p r s f = omega arith in
    ap (λ (t : List ℕ). letters_at t) (sym (regroup (shown c 67) (shown e 69) (shown u 85) (shown a 65)
    (shown p 80) (shown r 82) (shown s 83) (shown f 70) rest))
    ∙ (ap (λ (l : Letters). letter_at 1 70 (letter_at 2 83 (letter_at 4 82
    (letter_at 8 80 (letter_at 16 65 (letter_at 32 85 (letter_at 64 69 l))))))) e1
    ∙ (ap (λ (l : Letters). letter_at 1 70 (letter_at 2 83 (letter_at 4 82
    (letter_at 8 80 (letter_at 16 65 (letter_at 32 85 l)))))) e2
    ∙ (ap (λ (l : Letters). letter_at 1 70 (letter_at 2 83 (letter_at 4 82 (letter_at 8 80 (letter_at 16 65 l)))))
    e3
    ∙ (ap (λ (l : Letters). letter_at 1 70 (letter_at 2 83 (letter_at 4 82 (letter_at 8 80 l)))) e4
    ∙ (ap (λ (l : Letters). letter_at 1 70 (letter_at 2 83 (letter_at 4 82 l))) e5
    ∙ (ap (λ (l : Letters). letter_at 1 70 (letter_at 2 83 l)) e6
    ∙ (ap (λ (l : Letters). letter_at 1 70 l) e7
    ∙ (e8 ∙ ap (λ (n : ℕ). (n, rest)) sum))))))))

-- the letters, grouped to the right
same_letters : (f : ℕ) → report.letters f
    ≡ spelled (has f 128) (has f 64) (has f 32) (has f 16) (has f 8) (has f 4) (has f 2) (has f 1)
same_letters f =
    grouped (shown (has f 128) 67) (shown (has f 64) 69) (shown (has f 32) 85) (shown (has f 16) 65)
    (shown (has f 8) 80) (shown (has f 4) 82) (shown (has f 2) 83) (shown (has f 1) 70) where
      grouped : (c e u a p r s f : List ℕ) → c ++ e ++ u ++ a ++ p ++ r ++ s ++ f
          ≡ c ++ (e ++ (u ++ (a ++ (p ++ (r ++ (s ++ f))))))
      grouped c e u a p r s f = simp append_assoc refl

letters_again : (f : ℕ) (rest : List ℕ) → f < 256 → is_spaced rest ≡ true
    → letters_at (report.letters f ++ rest) ≡ (f, rest)
letters_again f rest small spaced =
    ap (λ (w : List ℕ). letters_at (w ++ rest)) (same_letters f)
    ∙ (letters_back (has f 128) (has f 64) (has f 32) (has f 16) (has f 8) (has f 4) (has f 2) (has f 1) rest spaced
    ∙ ap (λ (n : ℕ). (n, rest)) (sum_back f small))

-- ----- flags
abbrev pub AreFlags : ℕ → Type 0
AreFlags f = f < 256

dash_found : (t rest : List ℕ) (x : ℕ) → word (codes "-") 0 t ≡ Some (x, rest)
    → (t ≡ report.flags_text x ++ rest) × AreFlags x
dash_found t rest x e =
    (word_spells report.flags_text AreFlags (codes "-") 0 refl (omega arith)).found t x rest e

flags_found : (t : List ℕ) (x : ℕ) (rest : List ℕ) → flags t ≡ Some (x, rest)
    → (t ≡ report.flags_text x ++ rest) × AreFlags x
unfolding flags
flags_found t x rest e = by_zero (letters_at t) (letters_found t) (eqb (letters_at t).0 0) refl e where
  by_zero : (l : Letters) → IsSpelled t l → (z : Bool) → eqb l.0 0 ≡ z
      → cond z (word (codes "-") 0 l.1) (Some l) ≡ Some (x, rest) → (t ≡ report.flags_text x ++ rest) × AreFlags x
  by_zero l s true z e =
      let none : l.0 ≡ 0 = eqb-true l.0 0 z in
      let same : t ≡ l.1 = s.letters ∙ ap (λ (n : ℕ). report.letters n ++ l.1) none in
      let is = dash_found l.1 rest x e in
      (same ∙ is.0, is.1)
  by_zero l s false z e =
      let parts : (l.0 ≡ x) × (l.1 ≡ rest) = some_pair_parts l.0 x l.1 rest e in
      let other : eqb x 0 ≡ false = ap (λ (n : ℕ). eqb n 0) (sym parts.0) ∙ z in
      let shows : report.letters x ≡ report.flags_text x =
      ap (λ (b : Bool). cond b (codes "-") (report.letters x)) (sym other) in (
        s.letters ∙ (ap (λ (n : ℕ). report.letters n ++ l.1) parts.0
            ∙ (ap (λ (r : List ℕ). report.letters x ++ r) parts.1 ∙ ap (λ (w : List ℕ). w ++ rest) shows)),
        subst AreFlags parts.0 s.small,
      )

dash_again : (rest : List ℕ) → flags (codes "-" ++ rest) ≡ Some (0, rest)
unfolding flags letters_at letter_at with behind
dash_again rest = refl

flags_again : (f : ℕ) (rest : List ℕ) → AreFlags f → is_spaced rest ≡ true
    → flags (report.flags_text f ++ rest) ≡ Some (f, rest)
unfolding flags
flags_again f rest small spaced = by_zero (eqb f 0) refl where
  by_zero : (z : Bool) → eqb f 0 ≡ z → flags (cond z (codes "-") (report.letters f) ++ rest) ≡ Some (f, rest)
  by_zero true z = dash_again rest ∙ ap (λ (n : ℕ). Some (n, rest)) (sym (eqb-true f 0 z))
  by_zero false z =
      ap flags_of (letters_again f rest small spaced)
      ∙ ap (λ (b : Bool). cond b (word (codes "-") 0 rest) (Some (f, rest))) z

pub flags_exact : Exact report.flags_text AreFlags is_spaced flags
flags_exact = record { spells = record { found = flags_found }; again = flags_again }

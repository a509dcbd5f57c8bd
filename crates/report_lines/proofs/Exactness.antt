-- Readers that read what is written, and nothing else; and what is built of such.
use Rattle.std.proofs.Common.{◌≡◌, ℕ, zero, suc, Bool, true, false, ◌&&◌, List, [], ◌∷◌, ◌++◌, Option, Some, None}
use Rattle.std.proofs.Common.{refl}
use Rattle.std.proofs.Common.{sym, ap, subst, ◌∙◌, append_assoc}
use Rattle.std.specs.Prelude.{⊤}
use Rattle.std.proofs.lemmas.Bool.{and_parts}
use Rattle.std.proofs.lemmas.Option.{some_pair_parts}
use Rattle.report_lines.specs.Fronts.{Reader, with, or, behind, word, made, after, before, both, maybe, where_there}
use Rattle.report_lines.specs.Fronts.{one_of}
use Rattle.report_lines.proofs.Texts.{with_some, with_again, first_again, second_again, behind_again, behind_front}

-- What it reads is written so, in the ranges of a text.
pub record Spells {A : Type 0} (text : A → List ℕ) (Fits : A → Type 0) (reader : Reader A) : Type 0 where
  pub found : (t : List ℕ) (x : A) (rest : List ℕ) → reader t ≡ Some (x, rest) → (t ≡ text x ++ rest) × Fits x

-- And what is written so is read again, where the text then goes on in such a way.
pub record Exact {A : Type 0} (text : A → List ℕ) (Fits : A → Type 0) (ends : List ℕ → Bool) (reader : Reader A)
    : Type 0 where
  pub spells : Spells text Fits reader
  pub again : (x : A) (rest : List ℕ) → Fits x → ends rest ≡ true → reader (text x ++ rest) ≡ Some (x, rest)

-- ----- fixed words
pub word_spells : {A : Type 0} (text : A → List ℕ) (Fits : A → Type 0) (front : List ℕ) (meaning : A)
    → text meaning ≡ front → Fits meaning → Spells text Fits (word front meaning)
word_spells {A} text Fits front meaning same fits = record { found = found } where
  found : (t : List ℕ) (x : A) (rest : List ℕ) → word front meaning t ≡ Some (x, rest)
      → (t ≡ text x ++ rest) × Fits x
  found t x rest e =
      let got = with_some (λ (r : List ℕ). Some (meaning, r)) (behind front t) (x, rest) e in
      let same_parts : (meaning ≡ x) × (got.0 ≡ rest) = some_pair_parts meaning x got.0 rest got.2 in
      let whole : t ≡ text meaning ++ got.0 =
      behind_front front t got.0 got.1 ∙ ap (λ (f : List ℕ). f ++ got.0) (sym same) in (
        whole ∙ (ap (λ (y : A). text y ++ got.0) same_parts.0 ∙ ap (λ (r : List ℕ). text x ++ r) same_parts.1),
        subst Fits same_parts.0 fits,
      )

pub word_again : {A : Type 0} (front : List ℕ) (meaning : A) (rest : List ℕ)
    → word front meaning (front ++ rest) ≡ Some (meaning, rest)
word_again front meaning rest =
    with_again (λ (r : List ℕ). Some (meaning, r)) (behind front (front ++ rest)) rest (Some (meaning, rest))
    (behind_again front rest) refl

-- ----- what is made of what was read
pub made_spells : {A B : Type 0} {text : A → List ℕ} {Fits : A → Type 0} {reader : Reader A} (f : A → B)
    (whole : B → List ℕ) (All : B → Type 0) → Spells text Fits reader
    → ((a : A) → Fits a → (text a ≡ whole (f a)) × All (f a)) → Spells whole All (made f reader)
made_spells {A} {B} {text} {Fits} {reader} f whole All s keeps = record { found = found } where
  found : (t : List ℕ) (x : B) (rest : List ℕ) → made f reader t ≡ Some (x, rest) → (t ≡ whole x ++ rest) × All x
  found t x rest e =
      let got = with_some (λ (a : A × List ℕ). Some (f a.0, a.1)) (reader t) (x, rest) e in
      let parts : (f got.0.0 ≡ x) × (got.0.1 ≡ rest) = some_pair_parts (f got.0.0) x got.0.1 rest got.2 in
      let is = s.found t got.0.0 got.0.1 got.1 in
      let kept = keeps got.0.0 is.1 in (
        is.0 ∙ (ap (λ (w : List ℕ). w ++ got.0.1) kept.0
            ∙ (ap (λ (y : B). whole y ++ got.0.1) parts.0 ∙ ap (λ (r : List ℕ). whole x ++ r) parts.1)),
        subst All parts.0 kept.1,
      )

pub made_again : {A B : Type 0} (f : A → B) (reader : Reader A) (t : List ℕ) (a : A) (rest : List ℕ)
    → reader t ≡ Some (a, rest) → made f reader t ≡ Some (f a, rest)
made_again {A} f reader t a rest e =
    with_again (λ (x : A × List ℕ). Some (f x.0, x.1)) (reader t) (a, rest) (Some (f a, rest)) e refl

-- a value with other parts
pub made_exact : {A B : Type 0} {text : A → List ℕ} {Fits : A → Type 0} {ends : List ℕ → Bool} {reader : Reader A}
    (f : A → B) (back : B → A) (whole : B → List ℕ) (All : B → Type 0) → Exact text Fits ends reader
    → ((a : A) → Fits a → (text a ≡ whole (f a)) × All (f a))
    → ((b : B) → All b → (f (back b) ≡ b) × (whole b ≡ text (back b)) × Fits (back b))
    → Exact whole All ends (made f reader)
made_exact {A} {B} {text} {Fits} {ends} {reader} f back whole All exact keeps turns = record {
  spells = made_spells f whole All exact.spells keeps;
  again = again;
} where
  again : (b : B) (rest : List ℕ) → All b → ends rest ≡ true → made f reader (whole b ++ rest) ≡ Some (b, rest)
  again b rest all e =
      let t = turns b all in
      ap (λ (w : List ℕ). made f reader (w ++ rest)) t.1
      ∙ (made_again f reader (text (back b) ++ rest) (back b) rest (exact.again (back b) rest t.2 e)
      ∙ ap (λ (y : B). Some (y, rest)) t.0)

-- ----- behind and before fixed bytes
pub after_spells : {A : Type 0} {text : A → List ℕ} {Fits : A → Type 0} {reader : Reader A} (front : List ℕ)
    → Spells text Fits reader → Spells (λ (a : A). front ++ text a) Fits (after front reader)
after_spells {A} {text} {Fits} {reader} front s = record { found = found } where
  found : (t : List ℕ) (x : A) (rest : List ℕ) → after front reader t ≡ Some (x, rest)
      → (t ≡ (front ++ text x) ++ rest) × Fits x
  found t x rest e =
      let got = with_some reader (behind front t) (x, rest) e in
      let is = s.found got.0 x rest got.2 in (
        behind_front front t got.0 got.1
            ∙ (ap (λ (r : List ℕ). front ++ r) is.0 ∙ sym (append_assoc front (text x) rest)),
        is.1,
      )

pub after_again : {A : Type 0} (front : List ℕ) (reader : Reader A) (word rest : List ℕ) (x : A)
    → reader (word ++ rest) ≡ Some (x, rest) → after front reader ((front ++ word) ++ rest) ≡ Some (x, rest)
after_again front reader word rest x e =
    with_again reader (behind front ((front ++ word) ++ rest)) (word ++ rest) (Some (x, rest))
    (ap (behind front) (append_assoc front word rest) ∙ behind_again front (word ++ rest)) e

pub after_exact : {A : Type 0} {text : A → List ℕ} {Fits : A → Type 0} {ends : List ℕ → Bool} {reader : Reader A}
    (front : List ℕ) → Exact text Fits ends reader → Exact (λ (a : A). front ++ text a) Fits ends
    (after front reader)
after_exact {A} {text} {Fits} {ends} {reader} front exact = record {
  spells = after_spells front exact.spells;
  again = λ x rest fits e. after_again front reader (text x) rest x (exact.again x rest fits e);
}

pub before_exact : {A : Type 0} {text : A → List ℕ} {Fits : A → Type 0} {ends : List ℕ → Bool} {reader : Reader A}
    (back : List ℕ) → ((rest : List ℕ) → ends (back ++ rest) ≡ true) → Exact text Fits ends reader
    → Exact (λ (a : A). text a ++ back) Fits (λ (rest : List ℕ). true) (before reader back)
before_exact {A} {text} {Fits} {ends} {reader} back stops exact = record {
  spells = record { found = found };
  again = again;
} where
  found : (t : List ℕ) (x : A) (rest : List ℕ) → before reader back t ≡ Some (x, rest)
      → (t ≡ (text x ++ back) ++ rest) × Fits x
  found t x rest e =
      let got = with_some (λ (a : A × List ℕ). with (λ (r : List ℕ). Some (a.0, r)) (behind back a.1)) (reader t)
      (x, rest) e in
      let last = with_some (λ (r : List ℕ). Some (got.0.0, r)) (behind back got.0.1) (x, rest) got.2 in
      let parts : (got.0.0 ≡ x) × (last.0 ≡ rest) = some_pair_parts got.0.0 x last.0 rest last.2 in
      let is = exact.spells.found t got.0.0 got.0.1 got.1 in
      let behind_it : got.0.1 ≡ back ++ rest = behind_front back got.0.1 last.0 last.1
      ∙ ap (λ (r : List ℕ). back ++ r) parts.1 in (
        is.0 ∙ (ap (λ (r : List ℕ). text got.0.0 ++ r) behind_it
            ∙ (ap (λ (y : A). text y ++ (back ++ rest)) parts.0 ∙ sym (append_assoc (text x) back rest))),
        subst Fits parts.0 is.1,
      )

  again : (x : A) (rest : List ℕ) → Fits x → true ≡ true → before reader back ((text x ++ back) ++ rest) ≡ Some
      (x, rest)
  again x rest fits e =
      with_again (λ (a : A × List ℕ). with (λ (r : List ℕ). Some (a.0, r)) (behind back a.1))
      (reader ((text x ++ back) ++ rest)) (x, back ++ rest) (Some (x, rest))
      (ap reader (append_assoc (text x) back rest) ∙ exact.again x (back ++ rest) fits (stops rest))
      (with_again (λ (r : List ℕ). Some (x, r)) (behind back (back ++ rest)) rest (Some (x, rest))
      (behind_again back rest) refl)

-- ----- two, one behind the other
pub both_spells : {A B : Type 0} {text_a : A → List ℕ} {FitsA : A → Type 0} {first : Reader A}
    {text_b : B → List ℕ} {FitsB : B → Type 0} {second : Reader B}
    → Spells text_a FitsA first → Spells text_b FitsB second
    → Spells (λ (p : A × B). text_a p.0 ++ text_b p.1) (λ (p : A × B). FitsA p.0 × FitsB p.1) (both first second)
both_spells {A} {B} {text_a} {FitsA} {first} {text_b} {FitsB} {second} sa sb = record { found = found } where
  found : (t : List ℕ) (x : A × B) (rest : List ℕ) → both first second t ≡ Some (x, rest)
      → (t ≡ (text_a x.0 ++ text_b x.1) ++ rest) × (FitsA x.0 × FitsB x.1)
  found t x rest e =
      let got = with_some (λ (a : A × List ℕ). with (λ (b : B × List ℕ). Some ((a.0, b.0), b.1)) (second a.1))
      (first t)
      (x, rest) e in
      let last = with_some (λ (b : B × List ℕ). Some ((got.0.0, b.0), b.1)) (second got.0.1) (x, rest) got.2 in
      let parts : ((got.0.0, last.0.0) ≡ x) × (last.0.1 ≡ rest) =
      some_pair_parts (got.0.0, last.0.0) x last.0.1 rest last.2 in
      let a = sa.found t got.0.0 got.0.1 got.1 in
      let b = sb.found got.0.1 last.0.0 last.0.1 last.1 in
      let whole : t ≡ (text_a got.0.0 ++ text_b last.0.0) ++ last.0.1 =
      a.0 ∙ (ap (λ (r : List ℕ). text_a got.0.0 ++ r) b.0
      ∙ sym (append_assoc (text_a got.0.0) (text_b last.0.0) last.0.1)) in (
        whole ∙ (ap (λ (p : A × B). (text_a p.0 ++ text_b p.1) ++ last.0.1) parts.0
            ∙ ap (λ (r : List ℕ). (text_a x.0 ++ text_b x.1) ++ r) parts.1),
        subst (λ (p : A × B). FitsA p.0 × FitsB p.1) parts.0 (a.1, b.1),
      )

pub both_again : {A B : Type 0} (first : Reader A) (second : Reader B) (front back rest : List ℕ) (a : A) (b : B)
    → first (front ++ (back ++ rest)) ≡ Some (a, back ++ rest) → second (back ++ rest) ≡ Some (b, rest)
    → both first second ((front ++ back) ++ rest) ≡ Some ((a, b), rest)
both_again {A} {B} first second front back rest a b ea eb =
    with_again (λ (x : A × List ℕ). with (λ (y : B × List ℕ). Some ((x.0, y.0), y.1)) (second x.1))
    (first ((front ++ back) ++ rest)) (a, back ++ rest) (Some ((a, b), rest))
    (ap first (append_assoc front back rest) ∙ ea)
    (with_again (λ (y : B × List ℕ). Some ((a, y.0), y.1)) (second (back ++ rest)) (b, rest) (Some ((a, b), rest))
    eb refl)

pub both_exact : {A B : Type 0} {text_a : A → List ℕ} {FitsA : A → Type 0} {ends_a : List ℕ → Bool}
    {first : Reader A}
    {text_b : B → List ℕ} {FitsB : B → Type 0} {ends_b : List ℕ → Bool} {second : Reader B}
    → ((b : B) (rest : List ℕ) → FitsB b → ends_b rest ≡ true → ends_a (text_b b ++ rest) ≡ true)
    → Exact text_a FitsA ends_a first → Exact text_b FitsB ends_b second
    → Exact (λ (p : A × B). text_a p.0 ++ text_b p.1) (λ (p : A × B). FitsA p.0 × FitsB p.1) ends_b
    (both first second)
both_exact {A} {B} {text_a} {FitsA} {ends_a} {first} {text_b} {FitsB} {ends_b} {second} goes_on xa xb = record {
  spells = both_spells xa.spells xb.spells;
  again = λ x rest fits e. both_again first second (text_a x.0) (text_b x.1) rest x.0 x.1
      (xa.again x.0 (text_b x.1 ++ rest) fits.0 (goes_on x.1 rest fits.1 e))
      (xb.again x.1 rest fits.1 e);
}

-- ----- what may be there
abbrev pub maybe_text : {A : Type 0} → (front : List ℕ) → (A → List ℕ) → Option A → List ℕ
maybe_text front text None = []
maybe_text front text (Some a) = front ++ text a

abbrev pub MaybeFits : {A : Type 0} → (A → Type 0) → Option A → Type 0
MaybeFits Fits None = ⊤
MaybeFits Fits (Some a) = Fits a

abbrev pub fails : {A : Type 0} → Option A → Bool
fails None = true
fails (Some x) = false

failed : {A : Type 0} (o : Option A) → fails o ≡ true → o ≡ None
failed None e = refl
failed (Some x) e = absurd (cc (e))

pub maybe_exact : {A : Type 0} {text : A → List ℕ} {Fits : A → Type 0} {ends : List ℕ → Bool} {reader : Reader A}
    (front : List ℕ) → Exact text Fits ends reader
    → Exact (maybe_text front text) (MaybeFits Fits) (λ (rest : List ℕ). ends rest && fails (behind front rest))
    (maybe front reader)
maybe_exact {A} {text} {Fits} {ends} {reader} front exact = record {
  spells = record { found = found };
  again = again;
} where
  by_front : (t : List ℕ) (o : Option (List ℕ)) → behind front t ≡ o → (x : Option A) (rest : List ℕ)
      → where_there reader t o ≡ Some (x, rest) → (t ≡ maybe_text front text x ++ rest) × MaybeFits Fits x
  by_front t None there x rest e =
      let parts : (None ≡ x) × (t ≡ rest) = some_pair_parts {A = Option A} None x t rest e in
      subst (λ (y : Option A). (t ≡ maybe_text front text y ++ rest) × MaybeFits Fits y) parts.0 (parts.1, tt)
  by_front t (Some r) there x rest e =
      let got = with_some (λ (a : A × List ℕ). Some (Some a.0, a.1)) (reader r) (x, rest) e in
      let parts : (Some got.0.0 ≡ x) × (got.0.1 ≡ rest) = some_pair_parts (Some got.0.0) x got.0.1 rest got.2 in
      let is = exact.spells.found r got.0.0 got.0.1 got.1 in
      let whole : t ≡ (front ++ text got.0.0) ++ rest =
      behind_front front t r there ∙ (ap (λ (w : List ℕ). front ++ w) is.0
      ∙ (sym (append_assoc front (text got.0.0) got.0.1)
      ∙ ap (λ (w : List ℕ). (front ++ text got.0.0) ++ w) parts.1)) in
      subst (λ (y : Option A). (t ≡ maybe_text front text y ++ rest) × MaybeFits Fits y) parts.0 (whole, is.1)

  found : (t : List ℕ) (x : Option A) (rest : List ℕ) → maybe front reader t ≡ Some (x, rest)
      → (t ≡ maybe_text front text x ++ rest) × MaybeFits Fits x
  found t x rest e = by_front t (behind front t) refl x rest e

  again : (x : Option A) (rest : List ℕ) → MaybeFits Fits x → (ends rest && fails (behind front rest)) ≡ true
      → maybe front reader (maybe_text front text x ++ rest) ≡ Some (x, rest)
  again None rest fits e =
      let parts : (ends rest ≡ true) × (fails (behind front rest) ≡ true) = and_parts _ _ e in
      ap (where_there reader rest) (failed (behind front rest) parts.1)
  again (Some a) rest fits e =
      let parts : (ends rest ≡ true) × (fails (behind front rest) ≡ true) = and_parts _ _ e in
      ap (λ (t : List ℕ). where_there reader t (behind front t)) (append_assoc front (text a) rest)
      ∙ (ap (where_there reader (front ++ (text a ++ rest))) (behind_again front (text a ++ rest))
      ∙ with_again (λ (x : A × List ℕ). Some (Some x.0, x.1)) (reader (text a ++ rest)) (a, rest)
      (Some (Some a, rest)) (exact.again a rest fits parts.0) refl)

-- ----- one of several
abbrev pub AllSpell : {A : Type 0} → (A → List ℕ) → (A → Type 0) → List (Reader A) → Type 0
AllSpell text Fits [] = ⊤
AllSpell text Fits (reader ∷ readers) = Spells text Fits reader × AllSpell text Fits readers

pub one_of_spells : {A : Type 0} (text : A → List ℕ) (Fits : A → Type 0) (readers : List (Reader A))
    → AllSpell text Fits readers → Spells text Fits (one_of readers)
unfolding or
one_of_spells {A} text Fits [] all = record { found = found } where
  found : (t : List ℕ) (x : A) (rest : List ℕ) → one_of [] t ≡ Some (x, rest) → (t ≡ text x ++ rest) × Fits x
  found t x rest e = absurd (cc (e))
one_of_spells {A} text Fits (reader ∷ []) all = record { found = found } where
  found : (t : List ℕ) (x : A) (rest : List ℕ) → one_of (reader ∷ []) t ≡ Some (x, rest)
      → (t ≡ text x ++ rest) × Fits x
  found t x rest e = all.0.found t x rest e
one_of_spells {A} text Fits (reader ∷ other ∷ readers) all =
    record { found = found (one_of_spells text Fits (other ∷ readers) all.1) } where
      by_first : Spells text Fits (one_of (other ∷ readers)) → (t : List ℕ) (o : Option (A × List ℕ)) → reader t ≡ o
          → (x : A) (rest : List ℕ) → or o (one_of (other ∷ readers) t) ≡ Some (x, rest)
          → (t ≡ text x ++ rest) × Fits x
      by_first more t (Some y) there x rest e = all.0.found t x rest (there ∙ e)
      by_first more t None there x rest e = more.found t x rest e

      found : Spells text Fits (one_of (other ∷ readers)) → (t : List ℕ) (x : A) (rest : List ℕ)
          → one_of (reader ∷ other ∷ readers) t ≡ Some (x, rest) → (t ≡ text x ++ rest) × Fits x
      found more t x rest e = by_first more t (reader t) refl x rest e

-- the reader at a place, and that those before it fail
abbrev pub reader_at : {A : Type 0} → ℕ → List (Reader A) → Reader A
reader_at k [] text = None
reader_at zero (reader ∷ readers) text = reader text
reader_at (suc k) (reader ∷ readers) text = reader_at k readers text

abbrev pub fail_before : {A : Type 0} → ℕ → List (Reader A) → (text : List ℕ) → Bool
fail_before k [] text = true
fail_before zero (reader ∷ readers) text = true
fail_before (suc k) (reader ∷ readers) text = fails (reader text) && fail_before k readers text

pub one_of_again : {A : Type 0} (k : ℕ) (readers : List (Reader A)) (text : List ℕ) (x : A × List ℕ)
    → fail_before k readers text ≡ true → reader_at k readers text ≡ Some x → one_of readers text ≡ Some x
one_of_again k [] text x h e = absurd (cc (e))
one_of_again zero (reader ∷ []) text x h e = e
one_of_again (suc k) (reader ∷ []) text x h e = absurd (none_there k text x e) where
  none_there : {A : Type 0} (k : ℕ) (text : List ℕ) (x : A × List ℕ) → reader_at {A = A} k [] text ≡ Some x → ⊥
  none_there k text x e = absurd (cc (e))
one_of_again zero (reader ∷ other ∷ readers) text x h e =
    first_again (reader text) (one_of (other ∷ readers) text) x e
one_of_again (suc k) (reader ∷ other ∷ readers) text x h e =
    let parts : (fails (reader text) ≡ true) × (fail_before k (other ∷ readers) text ≡ true) =
    and_parts (fails (reader text)) (fail_before k (other ∷ readers) text) h in
    second_again (reader text) (one_of (other ∷ readers) text) (Some x) (failed (reader text) parts.0)
    (one_of_again k (other ∷ readers) text x parts.1 e)

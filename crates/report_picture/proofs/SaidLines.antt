-- What a line of a replay's report says.
use Rattle.std.proofs.Common.{◌≡◌, ℕ, Bool, true, false, List, [], ◌∷◌, ◌++◌, Option, Some, None, refl, sym, ap}
use Rattle.std.proofs.Common.{Decides, arith}
use Rattle.std.specs.Prelude.{option_map, IfSome}
use Rattle.std.proofs.lemmas.Option.{same_Some}
use Rattle.report_lines.specs.Lines.{Line, Title, Host, Logged, Begins, Made, State, Read, End}
use Rattle.trace_audit.specs.Forms.{IsSaid}
use Rattle.report_picture.specs.Forms.{Said, Plain, Counts, is_run_title, IsOfReplay, IsOf, AreOf}

-- what a run's line says that is no title
pub plain_in_replay : (names : List (List ℕ)) (text : List ℕ) (title counts : Bool) (l : Line) → title ≡ false
    → counts ≡ false → is_run_title l ≡ false → IsSaid names text l → IsOfReplay title counts names text (Plain l)
plain_in_replay names text true counts l t c r is = absurd (cc (t))
plain_in_replay names text false true l t c r is = absurd (cc (c))
plain_in_replay names text false false Title t c r is = absurd (cc (r))
plain_in_replay names text false false (Host h a) t c r is = is
plain_in_replay names text false false (Logged n e) t c r is = is
plain_in_replay names text false false (Begins n i u) t c r is = is
plain_in_replay names text false false (Made x) t c r is = is
plain_in_replay names text false false (State p w) t c r is = is
plain_in_replay names text false false (Read n b) t c r is = is
plain_in_replay names text false false (End n) t c r is = is

-- and nothing else is said there
pub record IsLater (names : List (List ℕ)) (text : List ℕ) (s : Said) : Type 0 where
  pub said : Line
  pub shown : s ≡ Plain said
  pub other : is_run_title said ≡ false
  pub is : IsSaid names text said

pub later_in_replay : (names : List (List ℕ)) (text : List ℕ) (title counts : Bool) (s : Said) → title ≡ false
    → counts ≡ false → IsOfReplay title counts names text s → IsLater names text s
later_in_replay names text true counts s t c of = absurd (cc (t))
later_in_replay names text false true s t c of = absurd (cc (c))
later_in_replay names text false false Counts t c of = absurd of
later_in_replay names text false false (Plain Title) t c of = absurd of
later_in_replay names text false false (Plain (Host h a)) t c of =
    record { said = Host h a; shown = refl; other = refl; is = of }
later_in_replay names text false false (Plain (Logged n e)) t c of =
    record { said = Logged n e; shown = refl; other = refl; is = of }
later_in_replay names text false false (Plain (Begins n i u)) t c of =
    record { said = Begins n i u; shown = refl; other = refl; is = of }
later_in_replay names text false false (Plain (Made x)) t c of =
    record { said = Made x; shown = refl; other = refl; is = of }
later_in_replay names text false false (Plain (State p w)) t c of =
    record { said = State p w; shown = refl; other = refl; is = of }
later_in_replay names text false false (Plain (Read n b)) t c of =
    record { said = Read n b; shown = refl; other = refl; is = of }
later_in_replay names text false false (Plain (End n)) t c of =
    record { said = End n; shown = refl; other = refl; is = of }

-- ----- lines
-- one line more
pub of_more : (replay : Bool) (names texts : List (List ℕ)) (said : List Said) (text : List ℕ) (s : Said)
    → AreOf replay names texts said → IsOf replay names text s
    → AreOf replay names (texts ++ text ∷ []) (said ++ s ∷ [])
of_more replay names [] [] text s all one = (one, tt)
of_more replay names [] (x ∷ xs) text s all one = absurd all
of_more replay names (t ∷ ts) [] text s all one = absurd all
of_more replay names (t ∷ ts) (x ∷ xs) text s all one = (all.0, of_more replay names ts xs text s all.1 one)

-- the last one apart
pub record LastOf (replay : Bool) (names texts : List (List ℕ)) (text : List ℕ) (said : List Said) : Type 0 where
  pub earlier : List Said
  pub last : Said
  pub all : said ≡ earlier ++ last ∷ []
  pub before : AreOf replay names texts earlier
  pub is : IsOf replay names text last

pub last_of : (replay : Bool) (names texts : List (List ℕ)) (text : List ℕ) (said : List Said)
    → AreOf replay names (texts ++ text ∷ []) said → LastOf replay names texts text said
last_of replay names [] text [] all = absurd all
last_of replay names [] text (x ∷ []) all =
    record { earlier = []; last = x; all = refl; before = tt; is = all.0 }
last_of replay names [] text (x ∷ y ∷ ys) all = absurd all.1
last_of replay names (t ∷ ts) text [] all = absurd all
last_of replay names (t ∷ ts) text (x ∷ xs) all =
    let r = last_of replay names ts text xs all.1 in
    record {
      earlier = x ∷ r.earlier;
      last = r.last;
      all = ap (λ (ys : List Said). x ∷ ys) r.all;
      before = (all.0, r.before);
      is = r.is;
    }

-- lines say one thing each, where a line does
pub same_said : (replay : Bool) (names : List (List ℕ))
    → ((text : List ℕ) (a b : Said) → IsOf replay names text a → IsOf replay names text b → a ≡ b)
    → (texts : List (List ℕ)) (a b : List Said) → AreOf replay names texts a → AreOf replay names texts b → a ≡ b
same_said replay names one [] [] [] first second = refl
same_said replay names one [] [] (b ∷ bs) first second = absurd second
same_said replay names one [] (a ∷ as_) b first second = absurd first
same_said replay names one (t ∷ ts) [] b first second = absurd first
same_said replay names one (t ∷ ts) (a ∷ as_) [] first second = absurd second
same_said replay names one (t ∷ ts) (a ∷ as_) (b ∷ bs) first second =
    let here : a ≡ b = one t a b first.0 second.0 in
    let rest : as_ ≡ bs = same_said replay names one ts as_ bs first.1 second.1 in
    rw (here, rest) refl

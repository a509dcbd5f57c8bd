-- What lines of a text say, and that they say one thing alone.
use Rattle.std.proofs.Common.{◌≡◌, ℕ, List, [], ◌∷◌, ◌++◌, refl, sym, ◌∙◌, ap}
use Rattle.std.proofs.lemmas.List.{append_cancel_right}
use Rattle.std.proofs.lemmas.Option.{same_Some}
use Rattle.report_lines.specs.Lines.{Line, line_in}
use Rattle.report_lines.specs.Shown.{AreNames, line_text}
use Rattle.report_lines.proofs.LineTexts.{line_back}
use Rattle.trace_audit.specs.Forms.{IsSaid, AreSaid}

-- one line more
pub said_more : (names : List (List ℕ)) (texts : List (List ℕ)) (lines : List Line) (text : List ℕ) (said : Line)
    → AreSaid names texts lines → IsSaid names text said → AreSaid names (texts ++ text ∷ []) (lines ++ said ∷ [])
said_more names [] [] text said all one = (one, tt)
said_more names [] (l ∷ ls) text said all one = absurd all
said_more names (t ∷ ts) [] text said all one = absurd all
said_more names (t ∷ ts) (l ∷ ls) text said all one = (all.0, said_more names ts ls text said all.1 one)

-- the last one apart
pub record LastSaid (names : List (List ℕ)) (texts : List (List ℕ)) (text : List ℕ) (lines : List Line) : Type 0 where
  pub earlier : List Line
  pub said : Line
  pub all : lines ≡ earlier ++ said ∷ []
  pub before : AreSaid names texts earlier
  pub last : IsSaid names text said

pub last_said : (names : List (List ℕ)) (texts : List (List ℕ)) (text : List ℕ) (lines : List Line)
    → AreSaid names (texts ++ text ∷ []) lines → LastSaid names texts text lines
last_said names [] text [] all = absurd all
last_said names [] text (l ∷ []) all = record { earlier = []; said = l; all = refl; before = tt; last = all.0 }
last_said names [] text (l ∷ m ∷ ms) all = absurd all.1
last_said names (t ∷ ts) text [] all = absurd all
last_said names (t ∷ ts) text (l ∷ ls) all =
    let r = last_said names ts text ls all.1 in
    record {
      earlier = l ∷ r.earlier;
      said = r.said;
      all = ap (λ (ms : List Line). l ∷ ms) r.all;
      before = (all.0, r.before);
      last = r.last;
    }

-- a line says one thing
pub said_one : (names : List (List ℕ)) → AreNames names → (text : List ℕ) (a b : Line) → IsSaid names text a
    → IsSaid names text b → a ≡ b
said_one names ok text a b first second =
    let same : line_text names a ≡ line_text names b =
    append_cancel_right (line_text names a) (line_text names b) (10 ∷ []) (first.shown ∙ sym second.shown) in
    same_Some a b (sym (line_back names ok a first.fits) ∙ (ap (line_in names) same ∙ line_back names ok b second.fits))

pub said_once : (names : List (List ℕ)) → AreNames names → (texts : List (List ℕ)) (a b : List Line)
    → AreSaid names texts a → AreSaid names texts b → a ≡ b
said_once names ok [] [] [] first second = refl
said_once names ok [] [] (b ∷ bs) first second = absurd second
said_once names ok [] (a ∷ as_) b first second = absurd first
said_once names ok (t ∷ ts) [] b first second = absurd first
said_once names ok (t ∷ ts) (a ∷ as_) [] first second = absurd second
said_once names ok (t ∷ ts) (a ∷ as_) (b ∷ bs) first second =
    let here : a ≡ b = said_one names ok t a b first.0 second.0 in
    let rest : as_ ≡ bs = said_once names ok ts as_ bs first.1 second.1 in
    rw (here, rest) refl

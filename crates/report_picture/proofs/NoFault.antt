-- A text that is a report has no line at fault.
use Rattle.std.proofs.Common.{◌≡◌, ℕ, Bool, List, [], ◌∷◌, ◌++◌, refl, sym, ap, ◌∙◌, subst, append_assoc}
use Rattle.std.proofs.lemmas.List.{append-nil}
use Rattle.report_lines.specs.Lines.{Line}
use Rattle.report_picture.specs.Forms.{Said, AreOf, IsReportOf, AreReport, BeginReport, IsWrong, IsFaultIn}
use Rattle.report_picture.specs.Hosts.{Named}

-- what is said by the first lines, and by those behind them
record Parts (replay : Bool) (names texts : List (List ℕ)) (said : List Said) : Type 0 where
  first : List Said
  rest : List Said
  all : said ≡ first ++ rest
  of : AreOf replay names texts first

parts_of : (replay : Bool) (names texts more : List (List ℕ)) (said : List Said)
    → AreOf replay names (texts ++ more) said → Parts replay names texts said
parts_of replay names [] more said of = record { first = []; rest = said; all = refl; of = tt }
parts_of replay names (t ∷ ts) more [] of = absurd of
parts_of replay names (t ∷ ts) more (x ∷ xs) of =
    let r = parts_of replay names ts more xs of.1 in
    record {
      first = x ∷ r.first;
      rest = r.rest;
      all = ap (λ (ys : List Said). x ∷ ys) r.all;
      of = (of.0, r.of);
    }

begins : (n : Named) (texts more : List (List ℕ)) (lines : List Line) → AreReport n (texts ++ more) lines
    → BeginReport n texts
begins n texts more lines report =
    let parts = parts_of n.replay n.names texts more report.0 report.1 in (
      parts.first,
      parts.rest,
      lines,
      parts.of,
      subst (λ (ss : List Said). IsReportOf n.replay n.addrs ss lines) parts.all report.2,
    )

pub no_fault : (n : Named) (texts : List (List ℕ)) (lines : List Line) (number : ℕ) → AreReport n texts lines
    → IsFaultIn n texts number → ⊥
no_fault n texts lines number report fault = by_rest fault.rest fault.texts_are fault.wrong where
  by_rest : (rest : List (List ℕ)) → texts ≡ fault.before ++ rest → IsWrong n fault.before rest → ⊥
  by_rest [] all wrong =
      wrong lines
      (subst (λ (ts : List (List ℕ)). AreReport n ts lines) (all ∙ append-nil fault.before) report)
  by_rest (l ∷ ls) all wrong =
      wrong
      (begins n (fault.before ++ l ∷ []) ls lines
      (subst (λ (ts : List (List ℕ)). AreReport n ts lines)
      (all ∙ sym (append_assoc fault.before (l ∷ []) ls)) report))

-- How far a report was read the second time.
use Rattle.std.proofs.Common.{◌≡◌, ℕ, Bool, List, [], ◌∷◌, ◌++◌, Option, refl, sym, ap, ◌∙◌, subst, append_assoc}
use Rattle.std.proofs.lemmas.List.{append-nil}
use Rattle.report_lines.specs.Lines.{Line}
use Rattle.report_picture.specs.Forms.{Said, IsOf, AreOf, AreReport}
use Rattle.report_picture.specs.Hosts.{Named}
use Rattle.report_picture.specs.Reading.{plain, AreShown}
use Rattle.report_picture.specs.declared.ends.Ends.{Ends}
use Rattle.report_picture.specs.declared.flows.Flow.{Flow}
use Rattle.report_picture.proofs.Reports.{plain_report}
use Rattle.report_picture.proofs.Shown.{plain_more}

-- So much of what is said was taken, and these lines are left.
pub record HasGone (n : Named) (e : Ends) (drawn : Flow) (peer : Option ℕ) (other : Option Flow)
    (rest : List (List ℕ)) (said : List Said) : Type 0 where
  pub done : List Said
  pub left : List Said
  pub all : said ≡ done ++ left
  pub of : AreOf n.replay n.names rest left
  pub shown : AreShown e drawn peer other (plain done)

pub gone_none : (n : Named) (e : Ends) (drawn : Flow) (peer : Option ℕ) (other : Option Flow)
    (texts : List (List ℕ)) (said : List Said) → AreShown e drawn peer other [] → AreOf n.replay n.names texts said
    → HasGone n e drawn peer other texts said
gone_none n e drawn peer other texts said shown of =
    record { done = []; left = said; all = refl; of = of; shown = shown }

pub gone_more : (n : Named) (old new : Ends) (drawn : Flow) (peer : Option ℕ) (other : Option Flow)
    (line : List ℕ) (rest : List (List ℕ)) (said : List Said)
    → ((x : Said) → IsOf n.replay n.names line x → (lines : List Line) → AreShown old drawn peer other lines
    → AreShown new drawn peer other (lines ++ plain (x ∷ [])))
    → HasGone n old drawn peer other (line ∷ rest) said → HasGone n new drawn peer other rest said
gone_more n old new drawn peer other line rest said takes gone = by_left gone.left gone.all gone.of where
  by_left : (left : List Said) → said ≡ gone.done ++ left → AreOf n.replay n.names (line ∷ rest) left
      → HasGone n new drawn peer other rest said
  by_left [] all of = absurd of
  by_left (x ∷ xs) all of = record {
    done = gone.done ++ x ∷ [];
    left = xs;
    all = all ∙ sym (append_assoc gone.done (x ∷ []) xs);
    of = of.1;
    shown = subst (λ (ls : List Line). AreShown new drawn peer other ls) (sym (plain_more gone.done (x ∷ [])))
        (takes x of.0 (plain gone.done) gone.shown);
  }

pub gone_all : (n : Named) (e : Ends) (drawn : Flow) (peer : Option ℕ) (other : Option Flow)
    (texts : List (List ℕ)) (lines : List Line) → (report : AreReport n texts lines)
    → HasGone n e drawn peer other [] report.0 → AreShown e drawn peer other lines
gone_all n e drawn peer other texts lines report gone = by_left gone.left gone.all gone.of where
  by_left : (left : List Said) → report.0 ≡ gone.done ++ left → AreOf n.replay n.names [] left
      → AreShown e drawn peer other lines
  by_left (x ∷ xs) all of = absurd of
  by_left [] all of =
      subst (λ (ls : List Line). AreShown e drawn peer other ls)
      (ap plain (sym (all ∙ append-nil gone.done)) ∙ plain_report n.replay n.addrs report.0 lines report.2) gone.shown

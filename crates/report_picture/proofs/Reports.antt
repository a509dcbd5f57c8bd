-- The lines that lead to the end are a report, those that lead anywhere may begin one, and no others do.
use Rattle.std.proofs.Common.{◌≡◌, ℕ, Bool, true, false, not, List, [], ◌∷◌, ◌++◌, length, map, fold, Option, Some}
use Rattle.std.proofs.Common.{None}
use Rattle.std.proofs.Common.{◌+◌, refl, sym, ap, ◌∙◌, subst, append_assoc}
use Rattle.std.specs.Prelude.{◌&&◌, ◌||◌}
use Rattle.std.proofs.lemmas.Bool.{and_parts}
use Rattle.std.proofs.lemmas.List.{append-nil}
use Rattle.std.proofs.lemmas.Option.{same_Some}
use Rattle.report_lines.specs.Lines.{Line, End}
use Rattle.report_lines.specs.Shown.{AreNames}
use Rattle.report_form.specs.declared.place.Place.{Place}
use Rattle.report_form.specs.declared.place.Place.TheVariants as places
use Rattle.report_picture.specs.Flows.{nowhere, with_line, flows_in}
use Rattle.report_picture.specs.Forms.{Said, Plain, Counts, IsOf, AreOf, IsReplay, IsReportOf, AreReport, BeginReport}
use Rattle.report_picture.specs.Forms.{IsFaultIn}
use Rattle.report_picture.specs.Hosts.{Named}
use Rattle.report_picture.specs.Reading.{plain, begun_by, above_by, HasListed}
use Rattle.report_picture.specs.Stages.{start, next_stage, led, is_ended, is_over}
use Rattle.report_picture.specs.declared.flows.Above.{Above}
use Rattle.report_picture.specs.declared.listing.Listing.{Listing}
use Rattle.report_picture.specs.declared.stage.Stage.{Stage}
use Rattle.report_picture.proofs.Leading.{led_nowhere}
use Rattle.report_picture.proofs.RunForm.{run_report_leads, led_run_report, led_run_begins}
use Rattle.report_picture.proofs.ReplayLeads.{replay_report_leads}
use Rattle.report_picture.proofs.ReplayForm.{led_replay_report, led_replay_begins}
use Rattle.report_picture.proofs.SaidLines.{LastOf, last_of}
use Rattle.report_picture.proofs.OneSaid.{all_said_once}
use Rattle.report_picture.proofs.Shown.{plain_more, above_more, flows_more}

-- ----- reports lead to the end
pub record LeadsOver (replay : Bool) (addrs : List ℕ) (said : List Said) : Type 0 where
  pub stage : Stage
  pub leads : led replay addrs start said ≡ Some stage
  pub over : is_over replay stage ≡ true

pub report_leads : (replay : Bool) (addrs : List ℕ) (said : List Said) (lines : List Line)
    → IsReportOf replay addrs said lines → LeadsOver replay addrs said
report_leads false addrs said lines form = record {
  stage = record { place = places.Ended; counted = false };
  leads = run_report_leads addrs said lines form.0 form.1;
  over = refl;
}
report_leads true addrs said lines form = record {
  stage = record { place = places.Ended; counted = true };
  leads = replay_report_leads addrs said lines form;
  over = refl;
}

place_ended : (p : Place) → is_ended p ≡ true → p ≡ places.Ended
place_ended places.Ended e = refl
place_ended _ e = absurd (cc (e))

-- what leads there is a report
pub led_report : (replay : Bool) (addrs : List ℕ) (said : List Said) (t : Stage)
    → led replay addrs start said ≡ Some t → is_over replay t ≡ true
    → (lines : List Line) × IsReportOf replay addrs said lines
led_report false addrs said t e over =
    let form = led_run_report addrs said t e (place_ended t.place (and_parts _ _ over).0) in
    (form.0, (form.1, form.2))
led_report true addrs said t e over =
    led_replay_report addrs said t e (place_ended t.place (and_parts _ _ over).0) (and_parts _ _ over).1

-- what leads anywhere may begin one
pub led_begins : (replay : Bool) (addrs : List ℕ) (said : List Said) (t : Stage)
    → led replay addrs start said ≡ Some t
    → (rest : List Said) × (lines : List Line) × IsReportOf replay addrs (said ++ rest) lines
led_begins false addrs said t e =
    let begins = led_run_begins addrs said t e in
    (begins.0, begins.1, (begins.2, begins.3))
led_begins true addrs said t e = led_replay_begins addrs said t e

-- what leads nowhere begins none
no_report : (replay : Bool) (addrs : List ℕ) (said rest : List Said) (s : Stage) (x : Said) (lines : List Line)
    → led replay addrs start said ≡ Some s → next_stage replay addrs s x ≡ None
    → IsReportOf replay addrs (said ++ x ∷ rest) lines → ⊥
no_report replay addrs said rest s x lines at_ none form =
    let leads : LeadsOver replay addrs (said ++ x ∷ rest) = report_leads replay addrs (said ++ x ∷ rest) lines form in
    let nowhere_ : led replay addrs start (said ++ x ∷ rest) ≡ None =
    led_nowhere replay addrs start s said rest x at_ none in
    absurd (cc (nowhere_, leads.leads))

-- ----- a line that may not come
pub not_begun : (n : Named) → AreNames n.names → (l : Listing) (before : List (List ℕ)) (text : List ℕ) (x : Said)
    → HasListed n l before → ((s : Said) → IsOf n.replay n.names text s → x ≡ s)
    → next_stage n.replay n.addrs l.stage x ≡ None → BeginReport n (before ++ text ∷ []) → ⊥
not_begun n ok l before text x has only none begins =
    by_last begins.0 begins.1 begins.2 begins.4 (last_of n.replay n.names before text begins.0 begins.3) where
      by_last : (said rest : List Said) (lines : List Line) → IsReportOf n.replay n.addrs (said ++ rest) lines
          → LastOf n.replay n.names before text said → ⊥
      by_last said rest lines form last =
          let same : last.earlier ≡ has.said =
          all_said_once n.replay n.names ok before last.earlier has.said last.before has.of in
          let here : x ≡ last.last = only last.last last.is in
          no_report n.replay n.addrs has.said rest l.stage x lines has.at none
          (subst (λ (ss : List Said). IsReportOf n.replay n.addrs ss lines) (append_assoc has.said (x ∷ []) rest)
          (subst (λ (s : Said). IsReportOf n.replay n.addrs ((has.said ++ s ∷ []) ++ rest) lines) (sym here)
          (subst (λ (ss : List Said). IsReportOf n.replay n.addrs ((ss ++ last.last ∷ []) ++ rest) lines) same
          (subst (λ (ss : List Said). IsReportOf n.replay n.addrs (ss ++ rest) lines) last.all form))))

-- nothing is said by it
pub not_said : (n : Named) (before : List (List ℕ)) (text : List ℕ) → ((s : Said) → IsOf n.replay n.names text s → ⊥)
    → BeginReport n (before ++ text ∷ []) → ⊥
not_said n before text none begins = by_last begins.0 (last_of n.replay n.names before text begins.0 begins.3) where
  by_last : (said : List Said) → LastOf n.replay n.names before text said → ⊥
  by_last said last = none last.last last.is

-- what was read begins a report
pub has_begun : (n : Named) (l : Listing) (before : List (List ℕ)) → HasListed n l before → BeginReport n before
has_begun n l before has =
    let begins = led_begins n.replay n.addrs has.said l.stage has.at in
    (has.said, begins.0, begins.1, has.of, begins.2)

-- ----- the lines of a report
plain_lines : (ls : List Line) → plain (map Plain ls) ≡ ls
plain_lines [] = refl
plain_lines (l ∷ ls) = ap (λ (ms : List Line). l ∷ ms) (plain_lines ls)

pub plain_report : (replay : Bool) (addrs : List ℕ) (said : List Said) (lines : List Line)
    → IsReportOf replay addrs said lines → plain said ≡ lines
plain_report false addrs said lines form = ap plain form.0 ∙ plain_lines lines
plain_report true addrs said lines form =
    ap plain form.shown
    ∙ (plain_more (map Plain form.front) (Counts ∷ Plain (End form.ticks) ∷ [])
    ∙ (ap (λ (ls : List Line). ls ++ End form.ticks ∷ []) (plain_lines form.front) ∙ sym form.is))

-- it has ended
pub has_ended : (n : Named) (l : Listing) (texts : List (List ℕ)) → HasListed n l texts
    → is_over n.replay l.stage ≡ true
    → (lines : List Line) × AreReport n texts lines × (l.flows.items ≡ flows_in lines)
has_ended n l texts has over =
    let form = led_report n.replay n.addrs has.said l.stage has.at over in (
      form.0,
      (has.said, has.of, form.1),
      has.flows ∙ ap flows_in (plain_report n.replay n.addrs has.said form.0 form.1),
    )

-- or it has not, and is no report
pub not_ended : (n : Named) → AreNames n.names → (l : Listing) (texts : List (List ℕ)) → HasListed n l texts
    → is_over n.replay l.stage ≡ false → (lines : List Line) → AreReport n texts lines → ⊥
not_ended n ok l texts has open_ lines report =
    let same : report.0 ≡ has.said =
    all_said_once n.replay n.names ok texts report.0 has.said report.1 has.of in
    let leads : LeadsOver n.replay n.addrs report.0 = report_leads n.replay n.addrs report.0 lines report.2 in
    let there : led n.replay n.addrs start has.said ≡ Some leads.stage =
    subst (λ (ss : List Said). led n.replay n.addrs start ss ≡ Some leads.stage) same leads.leads in
    let stage : l.stage ≡ leads.stage = same_Some l.stage leads.stage (sym has.at ∙ there) in
    absurd (cc (ap (λ (s : Stage). is_over n.replay s) stage, open_, leads.over))

-- ----- one line more
pub above_said : (said : List Said) (x : Said) (a : Above) → a ≡ fold with_line nowhere (plain said)
    → above_by a x ≡ fold with_line nowhere (plain (said ++ x ∷ []))
above_said said (Plain l) a is =
    ap (λ (b : Above). with_line b l) is
    ∙ (sym (above_more (plain said) l)
    ∙ ap (λ (ls : List Line). fold with_line nowhere ls) (sym (plain_more said (Plain l ∷ []))))
above_said said Counts a is =
    is ∙ ap (λ (ls : List Line). fold with_line nowhere ls)
    (sym (plain_more said (Counts ∷ []) ∙ append-nil (plain said)))

pub flows_said : (said : List Said) (x : Said) (a : Above) → a ≡ fold with_line nowhere (plain said)
    → flows_in (plain said) ++ begun_by a x ≡ flows_in (plain (said ++ x ∷ []))
flows_said said (Plain l) a is =
    ap (λ (b : Above). flows_in (plain said) ++ begun_by b (Plain l)) is
    ∙ (sym (flows_more (plain said) l) ∙ ap flows_in (sym (plain_more said (Plain l ∷ []))))
flows_said said Counts a is =
    append-nil (flows_in (plain said))
    ∙ ap flows_in (sym (plain_more said (Counts ∷ []) ∙ append-nil (plain said)))

-- ----- faults
-- at a line
pub fault_at : (n : Named) (l : Listing) (texts before : List (List ℕ)) (line : List ℕ) (rest : List (List ℕ))
    → HasListed n l before → texts ≡ before ++ line ∷ rest → (BeginReport n (before ++ line ∷ []) → ⊥)
    → IsFaultIn n texts (l.count + 1)
fault_at n l texts before line rest has all wrong = record {
  before = before;
  rest = line ∷ rest;
  texts_are = all;
  place = ap (λ (k : ℕ). k + 1) has.count;
  right = has_begun n l before has;
  wrong = wrong;
}

-- at the end
pub fault_end : (n : Named) → AreNames n.names → (l : Listing) (texts before : List (List ℕ)) → HasListed n l before
    → texts ≡ before ++ [] → is_over n.replay l.stage ≡ false → IsFaultIn n texts (l.count + 1)
fault_end n ok l texts before has all open_ = record {
  before = before;
  rest = [];
  texts_are = all;
  place = ap (λ (k : ℕ). k + 1) has.count;
  right = has_begun n l before has;
  wrong = not_ended n ok l before has open_;
}

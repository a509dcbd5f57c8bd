-- The lines of a run's report lead to its end, and what leads to the end is one.
use Rattle.std.proofs.Common.{◌≡◌, ℕ, Bool, true, false, List, [], ◌∷◌, ◌++◌, map, Option, Some, None, refl, sym, ◌∙◌}
use Rattle.std.proofs.Common.{ap, subst}
use Rattle.std.proofs.lemmas.Option.{same_Some}
use Rattle.host_rounds.proofs.Lists.{map_append}
use Rattle.report_lines.specs.Lines.{Line}
use Rattle.report_form.specs.declared.place.Place.{Place}
use Rattle.report_form.specs.declared.place.Place.TheVariants as places
use Rattle.report_form.specs.Reports.{IsReport, MayBegin}
use Rattle.report_form.specs.Places.{next_place}
use Rattle.report_form.specs.Places.{led as place_led}
use Rattle.report_form.proofs.Led.{report_leads}
use Rattle.report_form.proofs.Left.{left_by}
use Rattle.report_form.proofs.Beginnings.{may_begin}
use Rattle.report_picture.specs.Forms.{Said, Plain, Counts}
use Rattle.report_picture.specs.Stages.{start, at, next_stage, led}
use Rattle.report_picture.specs.declared.stage.Stage.{Stage}
use Rattle.report_picture.proofs.Leading.{behind, led_is}

-- where a run's line leads
plain_next : (addrs : List ℕ) (s : Stage) (l : Line)
    → next_stage false addrs s (Plain l) ≡ at s.counted (next_place addrs s.place l)
unfolding next_stage
plain_next addrs s l = refl

counts_next : (addrs : List ℕ) (s : Stage) → next_stage false addrs s Counts ≡ None
unfolding next_stage
counts_next addrs s = refl

abbrev on : Stage → Place → Stage
on s p = record { place = p; counted = s.counted }

-- ----- a report leads to the end
pub run_leads : (addrs : List ℕ) (s : Stage) (p : Place) (ls : List Line) → place_led addrs s.place ls ≡ Some p
    → led false addrs s (map Plain ls) ≡ Some (on s p)
run_leads addrs s p [] e = ap (λ (o : Option Place). at s.counted o) e
run_leads addrs s p (l ∷ ls) e =
    led_is false addrs s (Plain l) (map Plain ls)
    ∙ (ap (behind false addrs (map Plain ls)) (plain_next addrs s l)
    ∙ by_next (next_place addrs s.place l) e (λ q more. run_leads addrs (on s q) p ls more)) where
      by_next : (o : Option Place)
          → ◌≡◌ {A = Option Place} (elim o [ None ↦ None | Some next ↦ place_led addrs next ls ]) (Some p)
          → ((q : Place) → place_led addrs q ls ≡ Some p → led false addrs (on s q) (map Plain ls) ≡ Some (on s p))
          → behind false addrs (map Plain ls) (at s.counted o) ≡ Some (on s p)
      by_next None e more = absurd (cc (e))
      by_next (Some q) e more = more q e

-- ----- what leads somewhere
-- the lines are a run's, and lead there
pub record IsRunAt (addrs : List ℕ) (from : Place) (said : List Said) (to : Place) : Type 0 where
  pub lines : List Line
  pub shown : said ≡ map Plain lines
  pub leads : place_led addrs from lines ≡ Some to

pub led_run : (addrs : List ℕ) (s t : Stage) (said : List Said) → led false addrs s said ≡ Some t
    → IsRunAt addrs s.place said t.place
led_run addrs s t [] e =
    record { lines = []; shown = refl; leads = ap (λ (o : Option Stage). place_in o) e } where
      place_in : Option Stage → Option Place
      place_in None = None
      place_in (Some u) = Some u.place
led_run addrs s t (Counts ∷ xs) e =
    absurd (by_none (next_stage false addrs s Counts) (counts_next addrs s)
    (sym (led_is false addrs s Counts xs) ∙ e)) where
      by_none : (o : Option Stage) → o ≡ None → behind false addrs xs o ≡ Some t → ⊥
      by_none None none e = absurd (cc (e))
      by_none (Some r) none e = absurd (cc (none))
led_run addrs s t (Plain l ∷ xs) e =
    by_next (next_place addrs s.place l) refl
    (sym (ap (behind false addrs xs) (plain_next addrs s l)) ∙ (sym (led_is false addrs s (Plain l) xs) ∙ e))
    (λ q more. led_run addrs (on s q) t xs more) where
      by_next : (o : Option Place) → next_place addrs s.place l ≡ o → behind false addrs xs (at s.counted o) ≡ Some t
          → ((q : Place) → led false addrs (on s q) xs ≡ Some t → IsRunAt addrs q xs t.place)
          → IsRunAt addrs s.place (Plain l ∷ xs) t.place
      by_next None is e more = absurd (cc (e))
      by_next (Some q) is e more =
          let rest : IsRunAt addrs q xs t.place = more q e in
          record {
            lines = l ∷ rest.lines;
            shown = ap (λ (ys : List Said). Plain l ∷ ys) rest.shown;
            leads = ap (λ (o : Option Place). elim o as (λ (x : Option Place). Option Place)
                [ None ↦ None | Some next ↦ place_led addrs next rest.lines ]) is ∙ rest.leads;
          }

-- ----- reports
pub run_report_leads : (addrs : List ℕ) (said : List Said) (lines : List Line) → said ≡ map Plain lines
    → IsReport addrs lines → led false addrs start said ≡ Some (on start places.Ended)
run_report_leads addrs said lines shown report =
    subst (λ (xs : List Said). led false addrs start xs ≡ Some (on start places.Ended)) (sym shown)
    (run_leads addrs start places.Ended lines (report_leads addrs lines report))

-- what leads to the end is a report
pub led_run_report : (addrs : List ℕ) (said : List Said) (t : Stage) → led false addrs start said ≡ Some t
    → t.place ≡ places.Ended → (lines : List Line) × (said ≡ map Plain lines) × IsReport addrs lines
led_run_report addrs said t e ended =
    let run : IsRunAt addrs places.Start said t.place = led_run addrs start t said e in
    (run.lines, run.shown, left_by addrs places.Start run.lines (run.leads ∙ ap (λ (p : Place). Some p) ended))

-- what leads anywhere may begin one
pub led_run_begins : (addrs : List ℕ) (said : List Said) (t : Stage) → led false addrs start said ≡ Some t
    → (rest : List Said) × (lines : List Line) × (said ++ rest ≡ map Plain lines) × IsReport addrs lines
led_run_begins addrs said t e =
    let run : IsRunAt addrs places.Start said t.place = led_run addrs start t said e in
    let begins : MayBegin addrs run.lines = may_begin addrs run.lines t.place run.leads in (
      map Plain begins.rest,
      run.lines ++ begins.rest,
      ap (λ (xs : List Said). xs ++ map Plain begins.rest) run.shown ∙ sym (map_append Plain run.lines begins.rest),
      begins.whole,
    )

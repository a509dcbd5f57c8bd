-- The lines of a replay's report lead to its end.
use Rattle.std.proofs.Common.{◌≡◌, ℕ, Bool, true, false, List, [], ◌∷◌, ◌++◌, map, Option, Some, None, refl, sym, ◌∙◌}
use Rattle.std.proofs.Common.{ap, subst}
use Rattle.report_lines.specs.Lines.{Line, End}
use Rattle.report_form.specs.declared.place.Place.{Place}
use Rattle.report_form.specs.declared.place.Place.TheVariants as places
use Rattle.report_form.specs.Reports.{IsReport}
use Rattle.report_form.specs.Places.{next_place}
use Rattle.report_form.specs.Places.{led as place_led}
use Rattle.report_form.proofs.Led.{report_leads}
use Rattle.report_picture.specs.Forms.{Said, Plain, Counts, IsReplay}
use Rattle.report_picture.specs.Stages.{start, is_end, at, next_plain, next_counts, next_stage, led}
use Rattle.report_picture.specs.declared.stage.Stage.{Stage}
use Rattle.report_picture.proofs.Leading.{behind, led_is}
use Rattle.report_picture.proofs.Ending.{any_end, end_ends, over_all}

pub plain_next : (addrs : List ℕ) (s : Stage) (l : Line)
    → next_stage true addrs s (Plain l) ≡ next_plain (is_end l) s.counted (next_place addrs s.place l)
unfolding next_stage
plain_next addrs s l = refl

pub counts_next : (addrs : List ℕ) (s : Stage)
    → next_stage true addrs s Counts ≡ next_counts s.counted s (next_place addrs s.place (End 0))
unfolding next_stage
counts_next addrs s = refl

-- it is the last line
pub end_is : (l : Line) → is_end l ≡ true → (ticks : ℕ) × (l ≡ End ticks)
end_is (End ticks) e = (ticks, refl)
end_is _ e = absurd (cc (e))

abbrev before : Place → Stage
before p = record { place = p; counted = false }

abbrev over : Place → Stage
over p = record { place = p; counted = true }

-- the counts and the last line
last_two : (addrs : List ℕ) (p : Place) (ticks : ℕ) → next_place addrs p (End ticks) ≡ Some places.Ended
    → led true addrs (before p) (Counts ∷ Plain (End ticks) ∷ []) ≡ Some (over places.Ended)
last_two addrs p ticks e =
    led_is true addrs (before p) Counts (Plain (End ticks) ∷ [])
    ∙ (ap (behind true addrs (Plain (End ticks) ∷ []))
    (counts_next addrs (before p)
    ∙ ap (λ (o : Option Place). next_counts false (before p) o) (any_end addrs p 0 ticks ∙ e))
    ∙ (led_is true addrs (over p) (Plain (End ticks)) []
    ∙ ap (behind true addrs [])
    (plain_next addrs (over p) (End ticks) ∙ ap (λ (o : Option Place). next_plain true true o) e)))

from_place : (addrs : List ℕ) (p : Place) (ls : List Line) (ticks : ℕ)
    → place_led addrs p (ls ++ End ticks ∷ []) ≡ Some places.Ended
    → led true addrs (before p) (map Plain ls ++ Counts ∷ Plain (End ticks) ∷ []) ≡ Some (over places.Ended)
from_place addrs p [] ticks e = last_two addrs p ticks (by_next (next_place addrs p (End ticks)) e) where
  by_next : (o : Option Place)
      → ◌≡◌ {A = Option Place} (elim o [ None ↦ None | Some next ↦ place_led addrs next [] ]) (Some places.Ended)
      → o ≡ Some places.Ended
  by_next None e = absurd (cc (e))
  by_next (Some q) e = e
from_place addrs p (l ∷ ls) ticks e =
    led_is true addrs (before p) (Plain l) (map Plain ls ++ Counts ∷ Plain (End ticks) ∷ [])
    ∙ (ap (behind true addrs (map Plain ls ++ Counts ∷ Plain (End ticks) ∷ [])) (plain_next addrs (before p) l)
    ∙ by_next (is_end l) (next_place addrs p l) refl refl e (λ q more. from_place addrs q ls ticks more)) where
      stuck : (ls : List Line) → place_led addrs places.Ended (ls ++ End ticks ∷ []) ≡ Some places.Ended → ⊥
      stuck [] e = over_all addrs places.Ended (End ticks) [] e
      stuck (m ∷ ms) e = over_all addrs places.Ended m (ms ++ End ticks ∷ []) e

      ends_early : (q : Place) → next_place addrs p l ≡ Some q → is_end l ≡ true
          → place_led addrs q (ls ++ End ticks ∷ []) ≡ Some places.Ended → ⊥
      ends_early q is last e =
          let end = end_is l last in
          let ended : q ≡ places.Ended =
          end_ends addrs p q end.0 (subst (λ (m : Line). next_place addrs p m ≡ Some q) end.1 is) in
          stuck ls (subst (λ (r : Place). place_led addrs r (ls ++ End ticks ∷ []) ≡ Some places.Ended) ended e)

      by_next : (last : Bool) (o : Option Place) → is_end l ≡ last → next_place addrs p l ≡ o
          → ◌≡◌ {A = Option Place} (elim o [ None ↦ None | Some next ↦ place_led addrs next (ls ++ End ticks ∷ []) ])
          (Some places.Ended)
          → ((q : Place) → place_led addrs q (ls ++ End ticks ∷ []) ≡ Some places.Ended
          → led true addrs (before q) (map Plain ls ++ Counts ∷ Plain (End ticks) ∷ []) ≡ Some (over places.Ended))
          → behind true addrs (map Plain ls ++ Counts ∷ Plain (End ticks) ∷ []) (next_plain last false o)
          ≡ Some (over places.Ended)
      by_next last None end is e more = absurd (cc (e))
      by_next true (Some q) end is e more = absurd (ends_early q is end e)
      by_next false (Some q) end is e more = more q e

pub replay_report_leads : (addrs : List ℕ) (said : List Said) (lines : List Line) → IsReplay addrs said lines
    → led true addrs start said ≡ Some (over places.Ended)
replay_report_leads addrs said lines form =
    subst (λ (xs : List Said). led true addrs start xs ≡ Some (over places.Ended)) (sym form.shown)
    (from_place addrs places.Start form.front form.ticks
    (subst (λ (ls : List Line). place_led addrs places.Start ls ≡ Some places.Ended) form.is
    (report_leads addrs lines form.order)))

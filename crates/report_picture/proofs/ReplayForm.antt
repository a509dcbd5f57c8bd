-- What leads to the end of a replay's report is one, and what leads anywhere may begin one.
use Rattle.std.proofs.Common.{◌≡◌, ℕ, Bool, true, false, List, [], ◌∷◌, ◌++◌, map, Option, Some, None, refl, sym, ◌∙◌}
use Rattle.std.proofs.Common.{ap, subst, inl, inr, ◌⊎◌, append_assoc}
use Rattle.std.proofs.lemmas.List.{append-nil}
use Rattle.std.proofs.lemmas.Option.{same_Some}
use Rattle.host_rounds.specs.Lists.{Each}
use Rattle.host_rounds.proofs.Lists.{map_append, each_append}
use Rattle.report_lines.specs.Lines.{Line, Title, End}
use Rattle.report_form.specs.declared.place.Place.{Place}
use Rattle.report_form.specs.declared.place.Place.TheVariants as places
use Rattle.report_form.specs.Reports.{IsReport, MayBegin, hosts_lines}
use Rattle.report_form.specs.Places.{next_place}
use Rattle.report_form.specs.Places.{led as place_led}
use Rattle.report_form.proofs.Left.{left_by}
use Rattle.report_form.proofs.Beginnings.{may_begin, led_by_one}
use Rattle.report_picture.specs.Forms.{Said, Plain, Counts, IsReplay}
use Rattle.report_picture.specs.Stages.{start, is_end, at, next_plain, next_counts, next_stage, led}
use Rattle.report_picture.specs.declared.stage.Stage.{Stage}
use Rattle.report_picture.proofs.Leading.{behind, led_is}
use Rattle.report_picture.proofs.Ending.{any_end, end_ends, over}
use Rattle.report_picture.proofs.ReplayLeads.{plain_next, counts_next, end_is}
use Rattle.trace_audit.proofs.Lists.{same_head, same_tail}

-- ----- where one may be
-- before the counts
pub record IsFore (addrs : List ℕ) (said : List Said) (s : Stage) : Type 0 where
  pub lines : List Line
  pub shown : said ≡ map Plain lines
  pub open_ : Each (λ l. is_end l ≡ false) lines
  pub leads : place_led addrs places.Start lines ≡ Some s.place
  pub counted : s.counted ≡ false

-- behind them
pub record IsCounted (addrs : List ℕ) (said : List Said) (s : Stage) : Type 0 where
  pub lines : List Line
  pub shown : said ≡ map Plain lines ++ Counts ∷ []
  pub leads : place_led addrs places.Start lines ≡ Some s.place
  pub ends : next_place addrs s.place (End 0) ≡ Some places.Ended
  pub counted : s.counted ≡ true

-- behind the last line
pub record IsWhole (addrs : List ℕ) (said : List Said) (s : Stage) : Type 0 where
  pub lines : List Line
  pub ticks : ℕ
  pub shown : said ≡ map Plain lines ++ Counts ∷ Plain (End ticks) ∷ []
  pub leads : place_led addrs places.Start (lines ++ End ticks ∷ []) ≡ Some places.Ended
  pub place : s.place ≡ places.Ended

abbrev pub IsReplayAt : (addrs : List ℕ) → (said : List Said) → Stage → Type 0
IsReplayAt addrs said s = IsFore addrs said s ⊎ (IsCounted addrs said s ⊎ IsWhole addrs said s)

-- ----- one line more
same_stage : (p : Place) (c : Bool) (t : Stage) → at c (Some p) ≡ Some t → (t.place ≡ p) × (t.counted ≡ c)
same_stage p c t e =
    let same : record { place = p; counted = c } ≡ t = same_Some _ _ e in
    (ap (λ (s : Stage). s.place) (sym same), ap (λ (s : Stage). s.counted) (sym same))

fore_plain : (addrs : List ℕ) (said : List Said) (s t : Stage) (l : Line) → IsFore addrs said s
    → next_plain (is_end l) s.counted (next_place addrs s.place l) ≡ Some t
    → IsFore addrs (said ++ Plain l ∷ []) t
fore_plain addrs said s t l fore e =
    by_next (is_end l) s.counted (next_place addrs s.place l) refl fore.counted refl e where
      by_next : (last counted : Bool) (o : Option Place) → is_end l ≡ last → counted ≡ false
          → next_place addrs s.place l ≡ o → next_plain last counted o ≡ Some t → IsFore addrs (said ++ Plain l ∷ []) t
      by_next true true o last no_ is e = absurd (cc (no_))
      by_next true false o last no_ is e = absurd (cc (e))
      by_next false true o last no_ is e = absurd (cc (no_))
      by_next false false None last no_ is e = absurd (cc (e))
      by_next false false (Some q) last no_ is e =
          let there = same_stage q false t e in
          record {
            lines = fore.lines ++ l ∷ [];
            shown = ap (λ (xs : List Said). xs ++ Plain l ∷ []) fore.shown ∙ sym (map_append Plain fore.lines (l ∷ []));
            open_ = each_append (λ (m : Line). is_end m ≡ false) fore.lines (l ∷ []) fore.open_ (last, tt);
            leads = led_by_one addrs fore.lines s.place l fore.leads
                ∙ (is ∙ ap (λ (p : Place). Some p) (sym there.0));
            counted = there.1;
          }

fore_counts : (addrs : List ℕ) (said : List Said) (s t : Stage) → IsFore addrs said s
    → next_counts s.counted s (next_place addrs s.place (End 0)) ≡ Some t → IsCounted addrs (said ++ Counts ∷ []) t
fore_counts addrs said s t fore e =
    by_next s.counted (next_place addrs s.place (End 0)) fore.counted refl e where
      by_next : (counted : Bool) (o : Option Place) → counted ≡ false → next_place addrs s.place (End 0) ≡ o
          → next_counts counted s o ≡ Some t → IsCounted addrs (said ++ Counts ∷ []) t
      by_next true o no_ is e = absurd (cc (no_))
      by_next false None no_ is e = absurd (cc (e))
      by_next false (Some q) no_ is e =
          let there = same_stage s.place true t e in
          record {
            lines = fore.lines;
            shown = ap (λ (xs : List Said). xs ++ Counts ∷ []) fore.shown;
            leads = fore.leads ∙ ap (λ (p : Place). Some p) (sym there.0);
            ends = ap (λ (p : Place). next_place addrs p (End 0)) there.0
                ∙ (is ∙ ap (λ (p : Place). Some p) (end_ends addrs s.place q 0 is));
            counted = there.1;
          }

counted_plain : (addrs : List ℕ) (said : List Said) (s t : Stage) (l : Line) → IsCounted addrs said s
    → next_plain (is_end l) s.counted (next_place addrs s.place l) ≡ Some t
    → IsWhole addrs (said ++ Plain l ∷ []) t
counted_plain addrs said s t l c e =
    by_next (is_end l) s.counted (next_place addrs s.place l) refl c.counted refl e where
      whole : (q : Place) (ticks : ℕ) → l ≡ End ticks → next_place addrs s.place l ≡ Some q
          → (t.place ≡ q) → IsWhole addrs (said ++ Plain l ∷ []) t
      whole q ticks end is there = record {
        lines = c.lines;
        ticks = ticks;
        shown = ap (λ (xs : List Said). xs ++ Plain l ∷ []) c.shown
            ∙ (append_assoc (map Plain c.lines) (Counts ∷ []) (Plain l ∷ [])
            ∙ ap (λ (m : Line). map Plain c.lines ++ Counts ∷ Plain m ∷ []) end);
        leads = led_by_one addrs c.lines s.place (End ticks) c.leads ∙ (any_end addrs s.place ticks 0 ∙ c.ends);
        place = there
            ∙ end_ends addrs s.place q ticks (subst (λ (m : Line). next_place addrs s.place m ≡ Some q) end is);
      }

      by_next : (last counted : Bool) (o : Option Place) → is_end l ≡ last → counted ≡ true
          → next_place addrs s.place l ≡ o → next_plain last counted o ≡ Some t
          → IsWhole addrs (said ++ Plain l ∷ []) t
      by_next true false o last so is e = absurd (cc (so))
      by_next false false o last so is e = absurd (cc (so))
      by_next false true o last so is e = absurd (cc (e))
      by_next true true None last so is e = absurd (cc (e))
      by_next true true (Some q) last so is e =
          let end = end_is l last in
          whole q end.0 end.1 is (same_stage q true t e).0

counted_counts : (s t : Stage) (o : Option Place) → s.counted ≡ true → next_counts s.counted s o ≡ Some t → ⊥
counted_counts s t o so e = by_counted s.counted so e where
  by_counted : (c : Bool) → c ≡ true → next_counts c s o ≡ Some t → ⊥
  by_counted true so e = absurd (cc (e))
  by_counted false so e = absurd (cc (so))

no_plain : (last counted : Bool) (t : Stage) → next_plain last counted None ≡ Some t → ⊥
no_plain true true t e = absurd (cc (e))
no_plain true false t e = absurd (cc (e))
no_plain false true t e = absurd (cc (e))
no_plain false false t e = absurd (cc (e))

no_counts : (counted : Bool) (s t : Stage) → next_counts counted s None ≡ Some t → ⊥
no_counts true s t e = absurd (cc (e))
no_counts false s t e = absurd (cc (e))

over_at : (addrs : List ℕ) (p : Place) (l : Line) → p ≡ places.Ended → next_place addrs p l ≡ None
over_at addrs p l ended = ap (λ (q : Place). next_place addrs q l) ended ∙ over addrs l

-- a line leads on
pub replay_more : (addrs : List ℕ) (said : List Said) (s t : Stage) (x : Said) → IsReplayAt addrs said s
    → next_stage true addrs s x ≡ Some t → IsReplayAt addrs (said ++ x ∷ []) t
replay_more addrs said s t (Plain l) (inl fore) e =
    inl (fore_plain addrs said s t l fore (sym (plain_next addrs s l) ∙ e))
replay_more addrs said s t Counts (inl fore) e =
    inr (inl (fore_counts addrs said s t fore (sym (counts_next addrs s) ∙ e)))
replay_more addrs said s t (Plain l) (inr (inl c)) e =
    inr (inr (counted_plain addrs said s t l c (sym (plain_next addrs s l) ∙ e)))
replay_more addrs said s t Counts (inr (inl c)) e =
    absurd (counted_counts s t (next_place addrs s.place (End 0)) c.counted (sym (counts_next addrs s) ∙ e))
replay_more addrs said s t (Plain l) (inr (inr w)) e =
    absurd (no_plain (is_end l) s.counted t
    (subst (λ (o : Option Place). next_plain (is_end l) s.counted o ≡ Some t) (over_at addrs s.place l w.place)
    (sym (plain_next addrs s l) ∙ e)))
replay_more addrs said s t Counts (inr (inr w)) e =
    absurd (no_counts s.counted s t
    (subst (λ (o : Option Place). next_counts s.counted s o ≡ Some t) (over_at addrs s.place (End 0) w.place)
    (sym (counts_next addrs s) ∙ e)))

-- lines lead on
replay_on : (addrs : List ℕ) (said : List Said) (s t : Stage) (xs : List Said) → IsReplayAt addrs said s
    → led true addrs s xs ≡ Some t → IsReplayAt addrs (said ++ xs) t
replay_on addrs said s t [] at_ e =
    subst (λ (r : Stage). IsReplayAt addrs (said ++ []) r) (same_Some s t e)
    (subst (λ (ys : List Said). IsReplayAt addrs ys s) (sym (append-nil said)) at_)
replay_on addrs said s t (x ∷ xs) at_ e =
    by_next (next_stage true addrs s x) refl (sym (led_is true addrs s x xs) ∙ e)
    (λ r here more. replay_on addrs (said ++ x ∷ []) r t xs here more) where
      by_next : (o : Option Stage) → next_stage true addrs s x ≡ o → behind true addrs xs o ≡ Some t
          → ((r : Stage) → IsReplayAt addrs (said ++ x ∷ []) r → led true addrs r xs ≡ Some t
          → IsReplayAt addrs ((said ++ x ∷ []) ++ xs) t)
          → IsReplayAt addrs (said ++ x ∷ xs) t
      by_next None is e more = absurd (cc (e))
      by_next (Some r) is e more =
          subst (λ (ys : List Said). IsReplayAt addrs ys t) (append_assoc said (x ∷ []) xs)
          (more r (replay_more addrs said s r x at_ is) e)

led_replay : (addrs : List ℕ) (said : List Said) (t : Stage) → led true addrs start said ≡ Some t
    → IsReplayAt addrs said t
led_replay addrs said t e = replay_on addrs [] start t said none e where
  none : IsReplayAt addrs [] start
  none = inl (record { lines = []; shown = refl; open_ = tt; leads = refl; counted = refl })

-- ----- reports
-- what leads to the end is a report
pub led_replay_report : (addrs : List ℕ) (said : List Said) (t : Stage) → led true addrs start said ≡ Some t
    → t.place ≡ places.Ended → t.counted ≡ true → (lines : List Line) × IsReplay addrs said lines
led_replay_report addrs said t e ended counted = by_place (led_replay addrs said t e) where
  by_place : IsReplayAt addrs said t → (lines : List Line) × IsReplay addrs said lines
  by_place (inl fore) = absurd (cc (fore.counted, counted))
  by_place (inr (inl c)) = absurd (cc (c.ends, over_at addrs t.place (End 0) ended))
  by_place (inr (inr w)) = (
    w.lines ++ End w.ticks ∷ [],
    record {
      front = w.lines;
      ticks = w.ticks;
      is = refl;
      shown = w.shown;
      order = left_by addrs places.Start (w.lines ++ End w.ticks ∷ []) w.leads;
    },
  )

-- lines without the last one are a front of those before it
front_of : (ls rest all : List Line) (e : Line) → ls ++ rest ≡ all ++ e ∷ [] → Each (λ l. is_end l ≡ false) ls
    → is_end e ≡ true → (more : List Line) × (rest ≡ more ++ e ∷ [])
front_of [] rest all e same none last = (all, same)
front_of (l ∷ ls) rest [] e same none last =
    let here : l ≡ e = same_head l e (ls ++ rest) [] same in
    absurd (cc (ap is_end here, none.0, last))
front_of (l ∷ ls) rest (x ∷ xs) e same none last =
    front_of ls rest xs e (same_tail l x (ls ++ rest) (xs ++ e ∷ []) same) none.1 last

-- what leads anywhere may begin one
pub led_replay_begins : (addrs : List ℕ) (said : List Said) (t : Stage) → led true addrs start said ≡ Some t
    → (rest : List Said) × (lines : List Line) × IsReplay addrs (said ++ rest) lines
led_replay_begins addrs said t e = by_place (led_replay addrs said t e) where
  from_fore : (f : IsFore addrs said t) (begins : MayBegin addrs f.lines)
      → (more : List Line) × (begins.rest ≡ more ++ End begins.whole.report.ticks ∷ [])
      → (rest : List Said) × (lines : List Line) × IsReplay addrs (said ++ rest) lines
  from_fore f begins parts = (
    map Plain parts.0 ++ Counts ∷ Plain (End begins.whole.report.ticks) ∷ [],
    f.lines ++ begins.rest,
    record {
      front = f.lines ++ parts.0;
      ticks = begins.whole.report.ticks;
      is = ap (λ (ls : List Line). f.lines ++ ls) parts.1
          ∙ sym (append_assoc f.lines parts.0 (End begins.whole.report.ticks ∷ []));
      shown = ap (λ (xs : List Said). xs ++ (map Plain parts.0 ++ Counts ∷ Plain (End begins.whole.report.ticks) ∷ []))
          f.shown
          ∙ (sym (append_assoc (map Plain f.lines) (map Plain parts.0)
          (Counts ∷ Plain (End begins.whole.report.ticks) ∷ []))
          ∙ ap (λ (xs : List Said). xs ++ Counts ∷ Plain (End begins.whole.report.ticks) ∷ [])
          (sym (map_append Plain f.lines parts.0)));
      order = begins.whole;
    },
  )

  from_counted : (c : IsCounted addrs said t)
      → (rest : List Said) × (lines : List Line) × IsReplay addrs (said ++ rest) lines
  from_counted c = (
    Plain (End 0) ∷ [],
    c.lines ++ End 0 ∷ [],
    record {
      front = c.lines;
      ticks = 0;
      is = refl;
      shown = ap (λ (xs : List Said). xs ++ Plain (End 0) ∷ []) c.shown
          ∙ append_assoc (map Plain c.lines) (Counts ∷ []) (Plain (End 0) ∷ []);
      order = left_by addrs places.Start (c.lines ++ End 0 ∷ [])
          (led_by_one addrs c.lines t.place (End 0) c.leads ∙ c.ends);
    },
  )

  from_whole : (w : IsWhole addrs said t)
      → (rest : List Said) × (lines : List Line) × IsReplay addrs (said ++ rest) lines
  from_whole w = (
    [],
    w.lines ++ End w.ticks ∷ [],
    record {
      front = w.lines;
      ticks = w.ticks;
      is = refl;
      shown = append-nil said ∙ w.shown;
      order = left_by addrs places.Start (w.lines ++ End w.ticks ∷ []) w.leads;
    },
  )

  by_place : IsReplayAt addrs said t → (rest : List Said) × (lines : List Line) × IsReplay addrs (said ++ rest) lines
  by_place (inl f) =
      let begins : MayBegin addrs f.lines = may_begin addrs f.lines t.place f.leads in
      from_fore f begins
      (front_of f.lines begins.rest (Title ∷ hosts_lines 0 begins.whole.report.hosts)
      (End begins.whole.report.ticks) begins.whole.shown f.open_ refl)
  by_place (inr (inl c)) = from_counted c
  by_place (inr (inr w)) = from_whole w

-- A flow that is found closed: for the law time_keeps_it.
use Rattle.std.proofs.Common.{◌≡◌, ◌&&◌, not, Bool, true, false, List, [], ◌∷◌, ◌++◌, map, refl, sym, ap, ◌∙◌, subst}
use Rattle.std.proofs.Common.{arith, true≢false, if◌then◌else◌, cond, append_assoc}
use Rattle.std.specs.Prelude.{IsPermutation}
use Rattle.std.specs.List.{filter, list_any}
use Rattle.std.proofs.lemmas.Bool.Decides.{nat_tests}
use Rattle.tas_model.specs.declared.entry.FlowId.{FlowId}
use Rattle.tas_model.specs.declared.entry.FourTuple.{FourTuple}
use Rattle.flow_state.specs.Flow.{Flow}
use Rattle.flow_index.specs.Changes.{after_change, found_after, is_same}
use Rattle.flow_index.specs.declared.change.Change.{Change}
use Rattle.flow_index.specs.declared.change.Change.TheVariants.{Remove}
use Rattle.flow_index.specs.declared.change.Found.TheVariants as found
use Rattle.host_rounds.specs.Hosts.{is_indexed_as, same_tuple}
use Rattle.host_rounds.specs.Lists.{Each}
use Rattle.host_rounds.proofs.Lists.{each_append, fold_append}
use Rattle.flow_lock.specs.Orders.{known_of}
use Rattle.flow_lock.specs.declared.view.Held.{Held}
use Rattle.flow_lock.specs.declared.view.History.{History}
use Rattle.app_reaper.specs.OneCall.{history}
use Rattle.flow_clock.specs.Histories.{is_over}
use Rattle.flow_clock.specs.Ledgers.{Ledger}
use Rattle.flow_clock.specs.Walks.{WasClosed}
use Rattle.slow_handshake.specs.Openings.{Openings, is_named}
use Rattle.slow_handshake.specs.declared.openings.PassiveFlow.{PassiveFlow}
use Rattle.host_books.specs.Books.{Book, live_in}
use Rattle.host_books.specs.Indexes.{AreOnce}
use Rattle.sound_hosts.specs.Hosts.{CoreHost, is_indexed, is_doomed, is_filed, tuple_of, waiting_in}
use Rattle.sound_hosts.specs.Leading.{LedOn, Leads}
use Rattle.sound_hosts.specs.Moving.{IsLed}
use Rattle.sound_hosts.specs.Sound.{AreShown, IsPlain}
use Rattle.sound_hosts.proofs.Kept.{shown_same}
use Rattle.sound_hosts.proofs.Led.{alike}
use Rattle.sound_hosts.proofs.OneFlow.{used_leads}
use Rattle.sound_hosts.proofs.Sweeping.{firsts, lasts, middle}
use Rattle.sound_hosts.proofs.Told.{left_waiting}
use Rattle.sound_turns.specs.Passing.{AreTabled, IsPassing, swept_book}
use Rattle.sound_hosts.proofs.Names.{names, names_without, IsSplit, split_at}
use Rattle.sound_turns.proofs.Lists.{waiting_swap, any_live_swap}
use Rattle.sound_turns.proofs.Steps.{path_without, lists_after, same_led}
use Rattle.sound_turns.proofs.Sweeps.{base_leads, led_tabled, same_base, swept_tabled}

-- ----- the index
-- other flows of the index have other four-tuples
module _ (known : List Held) (b : Book) where
  abbrev IsAway : Book → Type 0
  IsAway c = c.indexed ≡ true → same_tuple (tuple_of known c) (tuple_of known b) ≡ false

  both : (x y : Bool) → x ≡ true → (x && y) ≡ false → y ≡ false
  both true y e q = q
  both false y e q = absurd (true≢false (sym e))

  away_front : b.indexed ≡ true → (xs cs : List Book) → AreOnce known (xs ++ b ∷ cs) → Each IsAway xs
  away_front is [] cs once = tt
  away_front is (x ∷ xs) cs once = (
    λ e. both b.indexed (same_tuple (tuple_of known x) (tuple_of known b)) is
        (middle (λ (c : Book). is_indexed_as (live_in known x).flow.tuple (live_in known c) ≡ false) xs b cs
        (once.0 e)),
    away_front is xs cs once.1,
  )

  flipped : (t u : FourTuple) → same_tuple t u ≡ false → same_tuple u t ≡ false
  flipped t u e = mirror ∙ e
    where
      mirror : same_tuple u t ≡ same_tuple t u
      mirror = grind (arith, nat_tests)

  aways : (cs : List Book)
      → Each (λ (c : Book). is_indexed_as (live_in known b).flow.tuple (live_in known c) ≡ false) cs → Each IsAway cs
  aways [] each = tt
  aways (c ∷ cs) each = (
    λ e. flipped (tuple_of known b) (tuple_of known c)
        (both c.indexed (same_tuple (tuple_of known b) (tuple_of known c)) e each.0),
    aways cs each.1,
  )

  away_back : b.indexed ≡ true → (xs cs : List Book) → AreOnce known (xs ++ b ∷ cs) → Each IsAway cs
  away_back is [] cs once = aways cs (once.0 is)
  away_back is (x ∷ xs) cs once = away_back is xs cs once.1

  -- with the change that takes it away
  module _ (changes : List Change) where
    removed : (t : FourTuple)
        → found_after t (changes ++ Remove (tuple_of known b) ∷ [])
        ≡ (if is_same (tuple_of known b) t then found.Absent else found_after t changes)
    removed t = fold_append (after_change t) found.Absent changes (Remove (tuple_of known b) ∷ [])

    abbrev IsLedBy : List Change → Book → Type 0
    IsLedBy now c = c.indexed ≡ true → found_after (tuple_of known c) now ≡ found.Flow c.id

    still_led : (cs : List Book) → Each IsAway cs → Each (IsLedBy changes) cs
        → Each (IsLedBy (changes ++ Remove (tuple_of known b) ∷ [])) cs
    still_led [] x y = tt
    still_led (c ∷ cs) x y = (
      λ e. removed (tuple_of known c)
          ∙ (ap (λ s. cond s found.Absent (found_after (tuple_of known c) changes))
          (alike (tuple_of known c) (tuple_of known b) ∙ x.0 e)
          ∙ y.0 e),
      still_led cs x.1 y.1,
    )

    pub shown_without : (xs cs : List Book) → b.indexed ≡ true → AreOnce known (xs ++ b ∷ cs)
        → AreShown (xs ++ b ∷ cs) known changes
        → AreShown (xs ++ swept_book b ∷ cs) known (changes ++ Remove (tuple_of known b) ∷ [])
    shown_without xs cs is once shown = record {
      led = each_append (IsLedBy (changes ++ Remove (tuple_of known b) ∷ [])) xs (swept_book b ∷ cs)
          (still_led xs (away_front is xs cs once) (firsts (IsLedBy changes) xs b cs shown.led)) (
            λ e. absurd (true≢false (sym e)),
            still_led cs (away_back is xs cs once) (lasts (IsLedBy changes) xs b cs shown.led),
          );
      none = λ t e. removed t ∙ by t e (is_same (tuple_of known b) t) refl;
    }
      where
        off : (x y : Bool) → y ≡ false → (false && y) ≡ (x && y)
        off true y e = sym e
        off false y e = refl

        by : (t : FourTuple) → list_any (is_indexed_as t) (map (live_in known) (xs ++ swept_book b ∷ cs)) ≡ false
            → (s : Bool) → is_same (tuple_of known b) t ≡ s
            → (if is_same (tuple_of known b) t then found.Absent else found_after t changes) ≡ found.Absent
        by t e true q = ap (λ s. cond s found.Absent (found_after t changes)) q
        by t e false q =
            ap (λ s. cond s found.Absent (found_after t changes)) q
            ∙ shown.none t
            (sym (any_live_swap known t xs b (swept_book b) cs
            (off b.indexed (same_tuple t (tuple_of known b)) (sym (alike t (tuple_of known b)) ∙ q)))
            ∙ e)

-- ----- a flow that is found closed
module _ (h : CoreHost) (xs : List Book) (b : Book) (cs : List Book) (tried left : List FlowId) (l m : Ledger)
    (p : IsPassing h (xs ++ b ∷ cs) tried (b.id ∷ left) l) (is : b.indexed ≡ true)
    (fronts : names is_indexed xs ≡ l.pins) (backs : names is_indexed cs ≡ left) (was : WasClosed b.id l m) where
  not_filed : (f : Bool) → (f ≡ true → b.indexed ≡ false) → f ≡ false
  not_filed true plain = absurd (true≢false (sym is ∙ plain refl))
  not_filed false plain = refl

  pub stands : b.filed ≡ false
  stands = not_filed b.filed (middle IsPlain xs b cs p.tabled.plain)

  is_known : history was.flow ≡ known_of b.id l.view.base
  is_known = was.own.known p.tabled.alone

  led : LedOn (known_of b.id l.view.base) (history was.flow)
  led = subst (λ (x : History). LedOn x (history was.flow)) is_known (same_led (history was.flow))

  by_use : IsLed b.id (history was.flow) l.view was.found
  by_use = used_leads b.id was.flow (history was.flow) l.view was.found p.tabled.alone was.kept

  leads : Leads l.view.base was.found.base
  leads = base_leads b.id (history was.flow) l.view was.found led by_use

  tabled : AreTabled h (xs ++ b ∷ cs) was.found
  tabled = led_tabled h (xs ++ b ∷ cs) b.id (history was.flow) l.view was.found p.tabled led by_use

  over : is_over (known_of b.id was.found.base) ≡ true
  over = (leads b.id).over (ap is_over (sym is_known) ∙ was.over)

  pub base : m.view.base ≡ was.found.base
  base = same_base h xs b cs was.found m.view was.swept.swept tabled stands over was.swept.sweep

  tuple : was.flow.tuple ≡ tuple_of was.found.base b
  tuple = ap (λ (x : History). x.tuple) is_known ∙ sym (leads b.id).tuple

  undoomed : names is_doomed (xs ++ b ∷ cs) ≡ names is_doomed xs ++ names is_doomed cs
  undoomed = names_without is_doomed xs b cs (ap (λ x. not x && not b.filed) is)

  lists : IsPermutation (tried ++ m.doomed) (names is_doomed (xs ++ swept_book b ∷ cs))
      × IsPermutation (map (λ (r : Flow). r.id) m.filed) (names is_filed (xs ++ swept_book b ∷ cs))
  lists = lists_after h xs b cs was.found m.view tabled stands over l.filed m.filed l.doomed m.doomed tried was.swept
      p.filed (subst (IsPermutation (tried ++ l.doomed)) undoomed p.doomed)

  abbrev changes : List Change
  changes = h.slow.index.published ++ l.changes

  shown : AreShown (xs ++ swept_book b ∷ cs) was.found.base
      (changes ++ Remove (tuple_of was.found.base b) ∷ [])
  shown = shown_without was.found.base b (h.slow.index.published ++ l.changes) xs cs is tabled.indexed.once
      (shown_same l.view.base was.found.base (λ g. (leads g).tuple) (xs ++ b ∷ cs)
      (h.slow.index.published ++ l.changes) p.shown)

  all_changes : (h.slow.index.published ++ l.changes) ++ Remove (tuple_of was.found.base b) ∷ []
      ≡ h.slow.index.published ++ m.changes
  all_changes =
      append_assoc h.slow.index.published l.changes (Remove (tuple_of was.found.base b) ∷ [])
      ∙ ap (λ x. h.slow.index.published ++ x)
      (ap (λ t. l.changes ++ Remove t ∷ []) (sym tuple) ∙ sym was.left)

  pub closed_at : IsPassing h (xs ++ swept_book b ∷ cs) tried left m
  closed_at = record {
    tabled = swept_tabled h xs b cs was.found m.view was.swept.swept tabled stands over was.swept.sweep;
    pins = ap (λ x. x ++ left) was.gone
        ∙ ((λ i. sym fronts i ++ sym backs i) ∙ sym (names_without is_indexed xs (swept_book b) cs refl));
    doomed = lists.0;
    filed = lists.1;
    waiting = ap (λ (o : Openings). o.flows) was.told
        ∙ (ap (filter (λ (x : PassiveFlow). not (is_named b.id x))) p.waiting
        ∙ (sym (left_waiting l.view.base b.id (history was.flow) was.over (xs ++ b ∷ cs))
        ∙ (ap (λ (x : List Held). waiting_in x (xs ++ b ∷ cs)) (sym by_use.base)
        ∙ (sym (waiting_swap was.found.base xs b cs)
        ∙ ap (λ (x : List Held). waiting_in x (xs ++ swept_book b ∷ cs)) (sym base)))));
    path = path_without l.path h.slow.path m.path b.id p.path was.told;
    shown = subst (λ (x : List Held). AreShown (xs ++ swept_book b ∷ cs) x (h.slow.index.published ++ m.changes))
        (sym base)
        (subst (AreShown (xs ++ swept_book b ∷ cs) was.found.base) all_changes shown);
  }

pub closed_passing : (h : CoreHost) (bs : List Book) (tried : List FlowId) (f : FlowId) (left : List FlowId)
    (l m : Ledger) → IsPassing h bs tried (f ∷ left) l → WasClosed f l m
    → (cs : List Book) × IsPassing h cs tried left m
closed_passing h bs tried f left l m p was =
    let s : IsSplit is_indexed f l.pins left bs = split_at is_indexed f l.pins left bs (sym p.pins) in (
      s.before ++ swept_book s.book ∷ s.behind,
      closed_at h s.before s.book s.behind tried left l m
          (subst (λ g. IsPassing h (s.before ++ s.book ∷ s.behind) tried (g ∷ left) l) (sym s.name)
          (subst (λ (x : List Book). IsPassing h x tried (f ∷ left) l) s.is p))
          s.passes s.fronts s.backs
          (subst (λ g. WasClosed g l m) (sym s.name) was),
    )

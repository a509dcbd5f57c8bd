-- One flow has its time, or is swept: for the law time_keeps_it.
use Rattle.std.proofs.Common.{◌≡◌, ℕ, ◌&&◌, not, Bool, true, false, List, [], ◌∷◌, ◌++◌, map, refl, sym, ap, ◌∙◌, subst}
use Rattle.std.proofs.Common.{inl, append_assoc, true≢false, cond}
use Rattle.std.specs.Prelude.{IsPermutation}
use Rattle.std.specs.List.{filter}
use Rattle.tas_model.specs.declared.entry.FlowId.{FlowId}
use Rattle.flow_state.specs.Flow.{Flow}
use Rattle.flow_index.specs.Changes.{found_after}
use Rattle.flow_index.specs.declared.change.Change.{Change}
use Rattle.flow_index.specs.declared.change.Found.TheVariants as found
use Rattle.host_rounds.specs.Hosts.{is_held_by, same_tuple}
use Rattle.host_rounds.specs.Lists.{Each}
use Rattle.host_rounds.proofs.Lists.{each_append, map_append}
use Rattle.flow_lock.specs.Orders.{known_of, same_flow}
use Rattle.flow_lock.specs.declared.view.Held.{Held}
use Rattle.flow_lock.specs.declared.view.History.{History}
use Rattle.flow_lock.specs.declared.view.View.{View}
use Rattle.app_reaper.specs.OneCall.{history}
use Rattle.app_reaper.specs.Sweeping.{IsSweep, IsFiling}
use Rattle.app_reaper.specs.declared.sweeping.Swept.{Swept}
use Rattle.app_reaper.specs.declared.sweeping.Swept.TheVariants.{Freed, Pinned}
use Rattle.flow_clock.specs.Histories.{is_over, is_running, timed_by}
use Rattle.flow_clock.specs.Ledgers.{Ledger, without, without_closed}
use Rattle.flow_clock.specs.Walks.{WasTimed, WasSweptAgain, IsSwept, doomed_with}
use Rattle.slow_handshake.specs.Openings.{Openings, is_named}
use Rattle.slow_handshake.specs.declared.openings.PassiveFlow.{PassiveFlow}
use Rattle.host_books.specs.Books.{Book}
use Rattle.host_books.specs.Indexes.{IsFindable}
use Rattle.host_books.proofs.Indexing.{is_same_flow}
use Rattle.sound_hosts.specs.Hosts.{CoreHost, is_indexed, is_doomed, is_filed, tuple_of, waiting_in}
use Rattle.sound_hosts.specs.Leading.{LedOn, Leads}
use Rattle.sound_hosts.specs.Moving.{IsLed}
use Rattle.sound_hosts.specs.Sound.{AreShown}
use Rattle.sound_hosts.proofs.Calls.{timed_leads}
use Rattle.sound_hosts.proofs.Kept.{shown_same}
use Rattle.sound_hosts.proofs.OneFlow.{used_leads}
use Rattle.sound_hosts.proofs.Reheld.{StaysWaiting, waiting_same}
use Rattle.sound_hosts.proofs.Sweeping.{firsts, lasts, middle}
use Rattle.sound_hosts.proofs.Told.{left_waiting}
use Rattle.sound_turns.specs.Passing.{AreTabled, IsPassing, swept_book}
use Rattle.sound_hosts.proofs.Names.{names, names_with, names_without, names_swap, IsSplit, split_of}
use Rattle.sound_hosts.proofs.Names.{one_more}
use Rattle.sound_turns.proofs.Lists.{waiting_swap, any_live_swap}
use Rattle.sound_turns.proofs.Running.{timed_running}
use Rattle.sound_turns.proofs.Sweeps.{base_leads, led_tabled, freed, same_base, swept_tabled}

-- ----- histories
pub same_led : (x : History) → LedOn x x
same_led x = record { tuple = refl; over = λ o. o; running = λ r. inl r; none = λ n. n }

-- ----- openings
pub path_without : (p q r : Openings) (f : FlowId) → p ≡ record q { flows = p.flows } → r ≡ without f p
    → r ≡ record q { flows = r.flows }
path_without p q r f path e =
    e ∙ (ap (λ (o : Openings). record o { flows = filter (λ (x : PassiveFlow). not (is_named f x)) p.flows }) path
    ∙ ap (λ (o : Openings). record q { flows = o.flows }) (sym e))

path_still : (p q r : Openings) (f : FlowId) (c : Bool) → p ≡ record q { flows = p.flows } → r ≡ without_closed c f p
    → r ≡ record q { flows = r.flows }
path_still p q r f true path e = path_without p q r f path e
path_still p q r f false path e = e ∙ (path ∙ ap (λ (o : Openings). record q { flows = o.flows }) (sym e))

-- ----- a flow that has its time
module _ (h : CoreHost) (bs : List Book) (tried : List FlowId) (f : FlowId) (left : List FlowId) (tick : ℕ)
    (l m : Ledger) (p : IsPassing h bs tried (f ∷ left) l) (was : WasTimed tick f l m) where
  is_known : history was.flow ≡ known_of f l.view.base
  is_known = was.own.known p.tabled.alone

  led : LedOn (known_of f l.view.base) (timed_by tick (history was.flow))
  led = subst (λ (x : History). LedOn x (timed_by tick (history was.flow))) is_known
      (timed_leads tick (history was.flow) was.own.legal was.not_over)

  by_use : IsLed f (timed_by tick (history was.flow)) l.view m.view
  by_use = used_leads f was.flow (timed_by tick (history was.flow)) l.view m.view p.tabled.alone was.grown

  leads : Leads l.view.base m.view.base
  leads = base_leads f (timed_by tick (history was.flow)) l.view m.view led by_use

  abbrev later : List Held
  later = record { flow = f; history = timed_by tick (history was.flow) } ∷ l.view.base

  -- where it is open still, it is as far as it was
  still : is_over (timed_by tick (history was.flow)) ≡ false → (cs : List Book)
      → Each (StaysWaiting l.view.base later) cs
  still open_ [] = tt
  still open_ (c ∷ cs) = (λ w. by (same_flow f c.id) refl, still open_ cs)
    where
      by : (s : Bool) → same_flow f c.id ≡ s
          → (is_over (known_of c.id later) ≡ is_over (known_of c.id l.view.base))
          × (is_running (known_of c.id later) ≡ is_running (known_of c.id l.view.base))
          × ((known_of c.id later).tuple ≡ (known_of c.id l.view.base).tuple)
      by false e =
          let same : known_of c.id later ≡ known_of c.id l.view.base =
          ap (λ s. cond s (timed_by tick (history was.flow)) (known_of c.id l.view.base)) e in
          (ap is_over same, ap is_running same, ap (λ (x : History). x.tuple) same)
      by true e =
          let now : known_of c.id later ≡ timed_by tick (history was.flow) =
          ap (λ s. cond s (timed_by tick (history was.flow)) (known_of c.id l.view.base)) e in
          let then_ : history was.flow ≡ known_of c.id l.view.base =
          is_known ∙ ap (λ g. known_of g l.view.base) (is_same_flow f c.id e) in (
            ap is_over now ∙ (open_ ∙ (sym was.not_over ∙ ap is_over then_)),
            ap is_running now
                ∙ (timed_running tick (history was.flow) was.own.legal was.not_over open_ ∙ ap is_running then_),
            ap (λ (x : History). x.tuple) now
                ∙ (led.tuple ∙ ap (λ g. (known_of g l.view.base).tuple) (is_same_flow f c.id e)),
          )

  waiting : (c : Bool) → is_over (timed_by tick (history was.flow)) ≡ c
      → m.path ≡ without_closed c f l.path → m.path.flows ≡ waiting_in later bs
  waiting true over e =
      ap (λ (o : Openings). o.flows) e
      ∙ (ap (filter (λ (x : PassiveFlow). not (is_named f x))) p.waiting
      ∙ sym (left_waiting l.view.base f (timed_by tick (history was.flow)) over bs))
  waiting false open_ e =
      ap (λ (o : Openings). o.flows) e
      ∙ (p.waiting ∙ sym (waiting_same l.view.base later bs (still open_ bs)))

  pub timed_passing : IsPassing h bs tried left m
  timed_passing = record {
    tabled = led_tabled h bs f (timed_by tick (history was.flow)) l.view m.view p.tabled led by_use;
    pins = ap (λ (x : Ledger). x.pins ++ left) was.rest ∙ (append_assoc l.pins (f ∷ []) left ∙ p.pins);
    doomed = subst (λ (x : Ledger). IsPermutation (tried ++ x.doomed) (names is_doomed bs)) (sym was.rest) p.doomed;
    filed = subst (λ (x : Ledger). IsPermutation (map (λ (r : Flow). r.id) x.filed) (names is_filed bs)) (sym was.rest)
        p.filed;
    waiting = waiting (is_over (timed_by tick (history was.flow))) refl was.told
        ∙ ap (λ (x : List Held). waiting_in x bs) (sym by_use.base);
    path = path_still l.path h.slow.path m.path f (is_over (timed_by tick (history was.flow))) p.path was.told;
    shown = subst (λ (x : List Change). AreShown bs m.view.base (h.slow.index.published ++ x))
        (sym (ap (λ (x : Ledger). x.changes) was.rest))
        (shown_same l.view.base m.view.base (λ g. (leads g).tuple) bs (h.slow.index.published ++ l.changes) p.shown);
  }

-- ----- what the lists have of a flow that was swept
-- tests of its book, before and after
doomed_after : (b : Book) → is_held_by b.holder ≡ true → is_doomed (swept_book b) ≡ true
doomed_after b e = ap (λ x. true && not (not x)) e

undoomed_after : (b : Book) → is_held_by b.holder ≡ false → is_doomed (swept_book b) ≡ false
undoomed_after b e = ap (λ x. true && not (not x)) e

module _ (h : CoreHost) (xs : List Book) (b : Book) (cs : List Book) (v w : View)
    (tabled : AreTabled h (xs ++ b ∷ cs) v)
    (stands : b.filed ≡ false) (over : is_over (known_of b.id v.base) ≡ true) where
  -- the doomed flows, without it
  module _ (filed filed' : List Flow) (doomed doomed' : List FlowId) (rest : List FlowId)
      (swept : IsSwept b.id v w filed filed' doomed doomed')
      (ids : IsPermutation (map (λ (r : Flow). r.id) filed) (names is_filed (xs ++ b ∷ cs)))
      (others : IsPermutation (rest ++ doomed) (names is_doomed xs ++ names is_doomed cs)) where
    unfiled : names is_filed (xs ++ b ∷ cs) ≡ names is_filed xs ++ names is_filed cs
    unfiled = names_without is_filed xs b cs stands

    abbrev Lists : Type 0
    Lists = IsPermutation (rest ++ doomed') (names is_doomed (xs ++ swept_book b ∷ cs))
        × IsPermutation (map (λ (r : Flow). r.id) filed') (names is_filed (xs ++ swept_book b ∷ cs))

    flip : (x y : Bool) → y ≡ not x → x ≡ not y
    flip true y e = sym (ap not e)
    flip false y e = sym (ap not e)

    by_swept : (a : Swept) → IsSweep b.id v w a → IsFiling b.id v filed filed' a
        → doomed' ≡ doomed_with b.id a doomed → Lists
    by_swept Freed sweep (r, own, released, e) q =
        let free : is_held_by b.holder ≡ false =
        flip (is_held_by b.holder) true (freed h xs b cs v w Freed tabled stands over sweep) in (
          subst (λ ds. IsPermutation (rest ++ ds) (names is_doomed (xs ++ swept_book b ∷ cs))) (sym q)
              (subst (IsPermutation (rest ++ doomed))
              (sym (names_without is_doomed xs (swept_book b) cs (undoomed_after b free))) others),
          subst (λ fs. IsPermutation (map (λ (x : Flow). x.id) fs) (names is_filed (xs ++ swept_book b ∷ cs))) (sym e)
              (subst (IsPermutation (map (λ (x : Flow). x.id) (filed ++ r ∷ [])))
              (sym (names_with is_filed xs (swept_book b) cs (ap not free)))
              (subst (λ gs. IsPermutation gs (names is_filed xs ++ b.id ∷ names is_filed cs))
              (sym (map_append (λ (x : Flow). x.id) filed (r ∷ [])
              ∙ ap (λ i. map (λ (x : Flow). x.id) filed ++ i ∷ []) own.own))
              (one_more (map (λ (x : Flow). x.id) filed) (names is_filed xs) (names is_filed cs) b.id
              (subst (IsPermutation (map (λ (x : Flow). x.id) filed)) unfiled ids)))),
        )
    by_swept (Pinned n pin) sweep e q =
        let held : is_held_by b.holder ≡ true =
        flip (is_held_by b.holder) false (freed h xs b cs v w (Pinned n pin) tabled stands over sweep) in (
          subst (λ ds. IsPermutation (rest ++ ds) (names is_doomed (xs ++ swept_book b ∷ cs))) (sym q)
              (subst (IsPermutation (rest ++ (doomed ++ b.id ∷ [])))
              (sym (names_with is_doomed xs (swept_book b) cs (doomed_after b held)))
              (subst (λ gs. IsPermutation gs (names is_doomed xs ++ b.id ∷ names is_doomed cs))
              (append_assoc rest doomed (b.id ∷ []))
              (one_more (rest ++ doomed) (names is_doomed xs) (names is_doomed cs) b.id others))),
          subst (λ fs. IsPermutation (map (λ (x : Flow). x.id) fs) (names is_filed (xs ++ swept_book b ∷ cs))) (sym e)
              (subst (IsPermutation (map (λ (x : Flow). x.id) filed))
              (unfiled ∙ sym (names_without is_filed xs (swept_book b) cs (ap not held))) ids),
        )

    pub lists_after : Lists
    lists_after = by_swept swept.swept swept.sweep swept.filing swept.waiting

-- ----- a doomed flow is tried again
module _ (h : CoreHost) (xs : List Book) (b : Book) (cs : List Book) (tried left : List FlowId) (l m : Ledger)
    (p : IsPassing h (xs ++ b ∷ cs) (b.id ∷ tried) left l) (doomed : is_doomed b ≡ true)
    (others : IsPermutation (tried ++ l.doomed) (names is_doomed xs ++ names is_doomed cs))
    (was : WasSweptAgain b.id l m) where
  and_both : (x y : Bool) → (x && y) ≡ true → (x ≡ true) × (y ≡ true)
  and_both true y e = (refl, e)
  and_both false y e = absurd (true≢false (sym e))

  not_true : (x : Bool) → not x ≡ true → x ≡ false
  not_true true e = absurd (true≢false (sym e))
  not_true false e = refl

  gone : b.indexed ≡ false
  gone = not_true b.indexed (and_both (not b.indexed) (not b.filed) doomed).0

  pub stands : b.filed ≡ false
  stands = not_true b.filed (and_both (not b.indexed) (not b.filed) doomed).1

  pub over : is_over (known_of b.id l.view.base) ≡ true
  over = middle (IsFindable l.view.base) xs b cs p.tabled.indexed.running gone

  pub base : m.view.base ≡ l.view.base
  base = same_base h xs b cs l.view m.view was.swept.swept p.tabled stands over was.swept.sweep

  lists : IsPermutation (tried ++ m.doomed) (names is_doomed (xs ++ swept_book b ∷ cs))
      × IsPermutation (map (λ (r : Flow). r.id) m.filed) (names is_filed (xs ++ swept_book b ∷ cs))
  lists = lists_after h xs b cs l.view m.view p.tabled stands over l.filed m.filed l.doomed m.doomed tried was.swept
      p.filed others

  abbrev IsShownAt : Book → Type 0
  IsShownAt c = c.indexed ≡ true
      → found_after (tuple_of l.view.base c) (h.slow.index.published ++ l.changes) ≡ found.Flow c.id

  shown : AreShown (xs ++ swept_book b ∷ cs) l.view.base (h.slow.index.published ++ l.changes)
  shown = record {
    led = each_append IsShownAt xs (swept_book b ∷ cs) (firsts IsShownAt xs b cs p.shown.led)
        (λ e. absurd (true≢false (sym e)), lasts IsShownAt xs b cs p.shown.led);
    none = λ t e. p.shown.none t
        (sym (any_live_swap l.view.base t xs b (swept_book b) cs
        (ap (λ x. x && same_tuple t (tuple_of l.view.base b)) (sym gone)))
        ∙ e);
  }

  pub again_at : IsPassing h (xs ++ swept_book b ∷ cs) tried left m
  again_at = record {
    tabled = swept_tabled h xs b cs l.view m.view was.swept.swept p.tabled stands over was.swept.sweep;
    pins = ap (λ (x : Ledger). x.pins ++ left) was.rest
        ∙ (p.pins ∙ sym (names_swap is_indexed xs b (swept_book b) cs refl (sym gone)));
    doomed = lists.0;
    filed = lists.1;
    waiting = ap (λ (x : Ledger). x.path.flows) was.rest
        ∙ (p.waiting
        ∙ (sym (waiting_swap l.view.base xs b cs)
        ∙ ap (λ (x : List Held). waiting_in x (xs ++ swept_book b ∷ cs)) (sym base)));
    path = ap (λ (x : Ledger). x.path) was.rest
        ∙ (p.path ∙ ap (λ (x : Ledger). record (h.slow.path) { flows = x.path.flows }) (sym was.rest));
    shown = subst (λ (x : Ledger). AreShown (xs ++ swept_book b ∷ cs) m.view.base
        (h.slow.index.published ++ x.changes)) (sym was.rest)
        (subst (λ (x : List Held). AreShown (xs ++ swept_book b ∷ cs) x (h.slow.index.published ++ l.changes))
        (sym base)
        shown);
  }

pub again_passing : (h : CoreHost) (bs : List Book) (f : FlowId) (tried left : List FlowId) (l m : Ledger)
    → IsPassing h bs (f ∷ tried) left l → WasSweptAgain f l m → (cs : List Book) × IsPassing h cs tried left m
again_passing h bs f tried left l m p was =
    let s = split_of is_doomed f (tried ++ l.doomed) bs p.doomed in
    by s.0 s.1 s.2 s.3
  where
    by : (front back : List FlowId) (s : IsSplit is_doomed f front back bs)
        → IsPermutation (tried ++ l.doomed) (front ++ back) → (cs : List Book) × IsPassing h cs tried left m
    by front back s perm = (
      s.before ++ swept_book s.book ∷ s.behind,
      again_at h s.before s.book s.behind tried left l m
          (subst (λ g. IsPassing h (s.before ++ s.book ∷ s.behind) (g ∷ tried) left l) (sym s.name)
          (subst (λ (x : List Book). IsPassing h x (f ∷ tried) left l) s.is p))
          s.passes
          (subst (IsPermutation (tried ++ l.doomed)) (λ i. sym s.fronts i ++ sym s.backs i) perm)
          (subst (λ g. WasSweptAgain g l m) (sym s.name) was),
    )

-- The whole host after a phase: for the law phases_keep_it.
use Rattle.std.proofs.Common.{◌≡◌, ℕ, ◌<◌, ◌==◌, Bool, true, false, cond, List, [], ◌∷◌, map, length}
use Rattle.std.proofs.Common.{refl, sym, ap, ◌∙◌, subst, arith, slice_get, Some, All}
use Rattle.std.specs.Prelude.{Option, None, is_some}
use Rattle.tas_model.specs.declared.entry.FlowId.{FlowId}
use Rattle.tas_model.specs.declared.entry.Reason.{Reason}
use Rattle.tas_model.specs.ApplicationCalls.{Column, Opening, Over, Running, column, column_by}
use Rattle.host_rounds.specs.Hosts.{is_waiting_by}
use Rattle.host_rounds.specs.Lists.{Each}
use Rattle.flow_lock.specs.Claims.{holds_on}
use Rattle.flow_lock.specs.Orders.{known_of, played, pins_at, total, at_slot}
use Rattle.flow_lock.specs.declared.view.Held.{Held}
use Rattle.flow_lock.specs.declared.view.History.{History}
use Rattle.flow_lock.specs.declared.view.View.{View}
use Rattle.flow_clock.specs.Histories.{is_over, is_running_in}
use Rattle.core_phase.specs.Lanes.{MayPlay, pins_left}
use Rattle.core_phase.specs.Phases.{IsPhase}
use Rattle.core_phase.specs.declared.lane.Lane.{Lane}
use Rattle.core_phase.specs.declared.lane.Lane.TheVariants as lanes
use Rattle.host_books.specs.Books.{Book}
use Rattle.host_books.specs.Indexes.{endpoint_of}
use Rattle.sound_hosts.specs.Hosts.{CoreHost, waiting_in}
use Rattle.sound_hosts.specs.Leading.{Leads}
use Rattle.sound_hosts.specs.Leaving.{reheld, left_by}
use Rattle.sound_hosts.specs.Sound.{IsHostSound, IsApp, IsMarkedAs, IsWorded}
use Rattle.sound_hosts.proofs.Leaving.{AreRight, IsPinnedBy, AreApart, apart_of, left_keeps, waiting_left}
use Rattle.sound_hosts.proofs.Learned.{learned}
use Rattle.sound_hosts.proofs.Moved.{IsMovedOn, Lifts, all_right, generation_in, moved_sound, not_had}
use Rattle.sound_hosts.proofs.OpenSockets.{all_each}
use Rattle.sound_hosts.proofs.Reheld.{each_reheld, StaysWaiting, waiting_same, waiting_reheld}
use Rattle.sound_hosts.proofs.Standing.{every_at, stand_marked, within}
use Rattle.sound_phases.specs.Phased.{apps_in, books_by, books_after, after_phase}
use Rattle.sound_phases.proofs.Apps.{lanes_right, lanes_had}
use Rattle.sound_phases.proofs.Deeds.{FramesKeep, SendsKeep, turns_lead}
use Rattle.sound_phases.proofs.Orders.{IsLeading, from_turns, run_leads, run_columns}

-- ----- what other holders keep, a phase does
module _ (P : List Book → Type 0)
    (keeps : (n : ℕ) (id : FlowId) (cs : List Book) → P cs → P (map (reheld (left_by n id)) cs)) where
  pub after_keeps : (vs ws : List Lane) (bs : List Book) → P bs → P (books_after vs ws bs)
  after_keeps [] ws bs p = p
  after_keeps (v ∷ vs) [] bs p = p
  after_keeps (lanes.Core v ∷ vs) (lanes.Core w ∷ ws) bs p = after_keeps vs ws bs p
  after_keeps (lanes.Core v ∷ vs) (lanes.App w ∷ ws) bs p = after_keeps vs ws bs p
  after_keeps (lanes.App v ∷ vs) (lanes.Core w ∷ ws) bs p = after_keeps vs ws bs p
  after_keeps (lanes.App v ∷ vs) (lanes.App w ∷ ws) bs p =
      after_keeps vs ws (books_by (lanes.App v) (lanes.App w) bs)
      (left_keeps P keeps v.app.number (pins_left (lanes.App v) (lanes.App w)) bs p)

-- ----- flows that wait
abbrev over_in : Column → Bool
over_in (Over why) = true
over_in Opening = false
over_in Running = false

over_is : (r : Option Reason) (p : Option ℕ) (una : ℕ) → over_in (column_by r p una) ≡ is_some r
over_is (Some why) p una = refl
over_is None None una = refl
over_is None (Some first) una = by (una == 0)
  where
    by : (b : Bool) → over_in (cond b Opening Running) ≡ false
    by true = refl
    by false = refl

over_same : (h k : History) → column (endpoint_of k) ≡ column (endpoint_of h) → is_over k ≡ is_over h
over_same h k e =
    sym (over_is (endpoint_of k).reason (endpoint_of k).peer (endpoint_of k).tx.una)
    ∙ (ap over_in e ∙ over_is (endpoint_of h).reason (endpoint_of h).peer (endpoint_of h).tx.una)

-- ----- the host
module _ (rx_column : FramesKeep) (send_column : SendsKeep) (h : CoreHost) (vs ws : List Lane) (w : View)
    (sound : IsHostSound h) (same_apps : apps_in vs ≡ h.apps) (may : All MayPlay vs)
    (phase : IsPhase vs ws h.slow.pass.view w) (wide : length w.words ≡ length h.slow.pass.view.words) where
  abbrev v : View
  v = h.slow.pass.view

  abbrev known : List Held
  known = h.slow.pass.view.base

  abbrev after : List Held
  after = played h.slow.pass.view.base phase.order

  abbrev bs : List Book
  bs = books_after vs ws h.books

  may_each : Each MayPlay vs
  may_each = all_each MayPlay vs may

  idle : h.slow.pass.view.held ≡ []
  idle = sound.sound.0.ready.2

  base : w.base ≡ after
  base = ap (λ (x : View). x.base) phase.known

  -- ----- histories
  apps : Each (IsApp h.table h.books) (apps_in vs)
  apps = subst (Each (IsApp h.table h.books)) (sym same_apps) sound.apps

  leading : Each (λ x. IsLeading h.books x.1) phase.order
  leading = from_turns (IsLeading h.books) phase.order
      (λ p. turns_lead h.books rx_column send_column phase.order 0 vs ws phase.parts
      (lanes_had h.table h.books vs apps may_each) (λ q le. phase.others q (omega (arith, le))) p (omega arith))

  leads : Leads known after
  leads = run_leads h.books known phase.order phase.run leading

  apart : AreApart h.books
  apart = apart_of h.table.slots [] h.books sound.numbered

  waits_on : (n : ℕ) (b : Book) → slice_get h.books n ≡ Some b → StaysWaiting known after b
  waits_on n b at waits =
      let same = run_columns h.books b.id (λ had. not_had h.books apart n b at waits had.0 had.1) known phase.order
      phase.run leading in (
        over_same (known_of b.id known) (known_of b.id after) same,
        ap is_running_in same,
        (leads b.id).tuple,
      )

  -- ----- books and applications
  right : AreRight h.table (generation_in h.slow.pass.view) (pins_at w.words) bs (apps_in ws)
  right = lanes_right h.table (generation_in h.slow.pass.view) phase.order 0 vs ws [] (pins_at h.slow.pass.view.words)
      (pins_at w.words) h.books phase.parts may_each phase.pins
      (subst (AreRight h.table (generation_in h.slow.pass.view) (pins_at h.slow.pass.view.words) h.books)
      (sym same_apps)
      (all_right h sound))

  lift : (P : List Book → Type 0) → Lifts h.books bs P
  lift P keeps p = after_keeps P (λ n id cs. keeps (left_by n id) cs) vs ws h.books p

  -- ----- words
  stand : Each (IsMarkedAs h.slow.pass.view.marks) bs
  stand = lift (Each (IsMarkedAs h.slow.pass.view.marks))
      (λ holder cs x. each_reheld holder (IsMarkedAs h.slow.pass.view.marks) (IsMarkedAs h.slow.pass.view.marks)
      (λ b y. y) cs x)
      (stand_marked h sound)

  none_held : (i : ℕ) → holds_on i h.slow.pass.view ≡ 0
  none_held i = ap (λ (l : List Held). total (λ (x : Held). at_slot i x.flow) l) idle

  words_after : (cs : List Book) → Each (λ (b : Book). b.id.slot < h.table.slots) cs
      → Each (IsMarkedAs h.slow.pass.view.marks) cs → Each (IsPinnedBy (pins_at w.words)) cs → Each (IsWorded w) cs
  words_after [] x y z = tt
  words_after (c ∷ cs) x y z = (
    λ f. learned v w w.words
        (wide ∙ (sound.wide.1 ∙ sym sound.wide.0))
        (phase.marks sound.slow_pass) (λ i u at. phase.busy i u at ∙ none_held i) c
        (subst (λ k. c.id.slot < k) (sym sound.wide.0) x.0) y.0 z.0 f,
    words_after cs x.1 y.1 z.1,
  )

  -- ----- the slow path
  on : IsMovedOn h w
  on = record {
    alone = (
      ap (λ (x : View). x.baton) phase.known ∙ sound.alone.0,
      ap (λ (x : View). x.turns) phase.known ∙ sound.alone.1,
      ap (λ (x : View). x.made) phase.known ∙ sound.alone.2,
    );
    slow = ap (λ (x : View). x.slow) phase.known ∙ sound.slow_pass;
    marks = ap (λ (x : View). x.marks) phase.known;
    pins = ap (λ (x : View). x.pins) phase.known;
    idle = ap (λ (x : View). x.held) phase.known ∙ idle;
    wide = wide;
    leads = subst (Leads known) (sym base) leads;
  }

  waits_still : (n : ℕ) (id : FlowId) (cs : List Book)
      → Each (λ (b : Book). is_waiting_by (left_by n id b) ≡ is_waiting_by b.holder) cs
  waits_still n id [] = tt
  waits_still n id (c ∷ cs) = (waiting_left n id c, waits_still n id cs)

  waits : h.slow.path.flows ≡ waiting_in w.base bs
  waits =
      sound.opening.flows
      ∙ (sym (waiting_same known after h.books (every_at (StaysWaiting known after) h.books waits_on))
      ∙ (sym (after_keeps (λ (cs : List Book). waiting_in after cs ≡ waiting_in after h.books)
      (λ n id cs e. waiting_reheld (left_by n id) after cs (waits_still n id cs) ∙ e) vs ws h.books refl)
      ∙ ap (λ (l : List Held). waiting_in l bs) (sym base)))

  pub phase_sound : IsHostSound (after_phase vs ws w h)
  phase_sound =
      moved_sound h sound w on h.slow.path (apps_in ws) bs lift refl waits
      (words_after bs (within h.table.slots [] bs right.numbered) stand right.pinned) right.taken

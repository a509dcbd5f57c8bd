-- An application that ends with the baton, and maybe a record in hand, leaves a sound host once it is reaped: for the
-- answers for `CoreHost::kill`.
use Rattle.std.proofs.Common.{◌≡◌, ℕ, zero, suc, ◌+◌, ◌≤◌, ◌==◌, ◌||◌, cond, Bool, true, false, List, [], ◌∷◌, ◌++◌}
use Rattle.std.proofs.Common.{map}
use Rattle.std.proofs.Common.{refl, sym, ap, ◌∙◌, subst, arith, inl, inr}
use Rattle.std.proofs.lemmas.Bool.Decides.{nat_tests}
use Rattle.std.specs.Prelude.{Option, Some, None}
use Rattle.std.specs.List.{list_any}
use mathlib.Core.Option as O
use lib.ListN.{get_elem?}
use Rattle.tas_model.specs.declared.entry.FlowId.{FlowId}
use Rattle.flow_state.specs.Flow.{Flow}
use Rattle.flow_lock.specs.Answers.{IsTaken}
use Rattle.flow_lock.specs.Orders.{total, at_slot, known_of, same_flow}
use Rattle.flow_lock.specs.Passes.{Seen, with_baton, without_baton, both}
use Rattle.flow_lock.specs.Steps.{IsAlone, noted, added, taken, gave, counted}
use Rattle.flow_lock.specs.Words.{word_at}
use Rattle.flow_lock.specs.declared.view.Held.{Held}
use Rattle.flow_lock.specs.declared.view.History.{History}
use Rattle.flow_lock.specs.declared.view.Turn.{Turn}
use Rattle.flow_lock.specs.declared.view.View.{View}
use Rattle.flow_lock.specs.declared.word.Word.{Word}
use Rattle.app_reaper.specs.Holding.{IsEndedAlone, IsReapedWithBaton}
use Rattle.app_reaper.specs.Lists.{is_on}
use Rattle.app_reaper.specs.OneCall.{history, IsOwn, IsUse}
use Rattle.app_reaper.specs.Reaping.{ArePins, AreReaped, IsAtRest, IsHeld, IsReapedAlone, returned}
use Rattle.app_reaper.specs.declared.ended.Ended.{Ended}
use Rattle.libtas_sockets.specs.Apps.{Application, IsSocket, flow_of, flow_on, socket_on, with_view}
use Rattle.libtas_sockets.specs.Ending.{IsEnding, IsLeftHolding, IsLeftIdle, newest}
use Rattle.sound_calls.specs.Handing.{given_back, handed, handing, after_kill}
use Rattle.sound_calls.proofs.Alone.{handed_sound, led_alone, same_led}
use Rattle.sound_calls.proofs.Reaping.{killed_sound}
use Rattle.host_books.specs.Books.{Book, live_as, live_in}
use Rattle.host_books.proofs.Indexing.{is_same_flow}
use Rattle.slow_rounds.specs.Aborting.{given_up_by, left_alone}
use Rattle.slow_rounds.proofs.GivenUp.{given_up_made}
use Rattle.sound_hosts.specs.Hosts.{CoreHost, host_of}
use Rattle.sound_hosts.specs.Leading.{LedOn}
use Rattle.sound_hosts.specs.Moving.{IsLed, with_slow}
use Rattle.sound_hosts.specs.Sound.{IsHostSound, IsApp}
use Rattle.sound_hosts.proofs.OneFlow.{used_leads}
use Rattle.core_host.specs.Alone.{with_all_of}
use Rattle.core_host.specs.Kills.{IsEndedAndReaped}

-- ----- the newest socket
some_same : (f g : FlowId) → ◌≡◌ {A = Option FlowId} (Some f) (Some g) → f ≡ g
some_same f g e = cc e

none_not : (f : FlowId) → ◌≡◌ {A = Option FlowId} None (Some f) → ⊥
none_not f e = absurd (cc (e))

self : (n : ℕ) → (n == n) ≡ true
self n = grind (arith, nat_tests)

there : (fs : List FlowId) (id : FlowId) → newest fs ≡ Some id → 1 ≤ total (at_slot id.slot) fs
there [] id e = absurd (none_not id e)
there (f ∷ []) id e =
    let one : at_slot id.slot f ≡ 1 = ap (λ (g : FlowId). at_slot g.slot f) (sym (some_same f id e))
    ∙ ap (λ t. cond {A = ℕ} t 1 0) (self f.slot) in
    omega (arith, one)
there (f ∷ g ∷ fs) id e = let r = there (g ∷ fs) id e in omega (arith, r)

-- the socket on its slot is its own
pub newest_on : (fs : List FlowId) (id : FlowId) → newest fs ≡ Some id → total (at_slot id.slot) fs ≤ 1
    → (flow_on fs id.slot ≡ id) × (list_any (is_on id.slot) fs ≡ true)
newest_on [] id e once = absurd (none_not id e)
newest_on (f ∷ []) id e once =
    let same : f ≡ id = some_same f id e in
    let on : (f.slot == id.slot) ≡ true = ap (λ (g : FlowId). f.slot == g.slot) (sym same) ∙ self f.slot in (
      ap (λ t. cond t f (flow_on [] id.slot)) on ∙ same,
      ap (λ t. t || false) on,
    )
newest_on (f ∷ g ∷ fs) id e once = by (f.slot == id.slot) once (newest_on (g ∷ fs) id e)
  where
    more : 1 ≤ total (at_slot id.slot) (g ∷ fs)
    more = there (g ∷ fs) id e

    by : (t : Bool) → ◌≤◌ (cond {A = ℕ} t 1 0 + total (at_slot id.slot) (g ∷ fs)) 1
        → (total (at_slot id.slot) (g ∷ fs) ≤ 1
        → (flow_on (g ∷ fs) id.slot ≡ id) × (list_any (is_on id.slot) (g ∷ fs) ≡ true))
        → (cond t f (flow_on (g ∷ fs) id.slot) ≡ id) × ((t || list_any (is_on id.slot) (g ∷ fs)) ≡ true)
    by true few rest = absurd (let m = more in omega (arith, few, m))
    by false few rest = rest (let n : total (at_slot id.slot) (g ∷ fs) ≤ 1 = omega (arith, few) in n)

-- ----- what is left, when nothing is held
same_pins : (slots : ℕ) (v w : View) (fs : List FlowId) → w.pins ≡ v.pins → ArePins slots v fs → ArePins slots w fs
same_pins slots v w fs e are = record {
  has = λ k f at. (
    subst (λ ps. (j : ℕ) × (get_elem? ps j ≡ O.some f)) (sym e) (are.has k f at).0,
    (are.has k f at).1,
  );
  once = are.once;
  all = λ i. ap (total (at_slot i)) e ∙ are.all i;
}

module _ (h : CoreHost) (front : List Application) (a : Application) (back : List Application) (tick : ℕ)
    (sound : IsHostSound h) (apps : h.apps ≡ front ++ a ∷ back) (is_app : IsApp h.table h.books a)
    (plain : a.pass.view.slow ≡ false) (baton : a.pass.view.baton ≡ false) (ended : Ended) (n : Seen)
    (alone : IsEndedAlone h.table ended) (pins : ended.pins.list ≡ a.sockets)
    (reaped : IsReapedWithBaton tick ended ((handing h.slow).pass) n) where
  -- the host is sound without it, and its flows were given up
  abbrev IsGone : Type 0
  IsGone = IsHostSound (after_kill front a back n h)
      × (host_of (left_alone a n h) ≡ record (host_of h) { flows = map (given_up_by a.number tick) (host_of h).flows })

  -- ----- nothing was in hand
  idle_killed : IsLeftIdle (handed h.slow a) ended → IsGone
  idle_killed (held, busy, pass) = (
    killed_sound h front back a (record ended { pass = a.pass; held = None }) tick n sound apps rests refl pins refl
        reaps,
    given_up_made h front back a (record ended { pass = a.pass; held = None }) tick n sound apps rests pins refl reaps,
  )
    where
      rests : IsAtRest h.table (record ended { pass = a.pass; held = None })
      rests = record {
        own = is_app.own;
        plain = (plain, baton);
        quiet = is_app.turns;
        pins = same_pins h.table.slots ended.pass.view a.pass.view ended.pins.list
            (ap (λ (s : Seen). s.view.pins) (sym pass)) alone.pins;
        held = ap (λ (s : Seen). s.view.held) (sym pass)
            ∙ subst (λ o. IsHeld ended.pass.view ended.pins.list o) held alone.held;
      }

      reaps : IsReapedAlone tick (record ended { pass = a.pass; held = None }) h.slow.pass n
      reaps = (
        reaped.0,
        subst (λ (v : View). AreReaped tick ended.pins.list v reaped.0)
            (λ i. returned (held i) (pass i).view) reaped.1,
        reaped.2,
      )

  -- ----- a record was in hand, and is given back as it is
  module _ (id : FlowId) (last : newest a.sockets ≡ Some id) (r : Flow) (at : ℕ)
      (held : ended.held ≡ Some (at, r)) (own : IsOwn id (handed h.slow a).pass.view r)
      (took : IsTaken id (history r) (handed h.slow a).pass.view ended.pass.view) where
    abbrev u : View
    u = gave id (history r) ended.pass.view

    abbrev m : Application
    m = with_view (gave id (history r) ended.pass.view) (handed h.slow a)

    start : IsHostSound (given_back front (handed h.slow a) back (with_slow (handing h.slow) h))
    start = handed_sound h front back a sound apps

    begun_alone : IsAlone (handed h.slow a).pass.view
    begun_alone = (refl, is_app.turns, sound.alone.2)

    use_ : IsUse id r (history r) (handed h.slow a).pass.view (gave id (history r) ended.pass.view)
    use_ = (took.0, took.1, took.2, ap (gave id (history r)) took.3)

    led : IsLed id (history r) (handed h.slow a).pass.view (gave id (history r) ended.pass.view)
    led = used_leads id r (history r) (handed h.slow a).pass.view (gave id (history r) ended.pass.view) begun_alone use_

    on : (flow_on a.sockets id.slot ≡ id) × (list_any (is_on id.slot) a.sockets ≡ true)
    on = newest_on a.sockets id last
        (subst (λ fs. total (at_slot id.slot) fs ≤ 1) pins (alone.pins.once id.slot))

    later : IsHostSound (given_back front m back (with_slow (handing h.slow) h))
    later = led_alone (with_slow (handing h.slow) h) front (handed h.slow a) m back (socket_on id) id (history r) start
        begun_alone on.1 on.0
        (subst (λ (x : History). LedOn x (history r)) (own.known begun_alone) (same_led (history r))) led refl

    abbrev rest : Application
    rest = with_view (without_baton (gave id (history r) ended.pass.view)) a

    has_baton : (gave id (history r) ended.pass.view).baton ≡ true
    has_baton = alone.alone.0

    abbrev back_again : CoreHost
    back_again = given_back front m back (with_slow (handing h.slow) h)

    rests : IsAtRest h.table (record ended { pass = rest.pass; held = None })
    rests = record {
      own = is_app.own;
      plain = (alone.plain, refl);
      quiet = led.alone.1;
      pins = same_pins h.table.slots ended.pass.view (without_baton (gave id (history r) ended.pass.view))
          ended.pins.list refl alone.pins;
      held = refl;
    }

    reaps : IsReapedAlone tick (record ended { pass = rest.pass; held = None }) back_again.slow.pass n
    reaps = (
      reaped.0,
      subst (λ (v : View). AreReaped tick ended.pins.list v reaped.0)
          (ap (λ (o : Option (ℕ × Flow)). returned o ended.pass.view) held
          ∙ (ap (λ (f : FlowId). gave f (history r) ended.pass.view) own.own
          ∙ λ i. record (gave id (history r) ended.pass.view) { baton = has_baton i }))
          reaped.1,
      reaped.2,
    )

    -- what was known of each flow is known still
    same_known : (f : FlowId) → known_of f (gave id (history r) ended.pass.view).base ≡ known_of f h.slow.pass.view.base
    same_known f = ap (known_of f) led.base ∙ by (same_flow id f) refl
      where
        by : (t : Bool) → same_flow id f ≡ t
            → cond (same_flow id f) (history r) (known_of f h.slow.pass.view.base) ≡ known_of f h.slow.pass.view.base
        by true e =
            ap (λ t. cond t (history r) (known_of f h.slow.pass.view.base)) e
            ∙ (own.known begun_alone ∙ ap (λ g. known_of g h.slow.pass.view.base) (is_same_flow id f e))
        by false e = ap (λ t. cond t (history r) (known_of f h.slow.pass.view.base)) e

    same_flows : (bs : List Book) → map (live_in (gave id (history r) ended.pass.view).base) bs
        ≡ map (live_in h.slow.pass.view.base) bs
    same_flows [] = refl
    same_flows (b ∷ bs) = λ i. live_as b (same_known b.id i) ∷ same_flows bs i

    held_killed : IsGone
    held_killed = (
      killed_sound back_again front back rest (record ended { pass = rest.pass; held = None }) tick n later refl rests
          refl pins refl reaps,
      given_up_made back_again front back rest (record ended { pass = rest.pass; held = None }) tick n later refl rests
          pins refl reaps
          ∙ ap (λ fs. record (host_of h) { flows = map (given_up_by a.number tick) fs }) (same_flows h.books),
    )

  -- ----- either
  none_busy : (o : Option Word) (x : Word) → o ≡ None → o ≡ Some x → ⊥
  none_busy o x p q = absurd (cc (p, q))

  pub killed_with_baton : (holding : Bool) (last : Option FlowId) → newest a.sockets ≡ last
      → IsEnding holding last (handed h.slow a) ended → IsHostSound (after_kill front a back n h)
      × (host_of (left_alone a n h) ≡ record (host_of h) { flows = map (given_up_by a.number tick) (host_of h).flows })
  killed_with_baton true (Some id) is (inl (r, at, long, held, busy, own, took)) = held_killed id is r at held own took
  killed_with_baton true (Some id) is (inr (held, (x, busy, found))) =
      absurd (none_busy ended.busy x alone.found busy)
  killed_with_baton true None is left = idle_killed left
  killed_with_baton false (Some id) is left = idle_killed left
  killed_with_baton false None is left = idle_killed left

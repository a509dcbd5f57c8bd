-- A call of an application that has the baton: for the laws handed_over_keeps_it and calls_alone_keep_it.
use Rattle.std.proofs.Common.{◌≡◌, ℕ, Bool, true, false, cond, List, [], ◌∷◌, ◌++◌, refl, sym, ap, ◌∙◌}
use Rattle.std.proofs.Common.{subst}
use Rattle.std.proofs.Common.{slice_get, Some, inl}
use Rattle.std.specs.Prelude.{Option, None}
use Rattle.std.specs.List.{list_any}
use Rattle.tas_model.specs.declared.entry.Caller.TheVariants.{App}
use Rattle.tas_model.specs.declared.entry.FlowId.{FlowId}
use Rattle.tas_model.specs.declared.entry.Reply.{Reply}
use Rattle.flow_state.specs.declared.call.CallIn.{CallIn}
use Rattle.flow_state.specs.Calls.{call_of, offer_of}
use Rattle.flow_state.specs.Flow.{Flow}
use Rattle.host_rounds.specs.Lists.{Each}
use Rattle.flow_lock.specs.Orders.{known_of, pins_at, same_flow}
use Rattle.flow_lock.specs.Passes.{with_baton, without_baton}
use Rattle.flow_lock.specs.Steps.{IsAlone}
use Rattle.flow_lock.specs.declared.view.Held.{Held}
use Rattle.flow_lock.specs.declared.view.History.{History}
use Rattle.flow_lock.specs.declared.view.View.{View}
use Rattle.flow_clock.specs.Histories.{is_over, is_running}
use Rattle.app_reaper.specs.OneCall.{history, history_with, IsOwn, IsUse}
use Rattle.app_reaper.specs.declared.one_call.CallFault.{CallFault}
use Rattle.app_reaper.specs.declared.one_call.CallFault.TheVariants as faults
use Rattle.libtas_sockets.specs.Apps.{Application, IsSocket, flow_of, with_view}
use Rattle.libtas_sockets.specs.Calling.{IsCalled, HasCalled}
use Rattle.libtas_sockets.specs.declared.socket.Socket.{Socket}
use Rattle.host_books.specs.Books.{Book}
use Rattle.host_books.proofs.Indexing.{is_same_flow}
use Rattle.sound_hosts.specs.Hosts.{CoreHost, waiting_in}
use Rattle.sound_hosts.specs.Leading.{LedOn, Leads}
use Rattle.sound_hosts.specs.Leaving.{has_flow, HasLeft}
use Rattle.sound_hosts.specs.Moving.{IsLed, with_slow}
use Rattle.sound_hosts.specs.Sound.{IsHostSound, IsApp}
use Rattle.sound_hosts.proofs.Calls.{call_leads}
use Rattle.sound_hosts.proofs.Leaving.{AreRight, AreApart, apart_of, flow_had, same_right, socket_had}
use Rattle.sound_hosts.proofs.Moved.{IsMovedOn, Lifts, all_right, generation_in, moved_sound, not_had}
use Rattle.sound_hosts.proofs.OneFlow.{one_leads, used_leads, words_same}
use Rattle.sound_hosts.proofs.Reheld.{StaysWaiting, waiting_same}
use Rattle.sound_hosts.proofs.Standing.{every_at}
use Rattle.sound_hosts.proofs.Sweeping.{middle}
use Rattle.sound_calls.specs.Handing.{given_back, handed, handing, HasMade}

pub same_led : (h : History) → LedOn h h
same_led h = record { tuple = refl; over = λ o. o; running = λ r. inl r; none = λ n. n }

-- books that stay
pub no_lift : (bs : List Book) (P : List Book → Type 0) → Lifts bs bs P
no_lift bs P keeps p = p

-- ----- the baton is handed over
pub handed_sound : (h : CoreHost) (front back : List Application) (a : Application) → IsHostSound h
    → h.apps ≡ front ++ a ∷ back
    → IsHostSound (given_back front (handed h.slow a) back (with_slow (handing h.slow) h))
handed_sound h front back a sound apps =
    moved_sound h sound (record (h.slow.pass.view) { baton = true })
    (record {
      alone = (refl, sound.alone.1, sound.alone.2);
      slow = sound.slow_pass;
      marks = refl;
      pins = refl;
      idle = sound.sound.0.ready.2;
      wide = refl;
      leads = λ f. same_led (known_of f h.slow.pass.view.base);
    })
    h.slow.path (front ++ with_view (without_baton (with_baton a.pass.view h.slow.pass.view)) a ∷ back) h.books
    (no_lift h.books) refl sound.opening.flows
    (words_same h.slow.pass.view (record (h.slow.pass.view) { baton = true }) (λ slot. refl) h.books sound.table.words)
    (same_right h.table (generation_in h.slow.pass.view) (pins_at h.slow.pass.view.words) h.books front a
    (with_view (without_baton (with_baton a.pass.view h.slow.pass.view)) a) back
    (record {
      number = refl;
      own = refl;
      turns = (middle (IsApp h.table h.books) front a back
          (subst (Each (IsApp h.table h.books)) apps sound.apps)).turns;
      begun = refl;
      sockets = refl;
      had = tt;
    })
    (subst (AreRight h.table (generation_in h.slow.pass.view) (pins_at h.slow.pass.view.words) h.books) apps
    (all_right h sound))).taken

-- ----- one flow is led on
module _ (h : CoreHost) (front : List Application) (a b : Application) (back : List Application) (s : Socket)
    (id : FlowId) (k : History) (sound : IsHostSound (given_back front a back h)) (alone : IsAlone a.pass.view)
    (socket : IsSocket a s) (named : flow_of a s ≡ id) (led : LedOn (known_of id a.pass.view.base) k)
    (by_use : IsLed id k a.pass.view b.pass.view) (same : b ≡ with_view b.pass.view a) where
  abbrev u : View
  u = a.pass.view

  abbrev w : View
  w = with_baton h.slow.pass.view b.pass.view

  abbrev later : List Held
  later = record { flow = id; history = k } ∷ a.pass.view.base

  leads : Leads a.pass.view.base b.pass.view.base
  leads = subst (Leads a.pass.view.base) (sym by_use.base) (one_leads a.pass.view.base id k led)

  own : IsApp h.table h.books (with_view (without_baton a.pass.view) a)
  own = middle (IsApp h.table h.books) front (with_view (without_baton a.pass.view) a) back sound.apps

  had : list_any (has_flow a.number id) h.books ≡ true
  had = subst (λ f. list_any (has_flow a.number f) h.books ≡ true) named
      (flow_had h.table h.books (with_view (without_baton a.pass.view) a) (flow_of a s) own
      (socket_had s.0 a.sockets socket))

  apart : AreApart h.books
  apart = apart_of h.table.slots [] h.books sound.numbered

  waits_on : (n : ℕ) (c : Book) → slice_get h.books n ≡ Some c → StaysWaiting a.pass.view.base later c
  waits_on n c at waits = by (same_flow id c.id) refl
    where
      by : (t : Bool) → same_flow id c.id ≡ t
          → (is_over (known_of c.id later) ≡ is_over (known_of c.id a.pass.view.base))
          × (is_running (known_of c.id later) ≡ is_running (known_of c.id a.pass.view.base))
          × ((known_of c.id later).tuple ≡ (known_of c.id a.pass.view.base).tuple)
      by true e =
          absurd (not_had h.books apart n c at waits a.number
          (subst (λ f. list_any (has_flow a.number f) h.books ≡ true) (is_same_flow id c.id e) had))
      by false e =
          let q : known_of c.id later ≡ known_of c.id a.pass.view.base =
          ap (λ t. cond t k (known_of c.id a.pass.view.base)) e in
          (ap is_over q, ap is_running q, ap (λ (x : History). x.tuple) q)

  on : IsMovedOn (given_back front a back h) w
  on = record {
    alone = (refl, sound.alone.1, by_use.alone.2);
    slow = sound.slow_pass;
    marks = refl;
    pins = refl;
    idle = sound.sound.0.ready.2;
    wide = by_use.wide;
    leads = leads;
  }

  waits : h.slow.path.flows ≡ waiting_in b.pass.view.base h.books
  waits =
      sound.opening.flows
      ∙ (sym (waiting_same a.pass.view.base later h.books
      (every_at (StaysWaiting a.pass.view.base later) h.books waits_on))
      ∙ ap (λ (l : List Held). waiting_in l h.books) (sym by_use.base))

  left : HasLeft [] (with_view (without_baton a.pass.view) a) (with_view (without_baton b.pass.view) b)
  left = record {
    number = ap (λ (x : Application). x.number) same;
    own = ap (λ (x : Application). x.pass.table) same;
    turns = by_use.alone.1;
    begun = ap (λ (x : Application). x.begun) same;
    sockets = ap (λ (x : Application). x.sockets) same;
    had = tt;
  }

  pub led_alone : IsHostSound (given_back front b back h)
  led_alone =
      moved_sound (given_back front a back h) sound w on h.slow.path
      (front ++ with_view (without_baton b.pass.view) b ∷ back) h.books (no_lift h.books) refl waits
      (words_same (with_baton h.slow.pass.view a.pass.view) w by_use.words h.books sound.table.words)
      (same_right h.table (generation_in (with_baton h.slow.pass.view a.pass.view)) (pins_at a.pass.view.words) h.books
      front (with_view (without_baton a.pass.view) a) (with_view (without_baton b.pass.view) b) back left
      (all_right (given_back front a back h) sound)).taken

-- ----- a call
-- whatever it tells
pub made : (a b : Application) (s : Socket) (tick : ℕ) (call : CallIn) (fault : Option CallFault)
    (told : Reply → Type 0) → HasCalled a b s tick call fault told → HasMade a b s tick call fault
made a b s tick call fault told (called, same) = (by fault called, same)
  where
    by : (f : Option CallFault) → IsCalled (flow_of a s) (App a.number) tick call a.pass.view b.pass.view f told
        → IsCalled (flow_of a s) (App a.number) tick call a.pass.view b.pass.view f (λ (r : Reply). Unit {0})
    by None (reply, entry, tells) = (reply, entry, tt)
    by (Some x) refused = refused

pub call_alone : (h : CoreHost) (front back : List Application) (a b : Application) (s : Socket) (tick : ℕ)
    (call : CallIn) (fault : Option CallFault) → IsHostSound (given_back front a back h) → IsAlone a.pass.view
    → IsSocket a s → HasMade a b s tick call fault → IsHostSound (given_back front b back h) × IsAlone b.pass.view
call_alone h front back a b s tick call fault sound alone socket (called, same) = by fault called
  where
    used : (r : Flow) (k : History) → IsOwn (flow_of a s) a.pass.view r
        → IsUse (flow_of a s) r k a.pass.view b.pass.view
        → LedOn (history r) k → IsHostSound (given_back front b back h) × IsAlone b.pass.view
    used r k own given led =
        let by_use : IsLed (flow_of a s) k a.pass.view b.pass.view =
        used_leads (flow_of a s) r k a.pass.view b.pass.view alone given in (
          led_alone h front a b back s (flow_of a s) k sound alone socket refl
              (subst (λ (x : History). LedOn x k) (own.known alone) led) by_use same,
          by_use.alone,
        )

    by : (f : Option CallFault)
        → IsCalled (flow_of a s) (App a.number) tick call a.pass.view b.pass.view f (λ (r : Reply). Unit {0})
        → IsHostSound (given_back front b back h) × IsAlone b.pass.view
    by None (reply, entry, tells) =
        used entry.flow (history_with entry.flow (App a.number) tick call) entry.own entry.given
        (call_leads (history entry.flow) (App a.number) tick (call_of call) (offer_of call) entry.own.legal)
    by (Some (faults.Busy x)) refused = absurd (refused.1 alone)
    by (Some faults.OutOfMemory) (r, own, given) = used r (history r) own given (same_led (history r))

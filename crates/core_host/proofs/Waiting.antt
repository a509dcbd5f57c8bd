-- The flows that wait at an application's listeners are aborted, one after the other: for the answers for
-- `CoreHost::kill`.
use Rattle.std.proofs.Common.{◌≡◌, ℕ, zero, suc, ◌+◌, ◌<◌, ◌≤◌, ◌==◌, ◌&&◌, ◌||◌, not, cond, Bool, true, false}
use Rattle.std.proofs.Common.{true≢false}
use Rattle.std.proofs.Common.{List, [], ◌∷◌, map, length, refl, sym, ap, ◌∙◌, subst, arith, inl, inr}
use Rattle.std.proofs.lemmas.Bool.Decides.{nat_tests}
use Rattle.std.specs.Prelude.{Option, Some, None, position, slice_get, is_some}
use Rattle.std.specs.List.{list_any, filter}
use Rattle.std.specs.Option.{option_map}
use Rattle.atomic_table.specs.Seated.{TableId}
use Rattle.tas_model.specs.declared.entry.Call.TheVariants as calls
use Rattle.tas_model.specs.declared.entry.Caller.TheVariants.{Slow}
use Rattle.tas_model.specs.declared.entry.FlowId.{FlowId}
use Rattle.tas_model.specs.declared.entry.Reason.{Reason}
use Rattle.tas_model.specs.declared.entry.Reply.{Reply}
use Rattle.tas_model.specs.ApplicationCalls.{Column, Opening, Over, Running, column, column_by, abort_in}
use Rattle.tas_model.specs.Endpoint.{Endpoint, is_closed}
use Rattle.tas_model.specs.LegalHistory.{Legal, step, state_or, replay, extended_by}
use Rattle.tas_model.proofs.Histories.{replay_push}
use Rattle.flow_state.specs.Calls.{call_of, offer_of}
use Rattle.flow_state.specs.declared.call.CallIn.TheVariants as ins
use Rattle.flow_state.specs.Flow.{Flow}
use Rattle.flow_clock.specs.Histories.{endpoint_of, is_over}
use Rattle.app_reaper.specs.Lists.{is_on}
use Rattle.flow_lock.specs.Orders.{at_slot, known_of, same_flow, total}
use Rattle.flow_lock.specs.declared.view.Held.{Held}
use Rattle.flow_lock.specs.declared.view.History.{History}
use Rattle.flow_lock.specs.declared.view.View.{View}
use Rattle.app_reaper.specs.OneCall.{history, history_with}
use Rattle.app_reaper.specs.Reaping.{IsAborted}
use Rattle.slow_handshake.specs.Openings.{Openings, has_port, is_owned_by, is_named, waits_for, waiting_for}
use Rattle.slow_handshake.specs.Openings as openings
use Rattle.slow_handshake.specs.declared.openings.Listener.{Listener}
use Rattle.slow_handshake.specs.declared.openings.PassiveFlow.{PassiveFlow}
use Rattle.slow_worker.specs.Workers.{Worker}
use Rattle.host_books.specs.Books.{Book, live_in, IsAt}
use Rattle.host_books.specs.Indexes.{IsFindable}
use Rattle.host_rounds.specs.Hosts as hosts
use Rattle.host_rounds.specs.Hosts.{Live, is_waiting_by, with_call}
use Rattle.host_rounds.specs.Lists.{Each, change_at}
use Rattle.sound_calls.proofs.Alone.{no_lift}
use Rattle.sound_hosts.specs.Hosts.{CoreHost, id_of, is_indexed, known_in, host_of, passive_flow, waiting_in, waits}
use Rattle.sound_hosts.specs.Leading.{LedOn, Leads}
use Rattle.sound_hosts.specs.Moving.{IsLed, with_slow}
use Rattle.sound_hosts.specs.Sound.{IsHostSound}
use Rattle.sound_hosts.proofs.Calls.{call_leads}
use Rattle.sound_hosts.proofs.Leaving.{apart_of}
use Rattle.sound_hosts.proofs.Moved.{all_right, moved_sound}
use Rattle.sound_hosts.proofs.OneFlow.{one_leads, used_leads, words_same}
use Rattle.sound_hosts.proofs.OpenSockets.{and_both, each_at, not_true}
use Rattle.slow_rounds.proofs.Slots.{position_here, position_past}
use Rattle.sound_hosts.proofs.Told.{left_waiting}
use Rattle.slow_rounds.proofs.Moves.{flows_moved}
use Rattle.flow_clock.specs.Ledgers.{IsKept}
use Rattle.flow_lock.specs.Claims.{HasPin}
use Rattle.core_host.specs.Kills.{HasAbortedWaiting, waits_for_it, aborted_if}
use Rattle.core_host.proofs.Sockets.{is_at}

-- ----- an Abort closes
column_over : (o : Option Reason) (peer : Option ℕ) (una : ℕ) (why : Reason) → column_by o peer una ≡ Over why
    → is_some o ≡ true
column_over (Some reason) peer una why h = refl
column_over None None una why h = absurd (cc (h))
column_over None (Some first) una why h = absurd (by_una (una == 0) h)
  where
    by_una : (b : Bool) → cond b Opening Running ≡ Over why → ⊥
    by_una true g = absurd (cc (g))
    by_una false g = absurd (cc (g))

abort_closes : (e : Endpoint) (t : ℕ) (reply : Reply) → is_closed (state_or e (step e t calls.Abort reply)) ≡ true
unfolding step
abort_closes e t reply = by_column (column e) refl
  where
    by_column : (c : Column) → column e ≡ c → is_closed (abort_in c e).state ≡ true
    by_column Opening h = refl
    by_column Running h = refl
    by_column (Over why) h = column_over e.reason e.peer e.tx.una why h

aborted_over : (r : Flow) (tick : ℕ) → Legal r.params r.entries → is_over (history_with r Slow tick ins.Abort) ≡ true
aborted_over r tick legal =
    ap is_closed (replay_push r.params r.entries _ legal) ∙ abort_closes (replay r.params r.entries) _ _

-- ----- lists
none_is : (f : FlowId) → ◌≡◌ {A = Option FlowId} None (Some f) → ⊥
none_is f e = absurd (cc (e))

some_same : (f g : FlowId) → ◌≡◌ {A = Option FlowId} (Some f) (Some g) → f ≡ g
some_same f g e = cc (e)

-- a flow that waits at a listener of the application, with its book
record IsFirstWaiting (listeners : List Listener) (app : ℕ) (known : List Held) (bs : List Book) (id : FlowId)
    : Type 0 where
  place : ℕ
  book : Book
  there : slice_get bs place ≡ Some book
  name : book.id ≡ id
  waiting : waits known book ≡ true
  listened : waits_for listeners app (passive_flow known book) ≡ true

module _ (listeners : List Listener) (app : ℕ) (known : List Held) where
  abbrev found : List Book → List FlowId
  found bs = map openings.id_of (filter (waits_for listeners app) (waiting_in known bs))

  later : (b : Book) (bs : List Book) (id : FlowId) → IsFirstWaiting listeners app known bs id
      → IsFirstWaiting listeners app known (b ∷ bs) id
  later b bs id w = record {
    place = suc w.place;
    book = w.book;
    there = w.there;
    name = w.name;
    waiting = w.waiting;
    listened = w.listened;
  }

  first_waiting : (bs : List Book) (id : FlowId) → slice_get (found bs) 0 ≡ Some id
      → IsFirstWaiting listeners app known bs id
  first_waiting [] id e = absurd (none_is id e)
  first_waiting (b ∷ bs) id e =
      by (waits known b) refl (waits_for listeners app (passive_flow known b)) refl e (first_waiting bs id)
    where
      by : (w : Bool) → waits known b ≡ w → (l : Bool) → waits_for listeners app (passive_flow known b) ≡ l
          → slice_get (map openings.id_of (filter (waits_for listeners app)
          (cond w (passive_flow known b ∷ waiting_in known bs) (waiting_in known bs)))) 0 ≡ Some id
          → (slice_get (found bs) 0 ≡ Some id → IsFirstWaiting listeners app known bs id)
          → IsFirstWaiting listeners app known (b ∷ bs) id
      by false w l q e rest = later b bs id (rest e)
      by true w false q e rest =
          later b bs id (rest
          (ap (λ t. slice_get (map openings.id_of (cond t
          (passive_flow known b ∷ filter (waits_for listeners app) (waiting_in known bs))
          (filter (waits_for listeners app) (waiting_in known bs)))) 0) (sym q) ∙ e))
      by true w true q e rest =
          record {
            place = 0;
            book = b;
            there = refl;
            name = some_same b.id id
                (ap (λ t. slice_get (map openings.id_of (cond t
                (passive_flow known b ∷ filter (waits_for listeners app) (waiting_in known bs))
                (filter (waits_for listeners app) (waiting_in known bs)))) 0) (sym q) ∙ e);
            waiting = w;
            listened = q;
          }

  none_waiting : (bs : List Book) → slice_get (found bs) 0 ≡ None
      → Each (λ (b : Book). (waits known b && waits_for listeners app (passive_flow known b)) ≡ false) bs
  none_waiting [] e = tt
  none_waiting (b ∷ bs) e =
      by (waits known b) refl (waits_for listeners app (passive_flow known b)) refl e (none_waiting bs)
    where
      some_not : (f : FlowId) → ◌≡◌ {A = Option FlowId} (Some f) None → ⊥
      some_not f q = absurd (cc (q))

      by : (w : Bool) → waits known b ≡ w → (l : Bool) → waits_for listeners app (passive_flow known b) ≡ l
          → slice_get (map openings.id_of (filter (waits_for listeners app)
          (cond w (passive_flow known b ∷ waiting_in known bs) (waiting_in known bs)))) 0 ≡ None
          → (slice_get (found bs) 0 ≡ None
          → Each (λ (c : Book). (waits known c && waits_for listeners app (passive_flow known c)) ≡ false) bs)
          → Each (λ (c : Book). (waits known c && waits_for listeners app (passive_flow known c)) ≡ false) (b ∷ bs)
      by false w l q e rest = ((λ i. w i && waits_for listeners app (passive_flow known b)), rest e)
      by true w false q e rest = (
        (λ i. w i && q i),
        rest (ap (λ t. slice_get (map openings.id_of (cond t
            (passive_flow known b ∷ filter (waits_for listeners app) (waiting_in known bs))
            (filter (waits_for listeners app) (waiting_in known bs)))) 0) (sym q) ∙ e),
      )
      by true w true q e rest =
          absurd (some_not b.id (ap (λ t. slice_get (map openings.id_of (cond t
          (passive_flow known b ∷ filter (waits_for listeners app) (waiting_in known bs))
          (filter (waits_for listeners app) (waiting_in known bs)))) 0) (sym q) ∙ e))

-- one that is changed comes to the same
change_same : {X Y : Type 0} (g : X → Y) (f : X → X) (n : ℕ) (xs : List X) (x : X) → slice_get xs n ≡ Some x
    → g (f x) ≡ g x → map g (change_at n f xs) ≡ map g xs
change_same {X} {Y} g f n [] x at e = refl
change_same {X} {Y} g f zero (y ∷ ys) x at e = ap (λ z. z ∷ map g ys) (subst (λ z. g (f z) ≡ g z) (sym (same y x at)) e)
  where
    same : (a b : X) → ◌≡◌ {A = Option X} (Some a) (Some b) → a ≡ b
    same a b q = cc (q)
change_same {X} {Y} g f (suc n) (y ∷ ys) x at e = ap (λ l. g y ∷ l) (change_same g f n ys x at e)

live_there : (known : List Held) (bs : List Book) (n : ℕ) (b : Book) → slice_get bs n ≡ Some b
    → slice_get (map (live_in known) bs) n ≡ Some (live_in known b)
live_there known [] n b e = absurd (cc (e))
live_there known (c ∷ cs) zero b e = ap (λ (o : Option Book). option_map (live_in known) o) e
live_there known (c ∷ cs) (suc n) b e = live_there known cs n b e

-- ----- one is aborted
module _ (h : CoreHost) (app tick : ℕ) (sound : IsHostSound h) (id : FlowId)
    (first : slice_get (waiting_for h.slow.path app) 0 ≡ Some id) (u : View)
    (aborted : IsAborted tick id h.slow.pass.view u) where
  abbrev r : Flow
  r = aborted.0

  abbrev k : History
  k = history_with aborted.0 Slow tick ins.Abort

  led : IsLed id (history_with aborted.0 Slow tick ins.Abort) h.slow.pass.view u
  led = used_leads id aborted.0 (history_with aborted.0 Slow tick ins.Abort) h.slow.pass.view u sound.alone aborted.2

  over : is_over (history_with aborted.0 Slow tick ins.Abort) ≡ true
  over = aborted_over aborted.0 tick aborted.1.legal

  it : IsFirstWaiting h.slow.path.listeners app (known_in h) h.books id
  it = first_waiting h.slow.path.listeners app (known_in h) h.books id
      (ap (λ fs. slice_get (map openings.id_of (filter (waits_for h.slow.path.listeners app) fs)) 0)
      (sym sound.opening.flows) ∙ first)

  is_place : IsAt it.place id h.books
  is_place = subst (λ f. IsAt it.place f h.books) it.name
      (is_at h.books it.place it.book (apart_of h.table.slots [] h.books sound.numbered) it.there)

  abbrev pub next_slow : Worker
  next_slow = record (h.slow) {
    pass = record (h.slow.pass) { view = u };
    path = record (h.slow.path) { flows = filter (λ f. not (is_named id f)) h.slow.path.flows };
  }

  leads : Leads h.slow.pass.view.base u.base
  leads = subst (Leads h.slow.pass.view.base) (sym led.base)
      (one_leads h.slow.pass.view.base id (history_with aborted.0 Slow tick ins.Abort)
      (subst (λ (x : History). LedOn x (history_with aborted.0 Slow tick ins.Abort)) (aborted.1.known sound.alone)
      (call_leads (history aborted.0) Slow tick (call_of ins.Abort) (offer_of ins.Abort) aborted.1.legal)))

  pub one_sound : IsHostSound (with_slow next_slow h)
  one_sound =
      moved_sound h sound u
      (record {
        alone = led.alone;
        slow = led.slow ∙ sound.slow_pass;
        marks = led.marks;
        pins = led.pins;
        idle = led.idle;
        wide = led.wide;
        leads = leads;
      })
      next_slow.path h.apps h.books (no_lift h.books) refl
      (ap (filter (λ f. not (is_named id f))) sound.opening.flows
      ∙ (sym (left_waiting (known_in h) id (history_with aborted.0 Slow tick ins.Abort) over h.books)
      ∙ ap (λ (l : List Held). waiting_in l h.books) (sym led.base)))
      (words_same h.slow.pass.view u led.words h.books sound.table.words) (all_right h sound).taken

  abbrev l : Live
  l = live_in (known_in h) it.book

  closed : hosts.is_over (with_call (live_in (known_in h) it.book) Slow tick calls.Abort []) ≡ true
  closed = ap (λ (x : History). is_closed (replay x.params
      (extended_by x.params x.entries Slow tick calls.Abort [])))
      (ap (λ f. known_of f (known_in h)) it.name ∙ sym (aborted.1.known sound.alone)) ∙ over

  test_now : waits_for_it app h.slow.path.listeners (live_in (known_in h) it.book) ≡ true
  test_now = (λ i. it.waiting i && it.listened i)

  test_then : waits_for_it app h.slow.path.listeners (with_call (live_in (known_in h) it.book) Slow tick calls.Abort [])
      ≡ false
  test_then =
      ap (λ o. (is_waiting_by it.book.holder && not o)
      && waits_for h.slow.path.listeners app (passive_flow (known_in h) it.book)) closed
      ∙ ap (λ o. o && waits_for h.slow.path.listeners app (passive_flow (known_in h) it.book))
      (and_false (is_waiting_by it.book.holder))
    where
      and_false : (x : Bool) → (x && false) ≡ false
      and_false true = refl
      and_false false = refl

  -- what is left to do leads to the same end
  pub one_done : map (aborted_if app tick h.slow.path.listeners) (host_of (with_slow next_slow h)).flows
      ≡ map (aborted_if app tick h.slow.path.listeners) (host_of h).flows
  one_done =
      ap (map (aborted_if app tick h.slow.path.listeners))
      (flows_moved it.place id Slow tick ins.Abort h.slow.pass.view u aborted.0 h.books sound.alone is_place aborted.1
      aborted.2)
      ∙ change_same (aborted_if app tick h.slow.path.listeners)
      (λ (x : Live). with_call x Slow tick calls.Abort []) it.place (host_of h).flows (live_in (known_in h) it.book)
      (live_there (known_in h) h.books it.place it.book it.there)
      (ap (λ t. cond t (with_call (with_call l Slow tick calls.Abort []) Slow tick calls.Abort [])
      (with_call l Slow tick calls.Abort [])) test_then
      ∙ ap (λ t. cond t (with_call l Slow tick calls.Abort []) l) (sym test_now))

-- ----- none is left
pub none_left : (h : CoreHost) (app tick : ℕ) → IsHostSound h → slice_get (waiting_for h.slow.path app) 0 ≡ None
    → map (aborted_if app tick h.slow.path.listeners) (host_of h).flows ≡ (host_of h).flows
none_left h app tick sound none =
    each_same h.books (none_waiting h.slow.path.listeners app (known_in h) h.books
    (ap (λ fs. slice_get (map openings.id_of (filter (waits_for h.slow.path.listeners app) fs)) 0)
    (sym sound.opening.flows) ∙ none))
  where
    each_same : (bs : List Book) → Each (λ (b : Book). (waits (known_in h) b
        && waits_for h.slow.path.listeners app (passive_flow (known_in h) b)) ≡ false) bs
        → map (aborted_if app tick h.slow.path.listeners) (map (live_in (known_in h)) bs) ≡ map (live_in (known_in h))
        bs
    each_same [] each = refl
    each_same (b ∷ bs) each =
        λ i. cond (each.0 i) (with_call (live_in (known_in h) b) Slow tick calls.Abort []) (live_in (known_in h) b)
        ∷ each_same bs each.1 i

-- ----- while some still wait
-- so far: the host is sound with the worker as it is now, of which little changed, and what is left to do leads to the
-- same end
pub record IsPart (app tick : ℕ) (h : CoreHost) (w : Worker) : Type 0 where
  pub sound : IsHostSound (with_slow w h)
  pub rest : w ≡ record (h.slow) { pass = w.pass; path = record (h.slow.path) { flows = w.path.flows } }
  pub opened : w.pass.view.opened ≡ h.slow.pass.view.opened
  pub done : map (aborted_if app tick h.slow.path.listeners) (host_of (with_slow w h)).flows
      ≡ map (aborted_if app tick h.slow.path.listeners) (host_of h).flows

pub start_part : (app tick : ℕ) (h : CoreHost) → IsHostSound h → IsPart app tick h h.slow
start_part app tick h sound = record { sound = sound; rest = refl; opened = refl; done = refl }

pub end_part : (app tick : ℕ) (h : CoreHost) (w : Worker) → IsPart app tick h w
    → slice_get (waiting_for w.path app) 0 ≡ None → HasAbortedWaiting app tick h w
end_part app tick h w part none = record {
  sound = part.sound;
  rest = part.rest;
  opened = part.opened;
  made =
      sym (none_left (with_slow w h) app tick part.sound none)
      ∙ (ap (λ (y : Worker). map (aborted_if app tick y.path.listeners) (host_of (with_slow w h)).flows) part.rest
      ∙ part.done);
}

pub next_part : (app tick : ℕ) (h : CoreHost) (w x : Worker) (id : FlowId) → IsPart app tick h w
    → slice_get (waiting_for w.path app) 0 ≡ Some id → IsAborted tick id w.pass.view x.pass.view
    → x.pass.table ≡ w.pass.table
    → x ≡ record w {
      pass = x.pass;
      path = record (w.path) { flows = filter (λ f. not (is_named id f)) w.path.flows };
    }
    → IsPart app tick h x
next_part app tick h w x id part first aborted table is = record {
  sound = subst (λ (y : Worker). IsHostSound (with_slow y h)) (sym same)
      (one_sound (with_slow w h) app tick part.sound id first x.pass.view aborted);
  rest = is ∙ ap (λ (y : Worker). record y {
    pass = x.pass;
    path = record (y.path) { flows = filter (λ f. not (is_named id f)) w.path.flows };
  }) part.rest ∙ ap (λ (y : Worker). record (h.slow) {
    pass = x.pass;
    path = record (h.slow.path) { flows = y.path.flows };
  }) (sym is);
  opened = ap (λ (y : View). y.opened) aborted.2.3 ∙ part.opened;
  done =
      ap (λ (y : Worker). map (aborted_if app tick h.slow.path.listeners) (host_of (with_slow y h)).flows) same
      ∙ (subst (λ ls. map (aborted_if app tick ls) (host_of (with_slow next h)).flows
      ≡ map (aborted_if app tick ls) (host_of (with_slow w h)).flows)
      (ap (λ (y : Worker). y.path.listeners) part.rest)
      (one_done (with_slow w h) app tick part.sound id first x.pass.view aborted)
      ∙ part.done);
}
  where
    next : Worker
    next = next_slow (with_slow w h) app tick part.sound id first x.pass.view aborted

    same : x ≡ record w {
      pass = record (w.pass) { view = x.pass.view };
      path = record (w.path) { flows = filter (λ f. not (is_named id f)) w.path.flows };
    }
    same = is ∙ λ i. record w {
      pass = record { table = table i; view = x.pass.view };
      path = record (w.path) { flows = filter (λ f. not (is_named id f)) w.path.flows };
    }

-- ----- the slow path's pin of a flow that waits
self : (n : ℕ) → (n == n) ≡ true
self n = grind (arith, nat_tests)

counts : (fs : List FlowId) (k : ℕ) (id : FlowId) → slice_get fs k ≡ Some id → 1 ≤ total (at_slot id.slot) fs
counts [] k id e = absurd (none_is id e)
counts (f ∷ fs) zero id e =
    let one : at_slot id.slot f ≡ 1 =
    ap (λ (g : FlowId). at_slot g.slot f) (sym (some_same f id e)) ∙ ap (λ t. cond {A = ℕ} t 1 0) (self f.slot) in
    omega (arith, one)
counts (f ∷ fs) (suc k) id e = let r = counts fs k id e in omega (arith, r)

-- of pins of which one at most is on a slot, the one there is the first
pin_first : (fs : List FlowId) (k : ℕ) (id : FlowId) → slice_get fs k ≡ Some id → total (at_slot id.slot) fs ≤ 1
    → position (is_on id.slot) fs ≡ Some k
pin_first [] k id e once = absurd (none_is id e)
pin_first (f ∷ fs) zero id e once =
    position_here (is_on id.slot) f fs (ap (λ (g : FlowId). f.slot == g.slot) (sym (some_same f id e)) ∙ self f.slot)
pin_first (f ∷ fs) (suc k) id e once = by (f.slot == id.slot) refl once (λ n. pin_first fs k id e n)
  where
    more : 1 ≤ total (at_slot id.slot) fs
    more = counts fs k id e

    by : (t : Bool) → (f.slot == id.slot) ≡ t → ◌≤◌ (cond {A = ℕ} t 1 0 + total (at_slot id.slot) fs) 1
        → (total (at_slot id.slot) fs ≤ 1 → position (is_on id.slot) fs ≡ Some k)
        → position (is_on id.slot) (f ∷ fs) ≡ Some (suc k)
    by true q few rest = absurd (let m = more in omega (arith, few, m))
    by false q few rest =
        position_past (is_on id.slot) f fs q
        ∙ (ap (option_map (λ i. 1 + i)) (rest (let n : total (at_slot id.slot) fs ≤ 1 = omega (arith, few) in n))
        ∙ ap (λ i. Some i) (let one : 1 + k ≡ suc k = omega arith in one))

-- each book of the index has its place among them
indexed_at : (bs : List Book) (n : ℕ) (b : Book) → slice_get bs n ≡ Some b → b.indexed ≡ true
    → (k : ℕ) × (slice_get (map id_of (filter is_indexed bs)) k ≡ Some b.id)
indexed_at [] n b e i = absurd (cc (e))
indexed_at (c ∷ cs) zero b e i = (
  0,
  ap (λ t. slice_get (map id_of (cond t (c ∷ filter is_indexed cs) (filter is_indexed cs))) 0)
      (ap is_indexed (same c b e) ∙ i) ∙ ap (λ (d : Book). Some d.id) (same c b e),
)
  where
    same : (x y : Book) → ◌≡◌ {A = Option Book} (Some x) (Some y) → x ≡ y
    same x y q = cc (q)
indexed_at (c ∷ cs) (suc n) b e i = by c.indexed (indexed_at cs n b e i)
  where
    by : (t : Bool) → (k : ℕ) × (slice_get (map id_of (filter is_indexed cs)) k ≡ Some b.id)
        → (k : ℕ) × (slice_get (map id_of (cond t (c ∷ filter is_indexed cs) (filter is_indexed cs))) k ≡ Some b.id)
    by true (k, at) = (suc k, at)
    by false (k, at) = (k, at)

-- so it is the slow path's
pub record HasItsPin (h : CoreHost) (id : FlowId) : Type 0 where
  pub place : ℕ
  pub first : position (is_on id.slot) h.slow.pins ≡ Some place
  pub at : slice_get h.slow.pins place ≡ Some id
  pub pin : HasPin h.slow.pass.view id
  pub low : id.slot < h.table.slots

pub its_pin : (h : CoreHost) → IsHostSound h → (app : ℕ) (id : FlowId)
    → slice_get (waiting_for h.slow.path app) 0 ≡ Some id → HasItsPin h id
its_pin h sound app id first = by (indexed_at h.books it.place it.book it.there indexed)
  where
    it : IsFirstWaiting h.slow.path.listeners app (known_in h) h.books id
    it = first_waiting h.slow.path.listeners app (known_in h) h.books id
        (ap (λ fs. slice_get (map openings.id_of (filter (waits_for h.slow.path.listeners app) fs)) 0)
        (sym sound.opening.flows) ∙ first)

    open_ : is_over (known_of it.book.id (known_in h)) ≡ false
    open_ = not_true (is_over (known_of it.book.id (known_in h)))
        (and_both (is_waiting_by it.book.holder) (not (is_over (known_of it.book.id (known_in h)))) it.waiting).1

    indexed : it.book.indexed ≡ true
    indexed = is_so it.book.indexed refl
      where
        is_so : (i : Bool) → it.book.indexed ≡ i → it.book.indexed ≡ true
        is_so true e = e
        is_so false e =
            absurd (true≢false (sym (each_at (IsFindable (known_in h)) h.books it.place it.book sound.indexed.running
            it.there e) ∙ open_))

    by : (k : ℕ) × (slice_get (map id_of (filter is_indexed h.books)) k ≡ Some it.book.id) → HasItsPin h id
    by (place, there) =
        let at : slice_get h.slow.pins place ≡ Some id =
        ap (λ fs. slice_get fs place) sound.kept.pins ∙ (there ∙ ap (λ f. Some f) it.name) in
        let once : total (at_slot id.slot) h.slow.doomed + total (at_slot id.slot) h.slow.pins ≤ 1 =
        sound.sound.0.owned.once id.slot in
        let few : total (at_slot id.slot) h.slow.pins ≤ 1 = omega (arith, once) in
        let own = each_at (IsKept h.table.slots h.slow.pass) h.slow.pins place id sound.sound.0.owned.each_pin at in
        record {
          place = place;
          first = pin_first h.slow.pins place id at few;
          at = at;
          pin = own.0.0;
          low = own.1;
        }

-- ----- the loop
-- So it is with a host of this worker, and with each.
pub record IsWalking (app tick : ℕ) (table : TableId) (start now : Worker) : Type 0 where
  pub some : (h : CoreHost) × (h.table ≡ table) × (h.slow ≡ start) × IsPart app tick h now
  pub all : (h : CoreHost) → h.table ≡ table → h.slow ≡ start → IsHostSound h → IsPart app tick h now

pub walk_starts : (app tick : ℕ) (table : TableId) (start : Worker)
    → (h : CoreHost) × (h.table ≡ table) × (h.slow ≡ start) × IsHostSound h → IsWalking app tick table start start
walk_starts app tick table start (h, on, slow, sound) = record {
  some = (h, on, slow, subst (IsPart app tick h) slow (start_part app tick h sound));
  all = λ g of slow sound. subst (IsPart app tick g) slow (start_part app tick g sound);
}

pub walk_goes : (app tick : ℕ) (table : TableId) (start w x : Worker) (id : FlowId) → IsWalking app tick table start w
    → slice_get (waiting_for w.path app) 0 ≡ Some id → IsAborted tick id w.pass.view x.pass.view
    → x.pass.table ≡ w.pass.table
    → x ≡ record w {
      pass = x.pass;
      path = record (w.path) { flows = filter (λ f. not (is_named id f)) w.path.flows };
    }
    → IsWalking app tick table start x
walk_goes app tick table start w x id walking first aborted same is = record {
  some = (
    walking.some.0,
    walking.some.1,
    walking.some.2,
    next_part app tick walking.some.0 w x id walking.some.3 first aborted same is,
  );
  all = λ h of slow sound. next_part app tick h w x id (walking.all h of slow sound) first aborted same is;
}

-- each time one flow less waits
less_filter : {X : Type 0} (p : X → Bool) (xs : List X) → length (filter p xs) ≤ length xs
less_filter p [] = omega arith
less_filter p (x ∷ xs) = by (p x) (less_filter p xs)
  where
    by : (t : Bool) → length (filter p xs) ≤ length xs → length (cond t (x ∷ filter p xs) (filter p xs)) ≤ suc (length
        xs)
    by true le = omega (arith, le)
    by false le = omega (arith, le)

pub fewer_wait : (ls : List Listener) (app : ℕ) (fs : List PassiveFlow) (id : FlowId)
    → slice_get (map openings.id_of (filter (waits_for ls app) fs)) 0 ≡ Some id
    → length (filter (λ f. not (is_named id f)) fs) < length fs
fewer_wait ls app [] id e = absurd (none_is id e)
fewer_wait ls app (f ∷ fs) id e = by (waits_for ls app f) e (λ q. fewer_wait ls app fs id q)
  where
    gone : f.id ≡ id → (not (is_named id f)) ≡ false
    gone q = ap (λ (g : FlowId). not (g.slot == id.slot && g.generation == id.generation)) q
        ∙ λ i. not (self id.slot i && self id.generation i)

    later_less : (t : Bool) → length (filter (λ x. not (is_named id x)) fs) < length fs
        → length (cond t (f ∷ filter (λ x. not (is_named id x)) fs) (filter (λ x. not (is_named id x)) fs))
        < suc (length fs)
    later_less true lt = omega (arith, lt)
    later_less false lt = omega (arith, lt)

    by : (t : Bool)
        → slice_get (map openings.id_of (cond t (f ∷ filter (waits_for ls app) fs) (filter (waits_for ls app) fs))) 0
        ≡ Some id
        → (slice_get (map openings.id_of (filter (waits_for ls app) fs)) 0 ≡ Some id
        → length (filter (λ x. not (is_named id x)) fs) < length fs)
        → length (filter (λ x. not (is_named id x)) (f ∷ fs)) < length (f ∷ fs)
    by true q rest =
        let le : length (filter (λ x. not (is_named id x)) fs) ≤ length fs =
        less_filter (λ x. not (is_named id x)) fs in
        let e : length (filter (λ x. not (is_named id x)) (f ∷ fs)) ≡ length (filter (λ x. not (is_named id x)) fs) =
        ap (λ c. length (cond c (f ∷ filter (λ x. not (is_named id x)) fs) (filter (λ x. not (is_named id x)) fs)))
        (gone (some_same f.id id q)) in
        omega (arith, le, e)
    by false q rest = later_less (not (is_named id f)) (rest q)

-- What applications ask of a host alone, as moves of the host: for the answers for the calls of one.
use Rattle.std.proofs.Common.{◌≡◌, ℕ, zero, suc, Bool, true, false, List, [], ◌∷◌, ◌++◌, map, set, length, refl, sym}
use Rattle.std.proofs.Common.{ap, ◌∙◌}
use Rattle.std.proofs.Common.{subst, ◌<◌, arith, get_or}
use Rattle.std.specs.Prelude.{Option, Some, None, slice_get}
use Rattle.std.specs.List.{list_any}
use Rattle.std.specs.Option.{option_map}
use Rattle.tas_model.specs.declared.entry.Call.{Call}
use Rattle.tas_model.specs.declared.entry.Caller.{Caller}
use Rattle.tas_model.specs.declared.entry.Caller.TheVariants.{App}
use Rattle.tas_model.specs.declared.entry.Entry.{Entry}
use Rattle.tas_model.specs.declared.entry.FlowId.{FlowId}
use Rattle.tas_model.specs.declared.entry.Reply.{Reply}
use Rattle.tas_model.specs.declared.entry.Reply.TheVariants as replies
use Rattle.flow_state.specs.declared.call.Answer.{Answer}
use Rattle.flow_state.specs.declared.call.CallIn.{CallIn}
use Rattle.flow_state.specs.Calls as calls_of
use Rattle.flow_state.specs.Calls.{call_of, offer_of}
use Rattle.flow_state.specs.Flow.{Flow, reply_to}
use Rattle.flow_lock.specs.Orders.{known_of}
use Rattle.flow_lock.specs.Passes.{Seen, with_baton, without_baton}
use Rattle.flow_lock.specs.Steps.{IsAlone}
use Rattle.flow_lock.specs.declared.view.Held.{Held}
use Rattle.flow_lock.specs.declared.view.History.{History}
use Rattle.flow_lock.specs.declared.view.View.{View}
use Rattle.app_reaper.specs.Lists.{is_on}
use Rattle.app_reaper.specs.OneCall.{history, history_with, IsOwn, IsUse}
use Rattle.host_books.specs.Books.{Book, live_in, IsAt}
use Rattle.host_books.specs.Deeds.{held_as, with_holder}
use Rattle.host_rounds.specs.Hosts.{Live, Host, Holder, Application as Held_by, GivenUp, with_call, last_reply}
use Rattle.host_rounds.specs.Hosts.{answer_of}
use Rattle.host_rounds.specs.Lists.{change_at}
use Rattle.slow_worker.specs.Workers.{Worker}
use Rattle.libtas_sockets.specs.Apps.{Application, IsSocket, flow_of, flow_on, socket_on, with_view, without_socket}
use Rattle.libtas_sockets.specs.Calling.{HasCalled, IsEntry}
use Rattle.libtas_sockets.specs.declared.socket.Socket.{Socket}
use Rattle.core_phase.specs.Lanes.{IsIdleApp}
use Rattle.core_phase.specs.declared.lane.AppLane.{AppLane}
use Rattle.core_phase.specs.declared.lane.Lane.{Lane}
use Rattle.core_phase.specs.declared.lane.Lane.TheVariants as lanes
use Rattle.sound_calls.specs.Handing.{given_back, handed, handing, with_books, HasMade}
use Rattle.sound_calls.proofs.Alone.{handed_sound, call_alone, made}
use Rattle.sound_calls.proofs.Places.{left_at}
use Rattle.sound_calls.proofs.Releasing.{released_alone}
use Rattle.sound_hosts.specs.Hosts.{CoreHost, known_in, host_of, listener_of}
use Rattle.sound_hosts.specs.Leaving.{books_left}
use Rattle.sound_hosts.specs.Moving.{with_slow}
use Rattle.sound_hosts.specs.Sound.{IsHostSound, IsApp}
use Rattle.sound_hosts.proofs.Lengths.{left_length}
use Rattle.sound_hosts.proofs.Sweeping.{middle}
use Rattle.host_rounds.specs.Lists.{Each}
use Rattle.slow_rounds.proofs.Moves.{flows_moved}
use Rattle.core_host.specs.Alone.{OnApp, OnApps, MayHand, with_all_of, HasHandedBack, IsToldOf, HasAsked, HasLeft}
use Rattle.core_host.specs.Alone.{ActsAlone}
use Rattle.asked_host.specs.Asking.{asked_by, left_by, told}
use Rattle.core_host.specs.Asking.{HasSocket, IsAsked}
use Rattle.core_host.specs.Sound.{IsStaffSound}
use Rattle.core_host.specs.Views.{Staffed, seen_by}
use Rattle.core_host.proofs.Acting as acting
use Rattle.core_host.proofs.Acting.{IsKept, HasActed, after_asking, acted, apps_are, idle}
use Rattle.core_host.proofs.Alone.{StaysAlone, StaysWithout, made_alone, left_alone}
use Rattle.core_host.proofs.Lanes.{IsLaneAt, with_app, set_middle}
use Rattle.core_host.proofs.Sockets.{IsSocketOf, book_at, socket_of}

-- ----- the flow at a place
last_push : (r : Reply) (h : List Entry) (x : Entry) → last_reply r (h ++ x ∷ []) ≡ x.reply
last_push r [] x = refl
last_push r (y ∷ ys) x = last_push y.reply ys x

get_changed : (f : Live → Live) (ls : List Live) (i : ℕ) (l : Live) → slice_get ls i ≡ Some l
    → slice_get (change_at i f ls) i ≡ Some (f l)
get_changed f [] i l here = absurd (cc (here))
get_changed f (m ∷ ls) zero l here = ap (λ (o : Option Live). option_map f o) here
get_changed f (m ∷ ls) (suc i) l here = get_changed f ls i l here

abbrev reply_at : Option Live → Reply
reply_at o = elim o [ None ↦ replies.Nothing | Some l ↦ last_reply replies.Nothing l.flow.entries ]

-- its last reply is that of the call which it just made
answered : (by : Caller) (t : ℕ) (call : Call) (offer : List ℕ) (n : ℕ) (l : Live) (before after : Host)
    → slice_get before.flows n ≡ Some l
    → after.flows ≡ change_at n (λ (x : Live). with_call x by t call offer) before.flows
    → answer_of n after ≡ reply_to l.flow.params l.flow.entries t call offer
answered by t call offer n l before after here made =
    ap reply_at (ap (λ (ls : List Live). slice_get ls n) made
    ∙ get_changed (λ (x : Live). with_call x by t call offer) before.flows n l here)
    ∙ last_push replies.Nothing l.flow.entries _

-- another holder in the books is one in the run
pub reheld_flows : (known : List Held) (x : Holder) (n : ℕ) (bs : List Book)
    → map (live_in known) (with_holder n (λ (y : Holder). x) bs)
    ≡ change_at n (λ (l : Live). record l { holder = x }) (map (live_in known) bs)
reheld_flows known x n [] = refl
reheld_flows known x zero (b ∷ bs) = refl
reheld_flows known x (suc n) (b ∷ bs) = ap (λ ls. live_in known b ∷ ls) (reheld_flows known x n bs)

-- ----- a step with the baton
-- all that holds of the worker's pass after it has the baton again
pub pass_kept : (v w : Worker) (pass : Seen) → w ≡ record v { pass = pass } → IsKept v w
pass_kept v w pass e = record {
  check_sums = ap (λ (x : Worker). x.check_sums) e;
  senders = ap (λ (x : Worker). x.senders) e;
  kickers = ap (λ (x : Worker). x.kickers) e;
  time = ap (λ (x : Worker). x.time) e;
  filed = ap (λ (x : Worker). x.filed) e;
}

-- the lane that is read at its place
pub lane_is : (front : List Lane) (x : AppLane) (back : List Lane) (v : Lane)
    → v ≡ get_or (front ++ lanes.App x ∷ back) (length front) v → v ≡ lanes.App x
lane_is [] x back v read = read
lane_is (y ∷ ys) x back v read = lane_is ys x back v read

pub lane_near : (front : List Lane) (x : AppLane) (back : List Lane) → length front < length (front ++ lanes.App x ∷
    back)
lane_near [] x back = omega arith
lane_near (y ∷ ys) x back = let r = lane_near ys x back in omega (arith, r)

-- its application, after the step
pub app_of : (P : Application → Application → Type 0) (v : AppLane) (w : Lane) → OnApps P (lanes.App v) w
    → (b : Application) × P v.app b × (w ≡ lanes.App (with_app b v))
app_of P v (lanes.Core l) on = absurd on
app_of P v (lanes.App x) (p, same) = (x.app, p, ap lanes.App same)

module _ (h : Staffed) (at app : ℕ) (sound : IsStaffSound h) (own : IsLaneAt h.lanes at app) where
  abbrev a : Application
  a = own.lane.app

  -- the slow path may hand it the baton
  pub may_hand : MayHand h.shared.table own.lane.app h.host.slow.pass
  may_hand = record {
    own = (idle h at app sound own).1.table;
    slow_own = sound.host.sound.0.ready.0 ∙ sound.table;
    turns = (idle h at app sound own).1.turns;
    baton = (idle h at app sound own).1.baton;
    alone = sound.host.alone;
    idle = sound.host.sound.0.ready.2;
  }

  pub handed_alone : IsAlone (with_all_of h.host.slow.pass own.lane.app).pass.view
  handed_alone = (refl, (idle h at app sound own).1.turns, sound.host.alone.2)

  abbrev front : List Application
  front = acting.front h at app sound own

  abbrev back : List Application
  back = acting.back h at app sound own

  -- the host whose slow path handed the baton over
  abbrev pub without : CoreHost
  without = with_slow (handing h.host.slow) h.host

  pub start : IsHostSound (given_back front (with_all_of h.host.slow.pass own.lane.app) back without)
  start = handed_sound h.host front back own.lane.app sound.host (apps_are h at app sound own)

  pub is_app : IsApp h.host.table h.host.books own.lane.app
  is_app = middle (IsApp h.host.table h.host.books) front own.lane.app back
      (subst (Each (IsApp h.host.table h.host.books)) (apps_are h at app sound own) sound.host.apps)

  -- the book of a flow that it has
  pub own_book : (place : ℕ) → HasSocket app place h → (b : Book) × IsSocketOf h.host own.lane.app place b
  own_book place (runs, (l, there, held)) = by (book_at (live_in (known_in h.host)) h.host.books place l there)
    where
      by : (b : Book) × (slice_get h.host.books place ≡ Some b) × (live_in (known_in h.host) b ≡ l)
          → (b : Book) × IsSocketOf h.host own.lane.app place b
      by (b, here, is) = (
        b,
        socket_of h.host sound.host own.lane.app is_app place b here
            (ap (λ (x : Live). x.holder) is ∙ (held ∙ ap Held_by (sym own.named))),
      )

  -- how the worker and the application are when the baton is back
  pub rests : (m b : Application) (n : Seen) → IsAlone m.pass.view → m.pass.table ≡ own.lane.app.pass.table
      → m.pass.view.slow ≡ own.lane.app.pass.view.slow → HasHandedBack m h.host.slow.pass b n → IsIdleApp h.shared b
  rests m b n alone table slow back = subst (IsIdleApp h.shared) (sym back.app) (record {
    table = table ∙ (idle h at app sound own).1.table;
    turns = alone.1;
    slow = slow ∙ (idle h at app sound own).1.slow;
    baton = refl;
  })

  -- a step, when the baton is back, and the books are others
  module _ (m b : Application) (w : Worker) (n : Seen) (books : List Book) (handed_ : HasHandedBack m h.host.slow.pass
      b n)
      (rest : w ≡ record (h.host.slow) { pass = n }) where
    worker_is : w ≡ record (handing h.host.slow) {
      pass = record ((handing h.host.slow).pass) { view = with_baton (handing h.host.slow).pass.view m.pass.view };
    }
    worker_is = rest ∙ ap (λ (x : Seen). record (h.host.slow) { pass = x }) handed_.slow

    host_is : with_books books (given_back front m back without) ≡ acting.next_host h at app sound own w books b
    host_is = λ i. record (h.host) {
      slow = sym worker_is i;
      apps = front ++ sym handed_.app i ∷ back;
      books = books;
    }

    pub acted_so : IsHostSound (given_back front m back (with_books books without)) → length books ≡ length h.host.books
        → IsAlone m.pass.view → m.pass.table ≡ own.lane.app.pass.table
        → m.pass.view.slow ≡ own.lane.app.pass.view.slow → m.number ≡ app → (ls : List Lane)
        → ls ≡ acting.next h at app sound own w books b → HasActed app h (after_asking h w books ls)
    acted_so host long alone table slow named ls are =
        acted h at app sound own w books b (subst IsHostSound host_is host)
        (ap (λ (x : Worker). x.pass.view.opened) worker_is ∙ (sound.counted ∙ sym long)) (pass_kept h.host.slow w n
        rest)
        (ap (λ (x : Application). x.number) handed_.app ∙ named)
        (rests m b n alone table slow handed_) ls are

    base_is : w.pass.view.base ≡ m.pass.view.base
    base_is = ap (λ (x : Worker). x.pass.view.base) worker_is

    -- what a run sees of it
    pub seen_so : (ls : List Lane) → seen_by (after_asking h w books ls)
        ≡ record (host_of h.host) { flows = map (live_in m.pass.view.base) books }
    seen_so ls = λ i. record {
      params = (worker_is i).path.params;
      listeners = map listener_of (worker_is i).path.listeners;
      log = (worker_is i).log;
      flows = map (live_in (base_is i)) books;
    }

  -- ----- a call on a socket
  module _ (place tick : ℕ) (call : CallIn) (book : Book) (of : IsSocketOf h.host own.lane.app place book) where
    abbrev socket : Socket
    socket = socket_on book.id

    entered : (m : Application) (r : Reply)
        → IsEntry (flow_of (with_all_of h.host.slow.pass own.lane.app) (socket_on book.id)) (App own.lane.app.number)
        tick call
        (with_all_of h.host.slow.pass own.lane.app).pass.view m.pass.view r
        → map (live_in m.pass.view.base) h.host.books
        ≡ change_at place (λ (l : Live). with_call l (App app) tick (call_of call) (offer_of call)) (host_of
        h.host).flows
    entered m r entry =
        flows_moved place book.id (App own.lane.app.number) tick call
        (with_all_of h.host.slow.pass own.lane.app).pass.view m.pass.view entry.flow h.host.books handed_alone of.place
        (subst (λ f. IsOwn f (with_all_of h.host.slow.pass own.lane.app).pass.view entry.flow) of.named entry.own)
        (subst (λ f. IsUse f entry.flow (history_with entry.flow (App own.lane.app.number) tick call)
        (with_all_of h.host.slow.pass own.lane.app).pass.view m.pass.view) of.named entry.given)
        ∙ ap (λ k. change_at place (λ (l : Live). with_call l (App k) tick (call_of call) (offer_of call))
        (host_of h.host).flows) own.named

    -- what the entry replied is what the flow answered last
    replied : (m : Application) (r : Reply)
        → IsEntry (flow_of (with_all_of h.host.slow.pass own.lane.app) (socket_on book.id)) (App own.lane.app.number)
        tick call
        (with_all_of h.host.slow.pass own.lane.app).pass.view m.pass.view r
        → (after : Host) → after.flows ≡ map (live_in m.pass.view.base) h.host.books → answer_of place after ≡ r
    replied m r entry after flows =
        answered (App app) tick (call_of call) (offer_of call) place (live_in (known_in h.host) book) (host_of h.host)
        after
        (got h.host.books place of.at) (flows ∙ entered m r entry)
        ∙ (ap (λ (k : History). reply_to k.params k.entries tick (call_of call) (offer_of call))
        (ap (λ f. known_of f (known_in h.host)) (sym of.named) ∙ sym (entry.own.known handed_alone))
        ∙ sym entry.replied)
      where
        got : (bs : List Book) (i : ℕ) → slice_get bs i ≡ Some book
            → slice_get (map (live_in (known_in h.host)) bs) i ≡ Some (live_in (known_in h.host) book)
        got [] i e = absurd (cc (e))
        got (b ∷ bs) zero e = ap (λ (o : Option Book). option_map (live_in (known_in h.host)) o) e
        got (b ∷ bs) (suc i) e = got bs i e

    module _ (w : Worker) (n : Seen) (b : Application) (rest : w ≡ record (h.host.slow) { pass = n }) (ls : List Lane)
        (are : ls ≡ acting.next h at app sound own w h.host.books b) where
      pub asked : (answer : Answer) → ActsAlone (HasAsked (socket_on book.id) tick call answer) h.host.slow.pass n
          own.lane.app b
          → IsAsked app (asked_by app place tick (call_of call) (offer_of call)) h (after_asking h w h.host.books ls)
          × (told answer ≡ told (calls_of.answer_of (answer_of place (seen_by (after_asking h w h.host.books ls)))))
      asked answer (m, called, handed_) = (
        record {
          made = seen_so m b w n h.host.books handed_ rest ls
              ∙ ap (λ fs. record (host_of h.host) { flows = fs }) (entered m called.0.0 called.0.1);
          sound = done.sound;
          lanes = done.lanes;
          same = done.same;
          time = done.time;
          filed = done.filed;
        },
        called.0.2
            ∙ ap (λ r. told (calls_of.answer_of r))
            (sym (replied m called.0.0 called.0.1 (seen_by (after_asking h w h.host.books ls))
            (ap (λ (x : Host). x.flows) (seen_so m b w n h.host.books handed_ rest ls)))),
      )
        where
          stays : StaysAlone (with_all_of h.host.slow.pass own.lane.app) m
          stays = made_alone (with_all_of h.host.slow.pass own.lane.app) m (socket_on book.id) tick call None
              (IsToldOf answer) handed_alone called

          done : HasActed app h (after_asking h w h.host.books ls)
          done = acted_so m b w n h.host.books handed_ rest
              (call_alone without front back (with_all_of h.host.slow.pass own.lane.app) m (socket_on book.id) tick
              call None
              start handed_alone of.socket
              (made (with_all_of h.host.slow.pass own.lane.app) m (socket_on book.id) tick call None (IsToldOf answer)
              called)).0 refl stays.alone stays.own stays.slow (stays.number ∙ own.named) ls are

    module _ (w : Worker) (n : Seen) (b : Application) (rest : w ≡ record (h.host.slow) { pass = n })
        (books : List Book) (given_up : books ≡ with_holder place (λ (x : Holder). GivenUp) h.host.books) (ls : List
        Lane)
        (are : ls ≡ acting.next h at app sound own w books b) where
      pub left : offer_of call ≡ []
          → ActsAlone (HasLeft (socket_on book.id) tick call) h.host.slow.pass n own.lane.app b
          → IsAsked app (left_by app place tick (call_of call)) h (after_asking h w books ls)
      left none (m, (u, called, is), handed_) = record {
        made = seen_so m b w n books handed_ rest ls
            ∙ ap (λ fs. record (host_of h.host) { flows = fs })
            (ap (λ (x : Application). map (live_in x.pass.view.base) books) is
            ∙ (ap (map (live_in u.pass.view.base)) given_up
            ∙ (reheld_flows u.pass.view.base GivenUp place h.host.books
            ∙ (ap (change_at place (λ (l : Live). record l { holder = GivenUp })) (entered u called.0.0 called.0.1)
            ∙ ap (λ offer. change_at place (λ (l : Live). record l { holder = GivenUp })
            (change_at place (λ (l : Live). with_call l (App app) tick (call_of call) offer) (host_of h.host).flows))
            none))));
        sound = done.sound;
        lanes = done.lanes;
        same = done.same;
        time = done.time;
        filed = done.filed;
      }
        where
          stays : StaysAlone (with_all_of h.host.slow.pass own.lane.app) u
          stays = made_alone (with_all_of h.host.slow.pass own.lane.app) u (socket_on book.id) tick call None
              (λ (r : Reply). Unit {0}) handed_alone called

          ends : StaysWithout (with_all_of h.host.slow.pass own.lane.app) m
          ends = subst (StaysWithout (with_all_of h.host.slow.pass own.lane.app)) (sym is)
              (left_alone (with_all_of h.host.slow.pass own.lane.app) u (socket_on book.id) stays)

          there : IsSocket u (socket_on book.id)
          there = subst (λ fs. list_any (is_on book.id.slot) fs ≡ true) (sym stays.sockets) of.socket

          name : flow_of u (socket_on book.id) ≡ book.id
          name = ap (λ fs. flow_on fs book.id.slot) stays.sockets ∙ of.named

          books_are : books_left u.number (flow_of u (socket_on book.id) ∷ []) h.host.books ≡ books
          books_are =
              (λ i. books_left (stays.number i) (name i ∷ []) h.host.books)
              ∙ (left_at own.lane.app.number book.id place h.host.books of.place of.had ∙ sym given_up)

          host : IsHostSound (given_back front m back (with_books books without))
          host = subst (λ x. IsHostSound (given_back front x back (with_books books without))) (sym is)
              (subst (λ bs. IsHostSound (given_back front (without_socket (socket_on book.id) u) back (with_books bs
              without)))
              books_are
              (released_alone without front back u (socket_on book.id)
              (call_alone without front back (with_all_of h.host.slow.pass own.lane.app) u (socket_on book.id) tick
              call None
              start handed_alone of.socket called).0 stays.alone there))

          done : HasActed app h (after_asking h w books ls)
          done = acted_so m b w n books handed_ rest host
              (ap length (sym books_are)
              ∙ left_length u.number (flow_of u (socket_on book.id) ∷ []) h.host.books)
              ends.alone ends.own ends.slow (ends.number ∙ own.named) ls are

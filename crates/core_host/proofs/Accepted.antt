-- A flow that an application accepts alone: for the answers for `CoreHost::accept`.
use Rattle.std.proofs.Common.{◌≡◌, ◌≢◌, ℕ, zero, suc, ◌+◌, ◌<◌, ◌==◌, ◌&&◌, not, Bool, true, false, true≢false, List}
use Rattle.std.proofs.Common.{[], ◌∷◌, ◌++◌}
use Rattle.std.proofs.Common.{map, length, refl, sym, ap, ◌∙◌, subst, arith, inl, inr}
use Rattle.std.proofs.lemmas.List.{length-map}
use Rattle.std.specs.Prelude.{Option, Some, None, Result, Ok, Err, position, slice_get, is_some}
use Rattle.std.specs.List.{list_any}
use Rattle.std.specs.Option.{option_map}
use Rattle.atomic_table.specs.Seated.{TableId}
use Rattle.tas_model.specs.declared.entry.Call.TheVariants as calls
use Rattle.tas_model.specs.declared.entry.Caller.TheVariants.{App}
use Rattle.tas_model.specs.declared.entry.FlowId.{FlowId}
use Rattle.tas_model.specs.declared.entry.Reason.{Reason}
use Rattle.tas_model.specs.ApplicationCalls.{Column, Opening, Over, Running, column, column_by}
use Rattle.tas_model.specs.LegalHistory.{replay}
use Rattle.flow_state.specs.declared.call.CallIn.TheVariants as ins
use Rattle.flow_state.specs.Flow.{Flow}
use Rattle.flow_clock.specs.Histories.{endpoint_of, is_running, is_running_in, is_over}
use Rattle.flow_lock.specs.Answers.{IsPinned, IsStale}
use Rattle.flow_lock.specs.Orders.{known_of, same_flow}
use Rattle.flow_lock.specs.Passes.{Seen, with_baton, without_baton}
use Rattle.flow_lock.specs.Steps.{IsAlone, noted}
use Rattle.flow_lock.specs.Words.{word_at}
use Rattle.flow_lock.specs.declared.view.Held.{Held}
use Rattle.flow_lock.specs.declared.view.History.{History}
use Rattle.flow_lock.specs.declared.view.Turn.{Turn}
use Rattle.flow_lock.specs.declared.view.View.{View}
use Rattle.flow_lock.specs.declared.word.Word.{Word}
use Rattle.app_reaper.specs.Lists.{is_on}
use Rattle.app_reaper.specs.OneCall.{history, history_with, IsOwn, IsUse}
use Rattle.host_books.specs.Books.{Book, live_in, IsAt}
use Rattle.host_books.specs.Deeds.{with_holder}
use Rattle.host_books.specs.Indexes.{IsFindable}
use Rattle.host_books.proofs.Orders.{same_self}
use Rattle.host_rounds.specs.Hosts.{Live, Host, Holder, Application as Held_by, with_call, is_ready, is_waiting_by}
use Rattle.host_rounds.specs.Hosts.{is_running as hosts_running}
use Rattle.host_rounds.specs.Lists.{change_at}
use Rattle.slow_handshake.specs.Openings.{first_ready}
use Rattle.slow_worker.specs.Workers.{Worker}
use Rattle.libtas_sockets.specs.Accepting.{IsAcceptance, IsAcceptedOn, flow_left}
use Rattle.libtas_sockets.specs.Apps.{Application, IsSocket, socket_on, with_view, with_socket}
use Rattle.libtas_sockets.specs.declared.socket.Socket.{Socket}
use Rattle.libtas_sockets.specs.declared.socket_error.SocketError.{SocketError}
use Rattle.libtas_sockets.specs.declared.socket_error.SocketError.TheVariants as errors
use Rattle.core_phase.specs.declared.lane.Lane.{Lane}
use Rattle.sound_calls.specs.Handing as accepts
use Rattle.sound_calls.specs.Handing.{given_back, handing, after_accepting}
use Rattle.sound_calls.proofs.Acceptances.{acceptance}
use Rattle.sound_calls.proofs.Places.{accepted_at}
use Rattle.sound_hosts.specs.Hosts.{CoreHost, known_in, host_of, listener_of}
use Rattle.sound_hosts.specs.Hosts.{word_of}
use Rattle.sound_hosts.specs.Leaving.{reheld}
use Rattle.sound_hosts.specs.Moving.{IsLed}
use Rattle.sound_hosts.specs.Sound.{IsHostSound, IsApp, IsPlain, IsWorded}
use Rattle.sound_hosts.proofs.OpenSockets.{each_at}
use Rattle.sound_hosts.proofs.Standing.{within}
use Rattle.sound_hosts.proofs.OneFlow.{used_leads}
use Rattle.slow_rounds.proofs.Moves.{flows_moved}
use Rattle.slow_rounds.proofs.Ready.{some_ready, none_ready}
use Rattle.slow_rounds.proofs.Slots.{position_here, position_past}
use Rattle.slow_rounds.proofs.Found.{flipped}
use Rattle.slow_rounds.proofs.Phased.{running_alike}
use Rattle.core_host.specs.Alone.{with_all_of, HasHandedBack, IsTakeable, HasAccepted, IsOkOrFull, ActsAlone}
use Rattle.asked_host.specs.Asking.{accepted_by}
use Rattle.core_host.specs.Asking.{IsAsked}
use Rattle.core_host.specs.Sound.{IsStaffSound}
use Rattle.core_host.specs.Views.{Staffed, seen_by}
use Rattle.core_host.proofs.Acting as acting
use Rattle.core_host.proofs.Acting.{IsKept, HasActed, after_asking, acted}
use Rattle.core_host.proofs.Calling.{handed_alone, is_app, rests, reheld_flows, start, without}
use Rattle.core_host.proofs.Lanes.{IsLaneAt}
use Rattle.core_host.proofs.Sockets.{free_slot}

-- ----- a pin that was won alone
pub record IsWon (v w : View) : Type 0 where
  pub alone : IsAlone w
  pub base : w.base ≡ v.base
  pub slow : w.slow ≡ v.slow

pub won : (id : FlowId) (v w : View) → IsAlone v → IsPinned id v w → IsWon v w
won id v w alone (x, is, known, e) = record {
  alone = (
    ap (λ (y : View). y.baton) e ∙ alone.0,
    ap (λ (y : View). y.turns) e ∙ ap (λ (ts : List Turn). noted [] (id ∷ []) [] ts) alone.1,
    ap (λ (y : View). y.made) e ∙ alone.2,
  );
  base = ap (λ (y : View). y.base) e;
  slow = ap (λ (y : View). y.slow) e;
}

-- ----- which answers there are
runs_not : (c : Column) → is_running_in c ≡ true → c ≡ Opening → ⊥
runs_not c runs e = true≢false (sym runs ∙ ap is_running_in e)

runs_over : (c : Column) (why : _) → is_running_in c ≡ true → c ≡ Over why → ⊥
runs_over c why runs e = true≢false (sym runs ∙ ap is_running_in e)

module _ (table : TableId) (id : FlowId) (tick : ℕ) (a b : Application) (alone : IsAlone a.pass.view)
    (takeable : IsTakeable table id a a.pass.view) where
  stale_not : (x : Word) → x ≡ word_at a.pass.view.words id.slot → IsStale id x → ⊥
  stale_not x e (inl dead) = true≢false (sym takeable.live ∙ (ap (λ (y : Word). y.live) (sym e) ∙ dead))
  stale_not x e (inr (inl doomed)) = true≢false (sym doomed ∙ (ap (λ (y : Word). y.doomed) e ∙ takeable.taken))
  stale_not x e (inr (inr other)) = other (ap (λ (y : Word). y.generation) e ∙ takeable.generation)

  runs : (u : View) (r : Flow) → IsPinned id a.pass.view u → IsOwn id u r
      → is_running_in (column (replay r.params r.entries)) ≡ true
  runs u r pin own =
      let w = won id a.pass.view u alone pin in
      ap is_running (own.known w.alone ∙ ap (λ (l : List Held). known_of id l) w.base) ∙ takeable.runs

  pub accept_only : (result : Result Socket SocketError) → IsAcceptance id tick a b result → IsOkOrFull result
  accept_only (Ok s) is = tt
  accept_only (Err errors.OutOfMemory) is = tt
  accept_only (Err (errors.Stale x)) (is, e) = absurd (stale_not x (is.1 alone) is.0)
  accept_only (Err (errors.Moved x y)) (is, e) = absurd (is.1 alone)
  accept_only (Err (errors.SlotInUse s)) (on, there, e) =
      absurd (true≢false (sym (subst (λ (x : Socket). IsSocket a x) on there) ∙ takeable.free))
  accept_only (Err (errors.Early p)) (u, w, pin, (r, after, own, acc, given), e, named) =
      absurd (runs_not (column (replay r.params r.entries)) (runs u r pin own) acc.0.0)
  accept_only (Err (errors.Closed why)) (u, w, pin, (r, after, own, acc, given), e, named) =
      absurd (runs_over (column (replay r.params r.entries)) why (runs u r pin own) acc.0)
  accept_only (Err (errors.Busy x)) (u, w, pin, busy, e, named) =
      absurd (busy.1 (won id a.pass.view u alone pin).alone)
  accept_only (Err errors.NotYet) (u, w, pin, (r, after, own, acc, given), e, named) = absurd acc
  accept_only (Err errors.NotOpen) (u, w, pin, (r, after, own, acc, given), e, named) = absurd acc
  accept_only (Err errors.Shut) (u, w, pin, (r, after, own, acc, given), e, named) = absurd acc
  accept_only (Err (errors.PortInUse n)) (u, w, pin, (r, after, own, acc, given), e, named) = absurd acc
  accept_only (Err errors.NoPort) (u, w, pin, (r, after, own, acc, given), e, named) = absurd acc
  accept_only (Err errors.NoFlowSlot) (u, w, pin, (r, after, own, acc, given), e, named) = absurd acc

  -- the application when it accepted
  pub record IsIn (s : Socket) : Type 0 where
    pub still : IsAlone b.pass.view
    pub own : b.pass.table ≡ a.pass.table
    pub slow : b.pass.view.slow ≡ a.pass.view.slow
    pub number : b.number ≡ a.number

  pub accepted_in : (s : Socket) → IsAcceptance id tick a b (Ok s) → IsIn s
  accepted_in s (u, w, pin, (r, after, own, acc, given), e, named) =
      let v = won id a.pass.view u alone pin in
      let led : IsLed id (history_with r (App a.number) tick ins.Accept) u w =
      used_leads id r (history_with r (App a.number) tick ins.Accept) u w v.alone
      (subst (λ (x : History). IsUse id r x u w) acc.1 given) in
      record {
        still = (
          ap (λ (x : Application). x.pass.view.baton) e ∙ led.alone.0,
          ap (λ (x : Application). x.pass.view.turns) e ∙ led.alone.1,
          ap (λ (x : Application). x.pass.view.made) e ∙ led.alone.2,
        );
        own = ap (λ (x : Application). x.pass.table) e;
        slow = ap (λ (x : Application). x.pass.view.slow) e ∙ (led.slow ∙ v.slow);
        number = ap (λ (x : Application). x.number) e;
      }

  -- what it did, as a move
  pub accepted_flows : (s : Socket) (n : ℕ) (bs : List Book) → IsAt n id bs → IsAcceptance id tick a b (Ok s)
      → map (live_in b.pass.view.base) bs
      ≡ change_at n (λ (l : Live). with_call l (App a.number) tick calls.Accept []) (map (live_in a.pass.view.base) bs)
  accepted_flows s n bs at (u, w, pin, (r, after, own, acc, given), e, named) =
      let v = won id a.pass.view u alone pin in
      ap (λ (x : Application). map (live_in x.pass.view.base) bs) e
      ∙ (flows_moved n id (App a.number) tick ins.Accept u w r bs v.alone at own
      (subst (λ (x : History). IsUse id r x u w) acc.1 given)
      ∙ ap (λ (l : List Held). change_at n (λ (x : Live). with_call x (App a.number) tick calls.Accept [])
      (map (live_in l) bs)) v.base)

-- ----- the flow's place
pub position_of : (n : ℕ) (id : FlowId) (bs : List Book) → IsAt n id bs
    → position (λ (b : Book). same_flow b.id id) bs ≡ Some n
position_of n id [] at = absurd at
position_of zero id (b ∷ bs) at =
    position_here (λ (c : Book). same_flow c.id id) b bs (ap (λ f. same_flow f id) at.0 ∙ same_self id)
position_of (suc n) id (b ∷ bs) at =
    position_past (λ (c : Book). same_flow c.id id) b bs (flipped id b.id at.0)
    ∙ (ap (option_map (λ i. 1 + i)) (position_of n id bs at.1)
    ∙ ap (λ i. Some i) (let one : 1 + n ≡ suc n = omega arith in one))

book_of : (n : ℕ) (id : FlowId) (bs : List Book) → IsAt n id bs
    → (b : Book) × (slice_get bs n ≡ Some b) × (b.id ≡ id)
book_of n id [] at = absurd at
book_of zero id (b ∷ bs) at = (b, refl, at.0)
book_of (suc n) id (b ∷ bs) at = book_of n id bs at.1

none_some : (k : ℕ) → ◌≡◌ {A = Option ℕ} None (Some k) → ⊥
none_some k e = absurd (cc (e))

some_is : (j k : ℕ) → ◌≡◌ {A = Option ℕ} (Some j) (Some k) → j ≡ k
some_is j k e = cc (e)

-- what stands at the place passes the test
passes : {X : Type 0} (p : X → Bool) (xs : List X) (n : ℕ) (y : X) → position p xs ≡ Some n → slice_get xs n ≡ Some y
    → p y ≡ true
passes {X} p [] n y e at = absurd (none_some n e)
passes {X} p (x ∷ xs) n y e at = by (p x) refl (λ j q there. passes p xs j y q there)
  where
    same : (a b : X) → ◌≡◌ {A = Option X} (Some a) (Some b) → a ≡ b
    same a b q = cc (q)

    behind : ((j : ℕ) → position p xs ≡ Some j → slice_get xs j ≡ Some y → p y ≡ true)
        → (o : Option ℕ) → position p xs ≡ o → option_map (λ i. 1 + i) o ≡ Some n → p y ≡ true
    behind rest None q e = absurd (none_some n e)
    behind rest (Some j) q e =
        let one : n ≡ suc j = (let m : 1 + j ≡ n = some_is (1 + j) n e in omega (arith, m)) in
        rest j q (ap (λ k. slice_get (x ∷ xs) k) (sym one) ∙ at)

    by : (t : Bool) → p x ≡ t → ((j : ℕ) → position p xs ≡ Some j → slice_get xs j ≡ Some y → p y ≡ true)
        → p y ≡ true
    by true q rest =
        let zero_is : n ≡ 0 = sym (some_is 0 n (sym (position_here p x xs q) ∙ e)) in
        ap p (sym (same x y (ap (λ k. slice_get (x ∷ xs) k) (sym zero_is) ∙ at))) ∙ q
    by false q rest = behind rest (position p xs) refl (sym (position_past p x xs q) ∙ e)

-- ----- the flow that is ready
pub record IsReadyBook (h : CoreHost) (port : ℕ) (id : FlowId) : Type 0 where
  pub place : ℕ
  pub first : position (is_ready port) (host_of h).flows ≡ Some place
  pub at : IsAt place id h.books
  pub book : Book
  pub there : slice_get h.books place ≡ Some book
  pub name : book.id ≡ id
  pub waits : is_waiting_by book.holder ≡ true
  pub runs : is_running (known_of id (known_in h)) ≡ true

and_three : (x y z : Bool) → (x && y && z) ≡ true → (y ≡ true) × (z ≡ true)
and_three true true z e = (refl, e)
and_three true false z e = absurd (true≢false (sym e))
and_three false y z e = absurd (true≢false (sym e))

live_there : (known : List Held) (bs : List Book) (n : ℕ) (b : Book) → slice_get bs n ≡ Some b
    → slice_get (map (live_in known) bs) n ≡ Some (live_in known b)
live_there known [] n b e = absurd (cc (e))
live_there known (c ∷ cs) zero b e = ap (λ (o : Option Book). option_map (live_in known) o) e
live_there known (c ∷ cs) (suc n) b e = live_there known cs n b e

pub ready_book : (h : CoreHost) (port : ℕ) (id : FlowId) → IsHostSound h → first_ready h.slow.path port ≡ Some id
    → IsReadyBook h port id
ready_book h port id sound e = by (some_ready h port id sound e)
  where
    by : (n : ℕ) × IsAt n id h.books × (position (is_ready port) (host_of h).flows ≡ Some n) → IsReadyBook h port id
    by (n, at, first) =
        let b = book_of n id h.books at in
        let l : Live = live_in (known_in h) b.0 in
        let ready : is_ready port l ≡ true =
        passes (is_ready port) (host_of h).flows n l first (live_there (known_in h) h.books n b.0 b.1) in
        let both = and_three (l.flow.tuple.lport == port) (is_waiting_by l.holder) (hosts_running l) ready in
        record {
          place = n;
          first = first;
          at = at;
          book = b.0;
          there = b.1;
          name = b.2;
          waits = both.0;
          runs = ap (λ f. is_running (known_of f (known_in h))) (sym b.2) ∙ (running_alike l ∙ both.1);
        }

over_not : (h : History) → is_running h ≡ true → is_over h ≡ false
over_not h runs = by (endpoint_of h).reason runs
  where
    by : (r : Option Reason) → is_running_in (column_by r (endpoint_of h).peer (endpoint_of h).tx.una) ≡ true
        → is_some r ≡ false
    by (Some why) e = absurd (true≢false (sym e))
    by None e = refl

-- so the application may take it
module _ (h : CoreHost) (sound : IsHostSound h) (a : Application) (app : IsApp h.table h.books a) (port : ℕ) (id :
    FlowId)
    (is : IsReadyBook h port id) where
  indexed : (i : Bool) → is.book.indexed ≡ i → is.book.indexed ≡ true
  indexed true e = e
  indexed false e =
      absurd (true≢false
      (sym (each_at (IsFindable (known_in h)) h.books is.place is.book sound.indexed.running is.there e)
      ∙ (ap (λ f. is_over (known_of f (known_in h))) is.name ∙ over_not (known_of id (known_in h)) is.runs)))

  stands : (f : Bool) → is.book.filed ≡ f → is.book.filed ≡ false
  stands false e = e
  stands true e =
      absurd (true≢false (sym (indexed is.book.indexed refl)
      ∙ each_at IsPlain h.books is.place is.book sound.plain is.there e))

  word : word_at h.slow.pass.view.words id.slot ≡ word_of is.book
  word =
      ap (λ (f : FlowId). word_at h.slow.pass.view.words f.slot) (sym is.name)
      ∙ each_at (IsWorded h.slow.pass.view) h.books is.place is.book sound.table.words is.there
      (stands is.book.filed refl)

  pub takeable : IsTakeable h.table id a h.slow.pass.view
  takeable = record {
    low = subst (λ (f : FlowId). f.slot < h.table.slots) is.name
        (each_at (λ (c : Book). c.id.slot < h.table.slots) h.books is.place is.book
        (within h.table.slots [] h.books sound.numbered) is.there);
    live = ap (λ (x : Word). x.live) word;
    taken = ap (λ (x : Word). x.doomed) word ∙ ap not (indexed is.book.indexed refl);
    generation = ap (λ (x : Word). x.generation) word ∙ ap (λ (f : FlowId). f.generation) is.name;
    free = ap (λ (f : FlowId). list_any (is_on f.slot) a.sockets) (sym is.name)
        ∙ free_slot h sound a app is.place is.book is.there (stands is.book.filed refl) is.waits;
    runs = is.runs;
  }

-- ----- the host
pub over_all : (table : TableId) (id : FlowId) (a : Application) (s : Seen) → IsTakeable table id a s.view
    → IsTakeable table id (with_all_of s a) (with_all_of s a).pass.view
over_all table id a s t = record {
  low = t.low;
  live = t.live;
  taken = t.taken;
  generation = t.generation;
  free = t.free;
  runs = t.runs;
}

module _ (h : Staffed) (at app : ℕ) (sound : IsStaffSound h) (own : IsLaneAt h.lanes at app) (port tick : ℕ)
    (id : FlowId) (first : first_ready h.host.slow.path port ≡ Some id) where
  abbrev front : List Application
  front = acting.front h at app sound own

  abbrev back : List Application
  back = acting.back h at app sound own

  abbrev ready : IsReadyBook h.host port id
  ready = ready_book h.host port id sound.host first

  pub may_take : IsTakeable h.host.table id own.lane.app h.host.slow.pass.view
  may_take = takeable h.host sound.host own.lane.app (is_app h at app sound own) port id ready

  module _ (n : ℕ) (is_at : IsAt n id h.host.books) (w : Worker) (pass : Seen) (b : Application)
      (rest : w ≡ record (h.host.slow) { pass = pass; path = flow_left id h.host.slow.path }) (books : List Book)
      (holds : books ≡ with_holder n (λ (x : Holder). Held_by app) h.host.books) (ls : List Lane)
      (are : ls ≡ acting.next h at app sound own w books b) where
    books_are : map (reheld (accepts.accepted_by own.lane.app.number id)) h.host.books ≡ books
    books_are =
        accepted_at own.lane.app.number id n h.host.books is_at
        ∙ (ap (λ k. with_holder n (λ (x : Holder). Held_by k) h.host.books) own.named ∙ sym holds)

    module _ (m : Application) (s : Socket) (took : IsAcceptance id tick (with_all_of h.host.slow.pass own.lane.app) m
        (Ok s))
        (handed_ : HasHandedBack m h.host.slow.pass b pass) where
      is_in : IsIn h.host.table id tick (with_all_of h.host.slow.pass own.lane.app) m (handed_alone h at app sound own)
          (over_all h.host.table id own.lane.app h.host.slow.pass may_take) s
      is_in = accepted_in h.host.table id tick (with_all_of h.host.slow.pass own.lane.app) m (handed_alone h at app
          sound own)
          (over_all h.host.table id own.lane.app h.host.slow.pass may_take) s took

      worker_is : w ≡ record (handing h.host.slow) {
        path = flow_left id h.host.slow.path;
        pass = record ((handing h.host.slow).pass) { view = with_baton (handing h.host.slow).pass.view m.pass.view };
      }
      worker_is = rest ∙ ap (λ (x : Seen). record (h.host.slow) { pass = x; path = flow_left id h.host.slow.path })
          handed_.slow

      host_is : given_back front m back (after_accepting own.lane.app.number id (Ok s) (without h at app sound own))
          ≡ acting.next_host h at app sound own w books b
      host_is = λ i. record (h.host) {
        slow = sym worker_is i;
        apps = front ++ sym handed_.app i ∷ back;
        books = books_are i;
      }

      kept : IsKept h.host.slow w
      kept = record {
        check_sums = ap (λ (x : Worker). x.check_sums) rest;
        senders = ap (λ (x : Worker). x.senders) rest;
        kickers = ap (λ (x : Worker). x.kickers) rest;
        time = ap (λ (x : Worker). x.time) rest;
        filed = ap (λ (x : Worker). x.filed) rest;
      }

      long : length books ≡ length h.host.books
      long = ap length (sym books_are) ∙ length-map h.host.books (reheld (accepts.accepted_by own.lane.app.number id))

      done : HasActed app h (after_asking h w books ls)
      done =
          acted h at app sound own w books b
          (subst IsHostSound host_is
          (acceptance (without h at app sound own) front back (with_all_of h.host.slow.pass own.lane.app) m port tick id
          (start h at app sound own) (handed_alone h at app sound own) first (Ok s) took).0)
          (ap (λ (x : Worker). x.pass.view.opened) worker_is ∙ (sound.counted ∙ sym long)) kept
          (ap (λ (x : Application). x.number) handed_.app ∙ (is_in.number ∙ own.named))
          (rests h at app sound own m b pass is_in.still is_in.own is_in.slow handed_) ls are

      pub accepted : IsAsked app (accepted_by app n tick) h (after_asking h w books ls)
      accepted = record {
        made = (λ i. record {
          params = (worker_is i).path.params;
          listeners = map listener_of (worker_is i).path.listeners;
          log = (worker_is i).log;
          flows = map (live_in (worker_is i).pass.view.base) books;
        })
            ∙ ap (λ fs. record (host_of h.host) { flows = fs })
            (ap (map (live_in m.pass.view.base)) holds
            ∙ (reheld_flows m.pass.view.base (Held_by app) n h.host.books
            ∙ (ap (change_at n (λ (l : Live). record l { holder = Held_by app }))
            (accepted_flows h.host.table id tick (with_all_of h.host.slow.pass own.lane.app) m
            (handed_alone h at app sound own) (over_all h.host.table id own.lane.app h.host.slow.pass may_take) s n
            h.host.books is_at took)
            ∙ ap (λ k. change_at n (λ (l : Live). record l { holder = Held_by app })
            (change_at n (λ (l : Live). with_call l (App k) tick calls.Accept []) (host_of h.host).flows)) own.named)));
        sound = done.sound;
        lanes = done.lanes;
        same = done.same;
        time = done.time;
        filed = done.filed;
      }

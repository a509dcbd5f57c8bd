-- An application that connects alone: for the answers for `CoreHost::connect_out`.
use Rattle.std.proofs.Common.{◌≡◌, ◌<◌, ℕ, ◌+◌, ◌^◌, ◌==◌, ◌||◌, cond, Bool, true, false, true≢false, List, [], ◌∷◌}
use Rattle.std.proofs.Common.{◌++◌, length, map, nat_lt, nat_le}
use Rattle.std.proofs.Common.{refl, sym, ap, ◌∙◌, subst, arith}
use Rattle.std.specs.List.{list_any}
use Rattle.std.proofs.lemmas.Bool.Decides.{nat_tests}
use Rattle.std.proofs.lemmas.List.{length-append, length-map}
use Rattle.std.specs.Prelude.{Option, Some, None, is_some, count_by, Result, Ok, Err, position}
use Rattle.tas_num.specs.declared.seq.Seq.{Seq}
use Rattle.tas_model.specs.declared.entry.Call.TheVariants as calls
use Rattle.tas_model.specs.declared.entry.Caller.TheVariants as callers
use Rattle.tas_model.specs.declared.entry.FlowId.{FlowId}
use Rattle.tas_model.specs.declared.entry.FourTuple.{FourTuple}
use Rattle.flow_lock.specs.Answers.{next_in, next_of, is_free, is_open_in}
use Rattle.flow_lock.specs.Orders.{same_flow}
use Rattle.flow_lock.specs.Passes.{Seen, with_baton, without_baton}
use Rattle.flow_lock.specs.Steps.{IsAlone, alone_or, mark_at, noted}
use Rattle.flow_lock.specs.declared.view.Held.{Held}
use Rattle.flow_lock.specs.declared.view.Turn.{Turn}
use Rattle.flow_lock.specs.declared.view.View.{View}
use Rattle.host_books.specs.Books.{Book, live_in}
use Rattle.host_rounds.specs.Hosts as hosts
use Rattle.host_rounds.specs.Hosts.{Live, Host, first_entry, first_port, lowest_free, opened_in, ports_given}
use Rattle.host_rounds.specs.Hosts.{most_flows, free_where}
use Rattle.host_rounds.specs.Lists.{Each}
use Rattle.app_reaper.specs.Lists.{is_on}
use Rattle.libtas_sockets.specs.Apps.{Application, IsSocket, flow_of, flow_on, socket_on, with_view, with_socket}
use Rattle.libtas_sockets.specs.Connecting.{Opener, opener, first_history, next_tuple}
use Rattle.libtas_sockets.specs.Opening.{IsConnectionAlone, IsOpenedAlone}
use Rattle.libtas_sockets.specs.declared.socket.Socket.{Socket}
use Rattle.libtas_sockets.specs.declared.socket_error.SocketError.{SocketError}
use Rattle.libtas_sockets.specs.declared.socket_error.SocketError.TheVariants as errors
use Rattle.slow_worker.specs.Workers.{Worker}
use Rattle.core_phase.specs.Lanes.{IsIdleApp}
use Rattle.core_phase.specs.declared.lane.Lane.{Lane}
use Rattle.sound_calls.specs.Connecting.{HasConnectedAlone, after_connecting}
use Rattle.sound_calls.proofs.Connecting.{connected_alone}
use Rattle.sound_hosts.specs.Counting.{IsCounted}
use Rattle.sound_hosts.specs.Hosts.{CoreHost, host_of, known_in}
use Rattle.sound_hosts.specs.Opening.{new_book}
use Rattle.host_books.proofs.Indexing.{is_same_flow}
use Rattle.sound_hosts.specs.Hosts.{is_held_of}
use Rattle.sound_hosts.specs.Leaving.{has_flow}
use Rattle.sound_hosts.specs.Sound.{IsHostSound, IsApp, HasHolder}
use Rattle.sound_hosts.proofs.Leaving.{any_each, flow_had, held_by, socket_had, socket_slot}
use Rattle.sound_hosts.proofs.Led.{both_each}
use Rattle.sound_hosts.proofs.Numbers.{next_slot}
use Rattle.sound_hosts.proofs.OpenSockets.{and_both, standing}
use Rattle.sound_hosts.proofs.Counts.{count_map}
use Rattle.slow_rounds.proofs.Opens.{free, lowest, opened_made}
use Rattle.core_host.specs.Alone.{MayHand, IsOkOrFull}
use Rattle.core_host.specs.Asking.{IsAsked}
use Rattle.core_host.specs.Connecting.{IsSlotFree}
use Rattle.core_host.specs.Sound.{IsStaffSound}
use Rattle.core_host.specs.Views.{Staffed, seen_by}
use Rattle.core_host.proofs.Acting as acting
use Rattle.core_host.proofs.Acting.{IsKept, HasActed, after_asking, acted, apps_are, idle}
use Rattle.core_host.proofs.Lanes.{IsLaneAt}

-- ----- which answers there are
some_same : (f g : FlowId) → ◌≡◌ {A = Option FlowId} (Some f) (Some g) → f ≡ g
some_same f g e = cc (e)

none_not : (f : FlowId) → ◌≡◌ {A = Option FlowId} None (Some f) → ⊥
none_not f e = absurd (cc (e))

pub connect_only : (tuple : FourTuple) (iss : Seq) (tick : ℕ) (params : _) (a b : Application) (v : Worker) (n : Opener)
    (result : Result Socket SocketError) → IsSlotFree v a
    → IsConnectionAlone tuple iss tick params a b (record { pass = v.pass; pins = v.pins }) n result → IsOkOrFull result
connect_only tuple iss tick params a b v n (Ok s) _ is = tt
connect_only tuple iss tick params a b v n (Err errors.OutOfMemory) _ is = tt
connect_only tuple iss tick params a b v n (Err errors.NoFlowSlot) (id, next, apart) is =
    absurd (none_not id (sym is.0 ∙ next))
connect_only tuple iss tick params a b v n (Err (errors.SlotInUse x)) (id, next, apart) (
  (f, at, on, there),
  same,
  rest,
) =
    absurd (apart (subst (λ (g : FlowId). IsSocket a (socket_on g)) (some_same f id (sym at ∙ next))
    (subst (λ (s : Socket). IsSocket a s) on there)))
connect_only tuple iss tick params a b v n (Err errors.NotYet) _ is = absurd is
connect_only tuple iss tick params a b v n (Err errors.NotOpen) _ is = absurd is
connect_only tuple iss tick params a b v n (Err errors.Shut) _ is = absurd is
connect_only tuple iss tick params a b v n (Err (errors.Closed why)) _ is = absurd is
connect_only tuple iss tick params a b v n (Err (errors.Busy x)) _ is = absurd is
connect_only tuple iss tick params a b v n (Err (errors.Stale x)) _ is = absurd is
connect_only tuple iss tick params a b v n (Err (errors.Moved x y)) _ is = absurd is
connect_only tuple iss tick params a b v n (Err (errors.Early p)) _ is = absurd is
connect_only tuple iss tick params a b v n (Err (errors.PortInUse x)) _ is = absurd is
connect_only tuple iss tick params a b v n (Err errors.NoPort) _ is = absurd is

-- the flow that was opened is that of the socket
last_on : (fs : List FlowId) (id : FlowId) → (list_any (is_on id.slot) fs ≡ true → ⊥)
    → flow_on (fs ++ id ∷ []) id.slot ≡ id
last_on [] id none = ap (λ t. cond t id (flow_on [] id.slot)) (self id.slot)
  where
    self : (n : ℕ) → (n == n) ≡ true
    self n = grind (arith, nat_tests)
last_on (f ∷ fs) id none = by (f.slot == id.slot) none (λ n. last_on fs id n)
  where
    by : (t : Bool) → ((t || list_any (is_on id.slot) fs) ≡ true → ⊥)
        → ((list_any (is_on id.slot) fs ≡ true → ⊥) → flow_on (fs ++ id ∷ []) id.slot ≡ id)
        → cond t f (flow_on (fs ++ id ∷ []) id.slot) ≡ id
    by true n rest = absurd (n refl)
    by false n rest = rest n

pub opened_is : (tuple : FourTuple) (iss : Seq) (tick : ℕ) (params : _) (a b : Application) (v : Worker) (n : Opener)
    (result : Result Socket SocketError) (s : Socket) (f : FlowId) → IsSlotFree v a → result ≡ Ok s
    → IsConnectionAlone tuple iss tick params a b (opener v.pass v.pins) n result → f ≡ flow_of b s
    → IsOpenedAlone f (first_history tuple params (callers.App a.number) tick iss) a b (opener v.pass v.pins) n
opened_is tuple iss tick params a b v n result s f (g, next, apart) ok made flow =
    by (subst (IsConnectionAlone tuple iss tick params a b (opener v.pass v.pins) n) ok made)
  where
    by : IsConnectionAlone tuple iss tick params a b (opener v.pass v.pins) n (Ok s)
        → IsOpenedAlone f (first_history tuple params (callers.App a.number) tick iss) a b (opener v.pass v.pins) n
    by (id, on, opened) =
        let same : g ≡ id = some_same g id (sym next ∙ opened.next) in
        let own : f ≡ id =
        flow
        ∙ (ap (λ (x : Socket). flow_of b x) on
        ∙ (ap (λ (x : Application). flow_on x.sockets id.slot) opened.joined
        ∙ last_on a.sockets id (λ e. apart (subst (λ (h : FlowId). IsSocket a (socket_on h)) (sym same) e)))) in
        subst (λ (h : FlowId). IsOpenedAlone h (first_history tuple params (callers.App a.number) tick iss) a b
        (opener v.pass v.pins) n) (sym own) opened

-- ----- a free slot
module _ (h : CoreHost) (sound : IsHostSound h) (counted : IsCounted h) where
  next_some : (o : Option ℕ) → is_some (next_of h.slow.pass.view.marks o) ≡ is_some o
  next_some None = refl
  next_some (Some i) = refl

  pub slot_free : h.slow.pass.view.opened < 4294967295
      → is_some (next_in h.slow.pass.view.marks) ≡ is_some (lowest_free (host_of h))
  slot_free below =
      let all : h.slow.pass.view.opened ≡ length h.books = counted in
      let few : length h.books < 4294967295 = omega (arith, below, all) in
      next_some (position is_free h.slow.pass.view.marks)
      ∙ ap is_some (sym (lowest h sound few))

  pub slot_none : (h.slow.pass.view.opened < 4294967295 → ⊥) → false ≡ is_some (lowest_free (host_of h))
  slot_none above =
      let all : h.slow.pass.view.opened ≡ length h.books = counted in
      let flows : length (host_of h).flows ≡ length h.books = length-map h.books (live_in (known_in h)) in
      let many : nat_lt (length (host_of h).flows) most_flows ≡ false =
      past (length (host_of h).flows) (λ lt. above (omega (arith, lt, all, flows))) in
      sym (ap (λ t. is_some (free_where t h.slow.path.params.slots (host_of h).flows)) many)
    where
      past : (n : ℕ) → (n < 4294967295 → ⊥) → nat_lt n most_flows ≡ false
      past n not_less = by (nat_lt n most_flows) refl
        where
          by : (t : Bool) → nat_lt n most_flows ≡ t → nat_lt n most_flows ≡ false
          by false e = e
          by true e = absurd (not_less (let l : n < 4294967295 = grind (arith, nat_tests, e) in l))

-- no socket is on the slot that comes next
socket_not : (h : CoreHost) → IsHostSound h → (a : Application) → IsApp h.table h.books a → (id : FlowId)
    → next_in h.slow.pass.view.marks ≡ Some id → list_any (is_on id.slot) a.sockets ≡ true → ⊥
socket_not h sound a app id next on =
    by (any_each (has_flow a.number (flow_on a.sockets id.slot))
    (λ (c : Book). HasHolder h.apps c × (c.filed ≡ false → is_open_in h.slow.pass.view.marks c.id ≡ true)) h.books
    (flow_had h.table h.books a (flow_on a.sockets id.slot) app (socket_had id.slot a.sockets on))
    (both_each (HasHolder h.apps) (λ (c : Book). c.filed ≡ false → is_open_in h.slow.pass.view.marks c.id ≡ true)
    h.books sound.holders (standing h sound)))
  where
    by : (c : Book) × (has_flow a.number (flow_on a.sockets id.slot) c ≡ true)
        × (HasHolder h.apps c × (c.filed ≡ false → is_open_in h.slow.pass.view.marks c.id ≡ true)) → ⊥
    by (c, has, (holder, open_)) =
        let both = and_both (is_held_of a.number c) (same_flow c.id (flow_on a.sockets id.slot)) has in
        let slot : c.id.slot ≡ id.slot =
        ap (λ (f : FlowId). f.slot) (is_same_flow c.id (flow_on a.sockets id.slot) both.1)
        ∙ socket_slot id.slot a.sockets in
        let live : (mark_at h.slow.pass.view.marks c.id.slot).live ≡ true =
        (and_both (mark_at h.slow.pass.view.marks c.id.slot).live
        ((mark_at h.slow.pass.view.marks c.id.slot).generation == c.id.generation)
        (open_ (holder (held_by a.number c.holder both.0)).1)).0 in
        true≢false (sym live ∙ (ap (λ k. (mark_at h.slow.pass.view.marks k).live) slot
        ∙ (next_slot h.slow.pass.view.marks id next).dead))

pub slot_for : (h : CoreHost) → IsHostSound h → IsCounted h → (a : Application) → IsApp h.table h.books a
    → length h.books < 4294967295 → is_some (lowest_free (host_of h)) ≡ true → IsSlotFree h.slow a
slot_for h sound counted a app few free_is =
    let all : h.slow.pass.view.opened ≡ length h.books = counted in
    let below : h.slow.pass.view.opened < 4294967295 = omega (arith, few, all) in
    by (next_in h.slow.pass.view.marks) refl (slot_free h sound counted below ∙ free_is)
  where
    by : (o : Option FlowId) → next_in h.slow.pass.view.marks ≡ o → is_some o ≡ true → IsSlotFree h.slow a
    by None e some = absurd (true≢false (sym some))
    by (Some id) e some = (id, e, socket_not h sound a app id e)

-- ----- ports
pub ports_are : (h : CoreHost) → IsHostSound h → h.slow.path.params.fixed ≡ false
    → ports_given (host_of h) ≡ h.slow.path.ports
ports_are h sound free =
    count_map (live_in (known_in h)) (λ (l : Live). nat_le first_port l.flow.tuple.lport) h.books
    ∙ sym (sound.opening.ports free)

-- ----- the host
module _ (h : Staffed) (at app : ℕ) (sound : IsStaffSound h) (own : IsLaneAt h.lanes at app) (raddr rport tick : ℕ)
    (iss : Seq) (id : FlowId) (b : Application) (w : Worker) (free_ports : h.host.slow.path.params.fixed ≡ false)
    (few : length h.host.books < 4294967295)
    (joined : HasConnectedAlone id raddr rport iss tick own.lane.app b h.host.slow w) (books : List Book)
    (is : books ≡ h.host.books ++ new_book id (hosts.Application app) ∷ []) (ls : List Lane)
    (are : ls ≡ acting.next h at app sound own w books b) where
  abbrev front : List Application
  front = acting.front h at app sound own

  abbrev back : List Application
  back = acting.back h at app sound own

  named : b.number ≡ app
  named = ap (λ (x : Application). x.number) joined.opened.joined ∙ own.named

  books_are : h.host.books ++ new_book id (hosts.Application b.number) ∷ [] ≡ books
  books_are = ap (λ k. h.host.books ++ new_book id (hosts.Application k) ∷ []) named ∙ sym is

  opened : w.pass.view.opened ≡ h.host.slow.pass.view.opened + 1
  opened = ap (λ (o : Opener). o.pass.view.opened) joined.opened.kept

  counted : w.pass.view.opened ≡ length books
  counted =
      let a = opened in
      let n : length books ≡ length h.host.books + 1 =
      ap length is ∙ length-append h.host.books (new_book id (hosts.Application app) ∷ []) in
      let before : h.host.slow.pass.view.opened ≡ length h.host.books = sound.counted in
      omega (arith, a, n, before)

  kept : IsKept h.host.slow w
  kept = record {
    check_sums = ap (λ (x : Worker). x.check_sums) joined.rest;
    senders = ap (λ (x : Worker). x.senders) joined.rest;
    kickers = ap (λ (x : Worker). x.kickers) joined.rest;
    time = ap (λ (x : Worker). x.time) joined.rest;
    filed = ap (λ (x : Worker). x.filed) joined.rest;
  }

  won : joined.opened.pinned.turns ≡ []
  won = ap (λ (v : View). v.turns) joined.opened.won.3
      ∙ ap (λ (ts : List Turn). noted [] (id ∷ []) [] ts) (idle h at app sound own).1.turns

  rests : IsIdleApp h.shared b
  rests = record {
    table = ap (λ (x : Application). x.pass.table) joined.opened.joined ∙ (idle h at app sound own).1.table;
    turns = ap (λ (x : Application). x.pass.view.turns) joined.opened.joined ∙ won;
    slow = ap (λ (x : Application). x.pass.view.slow) joined.opened.joined
        ∙ (ap (λ (v : View). v.slow) joined.opened.won.3 ∙ (idle h at app sound own).1.slow);
    baton = ap (λ (x : Application). x.pass.view.baton) joined.opened.joined;
  }

  host_is : after_connecting id front b back w h.host ≡ acting.next_host h at app sound own w books b
  host_is = ap (λ (bs : List Book). record (h.host) { slow = w; apps = front ++ b ∷ back; books = bs }) books_are

  done : HasActed app h (after_asking h w books ls)
  done = acted h at app sound own w books b
      (subst IsHostSound host_is
      (connected_alone h.host front own.lane.app back b w iss raddr rport tick id sound.host
      (apps_are h at app sound own) free_ports few joined))
      counted kept named rests ls are

  abbrev tuple : FourTuple
  tuple = next_tuple h.host.slow.path raddr rport

  base : w.pass.view.base
      ≡ record {
        flow = id;
        history = first_history tuple h.host.slow.path.params (callers.App own.lane.app.number) tick iss;
      } ∷ known_in h.host
  base =
      ap (λ (o : Opener). o.pass.view.base) joined.opened.kept
      ∙ (ap (λ (v : View). v.base) joined.opened.won.3
      ∙ ap (λ (ts : List Turn). alone_or ts (record {
        flow = id;
        history = first_history tuple h.host.slow.path.params (callers.App own.lane.app.number) tick iss;
      } ∷ known_in h.host) (known_in h.host)) sound.host.alone.1)

  pub slot_is : lowest_free (seen_by h) ≡ Some id.slot
  slot_is = free h.host sound.host few id joined.opened.next

  pub connected : IsAsked app (λ (host : Host). opened_in host id.slot tuple None (hosts.Application app)
      (first_entry (callers.App app) tick (calls.Connect iss))) h (after_asking h w books ls)
  connected = record {
    made = ap (λ (bs : List Book). host_of (record (h.host) { slow = w; books = bs })) is
        ∙ (opened_made h.host sound.host few id joined.opened.next (hosts.Application app)
        (first_history tuple h.host.slow.path.params (callers.App own.lane.app.number) tick iss)
        (first_entry (callers.App own.lane.app.number) tick (calls.Connect iss)) w base refl refl
        (ap (λ (x : Worker). x.path.params) joined.rest ∙ ap (λ o. o.params) joined.path)
        (ap (λ (x : Worker). x.path.listeners) joined.rest ∙ ap (λ o. o.listeners) joined.path)
        (ap (λ (x : Worker). x.log) joined.rest)
        ∙ ap (λ k. opened_in (host_of h.host) id.slot tuple None (hosts.Application app)
        (first_entry (callers.App k) tick (calls.Connect iss))) own.named);
    sound = done.sound;
    lanes = done.lanes;
    same = done.same;
    time = done.time;
    filed = done.filed;
  }

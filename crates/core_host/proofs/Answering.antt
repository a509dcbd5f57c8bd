-- What the parts of a call on a host say of the whole: for the answers for the calls of applications.
use Rattle.std.proofs.Common.{◌≡◌, ◌<◌, ℕ, List, [], ◌∷◌, ◌++◌, set, get_or, length, refl, sym, ap, ◌∙◌, subst, false}
use Rattle.std.proofs.Common.{true, ◌+◌, ◌^◌, nat_lt, arith}
use Rattle.std.proofs.lemmas.Bool.Decides.{nat_tests}
use Rattle.std.proofs.lemmas.List.{length-map}
use Rattle.std.specs.Prelude.{Option, None, Some, position, slice_get, Result, Ok, Err, IfOk, OnOk}
use Rattle.tas_num.specs.declared.seq.Seq.{Seq}
use Rattle.tas_model.specs.declared.entry.Call.TheVariants as calls
use Rattle.tas_model.specs.declared.entry.Caller.TheVariants as callers
use Rattle.tas_model.specs.declared.entry.FlowId.{FlowId}
use Rattle.tas_model.specs.declared.entry.FourTuple.{FourTuple}
use Rattle.flow_state.specs.declared.call.Answer.{Answer}
use Rattle.flow_state.specs.declared.call.CallIn.{CallIn}
use Rattle.flow_state.specs.declared.call.CallIn.TheVariants as ins
use Rattle.flow_state.specs.Calls as calls_of
use Rattle.flow_state.specs.Calls.{call_of, offer_of}
use Rattle.flow_lock.specs.Orders.{same_flow}
use Rattle.host_books.specs.Books.{Book, IsAt, live_in}
use Rattle.host_books.specs.Deeds.{with_holder}
use Rattle.host_rounds.specs.Hosts as hosts
use Rattle.host_rounds.specs.Hosts.{Host, Holder, GivenUp, answer_of, first_entry, first_port, is_ready, lowest_free}
use Rattle.host_rounds.specs.Hosts.{opened_in}
use Rattle.host_rounds.specs.Hosts.{ports_given}
use Rattle.slow_handshake.specs.Numbers.{FirstNumbers}
use Rattle.slow_handshake.specs.Openings.{first_ready}
use Rattle.slow_rounds.specs.Rests.{starts_by}
use Rattle.slow_worker.specs.Workers.{Worker}
use Rattle.libtas_sockets.specs.Accepting.{flow_left}
use Rattle.libtas_sockets.specs.Apps.{Application, IsSocket, socket_on}
use Rattle.libtas_sockets.specs.Connecting.{next_tuple}
use Rattle.libtas_sockets.specs.declared.socket.Socket.{Socket}
use Rattle.core_phase.specs.declared.lane.AppLane.{AppLane}
use Rattle.core_phase.specs.declared.lane.Lane.{Lane}
use Rattle.core_phase.specs.declared.lane.Lane.TheVariants as lanes
use Rattle.sound_calls.specs.Connecting.{HasConnectedAlone}
use Rattle.sound_hosts.specs.Hosts.{known_in}
use Rattle.sound_hosts.specs.Opening.{new_book}
use Rattle.core_host.specs.Alone.{OnApp, OnApps, MayHand, ActsAlone, HasAsked, HasLeft, HasAccepted}
use Rattle.asked_host.specs.Asking.{IsEndCall, asked_by, left_by, accepted_by, told}
use Rattle.core_host.specs.Asking.{HasSocket, IsAsked}
use Rattle.core_host.specs.Connecting.{IsConnecting}
use Rattle.local_host.specs.declared.host.Connecting.TheVariants.{Opened}
use Rattle.core_host.specs.Sound.{IsStaffSound}
use Rattle.core_host.specs.Views.{Staffed, seen_by}
use Rattle.core_host.proofs.Acting as acting
use Rattle.core_host.proofs.Acting.{after_asking}
use Rattle.core_host.proofs.Accepted.{IsReadyBook, accepted, position_of, ready_book}
use Rattle.core_host.proofs.Calling.{app_of, asked, lane_is, lane_near, left, own_book}
use Rattle.core_host.proofs.Connected.{connected, ports_are, slot_is}
use Rattle.core_host.proofs.Lanes.{IsLaneAt, with_app, set_middle}

-- ----- clauses on answers
pub ok_on : {T E : Type 0} (r : Result T E) (P : T → Type 0) (Q : Type 0) → ((x : T) → P x → Q) → IfOk r P → OnOk r Q
ok_on (Ok x) P Q f p = f x p
ok_on (Err e) P Q f p = tt

pub no_offer : (call : CallIn) → IsEndCall call → offer_of call ≡ []
no_offer ins.Close end_ = refl
no_offer ins.Abort end_ = refl
no_offer ins.Ready end_ = absurd end_
no_offer (ins.Send bytes) end_ = absurd end_
no_offer (ins.Recv most) end_ = absurd end_
no_offer ins.Shut end_ = absurd end_
no_offer ins.Accept end_ = absurd end_
no_offer (ins.Connect iss) end_ = absurd end_
no_offer (ins.Passive frame iss seg) end_ = absurd end_
no_offer (ins.Rx frame seg) end_ = absurd end_
no_offer ins.Emit end_ = absurd end_
no_offer ins.Tick end_ = absurd end_
no_offer ins.Control end_ = absurd end_

-- ----- the lane
pub near_of : (ls : List Lane) (at app : ℕ) → IsLaneAt ls at app → at < length ls
near_of ls at app own =
    subst (λ k. k < length ls) own.long
    (subst (λ (l : List Lane). length own.front < length l) (sym own.is) (lane_near own.front own.lane own.back))

pub read_of : (ls : List Lane) (at app : ℕ) (own : IsLaneAt ls at app) (v : Lane) → v ≡ get_or ls at v
    → v ≡ lanes.App own.lane
read_of ls at app own v read =
    lane_is own.front own.lane own.back v
    (read ∙ λ i. get_or (own.is i) (sym own.long i) v)

-- with another application there
written : (ls : List Lane) (at app : ℕ) (own : IsLaneAt ls at app) (new : Lane) (b : Application)
    → new ≡ lanes.App (with_app b own.lane) → set ls at new ≡ own.front ++ lanes.App (with_app b own.lane) ∷ own.back
written ls at app own new b is =
    (λ i. set (own.is i) (sym own.long i) (is i))
    ∙ set_middle own.front (lanes.App own.lane) (lanes.App (with_app b own.lane)) own.back

-- ----- calls
-- the host after a call, with so much room
abbrev pub asked_host : Staffed → Worker → List Book → (at : ℕ) → Lane → (room : ℕ) → Staffed
asked_host h w books at new room = record (after_asking h w books (set h.lanes at new)) { room = room }

module _ (h : Staffed) (sound : IsStaffSound h) (app at : ℕ) (own : IsLaneAt h.lanes at app) (w : Worker) (v new : Lane)
    (is : v ≡ lanes.App own.lane) (room : ℕ) (same_room : room ≡ h.room) where
  abbrev HasMoved : (Application → Application → Type 0) → (Staffed → Type 0) → List Book → Type 0
  HasMoved P Q books =
      (b : Application) → P own.lane.app b → (ls : List Lane) → ls ≡ acting.next h at app sound own w books b
      → Q (after_asking h w books ls)

  moved : (P : Application → Application → Type 0) (Q : Staffed → Type 0) (books : List Book) → OnApps P v new
      → HasMoved P Q books → Q (asked_host h w books at new room)
  moved P Q books on step =
      by (app_of P own.lane new (subst (λ (l : Lane). OnApps P l new) is on))
    where
      by : (b : Application) × P own.lane.app b × (new ≡ lanes.App (with_app b own.lane))
          → Q (asked_host h w books at new room)
      by (b, p, e) =
          subst (λ r. Q (record (after_asking h w books (set h.lanes at new)) { room = r })) (sym same_room)
          (step b p (set h.lanes at new) (written h.lanes at app own new b e))

  -- an application that keeps its socket
  module _ (place tick : ℕ) (call : CallIn) (has : HasSocket app place h) (s : Socket)
      (named : (b : Book) → slice_get h.host.books place ≡ Some b → s ≡ socket_on b.id)
      (rest : w ≡ record (h.host.slow) { pass = w.pass }) where
    -- the lane's application has that socket
    pub has_socket : OnApp (λ (l : AppLane). IsSocket l.app s) v
    has_socket =
        let book = own_book h at app sound own place has in
        subst (OnApp (λ (l : AppLane). IsSocket l.app s)) (sym is)
        (subst (λ (x : Socket). IsSocket own.lane.app x) (sym (named book.0 book.1.at)) book.1.socket)

    pub asked_whole : (answer : Answer)
        → OnApps (ActsAlone (HasAsked s tick call answer) h.host.slow.pass w.pass) v new
        → IsAsked app (asked_by app place tick (call_of call) (offer_of call)) h
        (asked_host h w h.host.books at new room)
        × (told answer ≡ told (calls_of.answer_of (answer_of place (seen_by (asked_host h w h.host.books at new
        room)))))
    asked_whole answer on =
        moved (ActsAlone (HasAsked s tick call answer) h.host.slow.pass w.pass)
        (λ x. IsAsked app (asked_by app place tick (call_of call) (offer_of call)) h x
        × (told answer ≡ told (calls_of.answer_of (answer_of place (seen_by x))))) h.host.books on
        (λ b p ls are.
        let book = own_book h at app sound own place has in
        asked h at app sound own place tick call book.0 book.1 w w.pass b rest ls are answer
        (subst (λ (x : Socket). ActsAlone (HasAsked x tick call answer) h.host.slow.pass w.pass own.lane.app b)
        (named book.0 book.1.at) p))

    pub left_whole : (books : List Book) → books ≡ with_holder place (λ (x : Holder). GivenUp) h.host.books
        → offer_of call ≡ [] → OnApps (ActsAlone (HasLeft s tick call) h.host.slow.pass w.pass) v new
        → IsAsked app (left_by app place tick (call_of call)) h (asked_host h w books at new room)
    left_whole books given_up none on =
        moved (ActsAlone (HasLeft s tick call) h.host.slow.pass w.pass)
        (λ x. IsAsked app (left_by app place tick (call_of call)) h x) books on
        (λ b p ls are.
        let book = own_book h at app sound own place has in
        left h at app sound own place tick call book.0 book.1 w w.pass b rest books given_up ls are none
        (subst (λ (x : Socket). ActsAlone (HasLeft x tick call) h.host.slow.pass w.pass own.lane.app b)
        (named book.0 book.1.at) p))

  -- one that accepts
  pub accepted_whole : (port tick : ℕ) (id : FlowId) (first : first_ready h.host.slow.path port ≡ Some id) (n : ℕ)
      → IsAt n id h.host.books → w ≡ record (h.host.slow) { pass = w.pass; path = flow_left id h.host.slow.path }
      → (books : List Book) → books ≡ with_holder n (λ (x : Holder). hosts.Application app) h.host.books
      → OnApps (ActsAlone (HasAccepted id tick) h.host.slow.pass w.pass) v new
      → IsAsked app (accepted_by app n tick) h (asked_host h w books at new room)
  accepted_whole port tick id first n is_at rest books holds on =
      moved (ActsAlone (HasAccepted id tick) h.host.slow.pass w.pass)
      (λ x. IsAsked app (accepted_by app n tick) h x) books on (λ b p ls are. by b p ls are)
    where
      by : (b : Application) → ActsAlone (HasAccepted id tick) h.host.slow.pass w.pass own.lane.app b
          → (ls : List Lane) → ls ≡ acting.next h at app sound own w books b
          → IsAsked app (accepted_by app n tick) h (after_asking h w books ls)
      by b (m, (s, took), handed_) ls are =
          accepted h at app sound own port tick id first n is_at w w.pass b rest books holds ls are m s took handed_

  -- and its answer
  pub accepting_whole : (port tick : ℕ) (id : FlowId) (first : first_ready h.host.slow.path port ≡ Some id) (n : ℕ)
      → position (λ (b : Book). same_flow b.id id) h.host.books ≡ Some n
      → w ≡ record (h.host.slow) { pass = w.pass; path = flow_left id h.host.slow.path }
      → (books : List Book) → books ≡ with_holder n (λ (x : Holder). hosts.Application app) h.host.books
      → OnApps (ActsAlone (HasAccepted id tick) h.host.slow.pass w.pass) v new
      → (position (is_ready port) (seen_by h).flows ≡ Some n)
      × IsAsked app (accepted_by app n tick) h (asked_host h w books at new room)
  accepting_whole port tick id first n found rest books holds on =
      let r : IsReadyBook h.host port id = ready_book h.host port id sound.host first in
      let same : r.place ≡ n = one_place r.place n (sym (position_of r.place id h.host.books r.at) ∙ found) in (
        subst (λ k. position (is_ready port) (seen_by h).flows ≡ Some k) same r.first,
        accepted_whole port tick id first n (subst (λ k. IsAt k id h.host.books) same r.at) rest books holds on,
      )
    where
      one_place : (j k : ℕ) → ◌≡◌ {A = Option ℕ} (Some j) (Some k) → j ≡ k
      one_place j k e = cc (e)

-- ----- connects
module _ (h : Staffed) (sound : IsStaffSound h) (app at : ℕ) (own : IsLaneAt h.lanes at app) (w : Worker) (v new : Lane)
    (is : v ≡ lanes.App own.lane) (raddr rport tick : ℕ) (iss : Seq) (id : FlowId)
    (free_ports : h.host.slow.path.params.fixed ≡ false) (few : length h.host.books < 4294967295) (books : List Book)
    (opened : books ≡ h.host.books ++ new_book id (hosts.Application app) ∷ [])
    (on : OnApps (λ a b. HasConnectedAlone id raddr rport iss tick a b h.host.slow w) v new) where
  pub connected_whole : (lowest_free (seen_by h) ≡ Some id.slot)
      × IsAsked app (λ (host : Host). opened_in host id.slot (next_tuple h.host.slow.path raddr rport) None
      (hosts.Application app) (first_entry (callers.App app) tick (calls.Connect iss))) h
      (asked_host h w books at new h.room)
  connected_whole =
      by (app_of (λ a b. HasConnectedAlone id raddr rport iss tick a b h.host.slow w) own.lane new
      (subst (λ (l : Lane). OnApps (λ a b. HasConnectedAlone id raddr rport iss tick a b h.host.slow w) l new) is on))
    where
      by : (b : Application) × HasConnectedAlone id raddr rport iss tick own.lane.app b h.host.slow w
          × (new ≡ lanes.App (with_app b own.lane))
          → (lowest_free (seen_by h) ≡ Some id.slot)
          × IsAsked app (λ (host : Host). opened_in host id.slot (next_tuple h.host.slow.path raddr rport) None
          (hosts.Application app) (first_entry (callers.App app) tick (calls.Connect iss))) h
          (asked_host h w books at new h.room)
      by (b, joined, e) = (
        slot_is h at app sound own raddr rport tick iss id b w free_ports few joined books opened
            (set h.lanes at new) (written h.lanes at app own new b e),
        connected h at app sound own raddr rport tick iss id b w free_ports few joined books opened
            (set h.lanes at new) (written h.lanes at app own new b e),
      )

-- and its answer
below_port : (n : ℕ) → n < 16384 → nat_lt (49152 + n) 65536 ≡ true
below_port n below = grind (arith, nat_tests, below)

pub connecting_whole : (h : Staffed) (sound : IsStaffSound h) (app at : ℕ) (own : IsLaneAt h.lanes at app) (w : Worker)
    (v new : Lane) → v ≡ lanes.App own.lane → (ns : FirstNumbers) (raddr rport tick place : ℕ) (tuple : FourTuple)
    (id : FlowId) → h.host.slow.path.params.fixed ≡ false → length h.host.books < 4294967295
    → h.host.slow.path.ports < 16384 → place ≡ length h.host.books
    → tuple ≡ next_tuple h.host.slow.path raddr rport → (books : List Book)
    → books ≡ h.host.books ++ new_book id (hosts.Application app) ∷ []
    → OnApps (λ a b. HasConnectedAlone id raddr rport (ns tuple h.host.slow.pass.view.opened) tick a b h.host.slow w)
    v new
    → IsConnecting (starts_by ns) tick app raddr rport h (asked_host h w books at new h.room) (Opened place)
connecting_whole h sound app at own w v new is ns raddr rport tick place tuple id free_ports few ports place_is tuple_is
    books opened on =
    let whole = connected_whole h sound app at own w v new is raddr rport tick
    (ns tuple h.host.slow.pass.view.opened) id free_ports few books opened on in (
      id.slot,
      whole.0,
      below,
      place_is ∙ sym flows,
      subst (λ (s : Seq). IsAsked app (λ (host : Host). opened_in host id.slot given None (hosts.Application app)
          (first_entry (callers.App app) tick (calls.Connect s))) h (asked_host h w books at new h.room))
          (λ i. ns ((tuple_is ∙ ends) i) ((sound.counted ∙ sym flows) i))
          (subst (λ (t : FourTuple). IsAsked app (λ (host : Host). opened_in host id.slot t None (hosts.Application app)
          (first_entry (callers.App app) tick (calls.Connect (ns tuple h.host.slow.pass.view.opened)))) h
          (asked_host h w books at new h.room)) ends whole.1),
    )
  where
    flows : length (seen_by h).flows ≡ length h.host.books
    flows = length-map h.host.books (live_in (known_in h.host))

    same_ports : ports_given (seen_by h) ≡ h.host.slow.path.ports
    same_ports = ports_are h.host sound.host free_ports

    below : nat_lt (first_port + ports_given (seen_by h)) (2 ^ 16) ≡ true
    below = ap (λ n. nat_lt (49152 + n) 65536) same_ports ∙ below_port h.host.slow.path.ports ports

    given : FourTuple
    given = record {
      laddr = (seen_by h).params.addr;
      lport = first_port + ports_given (seen_by h);
      raddr = raddr;
      rport = rport;
    }

    ends : next_tuple h.host.slow.path raddr rport ≡ given
    ends = λ i. record {
      laddr = (seen_by h).params.addr;
      lport = first_port + sym same_ports i;
      raddr = raddr;
      rport = rport;
    }

-- no port is left
pub no_port : (h : Staffed) → IsStaffSound h → h.host.slow.path.params.fixed ≡ false
    → h.host.slow.path.ports ≡ 16384 → nat_lt (first_port + ports_given (seen_by h)) (2 ^ 16) ≡ false
no_port h sound free_ports all =
    ap (λ n. nat_lt (49152 + n) 65536) (ports_are h.host sound.host free_ports ∙ all)

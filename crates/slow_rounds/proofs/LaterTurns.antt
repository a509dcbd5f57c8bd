-- A later turn of a tick makes of the host what the frames that waited make of it: for the law
-- later_turns_are_rest_phases.
use Rattle.std.proofs.Common.{◌≡◌, ℕ, suc, ◌+◌, ◌<◌, ◌≤◌, true, false, List, [], ◌∷◌, ◌++◌, map, length, fold}
use Rattle.std.proofs.Common.{refl, sym, ap, ◌∙◌, subst, arith, append-nil, append_assoc, length-append}
use Rattle.std.proofs.lemmas.List.{length-map}
use Rattle.std.specs.Prelude.{Option, Some, None}
use Rattle.segment_fields.specs.declared.segment.Segment.{Segment}
use Rattle.segment_fields.specs.declared.segment.Refused.{Refused}
use Rattle.segment_fields.specs.Refusals.{number_of}
use Rattle.segment_fields.specs.Text.{refusal}
use Rattle.tas_model.specs.declared.entry.Caller.TheVariants.{Slow}
use Rattle.tas_model.specs.declared.entry.FlowId.{FlowId}
use Rattle.tas_model.specs.declared.entry.Phase.{Phase}
use Rattle.tas_model.specs.declared.entry.Phase.TheVariants as phases
use Rattle.flow_state.specs.declared.call.CallIn.TheVariants.{Rx}
use Rattle.flow_state.specs.Calls.{seg_of}
use Rattle.host_rounds.specs.declared.log.LogLine.{LogLine}
use Rattle.host_rounds.specs.declared.log.LogEvent.TheVariants as events
use Rattle.host_rounds.specs.Deliveries as runs
use Rattle.host_rounds.specs.Deliveries.{Arrival, Packet, delivered, delivered_packet, arrived}
use Rattle.host_rounds.specs.Hosts.{Live, Host, Starts, changed, is_indexed_as, next_start}
use Rattle.host_rounds.specs.Scripts.{Scripts}
use Rattle.host_rounds.proofs.Lists.{map_append}
use Rattle.core_rounds.specs.CoreTicks.{rest_phase}
use Rattle.flow_lock.specs.Answers.{next_in}
use Rattle.flow_lock.specs.declared.view.History.{History}
use Rattle.flow_lock.specs.declared.view.View.{View}
use Rattle.slow_handshake.specs.Numbers.{FirstNumbers}
use Rattle.slow_handshake.specs.Openings.{Openings}
use Rattle.slow_handshake.specs.declared.openings.SynAnswer.{SynAnswer}
use Rattle.slow_handshake.specs.declared.openings.SynAnswer.TheVariants as syn
use Rattle.core_worker.specs.Frames.{tuple_of}
use Rattle.core_worker.specs.Workers as cores
use Rattle.core_worker.specs.declared.frames.PassedFrame.{PassedFrame}
use Rattle.core_phase.specs.Words.{arrival_of, packet_by}
use Rattle.core_phase.proofs.Wording.{carries}
use Rattle.slow_worker.specs.Entering.{IsReceived, received, told, phase_of}
use Rattle.slow_worker.specs.Queues.{AreServed, IsOneServed, Standing}
use Rattle.slow_worker.specs.Serving.{IsServedBy, IsTaken, IsMet, IsOpenedIn, asked_of}
use Rattle.slow_worker.specs.Turns.{IsTurn}
use Rattle.slow_worker.specs.Workers.{Worker, Sight, Setting, sight_of, with_sight, waiting, flow_with, setting_of}
use Rattle.slow_worker.specs.declared.served.Served.{Served}
use Rattle.slow_worker.specs.declared.served.Served.TheVariants as served
use Rattle.host_books.specs.Books.{Book, live_in, IsAt, IsFirstAt}
use Rattle.sound_hosts.specs.Hosts.{CoreHost, host_of, listener_of}
use Rattle.sound_hosts.specs.Sound.{IsHostSound}
use Rattle.sound_hosts.proofs.Leaving.{apart_of}
use Rattle.sound_turns.specs.Serving.{quiet, without_frames, ids_of, syn_book, books_opened, with_opened}
use Rattle.sound_turns.proofs.Serving.{At, IsServedSound, one_served, like_sound}
use Rattle.sound_turns.proofs.Whole.{posted_like}
use Rattle.phase_orders.specs.CoreTurns.{arrivals_of, frame_in}
use Rattle.sound_hosts.specs.Counting.{IsCounted}
use Rattle.slow_rounds.specs.Rests.{starts_by, rest_of}
use Rattle.slow_rounds.proofs.FirstTurns.{same_host}
use Rattle.slow_rounds.proofs.Found.{first_changes, first_any, none_indexed, placed}
use Rattle.slow_rounds.proofs.Meeting.{met_made}
use Rattle.slow_rounds.proofs.Moves.{flows_moved}

-- what an entry tells the lists of openings changes neither the parameters nor the listeners
told_rest : (p : Phase) (id : FlowId) (o : Openings)
    → ((told p id o).params ≡ o.params) × ((told p id o).listeners ≡ o.listeners)
told_rest phases.SynSent id o = (refl, refl)
told_rest phases.SynReceived id o = (refl, refl)
told_rest phases.Closed id o = (refl, refl)
told_rest _ id o = (refl, refl)

-- ----- one frame
module _ (h : CoreHost) (v : Worker) (books : List Book) (at : Setting) (f : PassedFrame) (s m : Sight) (a : Served)
    (sound : IsHostSound (At h v books s)) (few : length books < 4294967295)
    (counted : s.pass.view.opened ≡ length books) where
  abbrev before : Host
  before = host_of (At h v books s)

  abbrev After : Served → Host
  After b = host_of (At h v (books_opened (ids_of b) books) m)

  abbrev Meets : Packet → Host
  Meets p = delivered_packet (runs.received Slow) (starts_by at.numbers) at.tick before f.frame.id p

  -- ----- a flow has its four-tuple
  module _ (seg : Segment) (id : FlowId) (led : flow_with (tuple_of seg) s.flows ≡ Some id) where
    place : (n : ℕ)
        × IsAt n id books × IsFirstAt (is_indexed_as (tuple_of seg)) n (map (live_in s.pass.view.base) books)
    place = placed s.pass.view.base (tuple_of seg) books (apart_of h.table.slots [] books sound.numbered) id
        (ap (flow_with (tuple_of seg)) (sym sound.kept.flows) ∙ led)

    abbrev taking : Live → Live
    taking = runs.received Slow at.tick f.frame.id (seg_of seg)

    entered : IsReceived at f.frame.id seg id s m
        → m ≡ record s { path = m.path; pass = m.pass; senders = m.senders; kicks = m.kicks }
        → After (served.Entered id) ≡ Meets (runs.Segment (tuple_of seg) (seg_of seg))
    entered got rest =
        ap (λ (bs : List Book). host_of (At h v bs m)) (append-nil books)
        ∙ (same_host (host_of (At h v books m)) (changed before (tuple_of seg) taking)
        (ap (λ (o : Openings). o.params) got.path ∙ (told_rest (phase_of k) id s.path).0)
        (ap (λ (o : Openings). map listener_of o.listeners) got.path
        ∙ ap (map listener_of) (told_rest (phase_of k) id s.path).1)
        (ap (λ (x : Sight). x.log) rest)
        (flows_moved place.0 id Slow at.tick (Rx f.frame.id seg) s.pass.view m.pass.view got.flow books sound.alone
        place.1 got.own got.given
        ∙ sym (first_changes (is_indexed_as (tuple_of seg)) taking place.0 before.flows place.2))
        ∙ ap (λ c. arrived c taking (next_start (starts_by at.numbers) before (tuple_of seg)) at.tick before
        f.frame.id (tuple_of seg) (seg_of seg))
        (sym (first_any (is_indexed_as (tuple_of seg)) place.0 before.flows place.2)))
      where
        k : History
        k = received at.tick f.frame.id seg got.flow

  -- ----- a segment
  taken : (seg : Segment) (o : Option FlowId) → flow_with (tuple_of seg) s.flows ≡ o → (b : Served) → a ≡ b
      → IsTaken o at f.frame.id seg s m b → After b ≡ Meets (runs.Segment (tuple_of seg) (seg_of seg))
  taken seg (Some id) led (served.Entered g) e is =
      entered seg id led is.entered.1 is.after
  taken seg (Some id) led (served.Busy x) e is = absurd (is.entered.0.1 sound.alone)
  taken seg (Some id) led (served.Opened g) e is = absurd is.entered
  taken seg (Some id) led (served.Dropped c) e is = absurd is.entered
  taken seg (Some id) led (served.Refused n) e is = absurd is.entered
  taken seg (Some id) led served.Stray e is = absurd is.entered
  taken seg None led b e is =
      met_made h v books at f.frame.id seg s m b sound few counted is
      ∙ ap (λ c. arrived c (runs.received Slow at.tick f.frame.id (seg_of seg))
      (next_start (starts_by at.numbers) before (tuple_of seg)) at.tick before f.frame.id (tuple_of seg) (seg_of seg))
      (sym (none_indexed s.pass.view.base (tuple_of seg) books (apart_of h.table.slots [] books sound.numbered)
      (ap (flow_with (tuple_of seg)) (sym sound.kept.flows) ∙ led)))

  -- ----- a frame
  by_reading : (o : Option Refused) → refusal at.check_sums f.frame.packet ≡ o
      → IsServedBy o at f.frame.id f.frame.packet s m a
      → After a ≡ Meets (packet_by (refusal at.check_sums f.frame.packet) f.frame.packet)
  by_reading (Some r) e (is, line) =
      (λ i. host_of (At h v (books_opened (ap ids_of is i) books) (line i)))
      ∙ (ap (λ (bs : List Book). record (host_of (At h v bs s)) {
        log = s.log ++ record { tick = at.tick; event = events.Refused f.frame.id (number_of r) } ∷ [];
      }) (append-nil books)
      ∙ ap (λ o. Meets (packet_by o f.frame.packet)) (sym e))
  by_reading None e (seg, text, is) =
      taken seg (flow_with (tuple_of seg) s.flows) refl a refl is
      ∙ ap Meets (sym (carries f.frame seg at.check_sums e text))

  pub one_made : IsOneServed at f s m a
      → After a
      ≡ delivered (runs.received Slow) (starts_by at.numbers) at.tick before (arrival_of at.check_sums f.frame)
  one_made is = by_reading (refusal at.check_sums f.frame.packet) refl is

  -- ----- what is counted
  same_count : (b : Served) → a ≡ b → ids_of b ≡ [] → m.pass.view.opened ≡ s.pass.view.opened
      → m.pass.view.opened ≡ length (books_opened (ids_of a) books)
  same_count b is none same =
      same
      ∙ (counted
      ∙ sym ((λ i. length (books_opened ((ap ids_of is ∙ none) i) books))
      ∙ ap (λ (l : List Book). length l) (append-nil books)))

  abbrev Count : Type 0
  Count = m.pass.view.opened ≡ length (books_opened (ids_of a) books)

  lined_count : (b : Served) → a ≡ b → ids_of b ≡ [] → (log : List LogLine) → m ≡ record s { log = log } → Count
  lined_count b is none log line = same_count b is none (ap (λ (x : Sight). x.pass.view.opened) line)

  opened_count : (seg : Segment) (o : Option FlowId) → IsOpenedIn o at.numbers at.tick f.frame.id seg s m a → Count
  opened_count seg None (is, line) = lined_count (served.Dropped false) is refl _ line
  opened_count seg (Some id) (is, opened) =
      ap (λ (x : Sight). x.pass.view.opened) opened.after
      ∙ (ap (λ n. n + 1) counted
      ∙ (sym (length-append books (syn_book id ∷ []))
      ∙ sym (λ i. length (books_opened (ap ids_of is i) books))))

  met_count : (seg : Segment) (o : Option SynAnswer) → IsMet o at.numbers at.tick f.frame.id seg s m a → Count
  met_count seg (Some syn.Opens) is = opened_count seg (next_in s.pass.view.marks) is
  met_count seg (Some (syn.BacklogFull n)) (is, line) = lined_count (served.Dropped true) is refl _ line
  met_count seg (Some syn.NoListener) (is, line) = lined_count served.Stray is refl _ line
  met_count seg None (is, line) = lined_count served.Stray is refl _ line

  taken_count : (seg : Segment) (o : Option FlowId) (b : Served) → a ≡ b → IsTaken o at f.frame.id seg s m b → Count
  taken_count seg (Some id) (served.Entered g) e is =
      same_count (served.Entered g) e refl (ap (λ (x : View). x.opened) is.entered.1.given.3)
  taken_count seg (Some id) (served.Busy x) e is = absurd (is.entered.0.1 sound.alone)
  taken_count seg (Some id) (served.Opened g) e is = absurd is.entered
  taken_count seg (Some id) (served.Dropped c) e is = absurd is.entered
  taken_count seg (Some id) (served.Refused n) e is = absurd is.entered
  taken_count seg (Some id) served.Stray e is = absurd is.entered
  taken_count seg None b e is =
      met_count seg (asked_of s.path seg) (subst (IsTaken None at f.frame.id seg s m) (sym e) is)

  read_count : (o : Option Refused) → IsServedBy o at f.frame.id f.frame.packet s m a → Count
  read_count (Some r) (is, line) = lined_count (served.Refused (number_of r)) is refl _ line
  read_count None (seg, text, is) = taken_count seg (flow_with (tuple_of seg) s.flows) a refl is

  pub one_counted : IsOneServed at f s m a → Count
  one_counted is = read_count (refusal at.check_sums f.frame.packet) is

-- ----- all frames
module _ (h : CoreHost) (v : Worker) (at : Setting) where
  abbrev Comes : Host → Arrival → Host
  Comes = delivered (runs.received Slow) (starts_by at.numbers) at.tick

  record AreMade (books : List Book) (s n : Sight) (fs kept : List PassedFrame) : Type 0 where
    pub ids : List FlowId
    pub few : length ids ≤ length fs
    pub none : kept ≡ []
    pub sound : IsHostSound (At h v (books_opened ids books) n)
    pub counted : n.pass.view.opened ≡ length (books_opened ids books)
    pub made : host_of (At h v (books_opened ids books) n)
        ≡ fold Comes (host_of (At h v books s)) (arrivals_of at.check_sums (map frame_in fs))

  all_made : (fs : List PassedFrame) (books : List Book) (s n : Sight) (kept : List PassedFrame)
      → IsHostSound (At h v books s) → length books + length fs < 4294967295
      → s.pass.view.opened ≡ length books → AreServed at fs s n kept → AreMade books s n fs kept
  all_made [] books s n kept sound few counted (same, none) = record {
    ids = [];
    few = omega arith;
    none = none;
    sound = subst (λ (x : Sight). IsHostSound (At h v (books ++ []) x)) (sym same)
        (subst (λ (bs : List Book). IsHostSound (At h v bs s)) (sym (append-nil books)) sound);
    counted = ap (λ (x : Sight). x.pass.view.opened) same
        ∙ (counted ∙ ap (λ (bs : List Book). length bs) (sym (append-nil books)));
    made = λ i. host_of (At h v (append-nil books i) (same i));
  }
  all_made (f ∷ fs) books s n kept sound few counted (m, a, more, one, rest, e) =
      joined (all_made fs (books_opened (ids_of a) books) m n more
      (subst (λ ids. IsHostSound (At h v (books_opened ids books) m)) first.named first.sound) fewer
      (one_counted h v books at f s m a sound near counted one) rest)
    where
      near : length books < 4294967295
      near = let l : length books + suc (length fs) < 4294967295 = few in omega (arith, l)

      first : IsServedSound h v books m a f
      first = one_served h v books at f s m a sound near one

      one_at_most : length (ids_of a) ≤ 1
      one_at_most = subst (λ (ids : List FlowId). length ids ≤ 1) first.named first.few

      fewer : length (books_opened (ids_of a) books) + length fs < 4294967295
      fewer =
          let l : length books + suc (length fs) < 4294967295 = few in
          let x : length (books ++ map syn_book (ids_of a)) ≡ length books + length (map syn_book (ids_of a)) =
          length-append books (map syn_book (ids_of a)) in
          let y : length (map syn_book (ids_of a)) ≡ length (ids_of a) = length-map (ids_of a) syn_book in
          let z : length (ids_of a) ≤ 1 = one_at_most in
          omega (arith, l, x, y, z)

      joined : AreMade (books_opened (ids_of a) books) m n fs more → AreMade books s n (f ∷ fs) kept
      joined q = record {
        ids = ids_of a ++ q.ids;
        few =
            let x : length (ids_of a ++ q.ids) ≡ length (ids_of a) + length q.ids = length-append (ids_of a) q.ids in
            let y : length (ids_of a) ≤ 1 = one_at_most in
            let z : length q.ids ≤ length fs = q.few in
            omega (arith, x, y, z);
        none = e ∙ (λ i. first.kept i ++ q.none i);
        sound = subst (λ (bs : List Book). IsHostSound (At h v bs n)) all q.sound;
        counted = q.counted ∙ ap (λ (bs : List Book). length bs) all;
        made = ap (λ (bs : List Book). host_of (At h v bs n)) (sym all)
            ∙ (q.made
            ∙ ap (λ x. fold Comes x (arrivals_of at.check_sums (map frame_in fs)))
            (one_made h v books at f s m a sound near counted one));
      }
        where
          all : books_opened q.ids (books_opened (ids_of a) books) ≡ books_opened (ids_of a ++ q.ids) books
          all = append_assoc books (map syn_book (ids_of a)) (map syn_book q.ids)
              ∙ ap (λ l. books ++ l) (sym (map_append syn_book (ids_of a) q.ids))

-- ----- the whole turn
pub later_made : {S A : Type 0} (scripts : Scripts S A) (h : CoreHost) (ns : FirstNumbers) (c : cores.Common) (tick : ℕ)
    (w : Worker) → scripts.starts ≡ starts_by ns → IsHostSound (without_frames h) → IsCounted h
    → length h.books + length (waiting h.slow) < 4294967295 → IsTurn true ns c tick h.slow w
    → (ids : List FlowId) × (length ids ≤ length (waiting h.slow))
    × IsHostSound (with_opened ids w h) × IsCounted (with_opened ids w h)
    × (host_of (with_opened ids w h) ≡ rest_phase scripts tick (host_of h) (rest_of h.slow))
later_made scripts h ns c tick w given sound counted few (m, all, posted) = (
  q.ids,
  q.few,
  like_sound (with_opened q.ids m h) m w served_sound (posted_like c m w posted)
      (ap waiting posted.rest ∙ served_sound.waiting),
  ap (λ (x : Worker). x.pass.view.opened) posted.rest ∙ q.counted,
  ap (λ (x : Worker). host_of (with_opened q.ids x h)) posted.rest
      ∙ (q.made
      ∙ ap (λ (k : Starts). fold (delivered (runs.received Slow) k tick) (host_of h) (rest_of h.slow)) (sym given)),
)
  where
    q : AreMade h (quiet h.slow) (setting_of ns c tick h.slow) h.books (sight_of h.slow) (sight_of m) (waiting h.slow)
        m.deferred.list
    q = all_made h (quiet h.slow) (setting_of ns c tick h.slow) (waiting h.slow) h.books (sight_of h.slow) (sight_of m)
        m.deferred.list sound few counted all.served

    served_sound : IsHostSound (with_opened q.ids m h)
    served_sound = like_sound (with_opened q.ids m h) (with_sight (sight_of m) (quiet h.slow)) m q.sound
        (λ i. record m { filed = (ap (λ (x : Standing). x.filed) all.same) i })
        (λ i. all.none i ++ q.none i)

-- A segment that comes to no flow, at the slow path and in a run: for the law later_turns_are_rest_phases.
use Rattle.std.proofs.Common.{◌≡◌, ℕ, ◌+◌, ◌<◌, ◌==◌, ◌&&◌, ◌||◌, not, Bool, true, false, List, [], ◌∷◌}
use Rattle.std.proofs.Common.{length, refl, sym, ap, ◌∙◌, subst, filter}
use Rattle.std.proofs.Common.{if◌then◌else◌, append-nil}
use Rattle.std.specs.Prelude.{Option, Some, None, nat_lt, position, min}
use Rattle.std.proofs.lemmas.List.{length-map}
use Rattle.segment_fields.specs.declared.segment.Segment.{Segment}
use Rattle.tas_model.specs.declared.entry.Call.TheVariants as calls
use Rattle.tas_model.specs.declared.entry.Caller.TheVariants.{Slow}
use Rattle.tas_model.specs.declared.entry.Entry.{Entry}
use Rattle.tas_model.specs.declared.entry.FlowId.{FlowId}
use Rattle.tas_model.specs.declared.entry.FrameId.{FrameId}
use Rattle.tas_model.specs.declared.entry.Seg.{Seg}
use Rattle.tas_model.specs.declared.entry.Reply.{Reply}
use Rattle.tas_model.specs.declared.entry.Reply.TheVariants as replies
use Rattle.tas_model.specs.Segments.{stray_reply}
use Rattle.flow_state.specs.Calls.{seg_of}
use Rattle.host_rounds.specs.declared.log.LogEvent.{LogEvent}
use Rattle.host_rounds.specs.declared.log.LogEvent.TheVariants as events
use Rattle.host_rounds.specs.Hosts as hosts
use Rattle.host_rounds.specs.Hosts.{Host, Waiting, logged, is_full, lowest_free}
use Rattle.host_rounds.specs.declared.opening.Start.{Start}
use Rattle.host_rounds.specs.Hosts.{next_start, opened_in, first_entry}
use Rattle.host_rounds.specs.Deliveries as runs
use Rattle.host_rounds.specs.Deliveries.{opens, met_no_flow, opened_by_syn, answer_in}
use Rattle.flow_lock.specs.Answers.{next_in, next_of, is_free}
use Rattle.flow_lock.specs.Steps.{alone_or, mark_at}
use Rattle.flow_lock.specs.declared.view.History.{History}
use Rattle.flow_lock.specs.declared.view.Turn.{Turn}
use Rattle.slow_handshake.specs.Openings.{is_taken, backlog_of, is_at, told}
use Rattle.slow_handshake.specs.Strays as strays
use Rattle.slow_handshake.specs.declared.openings.PassiveFlow.{PassiveFlow}
use Rattle.slow_handshake.specs.declared.openings.SynAnswer.{SynAnswer}
use Rattle.slow_handshake.specs.declared.openings.SynAnswer.TheVariants as syn
use Rattle.core_worker.specs.Frames.{tuple_of}
use Rattle.slow_worker.specs.Opening.{IsOpened, first_history}
use Rattle.slow_worker.specs.Serving.{IsMet, IsOpenedIn, asked_of, is_listening, stray_event, with_line}
use Rattle.slow_worker.specs.Workers.{Worker, Sight, Setting, with_sight}
use Rattle.slow_worker.specs.declared.served.Served.{Served}
use Rattle.slow_worker.specs.declared.served.Served.TheVariants as served
use Rattle.host_books.specs.Books.{Book, live_in}
use Rattle.sound_hosts.specs.Hosts.{CoreHost, host_of, listener_of}
use Rattle.sound_hosts.specs.Sound.{IsHostSound}
use Rattle.sound_turns.specs.Serving.{ids_of, books_opened}
use Rattle.sound_turns.proofs.Lists.{any_map}
use Rattle.sound_turns.proofs.Serving.{At}
use Rattle.slow_rounds.specs.Rests.{starts_by}
use Rattle.slow_rounds.proofs.Opens as openings
use Rattle.slow_rounds.proofs.Slots.{waits_count}

-- ----- what is answered to a stray
heads_alike : (r : Reply) → strays.sent_head r ≡ answer_in r
heads_alike (replies.Sent s) = refl
heads_alike _ = refl

pub answers_alike : (listening : Bool) (seg : Seg) → strays.stray_answer seg listening ≡ runs.stray_answer listening seg
answers_alike true seg = heads_alike (strays.listener_reply seg)
answers_alike false seg = heads_alike (stray_reply seg)

-- ----- a host, and its slow path's sight
module _ (h : CoreHost) (v : Worker) (books : List Book) (at : Setting) (frame : FrameId) (seg : Segment) (s m : Sight)
    (a : Served) (sound : IsHostSound (At h v books s)) (few : length books < 4294967295)
    (counted : s.pass.view.opened ≡ length books) where
  abbrev before : Host
  before = host_of (At h v books s)

  abbrev after : Host
  after = host_of (At h v (books_opened (ids_of a) books) m)

  abbrev port : ℕ
  port = seg.dport

  abbrev start : Start
  start = next_start (starts_by at.numbers) before (tuple_of seg)

  listening : hosts.is_listening before port ≡ is_listening s.path port
  listening =
      ap (λ x. s.path.params.fixed || x)
      (any_map listener_of (λ (l : hosts.Listener). l.port == port) s.path.listeners)

  full : is_full before port ≡ (not s.path.params.fixed && not (nat_lt (backlog_of s.path port) s.path.params.backlog))
  full =
      ap (λ n. not s.path.params.fixed && not (nat_lt n s.path.params.backlog))
      (waits_count s.pass.view.base port books
      ∙ ap (λ (l : List PassiveFlow). length (filter (is_at port) l)) (sym sound.opening.flows))

  -- a line was written, and nothing else
  lined : (event : LogEvent) (b : Served) → a ≡ b → ids_of b ≡ [] → m ≡ with_line at.tick event s
      → after ≡ logged before at.tick event
  lined event b is none line =
      (λ i. host_of (At h v (books_opened ((ap ids_of is ∙ none) i) books) (line i)))
      ∙ ap (λ (bs : List Book). host_of (At h v bs (with_line at.tick event s))) (append-nil books)

  stray : (a ≡ served.Stray) × (m ≡ with_line at.tick (stray_event s.path frame seg) s) → (l : Bool)
      → hosts.is_listening before port ≡ l
      → after
      ≡ logged before at.tick (events.Stray frame (tuple_of seg) (seg_of seg) (runs.stray_answer l (seg_of seg)))
  stray (is, line) l e =
      lined (stray_event s.path frame seg) served.Stray is refl line
      ∙ ap (λ o. logged before at.tick (events.Stray frame (tuple_of seg) (seg_of seg) o))
      (ap (strays.stray_answer (seg_of seg)) (sym listening ∙ e) ∙ answers_alike l (seg_of seg))

  lowest : lowest_free before ≡ position is_free s.pass.view.marks
  lowest = openings.lowest (At h v books s) sound few

  -- ----- a flow that is opened
  module _ (id : FlowId) (next : next_in s.pass.view.marks ≡ Some id) (is : a ≡ served.Opened id)
      (opened : IsOpened at.tick (at.numbers (tuple_of seg) s.pass.view.opened) frame seg id s m) where
    abbrev history : History
    history = first_history at.tick (at.numbers (tuple_of seg) s.pass.view.opened) frame seg s.path

    base : m.pass.view.base ≡ record { flow = id; history = history } ∷ s.pass.view.base
    base = ap (λ (x : Sight). x.pass.view.base) opened.after
        ∙ ap (λ (ts : List Turn). alone_or ts (record { flow = id; history = history } ∷ s.pass.view.base)
        s.pass.view.base) sound.alone.1

    count : s.pass.view.opened ≡ length before.flows
    count = counted ∙ sym (length-map books (live_in s.pass.view.base))

    abbrev begins : ℕ → Entry
    begins n = first_entry Slow at.tick (calls.Passive frame (at.numbers (tuple_of seg) n) (seg_of seg))

    opened_made : after
        ≡ opened_in before id.slot (tuple_of seg) start.scale Waiting
        (first_entry Slow at.tick (calls.Passive frame start.number (seg_of seg)))
    opened_made =
        (λ i. host_of (At h v (books_opened (ap ids_of is i) books) m))
        ∙ (openings.opened_made (At h v books s) sound few id next Waiting history (begins s.pass.view.opened)
        (with_sight m v) base refl refl
        (ap (λ (x : Sight). x.path.params) opened.after)
        (ap (λ (x : Sight). x.path.listeners) opened.after)
        (ap (λ (x : Sight). x.log) opened.after)
        ∙ ap (λ n. opened_in before id.slot (tuple_of seg) None Waiting (begins n)) count)

  abbrev By : Bool → Bool → Host
  By opening l = met_no_flow opening l start at.tick before frame (tuple_of seg) (seg_of seg)

  abbrev ByOpening : Bool → Host
  ByOpening f = opened_by_syn f (lowest_free before) start at.tick before frame (tuple_of seg) (seg_of seg)

  opening : IsOpenedIn (next_in s.pass.view.marks) at.numbers at.tick frame seg s m a → after ≡ ByOpening false
  opening is = by (position is_free s.pass.view.marks) refl
    where
      WithFree : Option ℕ → Host
      WithFree o = opened_by_syn false o start at.tick before frame (tuple_of seg) (seg_of seg)

      by : (o : Option ℕ) → position is_free s.pass.view.marks ≡ o → after ≡ ByOpening false
      by None e =
          let none : IsOpenedIn None at.numbers at.tick frame seg s m a =
          subst (λ o. IsOpenedIn (next_of s.pass.view.marks o) at.numbers at.tick frame seg s m a) e is in
          lined (events.Dropped frame false) (served.Dropped false) none.0 refl none.1
          ∙ ap WithFree (sym (lowest ∙ e))
      by (Some i) e =
          let next : next_in s.pass.view.marks ≡ next_of s.pass.view.marks (Some i) =
          ap (next_of s.pass.view.marks) e in
          let one = subst (λ o. IsOpenedIn o at.numbers at.tick frame seg s m a) next is in
          opened_made (record { slot = i; generation = min ((mark_at s.pass.view.marks i).generation + 1) 4294967295 })
          next one.0 one.1
          ∙ ap WithFree (sym (lowest ∙ e))

  -- ----- whatever it is
  abbrev asked_by : (o f t l : Bool) → Option SynAnswer
  asked_by o f t l =
      if o then Some (if f then syn.Opens else if not t then syn.NoListener else if l then syn.Opens
      else syn.BacklogFull (told (backlog_of s.path port))) else None

  and_false : (x : Bool) → (x && false) ≡ false
  and_false true = refl
  and_false false = refl

  pub met_made : IsMet (asked_of s.path seg) at.numbers at.tick frame seg s m a
      → after ≡ By (hosts.is_listening before port && opens (seg_of seg)) (hosts.is_listening before port)
  met_made is = by (opens (seg_of seg)) refl s.path.params.fixed refl (is_taken s.path port) refl
      (nat_lt (backlog_of s.path port) s.path.params.backlog) refl
    where
      Met : Option SynAnswer → Type 0
      Met o = IsMet o at.numbers at.tick frame seg s m a

      Goal : Type 0
      Goal = after ≡ By (hosts.is_listening before port && opens (seg_of seg)) (hosts.is_listening before port)

      -- what is listened to, by what was found
      heard : (f t : Bool) → s.path.params.fixed ≡ f → is_taken s.path port ≡ t
          → hosts.is_listening before port ≡ (f || t)
      heard f t x y = listening ∙ (λ i. x i || y i)

      by : (o : Bool) → opens (seg_of seg) ≡ o → (f : Bool) → s.path.params.fixed ≡ f → (t : Bool)
          → is_taken s.path port ≡ t → (l : Bool) → nat_lt (backlog_of s.path port) s.path.params.backlog ≡ l → Goal
      by o eo f ef t et l el = so o f t l eo ef et el (subst Met (λ i. asked_by (eo i) (ef i) (et i) (el i)) is)
        where
          so : (o f t l : Bool) → opens (seg_of seg) ≡ o → s.path.params.fixed ≡ f → is_taken s.path port ≡ t
              → nat_lt (backlog_of s.path port) s.path.params.backlog ≡ l → Met (asked_by o f t l) → Goal
          so false f t l eo ef et el got =
              stray got (f || t) (heard f t ef et)
              ∙ sym ((λ i. By (heard f t ef et i && eo i) (heard f t ef et i))
              ∙ ap (λ c. By c (f || t)) (and_false (f || t)))
          so true true t l eo ef et el got =
              opening got
              ∙ (sym (ap ByOpening
              (full ∙ ap (λ c. not c && not (nat_lt (backlog_of s.path port) s.path.params.backlog)) ef))
              ∙ sym (λ i. By (heard true t ef et i && eo i) (heard true t ef et i)))
          so true false false l eo ef et el got =
              stray got false (heard false false ef et)
              ∙ sym (λ i. By (heard false false ef et i && eo i) (heard false false ef et i))
          so true false true true eo ef et el got =
              opening got
              ∙ (sym (ap ByOpening (full ∙ (λ i. not (ef i) && not (el i))))
              ∙ sym (λ i. By (heard false true ef et i && eo i) (heard false true ef et i)))
          so true false true false eo ef et el got =
              lined (events.Dropped frame true) (served.Dropped true) got.0 refl got.1
              ∙ (sym (ap ByOpening (full ∙ (λ i. not (ef i) && not (el i))))
              ∙ sym (λ i. By (heard false true ef et i && eo i) (heard false true ef et i)))

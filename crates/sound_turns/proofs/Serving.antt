-- The frames that wait at the slow path are served, one after the other: for the laws frames_keep_it and turns_keep_it.
use Rattle.std.proofs.Common.{◌≡◌, ℕ, suc, ◌+◌, ◌<◌, ◌≤◌, Bool, true, false, List, [], ◌∷◌, ◌++◌, map, length, refl}
use Rattle.std.proofs.Common.{sym}
use Rattle.std.proofs.Common.{ap, ◌∙◌, subst, arith, append-nil, append_assoc, length-append, if◌then◌else◌}
use Rattle.std.proofs.lemmas.List.{length-map}
use Rattle.std.specs.Prelude.{Option, Some, None}
use Rattle.tas_num.specs.declared.seq.Seq.{Seq}
use Rattle.segment_fields.specs.declared.segment.Segment.{Segment}
use Rattle.segment_fields.specs.declared.segment.Refused.{Refused}
use Rattle.segment_fields.specs.Refusals.{number_of}
use Rattle.segment_fields.specs.Text.{refusal}
use Rattle.tas_model.specs.declared.entry.FlowId.{FlowId}
use Rattle.tas_model.specs.Valid.{InRange}
use Rattle.flow_state.specs.Calls.{seg_of}
use Rattle.host_rounds.specs.Deliveries.{opens}
use Rattle.host_rounds.specs.declared.log.LogLine.{LogLine}
use Rattle.host_rounds.proofs.Lists.{map_append}
use Rattle.flow_lock.specs.Answers.{next_in}
use Rattle.slow_handshake.specs.Numbers.{FirstNumbers}
use Rattle.slow_handshake.specs.Openings.{Openings, syn_answer}
use Rattle.slow_handshake.specs.declared.openings.SynAnswer.{SynAnswer}
use Rattle.slow_handshake.specs.declared.openings.SynAnswer.TheVariants as syn
use Rattle.core_worker.specs.Frames.{tuple_of}
use Rattle.core_worker.specs.Workers as cores
use Rattle.core_worker.specs.declared.frames.PassedFrame.{PassedFrame}
use Rattle.slow_worker.specs.Entering.{IsEntered, received}
use Rattle.slow_worker.specs.Opening.{first_history}
use Rattle.slow_worker.specs.Queues.{AreServed, IsOneServed, IsAllServed, IsCollected, kept_of, Standing}
use Rattle.slow_worker.specs.Serving.{IsServedBy, IsTaken, IsMet, IsOpenedIn, asked_of}
use Rattle.slow_worker.specs.Workers.{AreKept, Worker, Sight, Setting, IsSound, sight_of, with_sight, waiting}
use Rattle.slow_worker.specs.Workers.{flow_with, setting_of}
use Rattle.slow_worker.specs.declared.served.Served.{Served}
use Rattle.slow_worker.specs.declared.served.Served.TheVariants as served
use Rattle.slow_worker.proofs.Keeping.{kept_used, opened_kept}
use Rattle.host_books.specs.Books.{Book}
use Rattle.sound_hosts.specs.Hosts.{CoreHost}
use Rattle.sound_hosts.specs.Moving.{with_slow}
use Rattle.sound_hosts.specs.Sound.{IsHostSound}
use Rattle.sound_hosts.proofs.Frames.{frame_sound}
use Rattle.sound_hosts.proofs.Numbers.{next_slot}
use Rattle.sound_hosts.proofs.OpenedHosts.{opened_sound}
use Rattle.sound_hosts.proofs.Told.{told_params}
use Rattle.sound_turns.specs.Serving.{quiet, without_frames, syn_book, ids_of, books_opened, with_opened, IsLike}

-- ----- a worker that is the same but for what soundness doesn't read
pub like_sound : (h : CoreHost) (v w : Worker) → IsHostSound (with_slow v h) → IsLike v w → waiting w ≡ []
    → IsHostSound (with_slow w h)
like_sound h v w sound like none =
    subst (λ (x : Worker). IsHostSound (with_slow x h)) (sym like) (record {
      alone = sound.alone;
      slow_pass = sound.slow_pass;
      waiting = none;
      sound = sound.sound;
      slots = sound.slots;
      wide = sound.wide;
      numbered = sound.numbered;
      plain = sound.plain;
      indexed = sound.indexed;
      table = sound.table;
      kept = record {
        flows = sound.kept.flows;
        pins = sound.kept.pins;
        doomed = sound.kept.doomed;
        filed = sound.kept.filed;
      };
      opening = sound.opening;
      shown = sound.shown;
      apps = sound.apps;
      numbers = sound.numbers;
      holders = sound.holders;
    })

-- ----- one frame
-- the host with this sight of its slow path, and these flows opened
abbrev pub At : CoreHost → Worker → List Book → Sight → CoreHost
At h v books s = record h { slow = with_sight s v; books = books }

-- what a frame leaves: no flow more, or one
pub record IsServedSound (h : CoreHost) (v : Worker) (books : List Book) (m : Sight) (a : Served)
    (f : PassedFrame) : Type 0 where
  pub ids : List FlowId
  pub few : length ids ≤ 1
  pub named : ids ≡ ids_of a
  pub kept : kept_of f a ≡ []
  pub sound : IsHostSound (At h v (books_opened ids books) m)

module _ (h : CoreHost) (v : Worker) (books : List Book) (at : Setting) (f : PassedFrame) (s m : Sight) (a : Served)
    (sound : IsHostSound (At h v books s)) (few : length books < 4294967295) where
  abbrev Done : Type 0
  Done = IsServedSound h v books m a f

  -- the frame waits no more, and opened no flow
  abbrev IsPast : Type 0
  IsPast = (kept_of f a ≡ []) × (ids_of a ≡ [])

  none_more : IsPast → IsHostSound (At h v books m) → Done
  none_more past done = record {
    ids = [];
    few = omega arith;
    named = sym past.1;
    kept = past.0;
    sound = subst (λ (bs : List Book). IsHostSound (At h v bs m)) (sym (append-nil books)) done;
  }

  -- a line was written, and nothing else
  lined : (log : List LogLine) → m ≡ record s { log = log } → IsHostSound (At h v books m)
  lined log e =
      subst (λ (x : Sight). IsHostSound (At h v books x)) (sym e)
      (like_sound (At h v books s) (with_sight s v) (with_sight (record s { log = log }) v) sound refl sound.waiting)

  answered : (b : Served) → a ≡ b → (kept_of f b ≡ []) × (ids_of b ≡ []) → IsPast
  answered b e k = (ap (kept_of f) e ∙ k.0, ap ids_of e ∙ k.1)

  -- the first number of a flow that the segment opens
  abbrev iss : Segment → Seq
  iss seg = at.numbers (tuple_of seg) s.pass.view.opened

  met : (seg : Segment) → flow_with (tuple_of seg) s.flows ≡ None → (o : Option SynAnswer) → asked_of s.path seg ≡ o
      → IsMet o at.numbers at.tick f.frame.id seg s m a → Done
  met seg apart (Some syn.Opens) asked is = by (next_in s.pass.view.marks) refl is
    where
      answer : (b : Bool) → (if b then Some (syn_answer s.path seg.dport) else None) ≡ Some syn.Opens
          → syn_answer s.path seg.dport ≡ syn.Opens
      answer true e = cc (e)
      answer false e = absurd (cc (e))

      by : (o : Option FlowId) → next_in s.pass.view.marks ≡ o
          → IsOpenedIn o at.numbers at.tick f.frame.id seg s m a → Done
      by None e (is, line) = none_more (answered (served.Dropped false) is (refl, refl)) (lined _ line)
      by (Some id) e (is, opened) = record {
        ids = id ∷ [];
        few = omega arith;
        named = sym (ap ids_of is);
        kept = ap (kept_of f) is;
        sound = opened_sound (At h v books s) (with_sight m v) at.tick (iss seg) f.frame.id seg id sound e apart few
            (answer (opens (seg_of seg)) asked) opened refl still;
      }
        where
          near : id.slot < h.table.slots
          near =
              let slot = next_slot s.pass.view.marks id e in
              let low : id.slot < length s.pass.view.marks = slot.within in
              let wide : length s.pass.view.marks ≡ h.table.slots = sound.wide.0 in
              omega (arith, low, wide)

          still : IsSound h.table m
          still = (
            opened_kept h.table id id (first_history at.tick (iss seg) f.frame.id seg s.path) s.pass m.pass m.doomed
                s.pins m.pins s.flows m.flows (record { tuple = tuple_of seg; id = id }) e
                near
                refl refl (ap (λ (x : Sight). x.pass) opened.after)
                (ap (λ (x : Sight). x.pins) opened.after) (ap (λ (x : Sight). x.flows) opened.after)
                (subst (λ ds. AreKept h.table s.pass ds s.pins s.flows)
                (sym (ap (λ (x : Sight). x.doomed) opened.after))
                sound.sound.0),
            subst InRange (sym (ap (λ (x : Sight). x.path.params) opened.after)) sound.sound.1,
          )
  met seg apart (Some (syn.BacklogFull n)) asked (is, line) =
      none_more (answered (served.Dropped true) is (refl, refl)) (lined _ line)
  met seg apart (Some syn.NoListener) asked (is, line) =
      none_more (answered served.Stray is (refl, refl)) (lined _ line)
  met seg apart None asked (is, line) = none_more (answered served.Stray is (refl, refl)) (lined _ line)

  entered : (seg : Segment) (id : FlowId) (b : Served) → a ≡ b → IsEntered at f.frame.id seg id s m b → Done
  entered seg id (served.Entered g) e is =
      none_more (answered (served.Entered g) e (refl, refl))
      (frame_sound (At h v books s) (with_sight m v) at f.frame.id seg id sound is.entered.1 is.after refl still)
    where
      still : IsSound h.table m
      still = (
        subst (λ (x : Sight). AreKept h.table m.pass x.doomed x.pins x.flows) (sym is.after)
            (kept_used h.table id is.entered.1.flow (received at.tick f.frame.id seg is.entered.1.flow) s.pass m.pass
            s.doomed s.pins s.flows is.table is.entered.1.given sound.sound.0),
        subst InRange (sym (ap (λ (o : Openings). o.params) is.entered.1.path
            ∙ told_params s.pass.view.base id (received at.tick f.frame.id seg is.entered.1.flow) s.path))
            sound.sound.1,
      )
  entered seg id (served.Busy x) e is = absurd (is.entered.0.1 sound.alone)
  entered seg id (served.Opened g) e is = absurd is.entered
  entered seg id (served.Dropped c) e is = absurd is.entered
  entered seg id (served.Refused n) e is = absurd is.entered
  entered seg id served.Stray e is = absurd is.entered

  -- whatever it was
  taken : (seg : Segment) (o : Option FlowId) → flow_with (tuple_of seg) s.flows ≡ o
      → IsTaken o at f.frame.id seg s m a → Done
  taken seg (Some id) e is = entered seg id a refl is
  taken seg None e is = met seg e (asked_of s.path seg) refl is

  by_reading : (o : Option Refused) → IsServedBy o at f.frame.id f.frame.packet s m a → Done
  by_reading (Some r) (is, line) =
      none_more (answered (served.Refused (number_of r)) is (refl, refl)) (lined _ line)
  by_reading None (seg, text, is) = taken seg (flow_with (tuple_of seg) s.flows) refl is

  pub one_served : IsOneServed at f s m a → Done
  one_served is = by_reading (refusal at.check_sums f.frame.packet) is

-- ----- all frames
record AreServedSound (h : CoreHost) (v : Worker) (books : List Book) (n : Sight) (count : ℕ) (kept : List PassedFrame)
    : Type 0 where
  pub ids : List FlowId
  pub few : length ids ≤ count
  pub none : kept ≡ []
  pub sound : IsHostSound (At h v (books_opened ids books) n)

module _ (h : CoreHost) (v : Worker) (at : Setting) where
  all_served : (fs : List PassedFrame) (books : List Book) (s n : Sight) (kept : List PassedFrame)
      → IsHostSound (At h v books s) → length books + length fs < 4294967295 → AreServed at fs s n kept
      → AreServedSound h v books n (length fs) kept
  all_served [] books s n kept sound few (same, none) = record {
    ids = [];
    few = omega arith;
    none = none;
    sound = subst (λ (x : Sight). IsHostSound (At h v (books ++ []) x)) (sym same)
        (subst (λ (bs : List Book). IsHostSound (At h v bs s)) (sym (append-nil books)) sound);
  }
  all_served (f ∷ fs) books s n kept sound few (m, a, more, one, rest, e) =
      let r : IsServedSound h v books m a f =
      one_served h v books at f s m a sound
      (let l : length books + suc (length fs) < 4294967295 = few in omega (arith, l)) one in
      joined r (all_served fs (books_opened r.ids books) m n more r.sound (fewer r) rest)
    where
      fewer : (r : IsServedSound h v books m a f) → length (books_opened r.ids books) + length fs < 4294967295
      fewer r =
          let l : length books + suc (length fs) < 4294967295 = few in
          let x : length (books ++ map syn_book r.ids) ≡ length books + length (map syn_book r.ids) =
          length-append books (map syn_book r.ids) in
          let y : length (map syn_book r.ids) ≡ length r.ids = length-map r.ids syn_book in
          let z : length r.ids ≤ 1 = r.few in
          omega (arith, l, x, y, z)

      joined : (r : IsServedSound h v books m a f) → AreServedSound h v (books_opened r.ids books) n (length fs) more
          → AreServedSound h v books n (suc (length fs)) kept
      joined r q = record {
        ids = r.ids ++ q.ids;
        few =
            let x : length (r.ids ++ q.ids) ≡ length r.ids + length q.ids = length-append r.ids q.ids in
            let y : length r.ids ≤ 1 = r.few in
            let z : length q.ids ≤ length fs = q.few in
            omega (arith, x, y, z);
        none = e ∙ (λ i. r.kept i ++ q.none i);
        sound = subst (λ (bs : List Book). IsHostSound (At h v bs n))
            (append_assoc books (map syn_book r.ids) (map syn_book q.ids)
            ∙ ap (λ l. books ++ l) (sym (map_append syn_book r.ids q.ids)))
            q.sound;
      }

pub record AreFramesServed (h : CoreHost) (w : Worker) : Type 0 where
  pub ids : List FlowId
  pub few : length ids ≤ length (waiting h.slow)
  pub sound : IsHostSound (with_opened ids w h)

pub frames_sound : (h : CoreHost) (ns : FirstNumbers) (c : cores.Common) (tick : ℕ) (w : Worker)
    → IsHostSound (without_frames h) → length h.books + length (waiting h.slow) < 4294967295
    → IsAllServed ns c tick h.slow w → AreFramesServed h w
frames_sound h ns c tick w sound few all =
    let r = all_served h (quiet h.slow) (setting_of ns c tick h.slow) (waiting h.slow) h.books (sight_of h.slow)
    (sight_of w) w.deferred.list sound few all.served in
    record {
      ids = r.ids;
      few = r.few;
      sound = like_sound (with_opened r.ids w h) (with_sight (sight_of w) (quiet h.slow)) w r.sound
          (λ i. record w { filed = (ap (λ (x : Standing). x.filed) all.same) i })
          (λ i. all.none i ++ r.none i);
    }

-- what cores passed on is collected
pub collected_sound : (h : CoreHost) (a b : cores.Worker) (w : Worker) → IsCollected a b h.slow w
    → IsHostSound (without_frames h) → IsHostSound (without_frames (with_slow w h))
collected_sound h a b w is sound =
    like_sound h (quiet h.slow) (quiet w) sound
    (ap quiet is.rest
    ∙ (λ i. record (quiet h.slow) {
      log = w.log;
      check_sums = ap (λ (x : Worker). x.check_sums) (sym is.rest) i;
      exceptions = (quiet w).exceptions;
      deferred = (quiet w).deferred;
      time = ap (λ (x : Worker). x.time) (sym is.rest) i;
      senders = ap (λ (x : Worker). x.senders) (sym is.rest) i;
      kicks = ap (λ (x : Worker). x.kicks) (sym is.rest) i;
      kickers = ap (λ (x : Worker). x.kickers) (sym is.rest) i;
    }))
    refl

pub no_frames : (h : CoreHost) → IsHostSound h → IsHostSound (without_frames h)
no_frames h sound = like_sound h h.slow (quiet h.slow) sound refl refl

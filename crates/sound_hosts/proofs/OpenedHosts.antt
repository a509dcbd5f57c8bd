-- The whole host where a peer's SYN opened a flow alone: for the law frames_that_open_keep_it.
use Rattle.std.proofs.Common.{◌≡◌, ℕ, ◌+◌, ◌<◌, ◌≤◌, cond, Bool, true, false, List, [], ◌∷◌, ◌++◌, map, length}
use Rattle.std.proofs.Common.{refl, sym}
use Rattle.std.proofs.Common.{ap, ◌∙◌, subst, arith, set, min, Some, None, slice_get, count_by, append-nil}
use Rattle.std.proofs.Common.{length-set, true≢false}
use Rattle.std.specs.Prelude.{IsPermutation}
use Rattle.std.specs.List.{filter, list_any}
use Rattle.std.proofs.lemmas.List.Sums.{count_by-le-length}
use Rattle.segment_fields.specs.declared.segment.Segment.{Segment}
use Rattle.tas_model.specs.declared.entry.FlowId.{FlowId}
use Rattle.tas_model.specs.declared.entry.FrameId.{FrameId}
use Rattle.tas_model.specs.declared.entry.HostParams.{HostParams}
use Rattle.host_rounds.specs.Hosts.{Waiting, same_tuple}
use Rattle.host_rounds.specs.Lists.{Each}
use Rattle.host_rounds.proofs.Lists.{map_append, filter_append, each_append}
use Rattle.flow_index.specs.Changes.{AnswerAlike}
use Rattle.flow_index.specs.declared.change.Change.{Change}
use Rattle.flow_index.specs.declared.change.Change.TheVariants.{Put}
use Rattle.flow_lock.specs.Answers.{next_in}
use Rattle.flow_lock.specs.Orders.{known_of, same_flow}
use Rattle.flow_lock.specs.Steps.{mark, mark_at, noted, deeds_of, alone_or}
use Rattle.flow_lock.specs.Histories.{unborn}
use Rattle.flow_lock.specs.Words.{live_word, put_word}
use Rattle.flow_lock.specs.declared.view.Held.{Held}
use Rattle.flow_lock.specs.declared.view.History.{History}
use Rattle.flow_lock.specs.declared.view.Mark.{Mark}
use Rattle.flow_lock.specs.declared.view.Turn.{Turn}
use Rattle.flow_lock.specs.declared.view.View.{View}
use Rattle.flow_lock.specs.declared.word.Word.{Word}
use Rattle.flow_state.specs.Flow.{Flow}
use Rattle.slow_handshake.specs.Openings.{first_port, syn_answer}
use Rattle.slow_handshake.specs.declared.openings.Listener.{Listener}
use Rattle.slow_handshake.specs.declared.openings.PassiveFlow.{PassiveFlow}
use Rattle.slow_handshake.specs.declared.openings.SynAnswer.TheVariants as syn
use Rattle.tas_num.specs.declared.seq.Seq.{Seq}
use Rattle.slow_worker.specs.Opening.{IsOpened, first_history}
use Rattle.slow_worker.specs.Workers.{Worker, Sight, sight_of, with_sight, flow_with, waiting, IsSound}
use Rattle.slow_worker.specs.declared.known.KnownFlow.{KnownFlow}
use Rattle.core_worker.specs.Frames.{tuple_of as segment_tuple}
use Rattle.libtas_sockets.specs.Apps as libtas
use Rattle.host_books.specs.Books.{Book}
use Rattle.host_books.specs.Indexes.{AreIndexed}
use Rattle.sound_hosts.specs.Hosts.{CoreHost, known_in, id_of, is_indexed, is_doomed, is_filed, is_held_of, is_of_slot}
use Rattle.sound_hosts.specs.Hosts.{stands_in, tuple_of, flows_in, waiting_in, has_given_port}
use Rattle.sound_hosts.specs.Opening.{new_book, with_book}
use Rattle.sound_hosts.specs.Sound.{IsHostSound, IsMarked, IsApp, HasHolder, IsPlain, AreShown, IsBelowNext}
use Rattle.sound_hosts.proofs.Fresh.{flows_more, waiting_more, indexed_more, own}
use Rattle.sound_hosts.proofs.Numbers.{IsNextSlot, next_slot, fresh, all_older, numbered_push, mark_there, words_more}
use Rattle.sound_hosts.proofs.Numbers.{marks_more}
use Rattle.sound_hosts.proofs.Given.{below_fresh}
use Rattle.sound_hosts.proofs.Opened.{begins_open, begins_early, listened, ports_fresh, all_apart, shown_more}

-- ----- lists with a book that passes a test, or doesn't
names_more : (test : Book → Bool) (bs : List Book) (b : Book) → test b ≡ true
    → map id_of (filter test (bs ++ b ∷ [])) ≡ map id_of (filter test bs) ++ b.id ∷ []
names_more test bs b e =
    ap (map id_of) (filter_append test bs (b ∷ []) ∙ ap (λ c. filter test bs ++ cond c (b ∷ []) []) e)
    ∙ map_append id_of (filter test bs) (b ∷ [])

names_same : (test : Book → Bool) (bs : List Book) (b : Book) → test b ≡ false
    → map id_of (filter test (bs ++ b ∷ [])) ≡ map id_of (filter test bs)
names_same test bs b e =
    ap (map id_of)
    (filter_append test bs (b ∷ [])
    ∙ (ap (λ c. filter test bs ++ cond c (b ∷ []) []) e ∙ append-nil (filter test bs)))

module _ (h : CoreHost) (w : Worker) (tick : ℕ) (iss : Seq) (frame : FrameId) (seg : Segment) (id : FlowId)
    (sound : IsHostSound h) (next : next_in h.slow.pass.view.marks ≡ Some id)
    (apart : flow_with (segment_tuple seg) h.slow.flows ≡ None) (few : length h.books < 4294967295)
    (answer : syn_answer h.slow.path seg.dport ≡ syn.Opens)
    (opened : IsOpened tick iss frame seg id (sight_of h.slow) (sight_of w))
    (rest : w ≡ with_sight (sight_of w) h.slow)
    (kept : IsSound h.table (sight_of w)) where
  abbrev known : List Held
  known = known_in h

  abbrev k : History
  k = first_history tick iss frame seg h.slow.path

  abbrev b : Book
  b = new_book id Waiting

  abbrev after : List Held
  after = record { flow = id; history = k } ∷ known

  slot : IsNextSlot h.slow.pass.view.marks id
  slot = next_slot h.slow.pass.view.marks id next

  at : slice_get h.slow.pass.view.marks id.slot ≡ Some (mark_at h.slow.pass.view.marks id.slot)
  at = mark_there h.slow.pass.view.marks id.slot slot.within

  marked : IsMarked h.books id.slot (mark_at h.slow.pass.view.marks id.slot)
  marked = sound.table.marks id.slot (mark_at h.slow.pass.view.marks id.slot) at

  number : id.generation ≡ 1 + count_by (is_of_slot id.slot) h.books
  number =
      let most : count_by (is_of_slot id.slot) h.books ≤ length h.books =
      count_by-le-length (is_of_slot id.slot) h.books in
      let is : id.generation ≡ min ((mark_at h.slow.pass.view.marks id.slot).generation + 1) 4294967295 = slot.number in
      let same : (mark_at h.slow.pass.view.marks id.slot).generation ≡ count_by (is_of_slot id.slot) h.books =
      marked.generation in
      omega (arith, most, is, same, few)

  free : list_any (stands_in id.slot) h.books ≡ false
  free = sym marked.live ∙ slot.dead

  others : Each (λ (c : Book). same_flow id c.id ≡ false) h.books
  others = fresh id h.books h.books (all_older h.table.slots h.books sound.numbered) number

  no_tuple : Each (λ (c : Book). c.indexed ≡ true → same_tuple (tuple_of known c) k.tuple ≡ false) h.books
  no_tuple = all_apart known id k k.tuple h.books (ap (λ (fs : List KnownFlow). flow_with k.tuple fs)
      (sym sound.kept.flows) ∙ apart)

  -- the view
  turns : h.slow.pass.view.turns ≡ []
  turns = sound.alone.1

  abbrev view : View
  view = w.pass.view

  base : view.base ≡ after
  base = ap (λ (s : Sight). s.pass.view.base) opened.after
      ∙ ap (λ (ts : List Turn). alone_or ts after known) turns

  words : view.words ≡ put_word id.slot (live_word id.generation) h.slow.pass.view.words
  words = ap (λ (s : Sight). s.pass.view.words) opened.after
      ∙ ap (λ (ts : List Turn). alone_or ts (put_word id.slot (live_word id.generation) h.slow.pass.view.words)
      h.slow.pass.view.words) turns

  marks : view.marks ≡ set h.slow.pass.view.marks id.slot (mark id.generation true false)
  marks = ap (λ (s : Sight). s.pass.view.marks) opened.after

  params : w.path.params ≡ h.slow.path.params
  params = ap (λ (s : Sight). s.path.params) opened.after

  unfixed : w.path.params.fixed ≡ false → h.slow.path.params.fixed ≡ false
  unfixed f = ap (λ (p : HostParams). p.fixed) (sym params) ∙ f

  low : w.path.params.fixed ≡ false → seg.dport < first_port
  low f = listened h.slow.path seg.dport (unfixed f) answer (sound.opening.listeners (unfixed f))

  below : h.slow.path.params.fixed ≡ false → seg.dport < first_port
      → Each (IsBelowNext view.base w.path.ports) (h.books ++ b ∷ [])
  below f under =
      let ports : w.path.ports ≡ h.slow.path.ports = ap (λ (s : Sight). s.path.ports) opened.after in
      let here : (known_of id after).tuple.lport ≡ seg.dport = ap (λ (x : History). x.tuple.lport) (own known id k) in
      subst (λ (l : List Held). Each (IsBelowNext l w.path.ports) (h.books ++ b ∷ [])) (sym base)
      (each_append (IsBelowNext after w.path.ports) h.books (b ∷ [])
      (below_fresh known id k h.slow.path.ports w.path.ports (omega (arith, ports)) h.books others
      (sound.opening.given f))
      (omega (arith, here, under), tt))

  apps_more : (xs : List libtas.Application) → Each (IsApp h.table h.books) xs
      → Each (IsApp h.table (h.books ++ b ∷ [])) xs
  apps_more [] each = tt
  apps_more (a ∷ xs) each = (
    record {
      own = each.0.own;
      turns = each.0.turns;
      begun = each.0.begun;
      sockets = subst (IsPermutation a.sockets) (sym (names_same (is_held_of a.number) h.books b refl))
          each.0.sockets;
    },
    apps_more xs each.1,
  )

  pub opened_sound : IsHostSound (with_book b w h)
  opened_sound = record {
    alone = (
      ap (λ (s : Sight). s.pass.view.baton) opened.after ∙ sound.alone.0,
      ap (λ (s : Sight). s.pass.view.turns) opened.after
          ∙ ap (λ (ts : List Turn). noted (deeds_of id (unborn k) k.entries) (id ∷ []) [] ts) turns,
      ap (λ (s : Sight). s.pass.view.made) opened.after ∙ sound.alone.2,
    );
    slow_pass = ap (λ (s : Sight). s.pass.view.slow) opened.after ∙ sound.slow_pass;
    waiting = ap waiting rest ∙ sound.waiting;
    sound = kept;
    slots = ap (λ (p : HostParams). p.slots) params ∙ sound.slots;
    wide = (
      ap (λ (ms : List Mark). length ms) marks
          ∙ (length-set h.slow.pass.view.marks id.slot (mark id.generation true false) ∙ sound.wide.0),
      ap (λ (ws : List Word). length ws) words
          ∙ (length-set h.slow.pass.view.words id.slot (live_word id.generation) ∙ sound.wide.1),
    );
    numbered = numbered_push h.table.slots [] h.books b sound.numbered
        (let wide : length h.slow.pass.view.marks ≡ h.table.slots = sound.wide.0 in omega (arith, slot.within, wide))
        number;
    plain = each_append IsPlain h.books (b ∷ []) sound.plain (λ f. absurd (true≢false (sym f)), tt);
    indexed = subst (λ (l : List Held). AreIndexed (h.books ++ b ∷ []) l) (sym base)
        (indexed_more known id k Waiting h.books others no_tuple sound.indexed);
    table = record {
      marks = marks_more h.slow.pass.view view id b refl refl refl marks h.books number free sound.table.marks;
      words = words_more h.slow.pass.view view id b refl refl words
          (let wide : length h.slow.pass.view.marks ≡ h.table.slots = sound.wide.0 in
          let long : length h.slow.pass.view.words ≡ h.table.slots = sound.wide.1 in
          omega (arith, slot.within, wide, long))
          h.books free sound.table.words;
    };
    kept = record {
      flows = ap (λ (s : Sight). s.flows) opened.after
          ∙ (ap (λ (fs : List KnownFlow). fs ++ record { tuple = k.tuple; id = id } ∷ []) sound.kept.flows
          ∙ (sym (flows_more known id k Waiting h.books others)
          ∙ ap (λ (l : List Held). flows_in l (h.books ++ b ∷ [])) (sym base)));
      pins = ap (λ (s : Sight). s.pins) opened.after
          ∙ (ap (λ (fs : List FlowId). fs ++ id ∷ []) sound.kept.pins ∙ sym (names_more is_indexed h.books b refl));
      doomed = subst (IsPermutation w.doomed) (sym (names_same is_doomed h.books b refl))
          (subst (λ l. IsPermutation l (map id_of (filter is_doomed h.books)))
          (sym (ap (λ (s : Sight). s.doomed) opened.after)) sound.kept.doomed);
      filed = subst (IsPermutation (map (λ (r : Flow). r.id) w.filed)) (sym (names_same is_filed h.books b refl))
          (subst (λ (x : Worker). IsPermutation (map (λ (r : Flow). r.id) x.filed)
          (map id_of (filter is_filed h.books))) (sym rest) sound.kept.filed);
    };
    opening = record {
      flows = ap (λ (s : Sight). s.path.flows) opened.after
          ∙ (ap (λ (fs : List PassiveFlow). fs ++ record { id = id; port = seg.dport; ready = false } ∷ [])
          sound.opening.flows
          ∙ (ap (λ r. waiting_in known h.books ++ record { id = id; port = seg.dport; ready = r } ∷ [])
          (sym (begins_early tick iss frame seg h.slow.path))
          ∙ (sym (waiting_more known id k Waiting refl (begins_open tick iss frame seg h.slow.path) h.books others)
          ∙ ap (λ (l : List Held). waiting_in l (h.books ++ b ∷ [])) (sym base))));
      ports = λ f. ap (λ (s : Sight). s.path.ports) opened.after
          ∙ (sound.opening.ports (unfixed f)
          ∙ (sym (ports_fresh known id k b refl (low f) h.books others)
          ∙ ap (λ (l : List Held). count_by (has_given_port l) (h.books ++ b ∷ [])) (sym base)));
      listeners = λ f. subst (λ (ls : List Listener). Each (λ (l : Listener). l.port < first_port) ls)
          (sym (ap (λ (s : Sight). s.path.listeners) opened.after)) (sound.opening.listeners (unfixed f));
      given = λ f. below (unfixed f) (low f);
    };
    shown = record {
      pending = opened.indexed.pending;
      shown = subst (λ (l : List Held). AreShown (h.books ++ b ∷ []) l w.index.published) (sym base)
          (shown_more known id k h.slow.index.published w.index.published
          (subst (λ (l : List Change). AnswerAlike w.index.published
          (h.slow.index.published ++ (l ++ Put k.tuple id ∷ [])))
          sound.shown.pending opened.indexed.shown)
          h.books others no_tuple b refl refl sound.shown.shown);
    };
    apps = apps_more h.apps sound.apps;
    numbers = sound.numbers;
    holders = each_append (HasHolder h.apps) h.books (b ∷ []) sound.holders (λ f. absurd (true≢false (sym f)), tt);
  }

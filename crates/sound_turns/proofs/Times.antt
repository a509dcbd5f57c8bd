-- The time of a tick as a whole: for the law time_keeps_it.
use Rattle.std.proofs.Common.{◌≡◌, ℕ, ◌<◌, List, [], ◌∷◌, ◌++◌, false, true, refl, sym, ap, ◌∙◌, subst, inl, inr}
use Rattle.std.proofs.Common.{append-nil, take, drop, leb}
use Rattle.std.specs.Prelude.{IsPermutation}
use Rattle.std.proofs.lemmas.List.{take-append-drop}
use Rattle.tas_model.specs.declared.entry.FlowId.{FlowId}
use Rattle.tas_model.specs.declared.entry.HostParams.{HostParams}
use Rattle.flow_index.specs.Changes.{AnswerAlike, found_after}
use Rattle.flow_index.specs.declared.change.Change.{Change}
use Rattle.flow_index.specs.declared.change.Found.TheVariants as found
use Rattle.host_rounds.specs.Lists.{Each}
use Rattle.flow_lock.specs.Orders.{known_of}
use Rattle.flow_lock.specs.Words.{word_at}
use Rattle.flow_lock.specs.declared.view.Held.{Held}
use Rattle.flow_lock.specs.declared.word.Word.{Word}
use Rattle.flow_clock.specs.Ledgers.{Ledger}
use Rattle.flow_clock.specs.Walks.{IsServed, AreServed, AreSweptAgain}
use Rattle.slow_handshake.specs.Openings.{Openings, first_port}
use Rattle.slow_handshake.specs.declared.openings.Listener.{Listener}
use Rattle.slow_worker.specs.Clocks.{served_in}
use Rattle.slow_worker.specs.Turns.{IsTimePassed, ledger_of, still_known}
use Rattle.slow_worker.specs.Workers.{Worker, IsSound, sight_of, waiting}
use Rattle.host_books.specs.Books.{Book}
use Rattle.sound_hosts.specs.Hosts.{CoreHost, known_in, is_indexed, is_doomed, flows_in, tuple_of}
use Rattle.sound_hosts.specs.Sound.{IsHostSound, AreShown, IsWorded}
use Rattle.sound_hosts.proofs.Leaving.{IsNumberedBy, apart_of}
use Rattle.sound_hosts.proofs.OneFlow.{ports_same}
use Rattle.sound_hosts.proofs.Standing.{stand_marked}
use Rattle.sound_turns.specs.Passing.{AreSwept, IsPassing, with_books}
use Rattle.sound_turns.proofs.Closing.{closed_passing}
use Rattle.sound_hosts.proofs.Given.{below_moved}
use Rattle.sound_turns.proofs.Known.{still_flows, count_swept, below_swept}
use Rattle.sound_hosts.proofs.Names.{names}
use Rattle.sound_turns.proofs.Lists.{swept_same}
use Rattle.sound_turns.proofs.Steps.{timed_passing, again_passing}

-- what then holds of some books
abbrev Passes : CoreHost → (tried left : List FlowId) → Ledger → Type 0
Passes h tried left l = (bs : List Book) × IsPassing h bs tried left l

-- ----- one flow after the other
module _ (h : CoreHost) where
  one_served : (tick : ℕ) (tried : List FlowId) (f : FlowId) (left : List FlowId) (l n : Ledger)
      → Passes h tried (f ∷ left) l → IsServed tick f l n → Passes h tried left n
  one_served tick tried f left l n (bs, p) (inl was) = (bs, timed_passing h bs tried f left tick l n p was)
  one_served tick tried f left l n (bs, p) (inr (inl was)) = closed_passing h bs tried f left l n p was
  one_served tick tried f left l n (bs, p) (inr (inr was)) = absurd (was.busy.1 p.tabled.alone)

  all_served : (tick : ℕ) (tried fs : List FlowId) (l m : Ledger) → Passes h tried fs l → AreServed tick fs l m
      → Passes h tried [] m
  all_served tick tried [] l m p e = subst (Passes h tried []) (sym e) p
  all_served tick tried (f ∷ fs) l m p (n, served, rest) =
      all_served tick tried fs n m (one_served tick tried f fs l n p served) rest

  all_tried : (fs left : List FlowId) (l m : Ledger) → Passes h fs left l → AreSweptAgain fs l m → Passes h [] left m
  all_tried [] left l m p e = subst (Passes h [] left) (sym e) p
  all_tried (f ∷ fs) left l m p (n, swept, rest) =
      all_tried fs left n m (again_passing h p.0 f fs left l n p.1 swept) rest

-- ----- the whole time
module _ (h : CoreHost) (tick : ℕ) (w : Worker) (sound : IsHostSound h) (passed : IsTimePassed tick h.slow w)
    (kept : IsSound h.table (sight_of w)) where
  abbrev pub first : Ledger
  first = record (ledger_of h.slow h.slow.index.pending) { doomed = [] }

  pub begun : IsPassing h h.books h.slow.doomed [] first
  begun = record {
    tabled = record {
      alone = sound.alone;
      slow_pass = sound.slow_pass;
      wide = sound.wide;
      tuples = λ f. refl;
      swept = swept_same h.books;
      numbered = sound.numbered;
      plain = sound.plain;
      indexed = sound.indexed;
      slots = sound.table;
      marked = stand_marked h sound;
      apps = sound.apps;
      holders = sound.holders;
    };
    pins = append-nil h.slow.pins ∙ sound.kept.pins;
    doomed = subst (λ l. IsPermutation l (names is_doomed h.books)) (sym (append-nil h.slow.doomed))
        sound.kept.doomed;
    filed = sound.kept.filed;
    waiting = sound.opening.flows;
    path = refl;
    shown = subst (AreShown h.books (known_in h))
        (sym (ap (λ l. h.slow.index.published ++ l) sound.shown.pending ∙ append-nil h.slow.index.published))
        sound.shown.shown;
  }

  starts : Passes h h.slow.doomed [] first
  starts = (h.books, begun)

  -- the pins from that place of the list on are still to have their time
  pub from_place : (bs : List Book) (n : Ledger) → IsPassing h bs [] [] n
      → IsPassing h bs [] (drop (served_in tick h.slow.time) n.pins)
      (record n { pins = take (served_in tick h.slow.time) n.pins })
  from_place bs n p = record {
    tabled = p.tabled;
    pins = take-append-drop (served_in tick h.slow.time) n.pins ∙ (sym (append-nil n.pins) ∙ p.pins);
    doomed = p.doomed;
    filed = p.filed;
    waiting = p.waiting;
    path = p.path;
    shown = p.shown;
  }

  turned : (n : Ledger) → Passes h [] [] n
      → Passes h [] (drop (served_in tick h.slow.time) n.pins)
      (record n { pins = take (served_in tick h.slow.time) n.pins })
  turned n (bs, p) = (bs, from_place bs n p)

  ends : Passes h [] [] (ledger_of w passed.changes)
  ends =
      all_served h tick [] (drop (served_in tick h.slow.time) passed.done.0.pins)
      (record (passed.done.0) { pins = take (served_in tick h.slow.time) passed.done.0.pins })
      (ledger_of w passed.changes)
      (turned passed.done.0 (all_tried h h.slow.doomed [] first passed.done.0 starts passed.done.1))
      passed.done.2

  -- ----- the host then
  abbrev generation : ℕ → ℕ
  generation i = (word_at h.slow.pass.view.words i).generation

  numbered_by : (cs : List Book) → Each (IsWorded h.slow.pass.view) cs → Each (IsNumberedBy generation) cs
  numbered_by [] each = tt
  numbered_by (c ∷ cs) each = (λ f. sym (ap (λ (x : Word). x.generation) (each.0 f)), numbered_by cs each.1)

  shown_after : (cs : List Book) (known : List Held) (changes now : List Change) → AnswerAlike now changes
      → AreShown cs known changes → AreShown cs known now
  shown_after cs known changes now alike shown = record {
    led = led_after cs shown.led;
    none = λ t e. alike t ∙ shown.none t e;
  }
    where
      led_after : (ds : List Book)
          → Each (λ (b : Book). b.indexed ≡ true → found_after (tuple_of known b) changes ≡ found.Flow b.id) ds
          → Each (λ (b : Book). b.indexed ≡ true → found_after (tuple_of known b) now ≡ found.Flow b.id) ds
      led_after [] each = tt
      led_after (d ∷ ds) each = (λ e. alike (tuple_of known d) ∙ each.0 e, led_after ds each.1)

  module _ (cs : List Book) (p : IsPassing h cs [] [] (ledger_of w passed.changes)) where
    pins : w.pins ≡ names is_indexed cs
    pins = sym (append-nil w.pins) ∙ p.pins

    pub params : w.path.params ≡ h.slow.path.params
    params = ap (λ (o : Openings). o.params) p.path

    unfixed : w.path.params.fixed ≡ false → h.slow.path.params.fixed ≡ false
    unfixed f = ap (λ (x : HostParams). x.fixed) (sym params) ∙ f

    flows : w.flows ≡ flows_in w.pass.view.base cs
    flows =
        passed.flows
        ∙ ((λ i. still_known (pins i) (sound.kept.flows i))
        ∙ still_flows generation (known_in h) w.pass.view.base p.tabled.tuples h.books cs p.tabled.swept sound.plain
        (numbered_by h.books sound.table.words) p.tabled.plain (apart_of h.table.slots [] cs p.tabled.numbered))

    pub host_sound : IsHostSound (with_books cs w h)
    host_sound = record {
      alone = p.tabled.alone;
      slow_pass = p.tabled.slow_pass;
      waiting = ap waiting passed.rest ∙ sound.waiting;
      sound = kept;
      slots = ap (λ (x : HostParams). x.slots) params ∙ sound.slots;
      wide = p.tabled.wide;
      numbered = p.tabled.numbered;
      plain = p.tabled.plain;
      indexed = p.tabled.indexed;
      table = p.tabled.slots;
      kept = record { flows = flows; pins = pins; doomed = p.doomed; filed = p.filed };
      opening = record {
        flows = p.waiting;
        ports = λ f. ap (λ (o : Openings). o.ports) p.path
            ∙ (sound.opening.ports (unfixed f)
            ∙ (sym (count_swept (λ (id : FlowId). leb first_port (known_of id (known_in h)).tuple.lport) h.books cs
            p.tabled.swept)
            ∙ sym (ports_same (known_in h) w.pass.view.base p.tabled.tuples cs)));
        listeners = λ f. subst (λ (ls : List Listener). Each (λ (x : Listener). x.port < first_port) ls)
            (sym (ap (λ (o : Openings). o.listeners) p.path)) (sound.opening.listeners (unfixed f));
        given = λ f. below_moved (known_in h) w.pass.view.base p.tabled.tuples h.slow.path.ports w.path.ports
            (ap (λ (o : Openings). o.ports) p.path) cs
            (below_swept (known_in h) h.slow.path.ports h.books cs p.tabled.swept (sound.opening.given (unfixed f)));
      };
      shown = record {
        pending = passed.pending;
        shown = shown_after cs w.pass.view.base (h.slow.index.published ++ passed.changes) w.index.published
            passed.shown
            p.shown;
      };
      apps = p.tabled.apps;
      numbers = sound.numbers;
      holders = p.tabled.holders;
    }

  pub time_sound : (cs : List Book) × AreSwept h.books cs × IsHostSound (with_books cs w h)
  time_sound = (ends.0, ends.1.tabled.swept, host_sound ends.0 ends.1)

-- The flow that an application accepts is on the slot of none of its sockets: for the law
-- no_call_finds_its_slot_in_use.
use Rattle.std.proofs.Common.{◌≡◌, ℕ, Bool, true, false, List, [], map, refl, sym, ap, ◌∙◌, subst, Some}
use Rattle.std.proofs.Common.{slice_get, true≢false}
use Rattle.std.specs.List.{filter, list_any}
use Rattle.std.proofs.lemmas.List.Sorted.{list_any-IsPermutation}
use Rattle.tas_model.specs.declared.entry.FlowId.{FlowId}
use Rattle.host_rounds.specs.Hosts.{is_waiting_by}
use Rattle.flow_lock.specs.Answers.{is_open_in}
use Rattle.flow_lock.specs.Orders.{known_of, same_flow}
use Rattle.flow_lock.specs.declared.view.Held.{Held}
use Rattle.flow_clock.specs.Histories.{is_over}
use Rattle.slow_handshake.specs.Openings.{first_ready, is_ready_at}
use Rattle.slow_handshake.specs.declared.openings.PassiveFlow.{PassiveFlow}
use Rattle.libtas_sockets.specs.Apps as libtas
use Rattle.host_books.specs.Books.{Book}
use Rattle.host_books.specs.Indexes.{IsFindable}
use Rattle.sound_hosts.specs.Hosts.{CoreHost, known_in, id_of, is_held_of, waits}
use Rattle.sound_hosts.specs.Sound.{IsHostSound, IsApp, IsPlain}
use Rattle.sound_hosts.proofs.Distinct.{IsWaiting, is_waiting}
use Rattle.sound_hosts.proofs.OpenSockets.{each_at, not_held, and_both, not_true, standing}

module _ (h : CoreHost) (sound : IsHostSound h) where
  abbrev known : List Held
  known = known_in h

  never : (n : ℕ) (b : Book) → waits known b ≡ true → is_held_of n b ≡ false
  never n b w = not_held n b.holder (and_both (is_waiting_by b.holder) _ w).0

  -- it is open, and none of the sockets is on it
  pub record IsFree (a : libtas.Application) (id : FlowId) : Type 0 where
    pub open_ : is_open_in h.slow.pass.view.marks id ≡ true
    pub apart : list_any (same_flow id) a.sockets ≡ false

  not_filed : (i f : Bool) → (f ≡ true → i ≡ false) → (i ≡ false → ⊥) → f ≡ false
  not_filed i true plain open_ = absurd (open_ (plain refl))
  not_filed i false plain open_ = refl

  pub free : (n port : ℕ) (a : libtas.Application) (id : FlowId) → slice_get h.apps n ≡ Some a
      → first_ready h.slow.path port ≡ Some id → IsFree a id
  free n port a id at first =
      let app : IsApp h.table h.books a = each_at (IsApp h.table h.books) h.apps n a sound.apps at in
      let names : List FlowId = map id_of (filter (is_held_of a.number) h.books) in
      let w : IsWaiting known (is_held_of a.number) h.books id =
      is_waiting known (is_held_of a.number) (never a.number) (is_ready_at port) h.table.slots [] h.books id
      sound.numbered
      (ap (λ (fs : List PassiveFlow). first_ready (record (h.slow.path) { flows = fs }) port) (sym sound.opening.flows)
      ∙ first) in
      let not_over : is_over (known_of w.book.id known) ≡ false =
      not_true (is_over (known_of w.book.id known)) (and_both (is_waiting_by w.book.holder) _ w.waiting).1 in
      let findable : IsFindable known w.book =
      each_at (IsFindable known) h.books w.place w.book sound.indexed.running w.at in
      let indexed : w.book.indexed ≡ false → ⊥ = λ i. true≢false (sym (findable i) ∙ not_over) in
      let plain : IsPlain w.book = each_at IsPlain h.books w.place w.book sound.plain w.at in
      record {
        open_ = subst (λ f. is_open_in h.slow.pass.view.marks f ≡ true) w.name
            (each_at (λ (b : Book). b.filed ≡ false → is_open_in h.slow.pass.view.marks b.id ≡ true) h.books w.place
            w.book (standing h sound) w.at (not_filed w.book.indexed w.book.filed plain indexed));
        apart = list_any-IsPermutation (same_flow id) a.sockets names app.sockets ∙ w.apart;
      }

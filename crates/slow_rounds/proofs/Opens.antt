-- A flow that is opened alone, in a run: for the laws later_turns_are_rest_phases and opened_flows_are_moves.
use Rattle.std.proofs.Common.{◌≡◌, ℕ, ◌+◌, ◌<◌, ◌≤◌, ◌==◌, cond, true, false, List, [], ◌∷◌, ◌++◌, map}
use Rattle.std.proofs.Common.{length, count_by}
use Rattle.std.proofs.Common.{refl, sym, ap, ◌∙◌, arith, slice_get}
use Rattle.std.specs.Prelude.{Option, Some, None, nat_lt, position, min}
use Rattle.std.specs.List.{list_any}
use Rattle.std.specs.Option.{option_map}
use Rattle.std.proofs.lemmas.List.{length-map}
use Rattle.std.proofs.lemmas.List.Sums.{count_by-le-length}
use Rattle.std.proofs.lemmas.Bool.Decides.{nat_tests}
use Rattle.tas_model.specs.declared.entry.Entry.{Entry}
use Rattle.tas_model.specs.declared.entry.FlowId.{FlowId}
use Rattle.host_rounds.specs.Hosts.{Live, Holder, lowest_free, free_where, free_from, is_in_slot, most_flows}
use Rattle.host_rounds.specs.Hosts.{opened_in, new_flow, next_generation}
use Rattle.host_rounds.specs.Lists.{Each}
use Rattle.host_rounds.proofs.Lists.{map_append}
use Rattle.flow_lock.specs.Answers.{next_in, next_of, is_free}
use Rattle.flow_lock.specs.Orders.{known_of, same_flow}
use Rattle.flow_lock.specs.Steps.{mark_at}
use Rattle.flow_lock.specs.declared.view.Held.{Held}
use Rattle.flow_lock.specs.declared.view.History.{History}
use Rattle.flow_lock.specs.declared.view.Mark.{Mark}
use Rattle.slow_worker.specs.Workers.{Worker}
use Rattle.host_books.specs.Books.{Book, live_as, live_in}
use Rattle.host_books.proofs.Orders.{others, same_self}
use Rattle.sound_hosts.specs.Hosts.{CoreHost, host_of, known_in, listener_of, is_of_slot}
use Rattle.sound_hosts.specs.Opening.{new_book, with_book}
use Rattle.sound_hosts.specs.Sound.{IsHostSound}
use Rattle.sound_hosts.proofs.Counts.{count_map}
use Rattle.sound_hosts.proofs.Numbers.{IsNextSlot, next_slot, fresh, all_older, mark_there}
use Rattle.sound_turns.proofs.Lists.{any_map}
use Rattle.slow_rounds.proofs.FirstTurns.{same_host}
use Rattle.slow_rounds.proofs.Slots.{free_alike}

module _ (h : CoreHost) (sound : IsHostSound h) (few : length h.books < 4294967295) where
  abbrev marks : List Mark
  marks = h.slow.pass.view.marks

  -- ----- the lowest free slot
  marked : (i : ℕ) (x : Mark) → slice_get marks i ≡ Some x → x.live ≡ list_any (is_in_slot (0 + i)) (host_of h).flows
  marked i x e =
      let none : i ≡ 0 + i = omega arith in
      (sound.table.marks i x e).live
      ∙ (sym (any_map (live_in (known_in h)) (is_in_slot i) h.books)
      ∙ ap (λ n. list_any (is_in_slot n) (host_of h).flows) none)

  pub lowest : lowest_free (host_of h) ≡ position is_free marks
  lowest =
      ap (λ c. free_where c h.slow.path.params.slots (host_of h).flows) room
      ∙ (ap (λ n. free_from n 0 (host_of h).flows) (sound.slots ∙ sym sound.wide.0)
      ∙ (free_alike marks 0 (host_of h).flows marked ∙ same (position is_free marks)))
    where
      below : (n : ℕ) → n < 4294967295 → nat_lt n most_flows ≡ true
      below n lt = grind (arith, nat_tests, lt)

      room : nat_lt (length (host_of h).flows) most_flows ≡ true
      room = ap (λ n. nat_lt n most_flows) (length-map h.books (live_in (known_in h))) ∙ below (length h.books) few

      same : (o : Option ℕ) → option_map (λ i. 0 + i) o ≡ o
      same None = refl
      same (Some i) = ap (λ n. Some n) (let none : 0 + i ≡ i = omega arith in none)

  module _ (id : FlowId) (next : next_in marks ≡ Some id) where
    pub free : lowest_free (host_of h) ≡ Some id.slot
    free = lowest ∙ by (position is_free marks) next
      where
        named : (f g : FlowId) → ◌≡◌ {A = Option FlowId} (Some f) (Some g) → f ≡ g
        named f g e = cc e

        by : (o : Option ℕ) → next_of marks o ≡ Some id → o ≡ Some id.slot
        by None e = absurd (cc (e))
        by (Some i) e = ap (λ (f : FlowId). Some f.slot) (named _ id e)

    slot : IsNextSlot marks id
    slot = next_slot marks id next

    generation : id.generation ≡ 1 + count_by (is_of_slot id.slot) h.books
    generation =
        let most : count_by (is_of_slot id.slot) h.books ≤ length h.books =
        count_by-le-length (is_of_slot id.slot) h.books in
        let said : id.generation ≡ min ((mark_at marks id.slot).generation + 1) 4294967295 = slot.number in
        let same : (mark_at marks id.slot).generation ≡ count_by (is_of_slot id.slot) h.books =
        (sound.table.marks id.slot (mark_at marks id.slot) (mark_there marks id.slot slot.within)).generation in
        omega (arith, most, said, same, few)

    apart : Each (λ (c : Book). same_flow id c.id ≡ false) h.books
    apart = fresh id h.books h.books (all_older h.table.slots h.books sound.numbered) generation

    module _ (holder : Holder) (k : History) (x : Entry) (w : Worker)
        (base : w.pass.view.base ≡ record { flow = id; history = k } ∷ known_in h)
        (of_host : k.params ≡ h.slow.path.params) (entries : k.entries ≡ x ∷ [])
        (params : w.path.params ≡ h.slow.path.params) (listeners : w.path.listeners ≡ h.slow.path.listeners)
        (log : w.log ≡ h.slow.log) where
      own : known_of id (record { flow = id; history = k } ∷ known_in h) ≡ k
      own = ap (λ c. cond c k (known_of id (known_in h))) (same_self id)

      new_one : live_as (new_book id holder) k ≡ new_flow (host_of h) id.slot k.tuple None holder x
      new_one = λ i. record {
        flow = record {
          id = record { slot = id.slot; generation = named i };
          tuple = k.tuple;
          params = of_host i;
          entries = entries i;
        };
        indexed = true;
        holder = holder;
        filed = false;
      }
        where
          named : id.generation ≡ next_generation id.slot (host_of h).flows
          named = generation
              ∙ ap (λ n. 1 + n)
              (sym (count_map (live_in (known_in h)) (λ (l : Live). l.flow.id.slot == id.slot) h.books))

      flows : map (live_in w.pass.view.base) (h.books ++ new_book id holder ∷ [])
          ≡ (host_of h).flows ++ new_flow (host_of h) id.slot k.tuple None holder x ∷ []
      flows =
          ap (λ (known : List Held). map (live_in known) (h.books ++ new_book id holder ∷ [])) base
          ∙ (map_append (live_in (record { flow = id; history = k } ∷ known_in h)) h.books (new_book id holder ∷ [])
          ∙ (λ i. others (known_in h) (record { flow = id; history = k }) h.books apart i
          ++ (ap (live_as (new_book id holder)) own ∙ new_one) i ∷ []))

      pub opened_made : host_of (with_book (new_book id holder) w h)
          ≡ opened_in (host_of h) id.slot k.tuple None holder x
      opened_made = same_host (host_of (with_book (new_book id holder) w h))
          (opened_in (host_of h) id.slot k.tuple None holder x)
          params
          (ap (map listener_of) listeners)
          log
          flows

-- A flow was opened for an application that connects: for the law connects_keep_it.
use Rattle.std.proofs.Common.{◌≡◌, ℕ, ◌+◌, ◌<◌, ◌≤◌, ◌==◌, ◌&&◌, ◌||◌, not, Bool, true, false, cond, List, [], ◌∷◌}
use Rattle.std.proofs.Common.{◌++◌, map, length, refl, sym, ap, ◌∙◌, subst, arith, set, min, Some, None, slice_get}
use Rattle.std.proofs.Common.{count_by, append-nil, length-set, true≢false, leb, inr}
use Rattle.std.specs.Prelude.{IsPermutation}
use Rattle.std.specs.List.{list_any}
use Rattle.std.proofs.lemmas.Bool.Decides.{nat_tests}
use Rattle.std.proofs.lemmas.List.Sorted.{IsPermutation-append_left}
use Rattle.std.proofs.lemmas.List.Sums.{count_by-le-length}
use Rattle.tas_num.specs.declared.seq.Seq.{Seq}
use Rattle.tas_model.specs.declared.entry.Caller.TheVariants as callers
use Rattle.tas_model.specs.declared.entry.FlowId.{FlowId}
use Rattle.tas_model.specs.declared.entry.HostParams.{HostParams}
use Rattle.tas_model.specs.Valid.{InRange}
use Rattle.flow_state.specs.Flow.{Flow}
use Rattle.flow_index.specs.Changes.{AnswerAlike}
use Rattle.flow_index.specs.declared.change.Change.{Change}
use Rattle.flow_index.specs.declared.change.Change.TheVariants.{Put}
use Rattle.host_rounds.specs.Hosts as hosts
use Rattle.host_rounds.specs.Hosts.{is_held_by, same_tuple}
use Rattle.host_rounds.specs.Lists.{Each}
use Rattle.host_rounds.proofs.Lists.{each_append}
use Rattle.core_rounds.proofs.Filters.{tally}
use Rattle.flow_lock.specs.Answers.{IsPinned, next_in}
use Rattle.flow_lock.specs.Histories.{unborn}
use Rattle.flow_lock.specs.Orders.{at_slot, known_of, pins_at, same_flow}
use Rattle.flow_lock.specs.Passes.{Seen, with_baton}
use Rattle.flow_lock.specs.Steps as steps
use Rattle.flow_lock.specs.Steps.{IsAlone, alone_or, deeds_of, mark, mark_at, noted, pin_more}
use Rattle.flow_lock.specs.Words.{flag, live_word, put_word, word_at}
use Rattle.flow_lock.specs.declared.view.Held.{Held}
use Rattle.flow_lock.specs.declared.view.History.{History}
use Rattle.flow_lock.specs.declared.view.Mark.{Mark}
use Rattle.flow_lock.specs.declared.view.Turn.{Turn}
use Rattle.flow_lock.specs.declared.view.View.{View}
use Rattle.flow_lock.specs.declared.word.Word.{Word}
use Rattle.flow_clock.specs.Ledgers as clock
use Rattle.flow_clock.proofs.Keeping.{still_kept}
use Rattle.slow_handshake.specs.Openings.{Openings, first_port}
use Rattle.slow_handshake.specs.declared.openings.Listener.{Listener}
use Rattle.slow_worker.specs.Opening.{IsIndexed, with_open}
use Rattle.slow_worker.specs.Workers.{Worker, AreKept, HasItsPin, IsSound, sight_of, flow_with, waiting}
use Rattle.slow_worker.specs.declared.known.KnownFlow.{KnownFlow}
use Rattle.slow_worker.proofs.Keeping.{opened_kept}
use Rattle.libtas_sockets.specs.Apps.{Application}
use Rattle.libtas_sockets.specs.Connecting.{Opener, first_history, next_tuple, numbers_given}
use Rattle.host_books.specs.Books.{Book}
use Rattle.host_books.specs.Indexes.{AreIndexed}
use Rattle.sound_hosts.specs.Hosts.{CoreHost, known_in, is_indexed, is_doomed, is_filed, is_held_of, is_of_slot}
use Rattle.sound_hosts.specs.Hosts.{stands_in, tuple_of, flows_in, waiting_in, has_given_port}
use Rattle.sound_hosts.specs.Opening.{new_book}
use Rattle.sound_hosts.specs.Sound.{IsHostSound, IsApp, HasHolder, IsMarked, IsMarkedAs, IsPlain, IsWorded, AreShown}
use Rattle.sound_hosts.specs.Sound.{IsBelowNext}
use Rattle.sound_hosts.proofs.Counts.{count_each}
use Rattle.sound_hosts.proofs.Distinct.{count_push}
use Rattle.sound_hosts.proofs.Fresh.{flows_more, indexed_more, other, own, waiting_fresh}
use Rattle.sound_hosts.proofs.Given.{below_fresh, next_apart}
use Rattle.sound_hosts.proofs.Learned.{learned}
use Rattle.sound_hosts.proofs.Names.{names, names_with, names_without}
use Rattle.sound_hosts.proofs.Numbers.{IsNextSlot, all_older, fresh, mark_there, marks_more, next_slot, numbered_push}
use Rattle.sound_hosts.proofs.Numbers.{unlike, word_else, word_own}
use Rattle.sound_hosts.proofs.Opened.{all_apart, shown_more}
use Rattle.sound_hosts.proofs.Standing.{mark_else, mark_own, stand_marked, within}
use Rattle.sound_hosts.proofs.Sweeping.{any_here, any_swap, count_swap, firsts, lasts, middle}
use Rattle.sound_calls.specs.Connecting.{IsOpenedBy, IsOpenedIn, HasConnected, HasConnectedAlone, after_connecting}
use Rattle.sound_calls.specs.Connecting.{begun_history}
use Rattle.sound_calls.proofs.Accepting.{apart_numbers, waiting_append}

none_each : {X : Type 0} (p : X → Bool) (xs : List X) → list_any p xs ≡ false → Each (λ (x : X). p x ≡ false) xs
none_each p [] e = tt
none_each {X} p (x ∷ xs) e = by (p x) refl e (none_each p xs)
  where
    by : (t : Bool) → p x ≡ t → (t || list_any p xs) ≡ false
        → (list_any p xs ≡ false → Each (λ (y : X). p y ≡ false) xs) → Each (λ (y : X). p y ≡ false) (x ∷ xs)
    by true q e rest = absurd (true≢false e)
    by false q e rest = (q, rest e)

-- What the slow path's worker then has, whatever is told of the words.
record HasOpened (id : FlowId) (k : History) (v w : Worker) : Type 0 where
  pub alone : IsAlone w.pass.view
  pub slow : w.pass.view.slow ≡ v.pass.view.slow
  pub base : w.pass.view.base ≡ record { flow = id; history = k } ∷ v.pass.view.base
  pub marks : w.pass.view.marks ≡ set v.pass.view.marks id.slot (mark id.generation true false)
  pub wide : length w.pass.view.words ≡ length v.pass.view.words
  pub path : w.path ≡ numbers_given v.path
  pub pins : w.pins ≡ v.pins ++ id ∷ []
  pub flows : w.flows ≡ v.flows ++ record { tuple = k.tuple; id = id } ∷ []
  pub indexed : IsIndexed k.tuple id v.index w.index
  pub rest : w ≡ record v { path = w.path; pass = w.pass; pins = w.pins; flows = w.flows; index = w.index }

low_port : (first n m : ℕ) → n ≡ first + m → leb first n ≡ true
low_port first n m e = grind (arith, nat_tests, e)

-- ----- the slot that comes next
module _ (h : CoreHost) (id : FlowId) (sound : IsHostSound h) (next : next_in h.slow.pass.view.marks ≡ Some id)
    (few : length h.books < 4294967295) where
  abbrev known : List Held
  known = h.slow.pass.view.base

  slot : IsNextSlot h.slow.pass.view.marks id
  slot = next_slot h.slow.pass.view.marks id next

  marked : IsMarked h.books id.slot (mark_at h.slow.pass.view.marks id.slot)
  marked = sound.table.marks id.slot (mark_at h.slow.pass.view.marks id.slot)
      (mark_there h.slow.pass.view.marks id.slot slot.within)

  number : id.generation ≡ 1 + count_by (is_of_slot id.slot) h.books
  number =
      let most : count_by (is_of_slot id.slot) h.books ≤ length h.books =
      count_by-le-length (is_of_slot id.slot) h.books in
      let is : id.generation ≡ min ((mark_at h.slow.pass.view.marks id.slot).generation + 1) 4294967295 = slot.number in
      let same : (mark_at h.slow.pass.view.marks id.slot).generation ≡ count_by (is_of_slot id.slot) h.books =
      marked.generation in
      omega (arith, most, is, same, few)

  free : list_any (stands_in id.slot) h.books ≡ false
  free = sym marked.live ∙ slot.dead

  others : Each (λ (c : Book). same_flow id c.id ≡ false) h.books
  others = fresh id h.books h.books (all_older h.table.slots h.books sound.numbered) number

  low : id.slot < h.table.slots
  low = let wide : length h.slow.pass.view.marks ≡ h.table.slots = sound.wide.0 in let l = slot.within in
      omega (arith, l, wide)

  abbrev IsAway : Book → Type 0
  IsAway c = c.filed ≡ false → (c.id.slot == id.slot) ≡ false

  away : (ds : List Book) → Each (λ (c : Book). stands_in id.slot c ≡ false) ds → Each IsAway ds
  away [] each = tt
  away (d ∷ ds) each = (λ f. sym (λ i. not (f i) && (d.id.slot == id.slot)) ∙ each.0, away ds each.1)

  -- ----- words that the barrier told
  module _ (n : ℕ) (k : History) (view : View) (empty : pins_at h.slow.pass.view.words id.slot ≡ 0)
      (opened : IsOpenedIn id k h.slow.pass.view view) where
    abbrev nb : Book
    nb = new_book id (hosts.Application n)

    same_long : length view.words ≡ length view.marks
    same_long = opened.wide
        ∙ (sound.wide.1
        ∙ sym (ap (λ (ms : List Mark). length ms) opened.marks
        ∙ (length-set h.slow.pass.view.marks id.slot (mark id.generation true false) ∙ sound.wide.0)))

    word_of_old : (ds : List Book) → Each IsAway ds → Each (IsWorded h.slow.pass.view) ds
        → Each (IsMarkedAs h.slow.pass.view.marks) ds → Each (λ (c : Book). c.id.slot < h.table.slots) ds
        → Each (IsWorded view) ds
    word_of_old [] p q r s = tt
    word_of_old (d ∷ ds) p q r s = (
      λ f. learned view view view.words same_long opened.told opened.idle d (near d s.0)
          (λ g. ap (λ (ms : List Mark). mark_at ms d.id.slot) opened.marks
          ∙ (mark_else h.slow.pass.view.marks id.slot d.id.slot (mark id.generation true false)
          (λ e. unlike d.id.slot id.slot e (p.0 g)) ∙ r.0 g))
          (λ g. pinned d (p.0 g) (ap (λ (w : Word). w.pins) (q.0 g))) f,
      word_of_old ds p.1 q.1 r.1 s.1,
    )
      where
        near : (c : Book) → c.id.slot < h.table.slots → c.id.slot < length view.marks
        near c l =
            let w : length view.words ≡ length view.marks = same_long in
            let y : length view.words ≡ length h.slow.pass.view.words = opened.wide in
            let z : length h.slow.pass.view.words ≡ h.table.slots = sound.wide.1 in
            omega (arith, l, w, y, z)

        pinned : (c : Book) → (c.id.slot == id.slot) ≡ false
            → pins_at h.slow.pass.view.words c.id.slot ≡ 1 + flag (is_held_by c.holder)
            → pins_at view.words c.id.slot ≡ 1 + flag (is_held_by c.holder)
        pinned c ne is =
            let t : (id.slot == c.id.slot) ≡ false = grind (arith, nat_tests, ne) in
            let none : at_slot c.id.slot id ≡ 0 = ap (λ u. cond {A = ℕ} u 1 0) t in
            let all : pins_at view.words c.id.slot
            ≡ pins_at h.slow.pass.view.words c.id.slot + (at_slot c.id.slot id + at_slot c.id.slot id) =
            opened.pins c.id.slot in
            omega (arith, none, all, is)

    own_word : IsWorded view nb
    own_word f =
        learned view view view.words same_long opened.told opened.idle nb near
        (λ g. ap (λ (ms : List Mark). mark_at ms id.slot) opened.marks
        ∙ mark_own h.slow.pass.view.marks id.slot (mark id.generation true false) slot.within)
        (λ g. pinned) f
      where
        near : id.slot < length view.marks
        near =
            let w : length view.words ≡ length view.marks = same_long in
            let y : length view.words ≡ length h.slow.pass.view.words = opened.wide in
            let z : length h.slow.pass.view.words ≡ h.table.slots = sound.wide.1 in
            let l = low in
            omega (arith, l, w, y, z)

        pinned : pins_at view.words id.slot ≡ 2
        pinned =
            let t : (id.slot == id.slot) ≡ true = grind (arith, nat_tests) in
            let one : at_slot id.slot id ≡ 1 = ap (λ u. cond {A = ℕ} u 1 0) t in
            let all : pins_at view.words id.slot
            ≡ pins_at h.slow.pass.view.words id.slot + (at_slot id.slot id + at_slot id.slot id) =
            opened.pins id.slot in
            omega (arith, one, all, empty)

    words_told : Each (IsWorded view) (h.books ++ nb ∷ [])
    words_told = each_append (IsWorded view) h.books (nb ∷ [])
        (word_of_old h.books (away h.books (none_each (stands_in id.slot) h.books free)) sound.table.words
        (stand_marked h sound) (within h.table.slots [] h.books sound.numbered))
        (own_word, tt)

  -- ----- words that are known alone
  abbrev IsTwicePinned : View → Type 0
  IsTwicePinned w =
      w.words
      ≡ put_word id.slot
      (pin_more (word_at (put_word id.slot (live_word id.generation) h.slow.pass.view.words) id.slot))
      (put_word id.slot (live_word id.generation) h.slow.pass.view.words)

  module _ (n : ℕ) (view : View) (pinned : IsTwicePinned view) where
    abbrev new : Book
    new = new_book id (hosts.Application n)

    near : id.slot < length h.slow.pass.view.words
    near =
        let wide : length h.slow.pass.view.words ≡ h.table.slots = sound.wide.1 in let l = low in
        omega (arith, l, wide)

    near_then : id.slot < length (put_word id.slot (live_word id.generation) h.slow.pass.view.words)
    near_then =
        let long : length (put_word id.slot (live_word id.generation) h.slow.pass.view.words)
        ≡ length h.slow.pass.view.words = length-set h.slow.pass.view.words id.slot (live_word id.generation) in
        let l = near in
        omega (arith, l, long)

    own_alone : IsWorded view new
    own_alone f =
        ap (λ (ws : List Word). word_at ws id.slot) pinned
        ∙ (word_own (put_word id.slot (live_word id.generation) h.slow.pass.view.words) id.slot _ near_then
        ∙ ap pin_more (word_own h.slow.pass.view.words id.slot (live_word id.generation) near))

    others_alone : (ds : List Book) → Each IsAway ds → Each (IsWorded h.slow.pass.view) ds → Each (IsWorded view) ds
    others_alone [] p q = tt
    others_alone (d ∷ ds) p q = (
      λ f. ap (λ (ws : List Word). word_at ws d.id.slot) pinned
          ∙ (word_else (put_word id.slot (live_word id.generation) h.slow.pass.view.words) id.slot d.id.slot _
          (λ e. unlike d.id.slot id.slot e (p.0 f))
          ∙ (word_else h.slow.pass.view.words id.slot d.id.slot (live_word id.generation)
          (λ e. unlike d.id.slot id.slot e (p.0 f))
          ∙ q.0 f)),
      others_alone ds p.1 q.1,
    )

    words_alone : Each (IsWorded view) (h.books ++ new ∷ [])
    words_alone = each_append (IsWorded view) h.books (new ∷ [])
        (others_alone h.books (away h.books (none_each (stands_in id.slot) h.books free)) sound.table.words)
        (own_alone, tt)

  -- ----- the host
  module _ (front : List Application) (a : Application) (back : List Application) (b : Application) (x : Worker)
      (k : History) (apps : h.apps ≡ front ++ a ∷ back) (port : k.tuple.lport ≡ first_port + h.slow.path.ports)
      (apart : flow_with k.tuple h.slow.flows ≡ None) (opened : HasOpened id k h.slow x) (joined : HasConnected id a b)
      (kept : IsSound h.table (sight_of x))
      (words : Each (IsWorded x.pass.view) (h.books ++ new_book id (hosts.Application b.number) ∷ [])) where
    abbrev after : List Held
    after = record { flow = id; history = k } ∷ known

    abbrev nb' : Book
    nb' = new_book id (hosts.Application b.number)

    abbrev cs : List Book
    cs = h.books ++ nb' ∷ []

    abbrev view : View
    view = x.pass.view

    base : view.base ≡ after
    base = opened.base

    no_tuple : Each (λ (c : Book). c.indexed ≡ true → same_tuple (tuple_of known c) k.tuple ≡ false) h.books
    no_tuple = all_apart known id k k.tuple h.books (ap (λ (fs : List KnownFlow). flow_with k.tuple fs)
        (sym sound.kept.flows) ∙ apart)

    -- ----- applications
    all_apps : Each (IsApp h.table h.books) (front ++ a ∷ back)
    all_apps = subst (Each (IsApp h.table h.books)) apps sound.apps

    old : IsApp h.table h.books a
    old = middle (IsApp h.table h.books) front a back all_apps

    its : (b.number == b.number) ≡ true
    its = grind (arith, nat_tests)

    own_app : IsApp h.table cs b
    own_app = record {
      own = joined.own ∙ old.own;
      turns = joined.turns;
      begun = joined.begun ∙ old.begun;
      sockets = subst (IsPermutation b.sockets) (sym (names_with (is_held_of b.number) h.books nb' [] its))
          (subst (λ l. IsPermutation l (names (is_held_of b.number) h.books ++ id ∷ [])) (sym joined.sockets)
          (IsPermutation-append_left (id ∷ []) a.sockets (names (is_held_of b.number) h.books)
          (subst (λ n. IsPermutation a.sockets (names (is_held_of n) h.books)) (sym joined.number) old.sockets)));
    }

    abbrev IsElse : Application → Type 0
    IsElse y = (a.number == y.number) ≡ false

    others_after : (zs : List Application) → Each IsElse zs → Each (IsApp h.table h.books) zs
        → Each (IsApp h.table cs) zs
    others_after [] p q = tt
    others_after (z ∷ zs) p q = (
      record {
        own = q.0.own;
        turns = q.0.turns;
        begun = q.0.begun;
        sockets = subst (IsPermutation z.sockets)
            (sym (names_without (is_held_of z.number) h.books nb' [] (ap (λ n. n == z.number) joined.number ∙ p.0)
            ∙ append-nil (names (is_held_of z.number) h.books)))
            q.0.sockets;
      },
      others_after zs p.1 q.1,
    )

    apart_apps : Each IsElse front × Each IsElse back
    apart_apps = apart_numbers front a back (subst (λ (zs : List Application).
        (n : ℕ) → count_by (λ (y : Application). y.number == n) zs ≤ 1) apps sound.numbers)

    still_held : (ds : List Book) → Each (HasHolder (front ++ a ∷ back)) ds → Each (HasHolder (front ++ b ∷ back)) ds
    still_held [] p = tt
    still_held (d ∷ ds) p = (
      λ e. (
        any_swap (λ (y : Application). is_held_of y.number d) front a b back (ap (λ n. is_held_of n d) joined.number)
            ∙ (p.0 e).0,
        (p.0 e).1,
      ),
      still_held ds p.1,
    )

    -- ----- openings
    params : x.path.params ≡ h.slow.path.params
    params = ap (λ (o : Openings). o.params) opened.path

    unfixed : x.path.params.fixed ≡ false → h.slow.path.params.fixed ≡ false
    unfixed f = ap (λ (p : HostParams). p.fixed) (sym params) ∙ f

    waits : h.slow.path.flows ≡ waiting_in view.base cs
    waits =
        sound.opening.flows
        ∙ (sym (waiting_fresh known id k h.books others)
        ∙ (sym (append-nil (waiting_in after h.books))
        ∙ (sym (waiting_append after h.books (nb' ∷ []))
        ∙ ap (λ (l : List Held). waiting_in l cs) (sym base))))

    same_ports : (ds : List Book) → Each (λ (c : Book). same_flow id c.id ≡ false) ds
        → Each (λ (c : Book). has_given_port after c ≡ has_given_port known c) ds
    same_ports [] each = tt
    same_ports (d ∷ ds) each = (
      ap (λ (y : History). leb first_port y.tuple.lport) (other known id k d.id each.0),
      same_ports ds each.1,
    )

    ports : (f : h.slow.path.params.fixed ≡ false)
        → h.slow.path.ports + 1 ≡ count_by (has_given_port view.base) cs
    ports f =
        let given : h.slow.path.ports ≡ count_by (has_given_port known) h.books = sound.opening.ports f in
        let same : count_by (has_given_port after) h.books ≡ count_by (has_given_port known) h.books =
        count_each (has_given_port after) (has_given_port known) h.books (same_ports h.books others) in
        let pushed : count_by (has_given_port after) cs
        ≡ count_by (has_given_port after) h.books + tally (has_given_port after nb') =
        count_push (has_given_port after) h.books nb' in
        let is : leb first_port k.tuple.lport ≡ true =
        low_port first_port k.tuple.lport h.slow.path.ports port in
        let one : tally (has_given_port after nb') ≡ 1 =
        ap (λ (y : History). tally (leb first_port y.tuple.lport)) (own known id k) ∙ ap tally is in
        let all : count_by (has_given_port after) cs ≡ count_by (has_given_port view.base) cs =
        ap (λ (l : List Held). count_by (has_given_port l) cs) (sym base) in
        omega (arith, given, same, pushed, one, all)

    below : h.slow.path.params.fixed ≡ false → Each (IsBelowNext view.base x.path.ports) cs
    below f =
        let given : x.path.ports ≡ h.slow.path.ports + 1 = ap (λ (o : Openings). o.ports) opened.path in
        let here : (known_of id after).tuple.lport ≡ k.tuple.lport =
        ap (λ (y : History). y.tuple.lport) (own known id k) in
        let is : k.tuple.lport ≡ first_port + h.slow.path.ports = port in
        subst (λ (l : List Held). Each (IsBelowNext l x.path.ports) cs) (sym base)
        (each_append (IsBelowNext after x.path.ports) h.books (nb' ∷ [])
        (below_fresh known id k h.slow.path.ports x.path.ports (omega (arith, given)) h.books others
        (sound.opening.given f))
        (omega (arith, here, is, given), tt))

    connected : IsHostSound (after_connecting id front b back x h)
    connected = record {
      alone = opened.alone;
      slow_pass = opened.slow ∙ sound.slow_pass;
      waiting = ap waiting opened.rest ∙ sound.waiting;
      sound = kept;
      slots = ap (λ (p : HostParams). p.slots) params ∙ sound.slots;
      wide = (
        ap (λ (ms : List Mark). length ms) opened.marks
            ∙ (length-set h.slow.pass.view.marks id.slot (mark id.generation true false) ∙ sound.wide.0),
        opened.wide ∙ sound.wide.1,
      );
      numbered = numbered_push h.table.slots [] h.books nb' sound.numbered low number;
      plain = each_append IsPlain h.books (nb' ∷ []) sound.plain (λ f. absurd (true≢false (sym f)), tt);
      indexed = subst (λ (l : List Held). AreIndexed cs l) (sym base)
          (indexed_more known id k (hosts.Application b.number) h.books others no_tuple sound.indexed);
      table = record {
        marks = marks_more h.slow.pass.view view id nb' refl refl refl opened.marks h.books number free
            sound.table.marks;
        words = words;
      };
      kept = record {
        flows = opened.flows
            ∙ (ap (λ (fs : List KnownFlow). fs ++ record { tuple = k.tuple; id = id } ∷ []) sound.kept.flows
            ∙ (sym (flows_more known id k (hosts.Application b.number) h.books others)
            ∙ ap (λ (l : List Held). flows_in l cs) (sym base)));
        pins = opened.pins
            ∙ (ap (λ (fs : List FlowId). fs ++ id ∷ []) sound.kept.pins
            ∙ sym (names_with is_indexed h.books nb' [] refl));
        doomed = subst (IsPermutation x.doomed)
            (sym (names_without is_doomed h.books nb' [] refl ∙ append-nil (names is_doomed h.books)))
            (subst (λ (y : Worker). IsPermutation y.doomed (names is_doomed h.books)) (sym opened.rest)
            sound.kept.doomed);
        filed = subst (IsPermutation (map (λ (r : Flow). r.id) x.filed))
            (sym (names_without is_filed h.books nb' [] refl ∙ append-nil (names is_filed h.books)))
            (subst (λ (y : Worker). IsPermutation (map (λ (r : Flow). r.id) y.filed) (names is_filed h.books))
            (sym opened.rest) sound.kept.filed);
      };
      opening = record {
        flows = ap (λ (o : Openings). o.flows) opened.path ∙ waits;
        ports = λ f. ap (λ (o : Openings). o.ports) opened.path ∙ ports (unfixed f);
        listeners = λ f. subst (λ (ls : List Listener). Each (λ (l : Listener). l.port < first_port) ls)
            (sym (ap (λ (o : Openings). o.listeners) opened.path)) (sound.opening.listeners (unfixed f));
        given = λ f. below (unfixed f);
      };
      shown = record {
        pending = opened.indexed.pending;
        shown = subst (λ (l : List Held). AreShown cs l x.index.published) (sym base)
            (shown_more known id k h.slow.index.published x.index.published
            (subst (λ (l : List Change). AnswerAlike x.index.published
            (h.slow.index.published ++ (l ++ Put k.tuple id ∷ [])))
            sound.shown.pending opened.indexed.shown)
            h.books others no_tuple nb' refl refl sound.shown.shown);
      };
      apps = each_append (IsApp h.table cs) front (b ∷ back)
          (others_after front apart_apps.0 (firsts (IsApp h.table h.books) front a back all_apps))
          (own_app, others_after back apart_apps.1 (lasts (IsApp h.table h.books) front a back all_apps));
      numbers = λ n.
          let most : count_by (λ (y : Application). y.number == n) (front ++ a ∷ back) ≤ 1 =
          subst (λ (zs : List Application). count_by (λ (y : Application). y.number == n) zs ≤ 1) apps
          (sound.numbers n) in
          let same : count_by (λ (y : Application). y.number == n) (front ++ b ∷ back)
          ≡ count_by (λ (y : Application). y.number == n) (front ++ a ∷ back) =
          count_swap (λ (y : Application). y.number == n) front a b back (ap (λ m. m == n) joined.number) in
          omega (arith, most, same);
      holders = each_append (HasHolder (front ++ b ∷ back)) h.books (nb' ∷ [])
          (still_held h.books (subst (λ (zs : List Application). Each (HasHolder zs) h.books) apps sound.holders)) (
            λ e. (any_here (λ (y : Application). is_held_of y.number nb') front b back its, refl),
            tt,
          );
    }

-- ----- by a barrier
pub connected_told : (h : CoreHost) (front : List Application) (a : Application) (back : List Application)
    (b : Application) (x : Worker) (raddr rport tick : ℕ) (id : FlowId) → IsHostSound h → h.apps ≡ front ++ a ∷ back
    → next_in h.slow.pass.view.marks ≡ Some id
    → flow_with (begun_history a.number raddr rport tick h).tuple h.slow.flows ≡ None
    → length h.books < 4294967295 → pins_at h.slow.pass.view.words id.slot ≡ 0
    → IsOpenedBy id (begun_history a.number raddr rport tick h) h.slow x → HasConnected id a b
    → IsSound h.table (sight_of x) → IsHostSound (after_connecting id front b back x h)
connected_told h front a back b x raddr rport tick id sound apps next apart few empty opened joined kept =
    let k : History = begun_history a.number raddr rport tick h in
    connected h id sound next few front a back b x k apps refl apart (record {
      alone = opened.view.alone;
      slow = opened.view.slow;
      base = opened.view.base;
      marks = opened.view.marks;
      wide = opened.view.wide;
      path = opened.path;
      pins = opened.pins;
      flows = opened.flows;
      indexed = opened.indexed;
      rest = opened.rest;
    }) joined kept (words_told h id sound next few b.number k x.pass.view empty opened.view)

-- ----- alone
module _ (h : CoreHost) (front : List Application) (a : Application) (back : List Application) (b : Application)
    (x : Worker) (iss : Seq) (raddr rport tick : ℕ) (id : FlowId) (sound : IsHostSound h)
    (apps_are : h.apps ≡ front ++ a ∷ back) (free_ports : h.slow.path.params.fixed ≡ false)
    (few : length h.books < 4294967295) (joined : HasConnectedAlone id raddr rport iss tick a b h.slow x) where
  abbrev begun : History
  begun = first_history (next_tuple h.slow.path raddr rport) h.slow.path.params (callers.App a.number) tick iss

  abbrev by_slow : View
  by_slow = steps.opened id begun h.slow.pass.view

  abbrev won : IsPinned id (with_baton a.pass.view by_slow) joined.opened.pinned
  won = joined.opened.won

  app : IsApp h.table h.books a
  app = middle (IsApp h.table h.books) front a back (subst (Each (IsApp h.table h.books)) apps_are sound.apps)

  pass : x.pass ≡ record (h.slow.pass) { view = with_baton by_slow joined.opened.pinned }
  pass = ap (λ (o : Opener). o.pass) joined.opened.kept

  view_is : x.pass.view ≡ with_baton by_slow joined.opened.pinned
  view_is = ap (λ (s : Seen). s.view) pass

  quiet : h.slow.pass.view.turns ≡ []
  quiet = sound.alone.1

  -- the words, where the slow path and the application have these turns
  abbrev once : List Turn → List Word
  once ts = alone_or ts (put_word id.slot (live_word id.generation) h.slow.pass.view.words) h.slow.pass.view.words

  abbrev twice : List Turn → List Turn → List Word
  twice ts us = alone_or us (put_word id.slot (pin_more (word_at (once ts) id.slot)) (once ts)) (once ts)

  words_are : x.pass.view.words ≡ twice [] []
  words_are =
      ap (λ (v : View). v.words) view_is
      ∙ (ap (λ (v : View). v.words) won.3
      ∙ (λ i. twice (quiet i) (app.turns i)))

  has_opened : HasOpened id begun h.slow x
  has_opened = record {
    alone = (
      ap (λ (v : View). v.baton) view_is,
      ap (λ (v : View). v.turns) view_is ∙ ap (λ (ts : List Turn). noted (deeds_of id (unborn begun) begun.entries)
          (id ∷ []) [] ts) quiet,
      ap (λ (v : View). v.made) view_is ∙ (ap (λ (v : View). v.made) won.3 ∙ sound.alone.2),
    );
    slow = ap (λ (v : View). v.slow) view_is;
    base = ap (λ (v : View). v.base) view_is
        ∙ (ap (λ (v : View). v.base) won.3
        ∙ ap (λ (ts : List Turn). alone_or ts (record { flow = id; history = begun } ∷ h.slow.pass.view.base)
        h.slow.pass.view.base) quiet);
    marks = ap (λ (v : View). v.marks) view_is;
    wide = ap (λ (ws : List Word). length ws) words_are
        ∙ (length-set (once []) id.slot _ ∙ length-set h.slow.pass.view.words id.slot (live_word id.generation));
    path = joined.path;
    pins = ap (λ (o : Opener). o.pins) joined.opened.kept;
    flows = joined.flows;
    indexed = joined.indexed;
    rest = joined.rest;
  }

  has_connected : HasConnected id a b
  has_connected = record {
    number = ap (λ (y : Application). y.number) joined.opened.joined;
    own = ap (λ (y : Application). y.pass.table) joined.opened.joined;
    turns = ap (λ (y : Application). y.pass.view.turns) joined.opened.joined
        ∙ (ap (λ (v : View). v.turns) won.3 ∙ ap (λ (ts : List Turn). noted [] (id ∷ []) [] ts) app.turns);
    begun = ap (λ (y : Application). y.begun) joined.opened.joined;
    sockets = ap (λ (y : Application). y.sockets) joined.opened.joined;
  }

  -- the worker may work still
  abbrev opened_pass : Seen
  opened_pass = with_open id begun h.slow.pass

  abbrev known_now : KnownFlow
  known_now = record { tuple = begun.tuple; id = id }

  near_slot : id.slot < h.table.slots
  near_slot =
      let wide : length h.slow.pass.view.marks ≡ h.table.slots = sound.wide.0 in
      let within : id.slot < length h.slow.pass.view.marks =
      (next_slot h.slow.pass.view.marks id joined.opened.next).within
      in omega (arith, wide, within)

  kept_opened : AreKept h.table opened_pass h.slow.doomed (h.slow.pins ++ id ∷ []) (h.slow.flows ++ known_now ∷ [])
  kept_opened =
      opened_kept h.table id id begun h.slow.pass opened_pass h.slow.doomed h.slow.pins (h.slow.pins ++ id ∷ [])
      h.slow.flows (h.slow.flows ++ known_now ∷ []) known_now joined.opened.next near_slot refl refl refl refl refl
      sound.sound.0

  pins_are : x.pins ≡ h.slow.pins ++ id ∷ []
  pins_are = ap (λ (o : Opener). o.pins) joined.opened.kept

  kept : IsSound h.table (sight_of x)
  kept = (
    record {
      ready = (
        ap (λ (s : Seen). s.table) pass ∙ sound.sound.0.ready.0,
        inr has_opened.alone,
        ap (λ (v : View). v.held) view_is ∙ sound.sound.0.ready.2,
      );
      owned = subst (λ ds. clock.AreKept h.table.slots x.pass ds x.pins)
          (sym (ap (λ (y : Worker). y.doomed) joined.rest))
          (subst (λ ps. clock.AreKept h.table.slots x.pass h.slow.doomed ps) (sym pins_are)
          (still_kept h.table.slots opened_pass x.pass h.slow.doomed (h.slow.pins ++ id ∷ [])
          (ap (λ (v : View). v.pins) view_is) (ap (λ (v : View). v.marks) view_is) kept_opened.owned));
      known = λ i f at. subst (λ ps. HasItsPin ps f.id) (sym pins_are)
          (kept_opened.known i f (ap (λ (fs : List KnownFlow). slice_get fs i) (sym joined.flows) ∙ at));
    },
    subst InRange (sym (ap (λ (o : Openings). o.params) joined.path)) sound.sound.1,
  )

  pub connected_alone : IsHostSound (after_connecting id front b back x h)
  connected_alone =
      connected h id sound joined.opened.next few front a back b x begun apps_are refl
      (ap (λ (fs : List KnownFlow). flow_with begun.tuple fs) sound.kept.flows
      ∙ next_apart (known_in h) begun.tuple h.slow.path.ports refl h.books (sound.opening.given free_ports))
      has_opened has_connected kept (words_alone h id sound joined.opened.next few b.number x.pass.view words_are)

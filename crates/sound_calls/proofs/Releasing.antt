-- An application that has the baton gives up a socket: for the law releases_alone_keep_it.
use Rattle.std.proofs.Common.{◌≡◌, ℕ, zero, suc, ◌+◌, ◌-◌, ◌<◌, ◌≤◌, ◌==◌, ◌&&◌, not, Bool, true, false, cond, List, []}
use Rattle.std.proofs.Common.{◌∷◌, ◌++◌, length, refl, sym, ap, ◌∙◌, subst, arith, length-set, true≢false}
use Rattle.std.specs.List.{list_any}
use Rattle.std.proofs.lemmas.Bool.Decides.{nat_tests}
use Rattle.tas_model.specs.declared.entry.FlowId.{FlowId}
use Rattle.host_rounds.specs.Hosts.{is_held_by, is_waiting_by}
use Rattle.host_rounds.specs.Lists.{Each}
use Rattle.flow_lock.specs.Orders.{known_of, pins_at, total, at_slot, same_flow}
use Rattle.flow_lock.specs.Passes.{with_baton, without_baton}
use Rattle.flow_lock.specs.Steps.{IsAlone, alone_or, noted, pin_less, unpinned, without}
use Rattle.flow_lock.specs.Words.{flag, put_word, word_at}
use Rattle.flow_lock.specs.declared.view.Turn.{Turn}
use Rattle.flow_lock.specs.declared.view.View.{View}
use Rattle.flow_lock.specs.declared.word.Word.{Word}
use Rattle.libtas_sockets.specs.Apps.{Application, IsSocket, flow_of, with_view, without_socket}
use Rattle.libtas_sockets.specs.declared.socket.Socket.{Socket}
use Rattle.host_books.specs.Books.{Book}
use Rattle.host_books.proofs.Indexing.{is_same_flow}
use Rattle.sound_hosts.specs.Hosts.{CoreHost, is_held_of, word_of}
use Rattle.sound_hosts.specs.Leaving.{has_flow, left_by, books_left}
use Rattle.sound_hosts.specs.Sound.{IsHostSound, IsApp, IsWorded, HasHolder}
use Rattle.sound_hosts.proofs.Led.{both_each}
use Rattle.sound_hosts.proofs.Leaving.{AreRight, IsPinnedBy, any_each, flow_had, held_by, left_right, socket_had}
use Rattle.sound_hosts.proofs.Leaving.{socket_slot, waiting_left}
use Rattle.sound_hosts.proofs.Moved.{IsMovedOn, Lifts, all_right, generation_in, moved_sound}
use Rattle.sound_hosts.proofs.Numbers.{word_else, word_own}
use Rattle.sound_hosts.proofs.Reheld.{each_reheld, waiting_reheld}
use Rattle.sound_hosts.proofs.Standing.{within}
use Rattle.sound_hosts.proofs.Sweeping.{middle}
use Rattle.sound_calls.specs.Handing.{given_back, with_books}
use Rattle.sound_calls.proofs.Alone.{same_led}

-- ----- words
-- A word says of the flow of its slot what the book says, but for the pins.
record IsWordBut (x : Word) (b : Book) : Type 0 where
  pub generation : x.generation ≡ b.id.generation
  pub live : x.live ≡ true
  pub doomed : x.doomed ≡ not b.indexed
  pub busy : x.busy ≡ false

abbrev IsWordedBut : List Word → Book → Type 0
IsWordedBut ws b = b.filed ≡ false → IsWordBut (word_at ws b.id.slot) b

-- all but the pins of words where one has a pin less
record IsAlike (x y : Word) : Type 0 where
  pub generation : x.generation ≡ y.generation
  pub live : x.live ≡ y.live
  pub doomed : x.doomed ≡ y.doomed
  pub busy : x.busy ≡ y.busy

alike_self : (x : Word) → IsAlike x x
alike_self x = record { generation = refl; live = refl; doomed = refl; busy = refl }

less_alike : (ws : List Word) (i k : ℕ)
    → IsAlike (word_at (put_word i (pin_less (word_at ws i)) ws) k) (word_at ws k)
less_alike [] i k = alike_self (word_at [] k)
less_alike (x ∷ xs) zero zero = record { generation = refl; live = refl; doomed = refl; busy = refl }
less_alike (x ∷ xs) zero (suc k) = alike_self (word_at xs k)
less_alike (x ∷ xs) (suc i) zero = alike_self x
less_alike (x ∷ xs) (suc i) (suc k) = less_alike xs i k

-- with the pins it is the book's
worded_so : (ws : List Word) (b : Book) → IsWordedBut ws b → IsPinnedBy (pins_at ws) b → b.filed ≡ false
    → word_at ws b.id.slot ≡ word_of b
worded_so ws b but pinned stands =
    λ i. record {
      generation = (but stands).generation i;
      pins = pinned stands i;
      live = (but stands).live i;
      doomed = (but stands).doomed i;
      busy = (but stands).busy i;
    }

-- ----- a socket is given up
module _ (h : CoreHost) (front back : List Application) (a : Application) (s : Socket)
    (sound : IsHostSound (given_back front a back h)) (alone : IsAlone a.pass.view) (socket : IsSocket a s) where
  abbrev less : List Word
  less = put_word (flow_of a s).slot (pin_less (word_at a.pass.view.words (flow_of a s).slot)) a.pass.view.words

  abbrev w : View
  w = with_baton h.slow.pass.view (unpinned (flow_of a s) a.pass.view)

  abbrev cs : List Book
  cs = books_left a.number (flow_of a s ∷ []) h.books

  words_are : (unpinned (flow_of a s) a.pass.view).words ≡ less
  words_are = ap (λ (ts : List Turn). alone_or ts
      (put_word (flow_of a s).slot (pin_less (word_at a.pass.view.words (flow_of a s).slot)) a.pass.view.words)
      a.pass.view.words) alone.1

  -- the flow's own book
  had : list_any (has_flow a.number (flow_of a s)) h.books ≡ true
  had = flow_had h.table h.books (with_view (without_baton a.pass.view) a) (flow_of a s)
      (middle (IsApp h.table h.books) front (with_view (without_baton a.pass.view) a) back sound.apps)
      (socket_had s.0 a.sockets socket)

  abbrev IsKnown : Book → Type 0
  IsKnown b = ((b.id.slot < h.table.slots) × IsWorded (with_baton h.slow.pass.view a.pass.view) b)
      × HasHolder (front ++ with_view (without_baton a.pass.view) a ∷ back) b

  record IsOwn : Type 0 where
    pub low : (flow_of a s).slot < length a.pass.view.words
    pub pins : 1 ≤ pins_at a.pass.view.words (flow_of a s).slot

  and_both : (x y : Bool) → (x && y) ≡ true → (x ≡ true) × (y ≡ true)
  and_both true y e = (refl, e)
  and_both false y e = absurd (true≢false (sym e))

  own : IsOwn
  own =
      let b = any_each (has_flow a.number (flow_of a s)) IsKnown h.books had
      (both_each (λ (b : Book). (b.id.slot < h.table.slots) × IsWorded (with_baton h.slow.pass.view a.pass.view) b)
      (HasHolder (front ++ with_view (without_baton a.pass.view) a ∷ back)) h.books
      (both_each (λ (b : Book). b.id.slot < h.table.slots) (IsWorded (with_baton h.slow.pass.view a.pass.view)) h.books
      (within h.table.slots [] h.books sound.numbered) sound.table.words)
      sound.holders) in
      let both = and_both (is_held_of a.number b.0) (same_flow b.0.id (flow_of a s)) b.1 in
      of b.0 (is_same_flow b.0.id (flow_of a s) both.1) b.2.0.0
      (b.2.0.1 (b.2.1 (held_by a.number b.0.holder both.0)).1)
    where
      of : (b : Book) → b.id ≡ flow_of a s → b.id.slot < h.table.slots
          → word_at a.pass.view.words b.id.slot ≡ word_of b → IsOwn
      of b named low word = record {
        low =
            let wide : length a.pass.view.words ≡ h.table.slots = sound.wide.1 in
            let l : (flow_of a s).slot < h.table.slots = subst (λ (f : FlowId). f.slot < h.table.slots) named low in
            omega (arith, wide, l);
        pins =
            let p : pins_at a.pass.view.words (flow_of a s).slot ≡ 1 + flag (is_held_by b.holder) =
            ap (λ (f : FlowId). pins_at a.pass.view.words f.slot) (sym named) ∙ ap (λ (x : Word). x.pins) word in
            omega (arith, p);
      }

  fewer : (i : ℕ) → pins_at less i + total (at_slot i) (flow_of a s ∷ []) ≡ pins_at a.pass.view.words i
  fewer i = by ((flow_of a s).slot == i) refl
    where
      by : (t : Bool) → ((flow_of a s).slot == i) ≡ t
          → pins_at less i + (cond ((flow_of a s).slot == i) 1 0 + 0) ≡ pins_at a.pass.view.words i
      by true e =
          let slot : (flow_of a s).slot ≡ i = grind (arith, nat_tests, e) in
          let one : ◌≡◌ {A = ℕ} (cond ((flow_of a s).slot == i) 1 0) 1 = ap (λ t. cond {A = ℕ} t 1 0) e in
          let now : pins_at less (flow_of a s).slot ≡ pins_at a.pass.view.words (flow_of a s).slot - 1 =
          ap (λ (x : Word). x.pins) (word_own a.pass.view.words (flow_of a s).slot
          (pin_less (word_at a.pass.view.words (flow_of a s).slot)) own.low) in
          let some : 1 ≤ pins_at a.pass.view.words (flow_of a s).slot = own.pins in
          let x : pins_at less (flow_of a s).slot ≡ pins_at less i = ap (λ k. pins_at less k) slot in
          let y : pins_at a.pass.view.words (flow_of a s).slot ≡ pins_at a.pass.view.words i =
          ap (λ k. pins_at a.pass.view.words k) slot in
          omega (arith, one, now, some, x, y)
      by false e =
          let none : ◌≡◌ {A = ℕ} (cond ((flow_of a s).slot == i) 1 0) 0 = ap (λ t. cond {A = ℕ} t 1 0) e in
          let now : pins_at less i ≡ pins_at a.pass.view.words i =
          ap (λ (x : Word). x.pins) (word_else a.pass.view.words (flow_of a s).slot i
          (pin_less (word_at a.pass.view.words (flow_of a s).slot)) (λ q. differs q)) in
          omega (arith, none, now)
        where
          differs : i ≡ (flow_of a s).slot → ⊥
          differs q = let t : ((flow_of a s).slot == i) ≡ true = grind (arith, nat_tests, q) in
              true≢false (sym t ∙ e)

  -- ----- books and applications
  right : AreRight h.table (generation_in (with_baton h.slow.pass.view a.pass.view)) (pins_at less) cs
      (front ++ with_view (without_baton (unpinned (flow_of a s) a.pass.view)) (without_socket s a) ∷ back)
  right = left_right h.table (generation_in (with_baton h.slow.pass.view a.pass.view)) front back (flow_of a s ∷ [])
      (pins_at a.pass.view.words) (pins_at less) h.books (with_view (without_baton a.pass.view) a)
      (with_view (without_baton (unpinned (flow_of a s) a.pass.view)) (without_socket s a))
      (all_right (given_back front a back h) sound)
      (record {
        number = refl;
        own = refl;
        turns = ap (λ (ts : List Turn). noted [] [] (flow_of a s ∷ []) ts) alone.1;
        begun = refl;
        sockets = ap (λ k. without k a.sockets) (sym (socket_slot s.0 a.sockets));
        had = (socket_had s.0 a.sockets socket, tt);
      })
      fewer

  -- ----- words
  but_before : (ds : List Book) → Each (IsWorded (with_baton h.slow.pass.view a.pass.view)) ds
      → Each (IsWordedBut less) ds
  but_before [] each = tt
  but_before (d ∷ ds) each = (
    λ f.
        let x = less_alike a.pass.view.words (flow_of a s).slot d.id.slot in
        record {
          generation = x.generation ∙ ap (λ (y : Word). y.generation) (each.0 f);
          live = x.live ∙ ap (λ (y : Word). y.live) (each.0 f);
          doomed = x.doomed ∙ ap (λ (y : Word). y.doomed) (each.0 f);
          busy = x.busy ∙ ap (λ (y : Word). y.busy) (each.0 f);
        },
    but_before ds each.1,
  )

  lift : (P : List Book → Type 0) → Lifts h.books cs P
  lift P keeps p = keeps (left_by a.number (flow_of a s)) h.books p

  but_after : Each (IsWordedBut less) cs
  but_after =
      lift (Each (IsWordedBut less))
      (λ holder ds x. each_reheld holder (IsWordedBut less) (IsWordedBut less)
      (λ b y f. record {
        generation = (y f).generation;
        live = (y f).live;
        doomed = (y f).doomed;
        busy = (y f).busy;
      }) ds x)
      (but_before h.books sound.table.words)

  words_after : (ds : List Book) → Each (IsWordedBut less) ds → Each (IsPinnedBy (pins_at less)) ds
      → Each (IsWorded w) ds
  words_after [] x y = tt
  words_after (d ∷ ds) x y = (
    λ f. ap (λ (l : List Word). word_at l d.id.slot) words_are ∙ worded_so less d x.0 y.0 f,
    words_after ds x.1 y.1,
  )

  -- ----- the host
  still : (ds : List Book)
      → Each (λ (b : Book). is_waiting_by (left_by a.number (flow_of a s) b) ≡ is_waiting_by b.holder) ds
  still [] = tt
  still (d ∷ ds) = (waiting_left a.number (flow_of a s) d, still ds)

  on : IsMovedOn (given_back front a back h) w
  on = record {
    alone = (refl, sound.alone.1, sound.alone.2);
    slow = sound.slow_pass;
    marks = refl;
    pins = refl;
    idle = sound.sound.0.ready.2;
    wide = ap (λ (l : List Word). length l) words_are
        ∙ length-set a.pass.view.words (flow_of a s).slot
        (pin_less (word_at a.pass.view.words (flow_of a s).slot));
    leads = λ f. same_led (known_of f a.pass.view.base);
  }

  pub released_alone : IsHostSound (given_back front (without_socket s a) back
      (with_books (books_left a.number (flow_of a s ∷ []) h.books) h))
  released_alone =
      moved_sound (given_back front a back h) sound w on h.slow.path
      (front ++ with_view (without_baton (unpinned (flow_of a s) a.pass.view)) (without_socket s a) ∷ back) cs lift refl
      (sound.opening.flows
      ∙ sym (waiting_reheld (left_by a.number (flow_of a s)) a.pass.view.base h.books (still h.books)))
      (words_after cs but_after right.pinned) right.taken

  pub still_alone : IsAlone (without_socket s a).pass.view
  still_alone =
      (alone.0, ap (λ (ts : List Turn). noted [] [] (flow_of a s ∷ []) ts) alone.1, alone.2)

-- The answers of an accept that is made alone: for the law accepts_alone_keep_it.
use Rattle.std.proofs.Common.{◌≡◌, ◌≢◌, ℕ, zero, suc, ◌+◌, ◌-◌, ◌<◌, ◌==◌, not, Bool, true, false, cond, List, []}
use Rattle.std.proofs.Common.{◌∷◌, ◌++◌, length, refl, sym, ap, ◌∙◌, subst, arith, inl, inr, slice_get, Some}
use Rattle.std.proofs.Common.{length-set}
use Rattle.std.proofs.Common.{true≢false}
use Rattle.std.specs.Prelude.{Option, None, Result, Ok, Err, is_some}
use Rattle.std.specs.List.{filter}
use Rattle.std.proofs.lemmas.Bool.Decides.{nat_tests}
use Rattle.tas_model.specs.declared.entry.Caller.TheVariants.{App}
use Rattle.tas_model.specs.declared.entry.FlowId.{FlowId}
use Rattle.tas_model.specs.declared.entry.Reason.{Reason}
use Rattle.tas_model.specs.ApplicationCalls.{Opening, Over, Running, column, column_by}
use Rattle.tas_model.specs.LegalHistory.{replay}
use Rattle.flow_state.specs.Calls.{call_of, offer_of}
use Rattle.flow_state.specs.declared.call.CallIn.TheVariants as ins
use Rattle.flow_state.specs.Flow.{Flow}
use Rattle.host_rounds.specs.Hosts as hosts
use Rattle.host_rounds.specs.Hosts.{Holder, Waiting, GivenUp, is_waiting_by}
use Rattle.host_rounds.specs.Lists.{Each}
use Rattle.flow_lock.specs.Answers.{IsPinned}
use Rattle.flow_lock.specs.Orders.{known_of, pins_at, same_flow}
use Rattle.flow_lock.specs.Passes.{with_baton, without_baton}
use Rattle.flow_lock.specs.Steps.{IsAlone, alone_or, noted, pin_less, pin_more, unpinned}
use Rattle.flow_lock.specs.Words.{put_word, word_at}
use Rattle.flow_lock.specs.declared.view.Held.{Held}
use Rattle.flow_lock.specs.declared.view.History.{History}
use Rattle.flow_lock.specs.declared.view.Turn.{Turn}
use Rattle.flow_lock.specs.declared.view.View.{View}
use Rattle.flow_lock.specs.declared.word.Word.{Word}
use Rattle.flow_clock.specs.Histories.{is_over, is_running, endpoint_of}
use Rattle.app_reaper.specs.OneCall.{history, history_with, IsOwn, IsUse}
use Rattle.slow_handshake.specs.Openings.{Openings, first_ready, is_named, is_ready_at}
use Rattle.slow_handshake.specs.declared.openings.PassiveFlow.{PassiveFlow}
use Rattle.libtas_sockets.specs.Accepting.{IsAcceptance}
use Rattle.libtas_sockets.specs.Apps.{Application, with_socket, with_view}
use Rattle.libtas_sockets.specs.declared.socket.Socket.{Socket}
use Rattle.libtas_sockets.specs.declared.socket_error.SocketError.{SocketError}
use Rattle.libtas_sockets.specs.declared.socket_error.SocketError.TheVariants as errors
use Rattle.host_books.specs.Books.{Book}
use Rattle.host_books.specs.Indexes.{IsFindable}
use Rattle.host_books.proofs.Indexing.{is_same_flow}
use Rattle.host_books.proofs.Orders.{same_self}
use Rattle.sound_hosts.specs.Hosts.{CoreHost, is_held_of, waiting_in}
use Rattle.sound_hosts.specs.Leading.{LedOn, Leads}
use Rattle.sound_hosts.specs.Moving.{IsLed}
use Rattle.sound_hosts.specs.Sound.{IsHostSound, IsPlain}
use Rattle.sound_hosts.proofs.Calls.{call_leads}
use Rattle.sound_hosts.proofs.Distinct.{IsWaiting, is_waiting}
use Rattle.sound_hosts.proofs.Leaving.{same_right}
use Rattle.sound_hosts.proofs.Moved.{all_right, generation_in, moved_sound}
use Rattle.sound_hosts.proofs.Numbers.{word_else, word_own}
use Rattle.sound_hosts.proofs.OneFlow.{one_leads, used_leads, words_same}
use Rattle.sound_hosts.proofs.OpenSockets.{and_both, each_at, not_held, not_true}
use Rattle.sound_hosts.proofs.Reheld.{StaysWaiting, waiting_same}
use Rattle.sound_hosts.proofs.Standing.{within}
use Rattle.sound_hosts.proofs.Told.{left_waiting}
use Rattle.sound_calls.specs.Handing.{given_back, after_accepting}
use Rattle.sound_calls.proofs.Accepting.{IsPinnedOn, accepted_sound}
use Rattle.sound_calls.proofs.Alone.{same_led, no_lift}

-- ----- a pin more
-- what a pin that was won alone leaves of the view
record IsPinnedAlone (id : FlowId) (v w : View) : Type 0 where
  pub alone : IsAlone w
  pub base : w.base ≡ v.base
  pub words : w.words ≡ put_word id.slot (pin_more (word_at v.words id.slot)) v.words

pinned_alone : (id : FlowId) (v w : View) → IsAlone v → IsPinned id v w → IsPinnedAlone id v w
pinned_alone id v w alone (x, is, known, e) = record {
  alone = (
    ap (λ (y : View). y.baton) e ∙ alone.0,
    ap (λ (y : View). y.turns) e ∙ ap (λ (ts : List Turn). noted [] (id ∷ []) [] ts) alone.1,
    ap (λ (y : View). y.made) e ∙ alone.2,
  );
  base = ap (λ (y : View). y.base) e;
  words = ap (λ (y : View). y.words) e
      ∙ ap (λ (ts : List Turn). alone_or ts (put_word id.slot (pin_more (word_at v.words id.slot)) v.words) v.words)
      alone.1;
}

less_more : (x : Word) → pin_less (pin_more x) ≡ x
less_more x = λ i. record x { pins = same i }
  where
    same : (x.pins + 1) - 1 ≡ x.pins
    same = omega arith

-- and one less again
words_again : (id : FlowId) (ws ms : List Word) → id.slot < length ms
    → ((k : ℕ) → word_at ms k ≡ word_at (put_word id.slot (pin_more (word_at ws id.slot)) ws) k)
    → id.slot < length ws → (k : ℕ) → word_at (put_word id.slot (pin_less (word_at ms id.slot)) ms) k ≡ word_at ws k
words_again id ws ms low same near k = by (k == id.slot) refl
  where
    by : (t : Bool) → (k == id.slot) ≡ t
        → word_at (put_word id.slot (pin_less (word_at ms id.slot)) ms) k ≡ word_at ws k
    by true e =
        let slot : k ≡ id.slot = grind (arith, nat_tests, e) in
        subst (λ j. word_at (put_word id.slot (pin_less (word_at ms id.slot)) ms) j ≡ word_at ws j) (sym slot)
        (word_own ms id.slot (pin_less (word_at ms id.slot)) low
        ∙ (ap pin_less (same id.slot ∙ word_own ws id.slot (pin_more (word_at ws id.slot)) near)
        ∙ less_more (word_at ws id.slot)))
    by false e =
        word_else ms id.slot k (pin_less (word_at ms id.slot)) (differs e)
        ∙ (same k ∙ word_else ws id.slot k (pin_more (word_at ws id.slot)) (differs e))
      where
        differs : (k == id.slot) ≡ false → k ≢ id.slot
        differs q s = let t : (k == id.slot) ≡ true = grind (arith, nat_tests, s) in true≢false (sym t ∙ q)

-- ----- a place of a list
record IsPlaced (b : Book) (bs : List Book) : Type 0 where
  pub before : List Book
  pub behind : List Book
  pub is : bs ≡ before ++ b ∷ behind

placed : (bs : List Book) (n : ℕ) (b : Book) → slice_get bs n ≡ Some b → IsPlaced b bs
placed [] n b e = absurd (cc (e))
placed (c ∷ cs) zero b e = record { before = []; behind = cs; is = ap (λ x. x ∷ cs) (same c b e) }
  where
    same : (x y : Book) → ◌≡◌ {A = Option Book} (Some x) (Some y) → x ≡ y
    same x y q = cc (q)
placed (c ∷ cs) (suc n) b e =
    let r = placed cs n b e in
    record { before = c ∷ r.before; behind = r.behind; is = ap (λ l. c ∷ l) r.is }

-- ----- an accept
module _ (h : CoreHost) (front back : List Application) (a b : Application) (port tick : ℕ) (id : FlowId)
    (sound : IsHostSound (given_back front a back h)) (alone : IsAlone a.pass.view)
    (first : first_ready h.slow.path port ≡ Some id) where
  abbrev host : CoreHost
  host = given_back front a back h

  abbrev known : List Held
  known = a.pass.view.base

  -- the flow's book, which waits
  book : IsWaiting a.pass.view.base (is_held_of a.number) h.books id
  book = is_waiting a.pass.view.base (is_held_of a.number)
      (λ c w. not_held a.number c.holder (and_both (is_waiting_by c.holder)
      (not (is_over (known_of c.id a.pass.view.base))) w).0) (is_ready_at port) h.table.slots []
      h.books id sound.numbered
      (ap (λ (fs : List PassiveFlow). first_ready (record (h.slow.path) { flows = fs }) port) (sym sound.opening.flows)
      ∙ first)

  place : IsPlaced book.book h.books
  place = placed h.books book.place book.book book.at

  waiting_is : (x : Holder) → is_waiting_by x ≡ true → x ≡ Waiting
  waiting_is Waiting e = refl
  waiting_is (hosts.Application n) e = absurd (true≢false (sym e))
  waiting_is GivenUp e = absurd (true≢false (sym e))

  not_filed : (i f : Bool) → (f ≡ true → i ≡ false) → (i ≡ false → ⊥) → f ≡ false
  not_filed i true plain_ open_ = absurd (open_ (plain_ refl))
  not_filed i false plain_ open_ = refl

  waits_ : (is_waiting_by book.book.holder ≡ true)
      × (not (is_over (known_of book.book.id a.pass.view.base)) ≡ true)
  waits_ = and_both (is_waiting_by book.book.holder) (not (is_over (known_of book.book.id a.pass.view.base)))
      book.waiting

  stands : book.book.filed ≡ false
  stands = not_filed book.book.indexed book.book.filed
      (each_at IsPlain h.books book.place book.book sound.plain book.at)
      (λ i. true≢false (sym (each_at (IsFindable a.pass.view.base) h.books book.place book.book sound.indexed.running
      book.at i)
      ∙ not_true (is_over (known_of book.book.id a.pass.view.base)) waits_.1))

  low : id.slot < length a.pass.view.words
  low =
      let near : book.book.id.slot < h.table.slots =
      each_at (λ (c : Book). c.id.slot < h.table.slots) h.books book.place book.book
      (within h.table.slots [] h.books sound.numbered) book.at in
      let here : id.slot < h.table.slots = subst (λ (f : FlowId). f.slot < h.table.slots) book.name near in
      let wide : length a.pass.view.words ≡ h.table.slots = sound.wide.1 in
      omega (arith, here, wide)

  -- ----- nothing was accepted
  -- a view that is as before, but for a history that is known once more, and these openings
  module _ (w : View) (again : IsAlone w) (leads : Leads a.pass.view.base w.base)
      (same : (f : FlowId) → known_of f w.base ≡ known_of f a.pass.view.base)
      (words : (k : ℕ) → word_at w.words k ≡ word_at a.pass.view.words k)
      (wide : length w.words ≡ length a.pass.view.words) where
    same_waiting : (cs : List Book) → Each (StaysWaiting a.pass.view.base w.base) cs
    same_waiting [] = tt
    same_waiting (c ∷ cs) = (
      λ e. (ap is_over (same c.id), ap is_running (same c.id), ap (λ (x : History). x.tuple) (same c.id)),
      same_waiting cs,
    )

    still_waits : h.slow.path.flows ≡ waiting_in w.base h.books
    still_waits = sound.opening.flows ∙ sym (waiting_same a.pass.view.base w.base h.books (same_waiting h.books))

    refused : (path : Openings) → path ≡ record (h.slow.path) { flows = path.flows }
        → path.flows ≡ waiting_in w.base h.books
        → IsHostSound (given_back front (with_view w a) back (record h { slow = record (h.slow) { path = path } }))
    refused path same_path waits_on =
        moved_sound host sound (with_baton h.slow.pass.view w)
        (record {
          alone = (refl, sound.alone.1, again.2);
          slow = sound.slow_pass;
          marks = refl;
          pins = refl;
          idle = sound.sound.0.ready.2;
          wide = wide;
          leads = leads;
        })
        path (front ++ with_view (without_baton w) a ∷ back) h.books (no_lift h.books) same_path waits_on
        (words_same (with_baton h.slow.pass.view a.pass.view) (with_baton h.slow.pass.view w) words h.books
        sound.table.words)
        (same_right h.table (generation_in (with_baton h.slow.pass.view a.pass.view)) (pins_at a.pass.view.words)
        h.books
        front (with_view (without_baton a.pass.view) a) (with_view (without_baton w) a) back
        (record { number = refl; own = refl; turns = again.1; begun = refl; sockets = refl; had = tt })
        (all_right host sound)).taken

    refused_plain : IsHostSound (given_back front (with_view w a) back h)
    refused_plain = refused h.slow.path refl still_waits

    -- a closed flow leaves the list
    refused_closed : is_over (known_of id a.pass.view.base) ≡ true
        → IsHostSound (given_back front (with_view w a) back
        (record h {
          slow = record (h.slow) {
            path = record (h.slow.path) { flows = filter (λ f. not (is_named id f)) h.slow.path.flows };
          };
        }))
    refused_closed over =
        refused (record (h.slow.path) { flows = filter (λ f. not (is_named id f)) h.slow.path.flows }) refl
        (ap (filter (λ f. not (is_named id f))) sound.opening.flows
        ∙ (sym (left_waiting a.pass.view.base id (known_of id a.pass.view.base) over h.books)
        ∙ waiting_same w.base
        (record { flow = id; history = known_of id a.pass.view.base } ∷ a.pass.view.base) h.books
        (again_waiting h.books)))
      where
        known_again : (f : FlowId)
            → known_of f (record { flow = id; history = known_of id a.pass.view.base } ∷ a.pass.view.base)
            ≡ known_of f w.base
        known_again f = by (same_flow id f) refl ∙ sym (same f)
          where
            by : (t : Bool) → same_flow id f ≡ t
                → cond (same_flow id f) (known_of id a.pass.view.base) (known_of f a.pass.view.base)
                ≡ known_of f a.pass.view.base
            by true e =
                ap (λ t. cond t (known_of id a.pass.view.base) (known_of f a.pass.view.base)) e
                ∙ ap (λ g. known_of g a.pass.view.base) (is_same_flow id f e)
            by false e = ap (λ t. cond t (known_of id a.pass.view.base) (known_of f a.pass.view.base)) e

        again_waiting : (cs : List Book) → Each (StaysWaiting w.base
            (record { flow = id; history = known_of id a.pass.view.base } ∷ a.pass.view.base)) cs
        again_waiting [] = tt
        again_waiting (c ∷ cs) = (
          λ e. (
            ap is_over (known_again c.id),
            ap is_running (known_again c.id),
            ap (λ (x : History). x.tuple) (known_again c.id),
          ),
          again_waiting cs,
        )

  -- ----- it was pinned and tried
  module _ (u w : View) (pin : IsPinned id a.pass.view u) where
    won : IsPinnedAlone id a.pass.view u
    won = pinned_alone id a.pass.view u alone pin

    wide_won : length u.words ≡ length a.pass.view.words
    wide_won = ap (λ (l : List Word). length l) won.words
        ∙ length-set a.pass.view.words id.slot (pin_more (word_at a.pass.view.words id.slot))

    module _ (r : Flow) (own : IsOwn id u r) where
      is_known : history r ≡ known_of id a.pass.view.base
      is_known = own.known won.alone ∙ ap (λ (l : List Held). known_of id l) won.base

      -- let go again, and nothing was done
      module _ (use_ : IsUse id r (history r) u w) where
        led : IsLed id (history r) u w
        led = used_leads id r (history r) u w won.alone use_

        abbrev back_view : View
        back_view = unpinned id w

        words_back : (unpinned id w).words ≡ put_word id.slot (pin_less (word_at w.words id.slot)) w.words
        words_back = ap (λ (ts : List Turn). alone_or ts
            (put_word id.slot (pin_less (word_at w.words id.slot)) w.words) w.words) led.alone.1

        base_back : (unpinned id w).base ≡ record { flow = id; history = history r } ∷ a.pass.view.base
        base_back = led.base ∙ ap (λ (l : List Held). record { flow = id; history = history r } ∷ l) won.base

        same_known : (f : FlowId) → known_of f (unpinned id w).base ≡ known_of f a.pass.view.base
        same_known f = ap (λ (l : List Held). known_of f l) base_back ∙ by (same_flow id f) refl
          where
            by : (t : Bool) → same_flow id f ≡ t
                → cond (same_flow id f) (history r) (known_of f a.pass.view.base) ≡ known_of f a.pass.view.base
            by true e =
                ap (λ t. cond t (history r) (known_of f a.pass.view.base)) e
                ∙ (is_known ∙ ap (λ g. known_of g a.pass.view.base) (is_same_flow id f e))
            by false e = ap (λ t. cond t (history r) (known_of f a.pass.view.base)) e

        leads_back : Leads a.pass.view.base (unpinned id w).base
        leads_back f =
            subst (λ (x : History). LedOn (known_of f a.pass.view.base) x) (sym (same_known f))
            (same_led (known_of f a.pass.view.base))

        wide_w : length w.words ≡ length a.pass.view.words
        wide_w = led.wide ∙ wide_won

        again : IsAlone (unpinned id w)
        again =
            (led.alone.0, ap (λ (ts : List Turn). noted [] [] (id ∷ []) ts) led.alone.1, led.alone.2)

        same_words : (k : ℕ) → word_at (unpinned id w).words k ≡ word_at a.pass.view.words k
        same_words k =
            ap (λ (l : List Word). word_at l k) words_back
            ∙ words_again id a.pass.view.words w.words
            (let x : length w.words ≡ length a.pass.view.words = wide_w in let y : id.slot < length a.pass.view.words =
            low in omega (arith, x, y))
            (λ j. led.words j ∙ ap (λ (l : List Word). word_at l j) won.words) low k

        wide_back : length (unpinned id w).words ≡ length a.pass.view.words
        wide_back =
            ap (λ (l : List Word). length l) words_back
            ∙ (length-set w.words id.slot (pin_less (word_at w.words id.slot)) ∙ wide_w)

        let_go : IsHostSound (given_back front (with_view (unpinned id w) a) back h) × IsAlone (unpinned id w)
        let_go = (refused_plain (unpinned id w) again leads_back same_known same_words wide_back, again)

        let_go_closed : is_over (history r) ≡ true
            → IsHostSound (given_back front (with_view (unpinned id w) a) back
            (record h {
              slow = record (h.slow) {
                path = record (h.slow.path) { flows = filter (λ f. not (is_named id f)) h.slow.path.flows };
              };
            })) × IsAlone (unpinned id w)
        let_go_closed over = (
          refused_closed (unpinned id w) again leads_back same_known same_words wide_back
              (ap is_over (sym is_known) ∙ over),
          again,
        )

      -- accepted
      module _ (use_ : IsUse id r (history_with r (App a.number) tick ins.Accept) u w) where
        abbrev k : History
        k = history_with r (App a.number) tick ins.Accept

        led_on : IsLed id (history_with r (App a.number) tick ins.Accept) u w
        led_on = used_leads id r (history_with r (App a.number) tick ins.Accept) u w won.alone use_

        base_on : w.base ≡ record { flow = id; history = history_with r (App a.number) tick ins.Accept }
            ∷ a.pass.view.base
        base_on =
            led_on.base
            ∙ ap (λ (l : List Held). record {
              flow = id;
              history = history_with r (App a.number) tick ins.Accept;
            } ∷ l) won.base

        leads_on : Leads a.pass.view.base w.base
        leads_on = subst (Leads a.pass.view.base) (sym base_on)
            (one_leads a.pass.view.base id (history_with r (App a.number) tick ins.Accept)
            (subst (λ (x : History). LedOn x (history_with r (App a.number) tick ins.Accept)) is_known
            (call_leads (history r) (App a.number) tick (call_of ins.Accept) (offer_of ins.Accept) own.legal)))

        on : IsPinnedOn host (with_baton h.slow.pass.view w) id (history_with r (App a.number) tick ins.Accept)
        on = record {
          on = record {
            alone = (refl, sound.alone.1, led_on.alone.2);
            slow = sound.slow_pass;
            marks = refl;
            pins = refl;
            idle = sound.sound.0.ready.2;
            wide = led_on.wide ∙ wide_won;
            leads = leads_on;
          };
          base = base_on;
          own = led_on.words id.slot
              ∙ (ap (λ (l : List Word). word_at l id.slot) won.words
              ∙ word_own a.pass.view.words id.slot (pin_more (word_at a.pass.view.words id.slot)) low);
          others = λ i ne. led_on.words i
              ∙ (ap (λ (l : List Word). word_at l i) won.words
              ∙ word_else a.pass.view.words id.slot i (pin_more (word_at a.pass.view.words id.slot)) ne);
        }

        took : (s : Socket)
            → IsHostSound (given_back front (with_socket id (with_view w a)) back
            (after_accepting a.number id (Ok s) h)) × IsAlone w
        took s = (
          subst (λ f. IsHostSound (given_back front (with_socket f (with_view w a)) back
              (after_accepting a.number f (Ok s) h))) book.name
              (accepted_sound host front (with_view (without_baton a.pass.view) a) back
              (with_view (without_baton w) (with_socket book.book.id (with_view w a)))
              place.before book.book place.behind (with_baton h.slow.pass.view w)
              (history_with r (App a.number) tick ins.Accept) sound refl place.is (same_self book.book.id)
              (waiting_is book.book.holder waits_.0) stands
              (subst (λ f. IsPinnedOn host (with_baton h.slow.pass.view w) f
              (history_with r (App a.number) tick ins.Accept)) (sym book.name) on)
              refl refl led_on.alone.1 refl refl),
          led_on.alone,
        )

  -- ----- every answer
  abbrev Answer : Result Socket SocketError → Application → Type 0
  Answer result c = IsHostSound (given_back front c back (after_accepting a.number id result h)) × IsAlone c.pass.view

  -- the same view, as far as soundness reads it
  unmoved : (w : View) → w.baton ≡ a.pass.view.baton → w.turns ≡ a.pass.view.turns → w.made ≡ a.pass.view.made
      → w.base ≡ a.pass.view.base → w.words ≡ a.pass.view.words
      → IsHostSound (given_back front (with_view w a) back h) × IsAlone w
  unmoved w baton turns made base words =
      let again : IsAlone w = (baton ∙ alone.0, turns ∙ alone.1, made ∙ alone.2) in (
        refused_plain w again
            (λ f. subst (λ (x : History). LedOn (known_of f a.pass.view.base) x)
            (ap (λ (l : List Held). known_of f l) (sym base)) (same_led (known_of f a.pass.view.base)))
            (λ f. ap (λ (l : List Held). known_of f l) base) (λ k. ap (λ (l : List Word). word_at l k) words)
            (ap (λ (l : List Word). length l) words),
        again,
      )

  nothing : b ≡ a → IsHostSound (given_back front b back h) × IsAlone b.pass.view
  nothing e =
      subst (λ (x : Application). IsHostSound (given_back front x back h) × IsAlone x.pass.view) (sym e) (sound, alone)

  over_by : (r : Flow) (why : Reason) → column (replay r.params r.entries) ≡ Over why → is_over (history r) ≡ true
  over_by r why e = by (endpoint_of (history r)).reason refl
    where
      by : (o : Option Reason) → (endpoint_of (history r)).reason ≡ o → is_some (endpoint_of (history r)).reason ≡ true
      by (Some x) q = ap is_some q
      by None q = absurd (never_over (endpoint_of (history r)).peer (endpoint_of (history r)).tx.una
          (sym (ap (λ o. column_by o (endpoint_of (history r)).peer (endpoint_of (history r)).tx.una) q) ∙ e))
        where
          never_over : (p : Option ℕ) (una : ℕ) → column_by None p una ≡ Over why → ⊥
          never_over None una c = absurd (cc (c))
          never_over (Some f) una c = by_una (una == 0) c
            where
              by_una : (t : Bool) → cond t Opening Running ≡ Over why → ⊥
              by_una true d = absurd (cc (d))
              by_una false d = absurd (cc (d))

  -- one that was pinned, tried and let go
  gone : (u w : View) → IsPinned id a.pass.view u → (r : Flow) (after : History) → IsOwn id u r → after ≡ history r
      → IsUse id r after u w → b ≡ with_view (unpinned id w) a
      → IsHostSound (given_back front b back h) × IsAlone b.pass.view
  gone u w pin r after own same given e =
      subst (λ (x : Application). IsHostSound (given_back front x back h) × IsAlone x.pass.view) (sym e)
      (let_go u w pin r own (subst (λ (x : History). IsUse id r x u w) same given))

  gone_closed : (u w : View) → IsPinned id a.pass.view u → (r : Flow) (after : History) → IsOwn id u r
      → is_over (history r) ≡ true → after ≡ history r → IsUse id r after u w → b ≡ with_view (unpinned id w) a
      → (reason : Reason) → Answer (Err (errors.Closed reason)) b
  gone_closed u w pin r after own over same given e reason =
      subst (Answer (Err (errors.Closed reason))) (sym e)
      (let_go_closed u w pin r own (subst (λ (x : History). IsUse id r x u w) same given) over)

  pub acceptance : (result : Result Socket SocketError) → IsAcceptance id tick a b result → Answer result b
  acceptance (Ok s) (u, w, pin, (r, after, own, acc, given), e, named) =
      subst (Answer (Ok s)) (sym e)
      (took u w pin r own (subst (λ (x : History). IsUse id r x u w) acc.1 given) s)
  acceptance (Err (errors.Stale x)) (is, e) =
      subst (Answer (Err (errors.Stale x))) (sym e)
      (unmoved b.pass.view (ap (λ (y : View). y.baton) is.2) (ap (λ (y : View). y.turns) is.2)
      (ap (λ (y : View). y.made) is.2) (ap (λ (y : View). y.base) is.2) (ap (λ (y : View). y.words) is.2))
  acceptance (Err (errors.Moved x y)) (is, e) = absurd (is.1 alone)
  acceptance (Err (errors.SlotInUse s)) (is, there, e) = nothing e
  acceptance (Err errors.OutOfMemory) (inl e) = nothing e
  acceptance (Err errors.OutOfMemory) (inr (u, w, pin, (r, after, own, acc, given), e, named)) =
      gone u w pin r after own acc given e
  acceptance (Err (errors.Early p)) (u, w, pin, (r, after, own, acc, given), e, named) =
      gone u w pin r after own acc.1 given e
  acceptance (Err (errors.Closed reason)) (u, w, pin, (r, after, own, acc, given), e, named) =
      gone_closed u w pin r after own (over_by r reason acc.0) acc.1 given e reason
  acceptance (Err (errors.Busy x)) (u, w, pin, busy, e, named) =
      absurd (busy.1 (pinned_alone id a.pass.view u alone pin).alone)
  acceptance (Err errors.NotYet) (u, w, pin, (r, after, own, acc, given), e, named) = absurd acc
  acceptance (Err errors.NotOpen) (u, w, pin, (r, after, own, acc, given), e, named) = absurd acc
  acceptance (Err errors.Shut) (u, w, pin, (r, after, own, acc, given), e, named) = absurd acc
  acceptance (Err (errors.PortInUse n)) (u, w, pin, (r, after, own, acc, given), e, named) = absurd acc
  acceptance (Err errors.NoPort) (u, w, pin, (r, after, own, acc, given), e, named) = absurd acc
  acceptance (Err errors.NoFlowSlot) (u, w, pin, (r, after, own, acc, given), e, named) = absurd acc

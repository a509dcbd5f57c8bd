-- Deeds in the words of a run, put together: for the laws words_are_done and words_leave.
use Rattle.std.proofs.Common.{◌≡◌, ℕ, zero, suc, cond, Bool, true, false, List, [], ◌∷◌, map, refl, sym, ap, ◌∙◌}
use Rattle.std.proofs.Common.{subst, inl, inr, true≢false}
use Rattle.std.specs.Prelude.{Option, Some, None, is_some}
use Rattle.tas_model.specs.declared.entry.FlowId.{FlowId}
use Rattle.tas_model.specs.declared.entry.Entry.{Entry}
use Rattle.tas_model.specs.declared.entry.HostParams.{HostParams}
use Rattle.tas_model.specs.declared.entry.Reason.{Reason}
use Rattle.tas_model.specs.declared.entry.Reply.{Reply}
use Rattle.tas_model.specs.declared.entry.Caller.{Caller}
use Rattle.tas_model.specs.declared.entry.Caller.TheVariants.{Slow, Core, App}
use Rattle.tas_model.specs.declared.entry.Call.{Call}
use Rattle.tas_model.specs.declared.entry.Call.TheVariants as calls
use Rattle.tas_model.specs.Endpoint.{Endpoint, is_closed}
use Rattle.tas_model.specs.ApplicationCalls.{Column, Over, column}
use Rattle.tas_model.specs.NextSegment.{going, going_in}
use Rattle.tas_model.specs.LegalHistory.{Legal}
use Rattle.host_rounds.specs.Lists.{Each, change_first}
use Rattle.host_rounds.proofs.Lists.{fold_append}
use Rattle.host_rounds.specs.Hosts.{Live, Holder, Waiting}
use Rattle.host_rounds.specs.Deliveries.{Segment}
use Rattle.host_rounds.specs.Scripts.{Scripts}
use Rattle.host_rounds.specs.Rounds as rounds
use Rattle.host_rounds.specs.Rounds.{IsWorker}
use Rattle.host_rounds.proofs.Advances.{call_over}
use Rattle.flow_lock.specs.Orders.{Order, known_of, put, same_flow, IsNext, IsRun}
use Rattle.flow_lock.specs.declared.view.Deed.{Deed}
use Rattle.flow_lock.specs.declared.view.Held.{Held}
use Rattle.flow_lock.specs.declared.view.History.{History}
use Rattle.host_books.specs.Books.{Book, Setting, IsAt}
use Rattle.host_books.specs.Deeds.{Makes, IsFrameOf, IsSendOf, IsAskOf, IsDoneAs, with_holder, held_as}
use Rattle.host_books.specs.Indexes.{endpoint_of, AreIndexed, KeepsClosed}
use Rattle.host_books.specs.Tries.{place_of, Adds, Try, reply_on, IsTry, MayPrecede, Word, IsFrameWord, IsSendWord}
use Rattle.host_books.specs.Tries.{IsTryWord, IsWord, AreTries, AreApart, deed_of, told_of, ToldAs}
use Rattle.host_books.specs.Words.{deed_in, joined}
use Rattle.host_books.specs.Leavings.{Leaving, leaving_on, leavings_in, book_after, script_after, books_after}
use Rattle.host_books.specs.Leavings.{scripts_after, AreLeft}
use Rattle.host_books.proofs.Orders.{same_self}
use Rattle.host_books.proofs.Indexing.{found, has_place, still_indexed, held_indexed, is_same_flow}

-- ----- one deed
no_entries : (params : HostParams) (es : List Entry) → es ≡ [] → Legal params es → ⊥
no_entries params es e legal = subst (λ l. Legal params l) e legal

-- a legal history isn't that of a flow without entries
there_is : (d : Deed) (now : History) → Legal d.before.params d.before.entries → IsNext d.before now → d.before ≡ now
there_is d now legal (inl same) = same
there_is d now legal (inr none) = absurd (no_entries d.before.params d.before.entries none.0 legal)

-- a call leaves a closed flow closed
adds_keeps : (by : Caller) (t : ℕ) (call : Call) (offer : List ℕ) (d : Deed) → Adds by t call offer d → KeepsClosed d
adds_keeps by t call offer d adds over =
    let l : Live = record {
      flow = record {
        id = d.flow;
        tuple = d.before.tuple;
        params = d.before.params;
        entries = d.before.entries;
      };
      indexed = true;
      holder = Waiting;
      filed = false;
    } in
    ap (λ h. is_closed (endpoint_of h)) adds.made ∙ call_over by t call offer l adds.legal over

makes : (by : Caller) (t : ℕ) (call : Call) (offer : List ℕ) (known : List Held) (d : Deed) → Adds by t call offer d
    → d.before ≡ known_of d.flow known → Makes by t call offer known d
makes by t call offer known d adds there = record { there = there; made = adds.made }

-- ----- places
placed : (n : ℕ) (id : FlowId) (bs : List Book) → IsAt n id bs → place_of id bs ≡ n
placed n id [] at = absurd at
placed zero id (b ∷ bs) at =
    ap (λ f. cond (same_flow id f) 0 (suc (place_of id bs))) at.0
    ∙ ap (λ x. cond x 0 (suc (place_of id bs))) (same_self id)
placed (suc n) id (b ∷ bs) at =
    ap (λ x. cond x 0 (suc (place_of id bs))) at.0 ∙ ap suc (placed n id bs at.1)

-- the change at its place is that of its book
pub changed : (n : ℕ) (id : FlowId) (holds : Holder → Holder) (bs : List Book) → IsAt n id bs
    → with_holder n holds bs ≡ change_first (λ (b : Book). same_flow id b.id) (held_as holds) bs
changed n id holds [] at = absurd at
changed zero id holds (b ∷ bs) at =
    let here : same_flow id b.id ≡ true = ap (same_flow id) at.0 ∙ same_self id in rw (here, change_first) refl
changed (suc n) id holds (b ∷ bs) at = rw (at.0, change_first) (ap (λ l. b ∷ l) (changed n id holds bs at.1))

-- another holder is at the same place
place_held : (id : FlowId) (n : ℕ) (holds : Holder → Holder) (bs : List Book)
    → place_of id (with_holder n holds bs) ≡ place_of id bs
place_held id n holds [] = refl
place_held id zero holds (b ∷ bs) = refl
place_held id (suc n) holds (b ∷ bs) =
    ap (λ k. cond (same_flow id b.id) 0 (suc k)) (place_held id n holds bs)

module _ {S A : Type 0} (scripts : Scripts S A) (t : ℕ) where
  word_held : (n : ℕ) (holds : Holder → Holder) (books : List Book) (w : Word S A) → IsWord t books w
      → IsWord t (with_holder n holds books) w
  word_held n holds books w (inl f) = inl f
  word_held n holds books w (inr (inl s)) = inr (inl (record {
    core = s.core;
    is = s.is
        ∙ ap (λ k. record { by = Core s.core; action = rounds.Emission k })
        (sym (place_held w.deed.flow n holds books));
    next = s.next;
    goes = s.goes;
    adds = s.adds;
    tries_not = s.tries_not;
  }))
  word_held n holds books w (inr (inr a)) = inr (inr a)

  -- ----- one word
  -- What the deed is here, and what it leaves: the index is right, each deed is a worker's, and whatever may come after
  -- it still may.
  record Done (s : Setting) (state : S) (known : List Held) (w : Word S A) : Type 0 where
    after : List Book
    next : S
    is : IsDoneAs scripts t s state known w.deed w.told after next
    indexed : AreIndexed after (put known w.deed)
    worker : IsWorker w.told.by
    words : (v : Word S A) → IsWord t s.books v → IsWord t after v
    books : after ≡ books_after (leavings_in t w) s.books
    scripts_are : next ≡ scripts_after (leavings_in t w) state
    still : (y : Try S A) → Each (λ (x : Try S A). MayPrecede scripts t x y) w.tries → IsTry scripts t s state y
        → IsTry scripts t (record s { books = after }) next y

  frame_done : (s : Setting) (state : S) (known : List Held) (w : Word S A) → AreIndexed s.books known
      → IsNext w.deed.before (known_of w.deed.flow known) → IsFrameWord t w → Done s state known w
  frame_done s state known w are next f =
      let d : Deed = w.deed in
      let there : d.before ≡ known_of d.flow known = there_is d (known_of d.flow known) f.adds.legal next in
      let keeps : KeepsClosed d = λ over. absurd (true≢false (sym over ∙ f.open_)) in
      let at = has_place known d there keeps s.books f.adds.legal are in
      let open_ : is_closed (endpoint_of (known_of d.flow known)) ≡ false =
      subst (λ h. is_closed (endpoint_of h) ≡ false) there f.open_ in
      let of_frame : IsFrameOf t s.books known d w.told = record {
        core = f.core;
        arrival = f.arrival;
        is = f.is;
        tuple = (known_of d.flow known).tuple;
        seg = f.seg;
        packet = f.packet ∙ ap (λ (h : History). Segment h.tuple f.seg) there;
        place = at.0;
        at = at.1;
        leads = found known at.0 d.flow s.books are.running are.once at.1 open_;
        makes = makes (Core f.core) t (calls.Rx f.arrival.frame f.seg) [] known d f.adds there;
      } in
      record {
        after = s.books;
        next = state;
        is = inl (inl of_frame, refl, refl);
        indexed = still_indexed known d there keeps s.books f.adds.legal are;
        worker = subst (λ (m : rounds.Deed A). IsWorker m.by) (sym f.is) tt;
        words = λ v is. is;
        books = ap (λ xs. books_after (map (leaving_on t d.before) xs) s.books) (sym f.tries_not);
        scripts_are = ap (λ xs. scripts_after (map (leaving_on t d.before) xs) state) (sym f.tries_not);
        still = λ y may is. is;
      }

  goes_none : (e : Endpoint) (why : Reason) → e.reason ≡ Some why → is_some (going e) ≡ false
  unfolding going
  goes_none e why r =
      let over : column e ≡ Over why = rw r refl in
      ap (λ (c : Column). is_some (going_in c e)) over

  goes_open : (e : Endpoint) → is_some (going e) ≡ true → is_closed e ≡ false
  goes_open e h = by_why e.reason refl
    where
      by_why : (o : Option Reason) → e.reason ≡ o → is_closed e ≡ false
      by_why None r = ap is_some r
      by_why (Some why) r = absurd (true≢false (sym h ∙ goes_none e why r))

  send_done : (s : Setting) (state : S) (known : List Held) (w : Word S A) → AreIndexed s.books known
      → IsNext w.deed.before (known_of w.deed.flow known) → IsSendWord t s.books w → Done s state known w
  send_done s state known w are next f =
      let d : Deed = w.deed in
      let there : d.before ≡ known_of d.flow known = there_is d (known_of d.flow known) f.adds.legal next in
      let keeps : KeepsClosed d = adds_keeps (Core f.core) t calls.Emit [] d f.adds in
      let at = has_place known d there keeps s.books f.adds.legal are in
      let of_send : IsSendOf t s.books known d w.told = record {
        core = f.core;
        place = at.0;
        is = f.is
            ∙ ap (λ n. record { by = Core f.core; action = rounds.Emission n }) (placed at.0 d.flow s.books at.1);
        at = at.1;
        next = f.next;
        goes = f.goes;
        makes = makes (Core f.core) t calls.Emit [] known d f.adds there;
      } in
      record {
        after = s.books;
        next = state;
        is = inl (inr of_send, refl, refl);
        indexed = still_indexed known d there keeps s.books f.adds.legal are;
        worker = subst (λ (m : rounds.Deed A). IsWorker m.by) (sym f.is) tt;
        words = λ v is. is;
        books = ap (λ xs. books_after (map (leaving_on t d.before) xs) s.books) (sym f.tries_not);
        scripts_are = ap (λ xs. scripts_after (map (leaving_on t d.before) xs) state) (sym f.tries_not);
        still = λ y may is. is;
      }

  try_done : (s : Setting) (state : S) (known : List Held) (w : Word S A) → AreIndexed s.books known
      → IsNext w.deed.before (known_of w.deed.flow known) → (a : IsTryWord t w) → Each (IsTry scripts t s state) w.tries
      → Done s state known w
  try_done s state known w are next a tries =
      let d : Deed = w.deed in
      let x : Try S A = a.try_ in
      let there : d.before ≡ known_of d.flow known = there_is d (known_of d.flow known) a.adds.legal next in
      let keeps : KeepsClosed d = adds_keeps (App x.app) t x.call x.offer d a.adds in
      let at = has_place known d there keeps s.books a.adds.legal are in
      let here : IsAt at.0 x.flow s.books = subst (λ f. IsAt at.0 f s.books) a.flow at.1 in
      let is_try : IsTry scripts t s state x =
      (subst (λ xs. Each (IsTry scripts t s state) xs) a.tries tries).0 in
      let reply : Reply = reply_on t x (known_of x.flow known) in
      let left : Leaving S = record { flow = x.flow; holds = x.holds reply; next = x.next reply } in
      let history : known_of x.flow known ≡ d.before = ap (λ f. known_of f known) (sym a.flow) ∙ sym there in
      let leaves : left ∷ [] ≡ leavings_in t w =
      (λ i. leaving_on t (history i) x ∷ []) ∙ ap (map (leaving_on t d.before)) (sym a.tries) in
      let of_ask : IsAskOf scripts t s state known d w.told (with_holder at.0 (x.holds reply) s.books)
      (x.next reply state) = record {
        by = Slow;
        ask = x.ask;
        is = a.is;
        place = at.0;
        at = at.1;
        app = x.app;
        call = x.call;
        offer = x.offer;
        makes = makes (App x.app) t x.call x.offer known d a.adds there;
        holds = x.holds reply;
        kept = refl;
        asked = is_try known at.0 here;
      } in
      record {
        after = with_holder at.0 (x.holds reply) s.books;
        next = x.next reply state;
        is = inr of_ask;
        indexed = held_indexed (put known d) at.0 (x.holds reply) s.books
            (still_indexed known d there keeps s.books a.adds.legal are);
        worker = subst (λ (m : rounds.Deed A). IsWorker m.by) (sym a.is) tt;
        words = λ v is. word_held at.0 (x.holds reply) s.books v is;
        books = changed at.0 x.flow (x.holds reply) s.books here
            ∙ ap (λ l. books_after l s.books) leaves;
        scripts_are = ap (λ l. scripts_after l state) leaves;
        still = λ y may is.
            (subst (λ xs. Each (λ (z : Try S A). MayPrecede scripts t z y) xs) a.tries may).0 s state at.0 reply here
            is;
      }

  word_done : (s : Setting) (state : S) (known : List Held) (w : Word S A) → AreIndexed s.books known
      → IsNext w.deed.before (known_of w.deed.flow known) → IsWord t s.books w → Each (IsTry scripts t s state) w.tries
      → Done s state known w
  word_done s state known w are next (inl f) tries = frame_done s state known w are next f
  word_done s state known w are next (inr (inl f)) tries = send_done s state known w are next f
  word_done s state known w are next (inr (inr a)) tries = try_done s state known w are next a tries

  -- ----- all of them
  all_words : (ws : List (Word S A)) (P Q : Word S A → Type 0) → ((v : Word S A) → P v → Q v) → Each P ws → Each Q ws
  all_words [] P Q f each = tt
  all_words (v ∷ vs) P Q f each = (f v each.0, all_words vs P Q f each.1)

  -- the tries of those to come may still be made
  still_one : (s r : Setting) (state next : S) (xs ys : List (Try S A))
      → ((y : Try S A) → Each (λ (x : Try S A). MayPrecede scripts t x y) xs → IsTry scripts t s state y
      → IsTry scripts t r next y)
      → Each (λ (x : Try S A). Each (MayPrecede scripts t x) ys) xs → Each (IsTry scripts t s state) ys
      → Each (IsTry scripts t r next) ys
  still_one s r state next xs [] still may tries = tt
  still_one s r state next xs (y ∷ ys) still may tries = (
    still y (firsts xs may) tries.0,
    still_one s r state next xs ys still (seconds xs may) tries.1,
  )
    where
      firsts : (zs : List (Try S A)) → Each (λ (x : Try S A). Each (MayPrecede scripts t x) (y ∷ ys)) zs
          → Each (λ (x : Try S A). MayPrecede scripts t x y) zs
      firsts [] m = tt
      firsts (z ∷ zs) m = (m.0.0, firsts zs m.1)

      seconds : (zs : List (Try S A)) → Each (λ (x : Try S A). Each (MayPrecede scripts t x) (y ∷ ys)) zs
          → Each (λ (x : Try S A). Each (MayPrecede scripts t x) ys) zs
      seconds [] m = tt
      seconds (z ∷ zs) m = (m.0.1, seconds zs m.1)

  still_all : (s r : Setting) (state next : S) (xs : List (Try S A)) (vs : List (Word S A))
      → ((y : Try S A) → Each (λ (x : Try S A). MayPrecede scripts t x y) xs → IsTry scripts t s state y
      → IsTry scripts t r next y)
      → Each (λ (v : Word S A). Each (λ (x : Try S A). Each (MayPrecede scripts t x) v.tries) xs) vs
      → AreTries scripts t s state vs → AreTries scripts t r next vs
  still_all s r state next xs [] still may tries = tt
  still_all s r state next xs (v ∷ vs) still may tries = (
    still_one s r state next xs v.tries still may.0 tries.0,
    still_all s r state next xs vs still may.1 tries.1,
  )

  heads : {X : Type 0} (a b : X) (xs ys : List X) → a ∷ xs ≡ b ∷ ys → a ≡ b
  heads a b xs ys e = cc e

  tails : {X : Type 0} (a b : X) (xs ys : List X) → a ∷ xs ≡ b ∷ ys → xs ≡ ys
  tails a b xs ys e = cc e

  -- with what they leave
  abbrev pub Told : Setting → S → List Held → Order → List (Word S A) → Type 0
  Told s state known order ws = (r : ToldAs scripts t s state known order (map told_of ws)) × AreLeft ws r

  pub told : (s : Setting) (state : S) (known : List Held) (order : Order) (ws : List (Word S A))
      → AreIndexed s.books known → IsRun known order → map deed_of ws ≡ map deed_in order → Each (IsWord t s.books) ws
      → AreTries scripts t s state ws → AreApart scripts t ws → Told s state known order ws
  told s state known [] [] index run same each tries apart = (
    record { after = s.books; next = state; are = (refl, refl); indexed = index; workers = tt },
    record { books = refl; next = refl },
  )
  told s state known [] (w ∷ ws) index run same each tries apart = absurd (cc same)
  told s state known (y ∷ ys) [] index run same each tries apart = absurd (cc same)
  told s state known (y ∷ ys) (w ∷ ws) index run same each tries apart =
      let is : w.deed ≡ y.1 = heads w.deed y.1 (map deed_of ws) (map deed_in ys) same in
      let one : Done s state known w =
      word_done s state known w index
      (subst (λ (d : Deed). IsNext d.before (known_of d.flow known)) (sym is) run.0) each.0 tries.0 in
      let r : Told (record s { books = one.after }) one.next (put known y.1) ys ws =
      told (record s { books = one.after }) one.next (put known y.1) ys ws
      (subst (λ (d : Deed). AreIndexed one.after (put known d)) is one.indexed) run.1
      (tails w.deed y.1 (map deed_of ws) (map deed_in ys) same)
      (all_words ws (IsWord t s.books) (IsWord t one.after) one.words each.1)
      (still_all s (record s { books = one.after }) state one.next w.tries ws one.still apart.0 tries.1) apart.1 in
      let more : List (Leaving S) = joined (leavings_in t) ws in (
        record {
          after = r.0.after;
          next = r.0.next;
          are = (
            one.after,
            one.next,
            subst (λ (d : Deed). IsDoneAs scripts t s state known d w.told one.after one.next) is one.is,
            r.0.are,
          );
          indexed = r.0.indexed;
          workers = (one.worker, r.0.workers);
        },
        record {
          books = r.1.books
              ∙ (ap (books_after more) one.books ∙ sym (fold_append book_after s.books (leavings_in t w) more));
          next = r.1.next
              ∙ (ap (scripts_after more) one.scripts_are
              ∙ sym (fold_append script_after state (leavings_in t w) more));
        },
      )

-- ----- in any order
-- its book changes
here : {S : Type 0} (x : Leaving S) (b : Book) (bs : List Book) → same_flow x.flow b.id ≡ true
    → book_after (b ∷ bs) x ≡ held_as x.holds b ∷ bs
here x b bs e = rw (e, change_first) refl

-- a book of another flow stays
past : {S : Type 0} (x : Leaving S) (b : Book) (bs : List Book) → same_flow x.flow b.id ≡ false
    → book_after (b ∷ bs) x ≡ b ∷ book_after bs x
past x b bs e = rw (e, change_first) refl

pub books_alike : {S : Type 0} (x y : Leaving S) → same_flow x.flow y.flow ≡ false → (bs : List Book)
    → book_after (book_after bs x) y ≡ book_after (book_after bs y) x
books_alike x y apart [] = refl
books_alike x y apart (b ∷ bs) =
    by (same_flow x.flow b.id) (same_flow y.flow b.id) refl refl (books_alike x y apart bs)
  where
    cons : List Book → List Book
    cons l = b ∷ l

    same : same_flow x.flow b.id ≡ true → same_flow y.flow b.id ≡ true → same_flow x.flow y.flow ≡ true
    same e g = ap (same_flow x.flow) (is_same_flow y.flow b.id g) ∙ e

    by : (p q : Bool) → same_flow x.flow b.id ≡ p → same_flow y.flow b.id ≡ q
        → book_after (book_after bs x) y ≡ book_after (book_after bs y) x
        → book_after (book_after (b ∷ bs) x) y ≡ book_after (book_after (b ∷ bs) y) x
    by true true e g rest = absurd (true≢false (sym (same e g) ∙ apart))
    by true false e g rest =
        ap (λ l. book_after l y) (here x b bs e)
        ∙ (past y (held_as x.holds b) bs g
        ∙ (sym (here x b (book_after bs y) e) ∙ sym (ap (λ l. book_after l x) (past y b bs g))))
    by false true e g rest =
        ap (λ l. book_after l y) (past x b bs e)
        ∙ (here y b (book_after bs x) g
        ∙ (sym (past x (held_as y.holds b) bs e) ∙ sym (ap (λ l. book_after l x) (here y b bs g))))
    by false false e g rest =
        ap (λ l. book_after l y) (past x b bs e)
        ∙ (past y b (book_after bs x) g
        ∙ (ap cons rest
        ∙ (sym (past x b (book_after bs y) e) ∙ sym (ap (λ l. book_after l x) (past y b bs g)))))

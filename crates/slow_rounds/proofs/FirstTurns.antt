-- The first turn of a tick is the slow path's phase: for the law first_turns_are_slow_phases.
use Rattle.std.proofs.Common.{◌≡◌, ℕ, ◌+◌, ◌≤◌, ◌&&◌, ◌||◌, not, cond, Bool, true, false, List, [], ◌∷◌, ◌++◌, map}
use Rattle.std.proofs.Common.{refl, sym, ap, ◌∙◌, subst, arith, inl, inr, take, drop, true≢false}
use Rattle.std.proofs.Common.{length, suc}
use Rattle.std.specs.Prelude.{IsPermutation}
use Rattle.std.proofs.lemmas.List.Folds.{list_any-append}
use Rattle.std.proofs.lemmas.List.Sorted.{list_any-IsPermutation}
use Rattle.tas_model.specs.declared.entry.FlowId.{FlowId}
use Rattle.host_rounds.specs.Hosts.{Host}
use Rattle.host_rounds.specs.Lists.{Each}
use Rattle.host_rounds.specs.SerialOrder.{slow_phase}
use Rattle.flow_lock.specs.Orders.{known_of, same_flow, total, at_slot}
use Rattle.flow_lock.specs.declared.view.Held.{Held}
use Rattle.flow_lock.specs.declared.view.History.{History}
use Rattle.flow_lock.proofs.Sums.{total-append}
use Rattle.app_reaper.specs.OneCall.{history}
use Rattle.app_reaper.specs.declared.one_call.CallFault.TheVariants.{Busy}
use Rattle.flow_clock.specs.Histories.{timed_by}
use Rattle.flow_clock.specs.Ledgers.{Ledger}
use Rattle.flow_clock.specs.Walks.{IsServed, AreServed, WasTimed, WasClosed, WasSweptAgain, AreSweptAgain}
use Rattle.flow_clock.proofs.Keeping.{after_use, after_sweep, after_refusal}
use Rattle.slow_handshake.specs.Numbers.{FirstNumbers}
use Rattle.slow_handshake.specs.Openings.{Openings}
use Rattle.core_worker.specs.Workers as cores
use Rattle.slow_worker.specs.Clocks.{served_in}
use Rattle.slow_worker.specs.Turns.{IsTurn, IsTimePassed, ledger_of}
use Rattle.slow_worker.specs.Workers.{Worker, IsSound, sight_of, waiting}
use Rattle.host_books.specs.Books.{Book, live_as, live_in}
use Rattle.host_books.specs.Indexes.{IsFindable}
use Rattle.host_books.proofs.Indexing.{is_same_flow}
use Rattle.host_books.proofs.Orders.{same_self}
use Rattle.sound_hosts.specs.Hosts.{CoreHost, known_in, is_indexed, is_doomed, listener_of, host_of}
use Rattle.sound_hosts.specs.Sound.{IsHostSound, IsPlain}
use Rattle.sound_hosts.proofs.Leaving.{apart_of}
use Rattle.sound_hosts.proofs.OneFlow.{used_leads}
use Rattle.sound_turns.specs.Passing.{AreSwept, IsPassing, swept_book, with_books}
use Rattle.sound_turns.proofs.Closing.{closed_at}
use Rattle.sound_turns.proofs.Closing as closing
use Rattle.sound_hosts.proofs.Names.{IsSplit, split_at, split_of}
use Rattle.sound_hosts.proofs.Names.{names}
use Rattle.sound_turns.proofs.Serving.{like_sound}
use Rattle.sound_turns.proofs.Steps.{timed_passing, again_at}
use Rattle.sound_turns.proofs.Steps as steps
use Rattle.sound_turns.proofs.Times.{first, from_place, host_sound}
use Rattle.sound_turns.proofs.Times as times
use Rattle.sound_turns.proofs.Whole.{posted_like}
use Rattle.sound_hosts.specs.Counting.{IsCounted}
use Rattle.slow_rounds.specs.SoFar.{phased, is_in, AreSoFar, AreStepped}
use Rattle.slow_rounds.proofs.Phased.{closed_phased, filed_phased, timed_phased}
use Rattle.slow_rounds.proofs.Stepping.{Once, once_rest, apart_rest, all_stepped, books_stay, one_changes}
use Rattle.slow_rounds.proofs.Stepping.{each_named, begun, ended}

-- a history is known of one flow more
others : (now : List Held) (x : Held) (g : FlowId) → same_flow x.flow g ≡ false → known_of g (x ∷ now) ≡ known_of g now
others now x g e = ap (λ s. cond s x.history (known_of g now)) e

own : (now : List Held) (x : Held) (g : FlowId) → same_flow x.flow g ≡ true → known_of g (x ∷ now) ≡ x.history
own now x g e = ap (λ s. cond s x.history (known_of g now)) e

module _ (h : CoreHost) (tick : ℕ) where
  -- What holds of some books while these flows are still to be tried, and those due are to have their time: these stand
  -- behind the ledger's pins, or are its pins.
  pub record Goes (tried left due : List FlowId) (l : Ledger) : Type 0 where
    pub books : List Book
    pub passing : IsPassing h books tried left l
    pub so_far : AreSoFar (tried ++ due) tick (known_in h) l.view.base h.books books
    pub once : Once (tried ++ due)

  -- ----- a flow that has its time
  module _ (f : FlowId) (left : List FlowId) (l n : Ledger) (g : Goes [] (f ∷ left) (f ∷ left) l)
      (was : WasTimed tick f l n) where
    abbrev after : History
    after = timed_by tick (history was.flow)

    base : n.view.base ≡ record { flow = f; history = after } ∷ l.view.base
    base = (used_leads f was.flow after l.view n.view g.passing.tabled.alone was.grown).base

    is_known : (c : Book) → same_flow f c.id ≡ true → history was.flow ≡ known_of c.id l.view.base
    is_known c e =
        was.own.known g.passing.tabled.alone ∙ ap (λ x. known_of x l.view.base) (is_same_flow f c.id e)

    made : (c : Book) → same_flow f c.id ≡ true
        → live_in (record { flow = f; history = after } ∷ l.view.base) c ≡ phased tick (live_in l.view.base c)
    made c e =
        ap (live_as c) (own l.view.base (record { flow = f; history = after }) c.id e)
        ∙ (timed_phased tick c (history was.flow) was.not_over
        ∙ ap (λ k. phased tick (live_as c k)) (is_known c e))

    stepped : AreStepped f tick l.view.base n.view.base g.books g.books
    stepped =
        subst (λ (x : List Held). AreStepped f tick l.view.base x g.books g.books) (sym base)
        (books_stay tick l.view.base (record { flow = f; history = after } ∷ l.view.base) f
        (others l.view.base (record { flow = f; history = after })) made g.books)

    one_timed : Goes [] left left n
    one_timed = record {
      books = g.books;
      passing = timed_passing h g.books [] f left tick l n g.passing was;
      so_far = all_stepped tick f left (known_in h) l.view.base n.view.base (apart_rest f left g.once) h.books g.books
          g.books g.so_far stepped;
      once = once_rest f left g.once;
    }

  -- ----- a flow that is found closed
  module _ (xs : List Book) (b : Book) (cs : List Book) (left : List FlowId) (l n : Ledger)
      (p : IsPassing h (xs ++ b ∷ cs) [] (b.id ∷ left) l) (is : b.indexed ≡ true)
      (fronts : names is_indexed xs ≡ l.pins) (backs : names is_indexed cs ≡ left) (was : WasClosed b.id l n)
      (so : AreSoFar (b.id ∷ left) tick (known_in h) l.view.base h.books (xs ++ b ∷ cs))
      (once : Once (b.id ∷ left)) where
    abbrev held : Held
    held = record { flow = b.id; history = history was.flow }

    closed_base : n.view.base ≡ held ∷ l.view.base
    closed_base = closing.base h xs b cs [] left l n p is fronts backs was
        ∙ (used_leads b.id was.flow (history was.flow) l.view was.found p.tabled.alone was.kept).base

    closed_made : live_in (held ∷ l.view.base) (swept_book b) ≡ phased tick (live_in l.view.base b)
    closed_made =
        ap (live_as (swept_book b)) (own l.view.base held b.id (same_self b.id))
        ∙ (closed_phased tick b (history was.flow) was.over (closing.stands h xs b cs [] left l n p is fronts backs was)
        ∙ ap (λ k. phased tick (live_as b k)) (was.own.known p.tabled.alone))

    closed_stepped : AreStepped b.id tick l.view.base n.view.base (xs ++ b ∷ cs) (xs ++ swept_book b ∷ cs)
    closed_stepped =
        subst (λ (x : List Held). AreStepped b.id tick l.view.base x (xs ++ b ∷ cs) (xs ++ swept_book b ∷ cs))
        (sym closed_base)
        (one_changes tick l.view.base (held ∷ l.view.base) b.id (others l.view.base held) xs b (swept_book b) cs
        (apart_of h.table.slots [] (xs ++ b ∷ cs) p.tabled.numbered) refl refl closed_made)

    closed_goes : Goes [] left left n
    closed_goes = record {
      books = xs ++ swept_book b ∷ cs;
      passing = closed_at h xs b cs [] left l n p is fronts backs was;
      so_far = all_stepped tick b.id left (known_in h) l.view.base n.view.base (apart_rest b.id left once) h.books
          (xs ++ b ∷ cs) (xs ++ swept_book b ∷ cs) so closed_stepped;
      once = once_rest b.id left once;
    }

  -- what is known of a flow by its name
  abbrev Closes : (left : List FlowId) → (l n : Ledger) → List Book → FlowId → Type 0
  Closes left l n bs f =
      IsPassing h bs [] (f ∷ left) l
      × AreSoFar (f ∷ left) tick (known_in h) l.view.base h.books bs
      × Once (f ∷ left)
      × WasClosed f l n

  abbrev Retries : (tried due : List FlowId) → (l n : Ledger) → List Book → FlowId → Type 0
  Retries tried due l n bs f =
      IsPassing h bs (f ∷ tried) [] l
      × AreSoFar (f ∷ (tried ++ due)) tick (known_in h) l.view.base h.books bs
      × Once (f ∷ (tried ++ due))
      × WasSweptAgain f l n

  one_closed : (f : FlowId) (left : List FlowId) (l n : Ledger) → Goes [] (f ∷ left) (f ∷ left) l → WasClosed f l n
      → Goes [] left left n
  one_closed f left l n g was = by (split_at is_indexed f l.pins left g.books (sym g.passing.pins))
    where
      by : IsSplit is_indexed f l.pins left g.books → Goes [] left left n
      by s =
          let facts : Closes left l n (s.before ++ s.book ∷ s.behind) s.book.id =
          subst (Closes left l n (s.before ++ s.book ∷ s.behind)) (sym s.name)
          (subst (λ (x : List Book). Closes left l n x f) s.is (g.passing, g.so_far, g.once, was)) in
          closed_goes s.before s.book s.behind left l n facts.0 s.passes s.fronts s.backs facts.3 facts.1 facts.2

  -- ----- a doomed flow is tried again
  module _ (xs : List Book) (b : Book) (cs : List Book) (tried due : List FlowId) (l n : Ledger)
      (p : IsPassing h (xs ++ b ∷ cs) (b.id ∷ tried) [] l) (doomed : is_doomed b ≡ true)
      (rest : IsPermutation (tried ++ l.doomed) (names is_doomed xs ++ names is_doomed cs))
      (was : WasSweptAgain b.id l n)
      (so : AreSoFar (b.id ∷ (tried ++ due)) tick (known_in h) l.view.base h.books (xs ++ b ∷ cs))
      (once : Once (b.id ∷ (tried ++ due))) where
    again : AreStepped b.id tick l.view.base n.view.base (xs ++ b ∷ cs) (xs ++ swept_book b ∷ cs)
    again =
        subst (λ (x : List Held). AreStepped b.id tick l.view.base x (xs ++ b ∷ cs) (xs ++ swept_book b ∷ cs))
        (sym (steps.base h xs b cs tried [] l n p doomed rest was))
        (one_changes tick l.view.base l.view.base b.id (λ g e. refl) xs b (swept_book b) cs
        (apart_of h.table.slots [] (xs ++ b ∷ cs) p.tabled.numbered) refl refl
        (closed_phased tick b (known_of b.id l.view.base) (steps.over h xs b cs tried [] l n p doomed rest was)
        (steps.stands h xs b cs tried [] l n p doomed rest was)))

    again_goes : Goes tried [] due n
    again_goes = record {
      books = xs ++ swept_book b ∷ cs;
      passing = again_at h xs b cs tried [] l n p doomed rest was;
      so_far = all_stepped tick b.id (tried ++ due) (known_in h) l.view.base n.view.base
          (apart_rest b.id (tried ++ due) once) h.books (xs ++ b ∷ cs) (xs ++ swept_book b ∷ cs) so again;
      once = once_rest b.id (tried ++ due) once;
    }

  one_again : (f : FlowId) (tried due : List FlowId) (l n : Ledger) → Goes (f ∷ tried) [] due l → WasSweptAgain f l n
      → Goes tried [] due n
  one_again f tried due l n g was =
      let s = split_of is_doomed f (tried ++ l.doomed) g.books g.passing.doomed in
      by s.0 s.1 s.2 s.3
    where
      by : (front back : List FlowId) (s : IsSplit is_doomed f front back g.books)
          → IsPermutation (tried ++ l.doomed) (front ++ back) → Goes tried [] due n
      by front back s perm =
          let facts : Retries tried due l n (s.before ++ s.book ∷ s.behind) s.book.id =
          subst (Retries tried due l n (s.before ++ s.book ∷ s.behind)) (sym s.name)
          (subst (λ (x : List Book). Retries tried due l n x f) s.is (g.passing, g.so_far, g.once, was)) in
          again_goes s.before s.book s.behind tried due l n facts.0 s.passes
          (subst (IsPermutation (tried ++ l.doomed)) (λ i. sym s.fronts i ++ sym s.backs i) perm) facts.3 facts.1
          facts.2

  -- ----- one flow after the other
  one_served : (f : FlowId) (left : List FlowId) (l n : Ledger) → Goes [] (f ∷ left) (f ∷ left) l → IsServed tick f l n
      → Goes [] left left n
  one_served f left l n g (inl was) = one_timed f left l n g was
  one_served f left l n g (inr (inl was)) = one_closed f left l n g was
  one_served f left l n g (inr (inr was)) = absurd (was.busy.1 g.passing.tabled.alone)

  all_served : (fs : List FlowId) (l m : Ledger) → Goes [] fs fs l → AreServed tick fs l m → Goes [] [] [] m
  all_served [] l m g e = subst (Goes [] [] []) (sym e) g
  all_served (f ∷ fs) l m g (n, served, rest) = all_served fs n m (one_served f fs l n g served) rest

  all_again : (fs due : List FlowId) (l m : Ledger) → Goes fs [] due l → AreSweptAgain fs l m → Goes [] [] due m
  all_again [] due l m g e = subst (Goes [] [] due) (sym e) g
  all_again (f ∷ fs) due l m g (n, swept, rest) = all_again fs due n m (one_again f fs due l n g swept) rest

-- the pins stay, while doomed flows are tried again
pins_stay : (fs : List FlowId) (l m : Ledger) → AreSweptAgain fs l m → m.pins ≡ l.pins
pins_stay [] l m e = ap (λ (x : Ledger). x.pins) e
pins_stay (f ∷ fs) l m (n, swept, rest) = pins_stay fs n m rest ∙ ap (λ (x : Ledger). x.pins) swept.rest

-- ----- the whole time
pub same_host : (a b : Host) → a.params ≡ b.params → a.listeners ≡ b.listeners → a.log ≡ b.log → a.flows ≡ b.flows
    → a ≡ b
same_host a b p q r s = λ i. record { params = p i; listeners = q i; log = r i; flows = s i }

from_first : (k : ℕ) (fs : List FlowId) → k ≡ 0 → drop k fs ≡ fs
from_first k fs e = ap (λ n. drop n fs) e ∙ by fs
  where
    by : (gs : List FlowId) → drop 0 gs ≡ gs
    by [] = refl
    by (g ∷ gs) = refl

either : (x y : Bool) → (x || y) ≡ false → (x ≡ false) × (y ≡ false)
either true y e = absurd (true≢false e)
either false y e = (refl, e)

module _ (h : CoreHost) (tick : ℕ) (sound : IsHostSound h) where
  abbrev IsDone : Book → Type 0
  IsDone b = is_in (h.slow.doomed ++ h.slow.pins) b.id ≡ false
      → live_in (known_in h) b ≡ phased tick (live_in (known_in h) b)

  -- a flow that isn't served was swept before, and its record is filed
  one_done : (b : Book) → IsPlain b → IsFindable (known_in h) b
      → (is_indexed b ≡ true → is_in (names is_indexed h.books) b.id ≡ true)
      → (is_doomed b ≡ true → is_in (names is_doomed h.books) b.id ≡ true) → IsDone b
  one_done b plain over listed doomed none = by b.filed refl
    where
      apart : (is_in h.slow.doomed b.id ≡ false) × (is_in h.slow.pins b.id ≡ false)
      apart = either (is_in h.slow.doomed b.id) (is_in h.slow.pins b.id)
          (sym (list_any-append (λ (f : FlowId). same_flow f b.id) h.slow.doomed h.slow.pins) ∙ none)

      gone : (x : Bool) → b.indexed ≡ x → b.indexed ≡ false
      gone true e = absurd (true≢false (sym (listed e) ∙ (ap (λ l. is_in l b.id) (sym sound.kept.pins) ∙ apart.1)))
      gone false e = e

      by : (x : Bool) → b.filed ≡ x → live_in (known_in h) b ≡ phased tick (live_in (known_in h) b)
      by true e = filed_phased tick b (known_of b.id (known_in h)) (over (plain e)) e (plain e)
      by false e =
          absurd (true≢false
          (sym (doomed (λ i. not (gone b.indexed refl i) && not (e i)))
          ∙ (sym (list_any-IsPermutation (λ (f : FlowId). same_flow f b.id) h.slow.doomed (names is_doomed h.books)
          sound.kept.doomed)
          ∙ apart.0)))

  all_done : (bs : List Book) → Each IsPlain bs → Each (IsFindable (known_in h)) bs
      → Each (λ (b : Book). is_indexed b ≡ true → is_in (names is_indexed h.books) b.id ≡ true) bs
      → Each (λ (b : Book). is_doomed b ≡ true → is_in (names is_doomed h.books) b.id ≡ true) bs → Each IsDone bs
  all_done [] p q r s = tt
  all_done (b ∷ bs) p q r s = (one_done b p.0 q.0 r.0 s.0, all_done bs p.1 q.1 r.1 s.1)

  once : Once (h.slow.doomed ++ h.slow.pins)
  once i =
      let both : total (at_slot i) (h.slow.doomed ++ h.slow.pins)
      ≡ total (at_slot i) h.slow.doomed + total (at_slot i) h.slow.pins =
      total-append (at_slot i) h.slow.doomed h.slow.pins in
      let few : total (at_slot i) h.slow.doomed + total (at_slot i) h.slow.pins ≤ 1 = sound.sound.0.owned.once i in
      omega (arith, both, few)

  so_far : AreSoFar (h.slow.doomed ++ h.slow.pins) tick (known_in h) (known_in h) h.books h.books
  so_far = begun tick (h.slow.doomed ++ h.slow.pins) (known_in h) h.books
      (all_done h.books sound.plain sound.indexed.running (each_named is_indexed h.books)
      (each_named is_doomed h.books))

module _ (h : CoreHost) (tick : ℕ) (m : Worker) (sound : IsHostSound h) (new : served_in tick h.slow.time ≡ 0)
    (passed : IsTimePassed tick h.slow m) (kept : IsSound h.table (sight_of m)) where
  goes_on : Goes h tick h.slow.doomed [] h.slow.pins (first h tick m sound passed kept)
  goes_on = record {
    books = h.books;
    passing = times.begun h tick m sound passed kept;
    so_far = so_far h tick sound;
    once = once h tick sound;
  }

  tried : Goes h tick [] [] h.slow.pins passed.done.0
  tried = all_again h tick h.slow.doomed h.slow.pins (first h tick m sound passed kept) passed.done.0 goes_on
      passed.done.1

  due : drop (served_in tick h.slow.time) passed.done.0.pins ≡ h.slow.pins
  due = from_first (served_in tick h.slow.time) passed.done.0.pins new
      ∙ pins_stay h.slow.doomed (first h tick m sound passed kept) passed.done.0 passed.done.1

  pub ends : Goes h tick [] [] [] (ledger_of m passed.changes)
  ends =
      all_served h tick (drop (served_in tick h.slow.time) passed.done.0.pins)
      (record (passed.done.0) { pins = take (served_in tick h.slow.time) passed.done.0.pins })
      (ledger_of m passed.changes) (record {
        books = tried.books;
        passing = from_place h tick m sound passed kept tried.books passed.done.0 tried.passing;
        so_far = subst (λ fs. AreSoFar fs tick (known_in h) passed.done.0.view.base h.books tried.books) (sym due)
            tried.so_far;
        once = subst Once (sym due) tried.once;
      })
      passed.done.2

  pub time_made : host_of (with_books ends.books m h) ≡ slow_phase tick (host_of h)
  time_made = same_host (host_of (with_books ends.books m h)) (slow_phase tick (host_of h))
      (ap (λ (o : Openings). o.params) ends.passing.path)
      (ap (λ (o : Openings). map listener_of o.listeners) ends.passing.path)
      (ap (λ (x : Worker). x.log) passed.rest)
      (ended tick (known_in h) m.pass.view.base h.books ends.books ends.so_far)

-- ----- how many flows were opened
served_count : (tick : ℕ) (f : FlowId) (l m : Ledger) → IsServed tick f l m → m.view.opened ≡ l.view.opened
served_count tick f l m (inl was) =
    (after_use f was.flow (timed_by tick (history was.flow)) l.view m.view was.grown).opened
served_count tick f l m (inr (inl was)) =
    (after_sweep f was.found m.view was.swept.swept was.swept.sweep).opened
    ∙ (after_use f was.flow (history was.flow) l.view was.found was.kept).opened
served_count tick f l m (inr (inr was)) = (after_refusal f (Busy was.word) l.view m.view was.busy).opened

all_served_count : (tick : ℕ) (fs : List FlowId) (l m : Ledger) → AreServed tick fs l m
    → m.view.opened ≡ l.view.opened
all_served_count tick [] l m e = ap (λ (x : Ledger). x.view.opened) e
all_served_count tick (f ∷ fs) l m (n, served, rest) =
    all_served_count tick fs n m rest ∙ served_count tick f l n served

all_again_count : (fs : List FlowId) (l m : Ledger) → AreSweptAgain fs l m → m.view.opened ≡ l.view.opened
all_again_count [] l m e = ap (λ (x : Ledger). x.view.opened) e
all_again_count (f ∷ fs) l m (n, was, rest) =
    all_again_count fs n m rest ∙ (after_sweep f l.view n.view was.swept.swept was.swept.sweep).opened

time_count : (tick : ℕ) (v w : Worker) → IsTimePassed tick v w → w.pass.view.opened ≡ v.pass.view.opened
time_count tick v w passed =
    all_served_count tick (drop (served_in tick v.time) passed.done.0.pins)
    (record (passed.done.0) { pins = take (served_in tick v.time) passed.done.0.pins })
    (ledger_of w passed.changes) passed.done.2
    ∙ all_again_count v.doomed (record (ledger_of v v.index.pending) { doomed = [] }) passed.done.0 passed.done.1

swept_count : (bs cs : List Book) → AreSwept bs cs → length cs ≡ length bs
swept_count [] cs swept = ap (λ (l : List Book). length l) swept
swept_count (b ∷ bs) [] swept = absurd swept
swept_count (b ∷ bs) (c ∷ cs) swept = ap (λ n. suc n) (swept_count bs cs swept.1)

-- ----- the whole turn
pub first_made : (h : CoreHost) (ns : FirstNumbers) (c : cores.Common) (tick : ℕ) (w : Worker) → IsHostSound h
    → served_in tick h.slow.time ≡ 0 → IsTurn false ns c tick h.slow w → IsSound h.table (sight_of w)
    → (books : List Book) × AreSwept h.books books × IsHostSound (with_books books w h)
    × (IsCounted h → IsCounted (with_books books w h))
    × (host_of (with_books books w h) ≡ slow_phase tick (host_of h))
first_made h ns c tick w sound new (m, passed, posted) still =
    by (subst (λ (x : Worker). IsSound h.table (sight_of x)) posted.rest still)
  where
    by : IsSound h.table (sight_of m)
        → (books : List Book) × AreSwept h.books books × IsHostSound (with_books books w h)
        × (IsCounted h → IsCounted (with_books books w h))
        × (host_of (with_books books w h) ≡ slow_phase tick (host_of h))
    by kept =
        let g = ends h tick m sound new passed kept in (
          g.books,
          g.passing.tabled.swept,
          like_sound (with_books g.books m h) m w (host_sound h tick m sound passed kept g.books g.passing)
              (posted_like c m w posted)
              (ap waiting posted.rest ∙ (host_sound h tick m sound passed kept g.books g.passing).waiting),
          λ counted. ap (λ (x : Worker). x.pass.view.opened) posted.rest
              ∙ (time_count tick h.slow m passed
              ∙ (counted ∙ sym (swept_count h.books g.books g.passing.tabled.swept))),
          ap (λ (x : Worker). host_of (with_books g.books x h)) posted.rest
              ∙ time_made h tick m sound new passed kept,
        )

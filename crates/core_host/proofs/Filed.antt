-- Records that were filed have the history that is known of their flow, also after the time of a tick: for the answer
-- for
-- `CoreHost::pass_time`.
use Rattle.std.proofs.Common.{◌≡◌, ℕ, ◌+◌, ◌≤◌, ◌==◌, ◌&&◌, ◌||◌, not, cond, Bool, true, false, true≢false, List, []}
use Rattle.std.proofs.Common.{◌∷◌, ◌++◌, map, take, drop, refl, sym, ap, ◌∙◌, subst, arith, inl, inr}
use Rattle.std.proofs.lemmas.Bool.Decides.{nat_tests}
use Rattle.std.proofs.lemmas.List.Sorted.{list_any-IsPermutation}
use Rattle.std.specs.Prelude.{IsPermutation, ◌⊎◌}
use Rattle.std.specs.List.{filter, list_any}
use Rattle.tas_model.specs.declared.entry.FlowId.{FlowId}
use Rattle.host_rounds.specs.Lists.{Each}
use Rattle.host_rounds.proofs.Lists.{each_append}
use Rattle.flow_state.specs.Flow.{Flow}
use Rattle.flow_lock.specs.Orders.{known_of, same_flow, total, at_slot}
use Rattle.flow_lock.specs.Steps.{IsAlone, condemned, counted}
use Rattle.flow_lock.specs.declared.word.Word.{Word}
use Rattle.flow_lock.specs.declared.view.Held.{Held}
use Rattle.flow_lock.specs.declared.view.History.{History}
use Rattle.flow_lock.specs.declared.view.View.{View}
use Rattle.flow_lock.proofs.Sums.{total-append}
use Rattle.app_reaper.specs.OneCall.{history}
use Rattle.app_reaper.specs.Sweeping as sweeping
use Rattle.app_reaper.specs.Sweeping.{IsSweep}
use Rattle.app_reaper.specs.declared.sweeping.Swept.{Swept}
use Rattle.app_reaper.specs.declared.sweeping.Swept.TheVariants.{Freed, Pinned}
use Rattle.flow_clock.specs.Histories.{timed_by}
use Rattle.flow_clock.specs.Ledgers.{Ledger}
use Rattle.flow_clock.specs.Walks.{IsSwept, IsServed, AreServed, AreSweptAgain, WasTimed, WasClosed, WasSweptAgain}
use Rattle.flow_clock.specs.Walks.{IsTickDone}
use Rattle.flow_clock.proofs.Keeping.{after_sweep}
use Rattle.host_books.specs.Books.{Book}
use Rattle.host_books.proofs.Indexing.{is_same_flow}
use Rattle.host_books.proofs.Orders.{same_self}
use Rattle.slow_handshake.specs.Numbers.{FirstNumbers}
use Rattle.slow_worker.specs.Clocks.{served_in}
use Rattle.slow_worker.specs.Turns.{IsTurn, ledger_of}
use Rattle.slow_worker.specs.Workers.{Worker}
use Rattle.core_worker.specs.Workers.{Common}
use Rattle.sound_hosts.specs.Hosts.{CoreHost, id_of, is_indexed, is_doomed, is_filed}
use Rattle.sound_hosts.specs.Sound.{IsHostSound, IsPlain}
use Rattle.sound_hosts.specs.Moving.{IsLed}
use Rattle.sound_hosts.proofs.Leaving.{AreApart, any_names, any_each, apart_of}
use Rattle.sound_hosts.proofs.OneFlow.{used_leads}
use Rattle.core_host.specs.Ending.{IsFiledAs, AreFiled, record_id}

-- ----- lists
or_true : (b : Bool) → (b || true) ≡ true
or_true true = refl
or_true false = refl

and_both : (a b : Bool) → (a && b) ≡ true → (a ≡ true) × (b ≡ true)
and_both true b e = (refl, e)
and_both false b e = absurd (true≢false (sym e))

same_sym : (f g : FlowId) → same_flow f g ≡ same_flow g f
same_sym f g = grind (arith, nat_tests)

-- the list has this flow
abbrev pub Has : List FlowId → FlowId → Type 0
Has fs id = list_any (λ (f : FlowId). same_flow f id) fs ≡ true

pub each_has : (P : FlowId → Type 0) (fs : List FlowId) → ((f : FlowId) → Has fs f → P f) → Each P fs
each_has P [] all = tt
each_has P (f ∷ fs) all = (
  all f (ap (λ t. t || list_any (λ (g : FlowId). same_flow g f) fs) (same_self f)),
  each_has P fs (λ g has. all g (ap (λ t. same_flow f g || t) has ∙ or_true (same_flow f g))),
)

pub each_of : {X : Type 0} (f : X → FlowId) (P : X → Type 0) (xs : List X)
    → ((x : X) → Has (map f xs) (f x) → P x) → Each P xs
each_of f P [] all = tt
each_of {X} f P (x ∷ xs) all = (
  all x (ap (λ t. t || list_any (λ (g : FlowId). same_flow g (f x)) (map f xs)) (same_self (f x))),
  each_of f P xs (λ y has. all y (ap (λ t. same_flow (f x) (f y) || t) has ∙ or_true (same_flow (f x) (f y)))),
)

-- so has a list with the same flows in another order, and that of the books that pass a test
pub has_same : (fs gs : List FlowId) (id : FlowId) → IsPermutation fs gs → Has fs id → Has gs id
has_same fs gs id same has = sym (list_any-IsPermutation (λ (f : FlowId). same_flow f id) fs gs same) ∙ has

pub has_book : (q : Book → Bool) (bs : List Book) (id : FlowId) → Has (map id_of (filter q bs)) id
    → list_any (λ (b : Book). q b && same_flow b.id id) bs ≡ true
has_book q bs id has = sym (any_names (λ (f : FlowId). same_flow f id) q bs) ∙ has

-- no flow has a book that passes one test and a book that passes the other
pub never_both : (p q : Book → Bool) (bs : List Book) (id : FlowId) → AreApart bs
    → ((b : Book) → p b ≡ true → q b ≡ true → ⊥) → list_any (λ (b : Book). p b && same_flow b.id id) bs ≡ true
    → list_any (λ (b : Book). q b && same_flow b.id id) bs ≡ true → ⊥
never_both p q [] id apart none x y = absurd (true≢false (sym x))
never_both p q (b ∷ bs) id apart none x y =
    by (p b && same_flow b.id id) refl (q b && same_flow b.id id) refl x y (never_both p q bs id apart.1 none)
  where
    away : (r : Book → Bool) → same_flow b.id id ≡ true → (cs : List Book)
        → Each (λ (c : Book). same_flow b.id c.id ≡ false) cs
        → list_any (λ (c : Book). r c && same_flow c.id id) cs ≡ true → ⊥
    away r e cs each any =
        let it = any_each (λ (c : Book). r c && same_flow c.id id) (λ (c : Book). same_flow b.id c.id ≡ false) cs any
        each in
        let there : same_flow it.0.id id ≡ true = (and_both (r it.0) (same_flow it.0.id id) it.1).1 in
        let same : b.id ≡ it.0.id = is_same_flow b.id id e ∙ sym (is_same_flow it.0.id id there) in
        absurd (true≢false (sym (same_self b.id) ∙ (ap (same_flow b.id) same ∙ it.2)))

    by : (s : Bool) → (p b && same_flow b.id id) ≡ s → (t : Bool) → (q b && same_flow b.id id) ≡ t
        → (s || list_any (λ (c : Book). p c && same_flow c.id id) bs) ≡ true
        → (t || list_any (λ (c : Book). q c && same_flow c.id id) bs) ≡ true
        → (list_any (λ (c : Book). p c && same_flow c.id id) bs ≡ true
        → list_any (λ (c : Book). q c && same_flow c.id id) bs ≡ true → ⊥) → ⊥
    by true e true f x y rest =
        none b (and_both (p b) (same_flow b.id id) e).0 (and_both (q b) (same_flow b.id id) f).0
    by true e false f x y rest = away q (and_both (p b) (same_flow b.id id) e).1 bs apart.0 y
    by false e true f x y rest = away p (and_both (q b) (same_flow b.id id) f).1 bs apart.0 x
    by false e false f x y rest = rest x y

-- flows on other slots are other flows
pub elsewhere : (f : FlowId) (fs : List FlowId) → total (at_slot f.slot) fs ≡ 0
    → Each (λ (g : FlowId). same_flow g f ≡ false) fs
elsewhere f [] none = tt
elsewhere f (g ∷ fs) none = by (g.slot == f.slot) refl none (elsewhere f fs)
  where
    by : (t : Bool) → (g.slot == f.slot) ≡ t → cond {A = ℕ} t 1 0 + total (at_slot f.slot) fs ≡ 0
        → (total (at_slot f.slot) fs ≡ 0 → Each (λ (h : FlowId). same_flow h f ≡ false) fs)
        → Each (λ (h : FlowId). same_flow h f ≡ false) (g ∷ fs)
    by true e z rest = absurd (omega (arith, z))
    by false e z rest = (ap (λ t. t && (g.generation == f.generation)) e, rest (omega (arith, z)))

-- ----- one flow after the other
-- What was filed has the histories that are known, and none of it is of a flow that is still to come.
pub record IsFiling (left : List FlowId) (l : Ledger) : Type 0 where
  pub alone : IsAlone l.view
  pub known : Each (IsFiledAs l.view.base) l.filed
  pub apart : Each (λ (r : Flow). Each (λ (f : FlowId). same_flow f r.id ≡ false) left) l.filed
  pub once : (i : ℕ) → total (at_slot i) left ≤ 1

sweep_base : (f : FlowId) (v w : View) (a : Swept) → IsSweep f v w a → w.base ≡ v.base
sweep_base f v w Freed s = ap (λ (x : View). x.base) s.1
sweep_base f v w (Pinned n pin) s = by s.3
  where
    by : (w ≡ counted f.slot s.0 (condemned f v))
        ⊎ ((y : Word) × (w ≡ counted f.slot s.0 (counted f.slot y (condemned f v)))) → w.base ≡ v.base
    by (inl e) = ap (λ (x : View). x.base) e
    by (inr y) = ap (λ (x : View). x.base) y.1

-- another flow's history is known as it was
pub known_else : (f id : FlowId) (k : History) (base : List Held) → same_flow f id ≡ false
    → known_of id (record { flow = f; history = k } ∷ base) ≡ known_of id base
known_else f id k base e = ap (λ t. cond t k (known_of id base)) e

filed_still : (f : FlowId) (left : List FlowId) (k : History) (base : List Held) (rs : List Flow)
    → Each (IsFiledAs base) rs → Each (λ (r : Flow). Each (λ (g : FlowId). same_flow g r.id ≡ false) (f ∷ left)) rs
    → Each (IsFiledAs (record { flow = f; history = k } ∷ base)) rs
filed_still f left k base [] known apart = tt
filed_still f left k base (r ∷ rs) known apart =
    (known.0 ∙ sym (known_else f r.id k base apart.0.0), filed_still f left k base rs known.1 apart.1)

apart_rest : (f : FlowId) (left : List FlowId) (rs : List Flow)
    → Each (λ (r : Flow). Each (λ (g : FlowId). same_flow g r.id ≡ false) (f ∷ left)) rs
    → Each (λ (r : Flow). Each (λ (g : FlowId). same_flow g r.id ≡ false) left) rs
apart_rest f left [] apart = tt
apart_rest f left (r ∷ rs) apart = (apart.0.1, apart_rest f left rs apart.1)

less_once : (f : FlowId) (left : List FlowId) → ((i : ℕ) → total (at_slot i) (f ∷ left) ≤ 1) → (i : ℕ)
    → total (at_slot i) left ≤ 1
less_once f left once i = let o : at_slot i f + total (at_slot i) left ≤ 1 = once i in omega (arith, o)

-- the first of those to come is filed
module _ (f : FlowId) (left : List FlowId) (once : (i : ℕ) → total (at_slot i) (f ∷ left) ≤ 1) where
  none_here : total (at_slot f.slot) left ≡ 0
  none_here =
      let o : cond (f.slot == f.slot) 1 0 + total (at_slot f.slot) left ≤ 1 = once f.slot in
      let t : (f.slot == f.slot) ≡ true = grind (arith, nat_tests) in
      let one : ◌≡◌ {A = ℕ} (cond (f.slot == f.slot) 1 0) 1 = ap (λ b. cond {A = ℕ} b 1 0) t in
      omega (arith, o, one)

  own_apart : (r : Flow) → r.id ≡ f → Each (λ (g : FlowId). same_flow g r.id ≡ false) left
  own_apart r own = subst (λ id. Each (λ (g : FlowId). same_flow g id ≡ false) left) (sym own)
      (elsewhere f left none_here)

-- a sweep of it, after which its record may be filed
swept_filing : (f : FlowId) (left : List FlowId) (v w : View) (rs ss : List Flow) (doomed doomed' : List FlowId)
    → IsAlone v → Each (IsFiledAs v.base) rs
    → Each (λ (r : Flow). Each (λ (g : FlowId). same_flow g r.id ≡ false) left) rs
    → ((i : ℕ) → total (at_slot i) (f ∷ left) ≤ 1) → IsSwept f v w rs ss doomed doomed'
    → IsAlone w × Each (IsFiledAs w.base) ss
    × Each (λ (r : Flow). Each (λ (g : FlowId). same_flow g r.id ≡ false) left) ss
swept_filing f left v w rs ss doomed doomed' alone known apart once was = (
  (after_sweep f v w was.swept was.sweep).alone alone,
  subst (λ base. Each (IsFiledAs base) ss) (sym (sweep_base f v w was.swept was.sweep))
      (by was.swept was.filing).0,
  (by was.swept was.filing).1,
)
  where
    by : (a : Swept) → sweeping.IsFiling f v rs ss a
        → Each (IsFiledAs v.base) ss
        × Each (λ (r : Flow). Each (λ (g : FlowId). same_flow g r.id ≡ false) left) ss
    by Freed (r, own, released, is) =
        let here : history r ≡ known_of r.id v.base =
        own.known alone ∙ ap (λ id. known_of id v.base) (sym own.own) in
        subst (λ (l : List Flow). Each (IsFiledAs v.base) l
        × Each (λ (x : Flow). Each (λ (g : FlowId). same_flow g x.id ≡ false) left) l) (sym is) (
          each_append (IsFiledAs v.base) rs (r ∷ []) known (here, tt),
          each_append (λ (x : Flow). Each (λ (g : FlowId). same_flow g x.id ≡ false) left) rs (r ∷ []) apart
              (own_apart f left once r own.own, tt),
        )
    by (Pinned n pin) is =
        subst (λ (l : List Flow). Each (IsFiledAs v.base) l
        × Each (λ (x : Flow). Each (λ (g : FlowId). same_flow g x.id ≡ false) left) l) (sym is) (known, apart)

again_filing : (f : FlowId) (left : List FlowId) (l m : Ledger) → IsFiling (f ∷ left) l → WasSweptAgain f l m
    → IsFiling left m
again_filing f left l m is was =
    let s = swept_filing f left l.view m.view l.filed m.filed l.doomed m.doomed is.alone is.known
    (apart_rest f left l.filed is.apart) is.once was.swept in
    record { alone = s.0; known = s.1; apart = s.2; once = less_once f left is.once }

timed_filing : (tick : ℕ) (f : FlowId) (left : List FlowId) (l m : Ledger) → IsFiling (f ∷ left) l
    → WasTimed tick f l m → IsFiling left m
timed_filing tick f left l m is was =
    let led : IsLed f (timed_by tick (history was.flow)) l.view m.view =
    used_leads f was.flow (timed_by tick (history was.flow)) l.view m.view is.alone was.grown in
    let same : m.filed ≡ l.filed = ap (λ (x : Ledger). x.filed) was.rest in
    record {
      alone = led.alone;
      known = subst (λ rs. Each (IsFiledAs m.view.base) rs) (sym same)
          (subst (λ base. Each (IsFiledAs base) l.filed) (sym led.base)
          (filed_still f left (timed_by tick (history was.flow)) l.view.base l.filed is.known is.apart));
      apart = subst (λ rs. Each (λ (r : Flow). Each (λ (g : FlowId). same_flow g r.id ≡ false) left) rs) (sym same)
          (apart_rest f left l.filed is.apart);
      once = less_once f left is.once;
    }

closed_filing : (f : FlowId) (left : List FlowId) (l m : Ledger) → IsFiling (f ∷ left) l → WasClosed f l m
    → IsFiling left m
closed_filing f left l m is was =
    let led : IsLed f (history was.flow) l.view was.found =
    used_leads f was.flow (history was.flow) l.view was.found is.alone was.kept in
    let s = swept_filing f left was.found m.view l.filed m.filed l.doomed m.doomed led.alone
    (subst (λ base. Each (IsFiledAs base) l.filed) (sym led.base)
    (filed_still f left (history was.flow) l.view.base l.filed is.known is.apart))
    (apart_rest f left l.filed is.apart) is.once was.swept in
    record { alone = s.0; known = s.1; apart = s.2; once = less_once f left is.once }

one_served : (tick : ℕ) (f : FlowId) (left : List FlowId) (l m : Ledger) → IsFiling (f ∷ left) l
    → IsServed tick f l m → IsFiling left m
one_served tick f left l m is (inl was) = timed_filing tick f left l m is was
one_served tick f left l m is (inr (inl was)) = closed_filing f left l m is was
one_served tick f left l m is (inr (inr was)) = absurd (was.busy.1 is.alone)

all_served : (tick : ℕ) (fs : List FlowId) (l m : Ledger) → IsFiling fs l → AreServed tick fs l m → IsFiling [] m
all_served tick [] l m is e = subst (IsFiling []) (sym e) is
all_served tick (f ∷ fs) l m is (n, served, rest) =
    all_served tick fs n m (one_served tick f fs l n is served) rest

all_tried : (fs left : List FlowId) (l m : Ledger) → IsFiling (fs ++ left) l → AreSweptAgain fs l m
    → IsFiling left m × (m.pins ≡ l.pins)
all_tried [] left l m is e = (subst (IsFiling left) (sym e) is, ap (λ (x : Ledger). x.pins) e)
all_tried (f ∷ fs) left l m is (n, swept, rest) =
    let more = all_tried fs left n m (again_filing f (fs ++ left) l n is swept) rest in
    (more.0, more.1 ∙ ap (λ (x : Ledger). x.pins) swept.rest)

-- ----- the whole time
module _ (h : CoreHost) (sound : IsHostSound h) where
  apart : AreApart h.books
  apart = apart_of h.table.slots [] h.books sound.numbered

  -- a flow of the slow path's lists wasn't filed
  pub not_filed : (q : Book → Bool) → ((b : Book) → b.filed ≡ true → q b ≡ true → ⊥) → (fs : List FlowId)
      → ((id : FlowId) → Has fs id → list_any (λ (b : Book). q b && same_flow b.id id) h.books ≡ true)
      → Each (λ (r : Flow). Each (λ (f : FlowId). same_flow f r.id ≡ false) fs) h.slow.filed
  not_filed q none fs told =
      each_of record_id (λ (r : Flow). Each (λ (f : FlowId). same_flow f r.id ≡ false) fs) h.slow.filed
      (λ r filed. each_has (λ (f : FlowId). same_flow f r.id ≡ false) fs (λ f has. by r f has
      (has_book is_filed h.books r.id (has_same (map record_id h.slow.filed) (map id_of (filter is_filed h.books)) r.id
      sound.kept.filed filed)) (same_flow f r.id) refl))
    where
      by : (r : Flow) (f : FlowId) → Has fs f → list_any (λ (b : Book). b.filed && same_flow b.id r.id) h.books ≡ true
          → (t : Bool) → same_flow f r.id ≡ t → same_flow f r.id ≡ false
      by r f has filed false e = e
      by r f has filed true e =
          absurd (never_both is_filed q h.books r.id apart none filed
          (subst (λ id. list_any (λ (b : Book). q b && same_flow b.id id) h.books ≡ true) (is_same_flow f r.id e)
          (told f has)))

  not_doomed : (b : Book) → b.filed ≡ true → is_doomed b ≡ true → ⊥
  not_doomed b filed doomed =
      absurd (true≢false (sym (and_both (not b.indexed) (not b.filed) doomed).1 ∙ ap not filed))

  -- nor is one of the index
  abbrev standing : Book → Bool
  standing b = b.indexed && not b.filed

  plain_any : (id : FlowId) (bs : List Book) → Each IsPlain bs
      → list_any (λ (b : Book). b.indexed && same_flow b.id id) bs ≡ true
      → list_any (λ (b : Book). standing b && same_flow b.id id) bs ≡ true
  plain_any id [] plain any = any
  plain_any id (b ∷ bs) plain any =
      by b.indexed refl b.filed refl plain.0 any (plain_any id bs plain.1)
    where
      by : (s : Bool) → b.indexed ≡ s → (t : Bool) → b.filed ≡ t → (b.filed ≡ true → b.indexed ≡ false)
          → ((s && same_flow b.id id) || list_any (λ (c : Book). c.indexed && same_flow c.id id) bs) ≡ true
          → (list_any (λ (c : Book). c.indexed && same_flow c.id id) bs ≡ true
          → list_any (λ (c : Book). standing c && same_flow c.id id) bs ≡ true)
          → (((b.indexed && not b.filed) && same_flow b.id id)
          || list_any (λ (c : Book). standing c && same_flow c.id id) bs) ≡ true
      by true e true f plain any rest = absurd (true≢false (sym e ∙ plain f))
      by true e false f plain any rest = by_same (same_flow b.id id) any
        where
          by_same : (u : Bool) → (u || list_any (λ (c : Book). c.indexed && same_flow c.id id) bs) ≡ true
              → (((b.indexed && not b.filed) && u)
              || list_any (λ (c : Book). standing c && same_flow c.id id) bs) ≡ true
          by_same true any =
              λ i. ((e i && not (f i)) && true) || list_any (λ (c : Book). standing c && same_flow c.id id) bs
          by_same false any =
              (λ i. ((e i && not (f i)) && false) || list_any (λ (c : Book). standing c && same_flow c.id id) bs)
              ∙ rest any
      by false e t f plain any rest =
          (λ i. ((e i && not b.filed) && same_flow b.id id)
          || list_any (λ (c : Book). standing c && same_flow c.id id) bs)
          ∙ rest any

  begun : AreFiled h → IsFiling (h.slow.doomed ++ h.slow.pins) (record (ledger_of h.slow h.slow.index.pending) {
    doomed = [];
  })
  begun filed = record {
    alone = sound.alone;
    known = filed;
    apart = both h.slow.filed
        (not_filed is_doomed not_doomed h.slow.doomed (λ id has. has_book is_doomed h.books id
        (has_same h.slow.doomed (map id_of (filter is_doomed h.books)) id sound.kept.doomed has)))
        (not_filed standing
        (λ b f s. absurd (true≢false (sym (and_both b.indexed (not b.filed) s).1 ∙ ap not f))) h.slow.pins
        (λ id has. plain_any id h.books sound.plain (has_book is_indexed h.books id
        (subst (λ fs. Has fs id) sound.kept.pins has))));
    once = λ i.
        let o : total (at_slot i) h.slow.doomed + total (at_slot i) h.slow.pins ≤ 1 = sound.sound.0.owned.once i in
        let a = total-append (at_slot i) h.slow.doomed h.slow.pins in omega (arith, o, a);
  }
    where
      both : (rs : List Flow) → Each (λ (r : Flow). Each (λ (f : FlowId). same_flow f r.id ≡ false) h.slow.doomed) rs
          → Each (λ (r : Flow). Each (λ (f : FlowId). same_flow f r.id ≡ false) h.slow.pins) rs
          → Each (λ (r : Flow). Each (λ (f : FlowId). same_flow f r.id ≡ false) (h.slow.doomed ++ h.slow.pins)) rs
      both [] x y = tt
      both (r ∷ rs) x y = (
        each_append (λ (f : FlowId). same_flow f r.id ≡ false) h.slow.doomed h.slow.pins x.0 y.0,
        both rs x.1 y.1,
      )

  -- after the first turn of a tick
  pub turn_filed : (ns : FirstNumbers) (c : Common) (tick : ℕ) (w : Worker) → served_in tick h.slow.time ≡ 0
      → IsTurn false ns c tick h.slow w → AreFiled h → Each (IsFiledAs w.pass.view.base) w.filed
  turn_filed ns c tick w first (m, passed, posted) filed =
      subst (λ (x : Worker). Each (IsFiledAs x.pass.view.base) x.filed) (sym posted.rest)
      (ends (ledger_of m passed.changes) passed.done)
    where
      ends : (l : Ledger) → IsTickDone tick (served_in tick h.slow.time) (ledger_of h.slow h.slow.index.pending) l
          → Each (IsFiledAs l.view.base) l.filed
      ends l (n, tried, served) =
          let t = all_tried h.slow.doomed h.slow.pins (record (ledger_of h.slow h.slow.index.pending) { doomed = [] }) n
          (begun filed) tried in
          by (subst (λ k. AreServed tick (drop k n.pins) (record n { pins = take k n.pins }) l)
          first served) t
        where
          by : AreServed tick n.pins (record n { pins = [] }) l → IsFiling h.slow.pins n × (n.pins ≡ h.slow.pins)
              → Each (IsFiledAs l.view.base) l.filed
          by served (is, same) =
              let i : IsFiling n.pins n = subst (λ fs. IsFiling fs n) (sym same) is in
              (all_served tick n.pins (record n { pins = [] }) l
              (record { alone = i.alone; known = i.known; apart = i.apart; once = i.once }) served).known

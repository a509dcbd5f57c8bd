-- An application gives up sockets: books, applications and pins agree still. For the laws of phases, of calls that end
-- a socket, and of applications that end.
use Rattle.std.proofs.Common.{◌≡◌, ℕ, ◌+◌, ◌≤◌, ◌==◌, ◌&&◌, ◌||◌, not, cond, Bool, true, false, List, [], ◌∷◌, ◌++◌}
use Rattle.std.proofs.Common.{map, refl, sym, ap, ◌∙◌, subst, arith, count_by, true≢false}
use Rattle.std.specs.Prelude.{IsPermutation}
use Rattle.std.specs.List.{filter, list_any}
use Rattle.std.proofs.lemmas.Bool.Decides.{nat_tests}
use Rattle.std.proofs.lemmas.List.Sorted.{list_any-IsPermutation}
use Rattle.atomic_table.specs.Seated.{TableId}
use Rattle.tas_model.specs.declared.entry.FlowId.{FlowId}
use Rattle.host_rounds.specs.Hosts.{Holder, Waiting, GivenUp, is_held_by, is_waiting_by}
use Rattle.host_rounds.specs.Hosts as hosts
use Rattle.host_rounds.specs.Lists.{Each}
use Rattle.host_rounds.proofs.Lists.{each_append}
use Rattle.core_rounds.proofs.Filters.{tally, count_cons}
use Rattle.flow_lock.specs.Orders.{same_flow, total, at_slot}
use Rattle.flow_lock.specs.Steps.{without}
use Rattle.flow_lock.specs.Words.{flag}
use Rattle.app_reaper.specs.Lists.{is_on}
use Rattle.libtas_sockets.specs.Apps.{Application, flow_on}
use Rattle.host_books.specs.Books.{Book}
use Rattle.host_books.proofs.Indexing.{is_same_flow}
use Rattle.host_books.proofs.Orders.{same_self}
use Rattle.sound_hosts.specs.Hosts.{id_of, is_holder, is_held_of, AreNumbered}
use Rattle.sound_hosts.specs.Leaving.{reheld, has_flow, left_by, books_left, sockets_left, AreSockets, HasLeft}
use Rattle.sound_hosts.specs.Sound.{IsApp, HasHolder}
use Rattle.sound_hosts.proofs.Counts.{count_each, count_filter, count_map, count_same, count_middle, by_counts}
use Rattle.sound_hosts.proofs.Distinct.{distinct}
use Rattle.sound_hosts.proofs.Reheld.{each_reheld, names_reheld, numbered_reheld}
use Rattle.sound_hosts.proofs.Sweeping.{any_swap, count_swap, firsts, lasts, middle}

-- ----- tests
and_both : (a b : Bool) → (a && b) ≡ true → (a ≡ true) × (b ≡ true)
and_both true b e = (refl, e)
and_both false b e = absurd (true≢false (sym e))

and_false : (b : Bool) → (b && false) ≡ false
and_false true = refl
and_false false = refl

or_true : (b : Bool) → (b || true) ≡ true
or_true true = refl
or_true false = refl

same_sym : (f g : FlowId) → same_flow f g ≡ same_flow g f
same_sym f g = grind (arith, nat_tests)

pub held_by : (n : ℕ) (x : Holder) → is_holder n x ≡ true → is_held_by x ≡ true
held_by n Waiting e = e
held_by n (hosts.Application m) e = refl
held_by n GivenUp e = e

-- the application doesn't have what it gave up
own_app : (n m : ℕ) (t : Bool) → (m == n) ≡ t → (s : Bool)
    → is_holder n (cond ((m == n) && s) GivenUp (hosts.Application m)) ≡ ((m == n) && not s)
own_app n m true e true =
    (λ i. is_holder n (cond (e i && true) GivenUp (hosts.Application m))) ∙ sym (λ i. e i && false)
own_app n m true e false =
    (λ i. is_holder n (cond (e i && false) GivenUp (hosts.Application m))) ∙ (e ∙ sym (λ i. e i && true))
own_app n m false e s =
    (λ i. is_holder n (cond (e i && s) GivenUp (hosts.Application m))) ∙ (e ∙ sym (λ i. e i && not s))

own_left : (n : ℕ) (x : Holder) (s : Bool) → is_holder n (cond (is_holder n x && s) GivenUp x)
    ≡ (is_holder n x && not s)
own_left n Waiting s = refl
own_left n GivenUp s = refl
own_left n (hosts.Application m) s = own_app n m (m == n) refl s

-- the others have what they had
apart_holder : (n m : ℕ) → (n == m) ≡ false → (x : Holder) → is_holder n x ≡ true → is_holder m x ≡ false
apart_holder n m ne Waiting e = refl
apart_holder n m ne GivenUp e = refl
apart_holder n m ne (hosts.Application k) e = grind (arith, nat_tests, e, ne)

else_left : (n m : ℕ) → (n == m) ≡ false → (x : Holder) (s : Bool)
    → is_holder m (cond (is_holder n x && s) GivenUp x) ≡ is_holder m x
else_left n m ne x s = by (is_holder n x && s) refl
  where
    by : (g : Bool) → (is_holder n x && s) ≡ g → is_holder m (cond g GivenUp x) ≡ is_holder m x
    by true e = sym (apart_holder n m ne x (and_both (is_holder n x) s e).0)
    by false e = refl

-- a flow that waits is nobody's to give up
holder_waits_not : (n : ℕ) (x : Holder) → is_holder n x ≡ true → is_waiting_by x ≡ false
holder_waits_not n Waiting e = absurd (true≢false (sym e))
holder_waits_not n GivenUp e = refl
holder_waits_not n (hosts.Application k) e = refl

pub waiting_left : (n : ℕ) (id : FlowId) (b : Book) → is_waiting_by (left_by n id b) ≡ is_waiting_by b.holder
waiting_left n id b = by (has_flow n id b) refl
  where
    by : (g : Bool) → has_flow n id b ≡ g → is_waiting_by (cond g GivenUp b.holder) ≡ is_waiting_by b.holder
    by true e = sym (holder_waits_not n b.holder (and_both (is_held_of n b) (same_flow b.id id) e).0)
    by false e = refl

-- ----- lists
pub any_names : (p : FlowId → Bool) (q : Book → Bool) (bs : List Book)
    → list_any p (map id_of (filter q bs)) ≡ list_any (λ (b : Book). q b && p b.id) bs
any_names p q [] = refl
any_names p q (b ∷ bs) = by (q b) (any_names p q bs)
  where
    by : (t : Bool) → list_any p (map id_of (filter q bs)) ≡ list_any (λ (c : Book). q c && p c.id) bs
        → list_any p (map id_of (cond t (b ∷ filter q bs) (filter q bs)))
        ≡ ((t && p b.id) || list_any (λ (c : Book). q c && p c.id) bs)
    by true rest = ap (λ x. p b.id || x) rest
    by false rest = rest

-- one that passes the test, with what holds of each
pub any_each : (p : Book → Bool) (P : Book → Type 0) (bs : List Book) → list_any p bs ≡ true → Each P bs
    → (b : Book) × (p b ≡ true) × P b
any_each p P [] any each = absurd (true≢false (sym any))
any_each p P (b ∷ bs) any each = by (p b) refl any (any_each p P bs)
  where
    by : (t : Bool) → p b ≡ t → (t || list_any p bs) ≡ true
        → (list_any p bs ≡ true → Each P bs → (c : Book) × (p c ≡ true) × P c) → (c : Book) × (p c ≡ true) × P c
    by true e any rest = (b, e, each.0)
    by false e any rest = rest any each.1

zero_none : {X : Type 0} (p : X → Bool) (xs : List X) → count_by p xs ≡ 0 → Each (λ (x : X). p x ≡ false) xs
zero_none p [] e = tt
zero_none p (x ∷ xs) e =
    let a : count_by p (x ∷ xs) ≡ tally (p x) + count_by p xs = count_cons p x xs in
    (none (p x) (omega (arith, a, e)), zero_none p xs (omega (arith, a, e)))
  where
    none : (b : Bool) → tally b ≡ 0 → b ≡ false
    none true h = absurd (omega (arith, h))
    none false h = refl

-- no two books are of one flow
abbrev pub AreApart : List Book → Type 0
AreApart [] = Unit {0}
AreApart (b ∷ bs) = Each (λ (c : Book). same_flow b.id c.id ≡ false) bs × AreApart bs

pub apart_of : (slots : ℕ) (before bs : List Book) → AreNumbered slots before bs → AreApart bs
apart_of slots before [] numbered = tt
apart_of slots before (b ∷ bs) numbered =
    (distinct slots before b bs numbered, apart_of slots (before ++ b ∷ []) bs numbered.2)

-- so who has the flow has all books of it
pub only : (n : ℕ) (id : FlowId) (bs : List Book) → AreApart bs → list_any (has_flow n id) bs ≡ true
    → Each (λ (b : Book). same_flow b.id id ≡ true → is_held_of n b ≡ true) bs
only n id [] apart any = tt
only n id (b ∷ bs) apart any = by (has_flow n id b) refl any (only n id bs apart.1)
  where
    others : same_flow b.id id ≡ true → (cs : List Book) → Each (λ (c : Book). same_flow b.id c.id ≡ false) cs
        → Each (λ (c : Book). same_flow c.id id ≡ false) cs
    others e [] each = tt
    others e (c ∷ cs) each =
        (same_sym c.id id ∙ (ap (λ f. same_flow f c.id) (sym (is_same_flow b.id id e)) ∙ each.0), others e cs each.1)

    vacuous : (cs : List Book) → Each (λ (c : Book). same_flow c.id id ≡ false) cs
        → Each (λ (c : Book). same_flow c.id id ≡ true → is_held_of n c ≡ true) cs
    vacuous [] each = tt
    vacuous (c ∷ cs) each = (λ e. absurd (true≢false (sym e ∙ each.0)), vacuous cs each.1)

    none : (cs : List Book) → Each (λ (c : Book). same_flow c.id id ≡ false) cs → list_any (has_flow n id) cs ≡ false
    none [] each = refl
    none (c ∷ cs) each =
        (λ i. (is_held_of n c && each.0 i) || none cs each.1 i) ∙ ap (λ x. x || false) (and_false (is_held_of n c))

    by : (g : Bool) → has_flow n id b ≡ g → (g || list_any (has_flow n id) bs) ≡ true
        → (list_any (has_flow n id) bs ≡ true
        → Each (λ (c : Book). same_flow c.id id ≡ true → is_held_of n c ≡ true) bs)
        → Each (λ (c : Book). same_flow c.id id ≡ true → is_held_of n c ≡ true) (b ∷ bs)
    by true e any rest =
        let both = and_both (is_held_of n b) (same_flow b.id id) e in
        (λ s. both.0, vacuous bs (others both.1 bs apart.0))
    by false e any rest =
        (λ s. absurd (true≢false (sym any ∙ none bs (others s bs apart.0))), rest any)

without_filter : (i : ℕ) (fs : List FlowId) → without i fs ≡ filter (λ (f : FlowId). not (f.slot == i)) fs
without_filter i [] = refl
without_filter i (f ∷ fs) = by (f.slot == i) (without_filter i fs)
  where
    by : (t : Bool) → without i fs ≡ filter (λ (g : FlowId). not (g.slot == i)) fs
        → cond t (without i fs) (f ∷ without i fs)
        ≡ cond (not t) (f ∷ filter (λ (g : FlowId). not (g.slot == i)) fs)
        (filter (λ (g : FlowId). not (g.slot == i)) fs)
    by true rest = rest
    by false rest = ap (λ l. f ∷ l) rest

-- ----- sockets
-- the flow of a socket is among those that the application has
pub socket_had : (slot : ℕ) (fs : List FlowId) → list_any (is_on slot) fs ≡ true
    → list_any (λ (f : FlowId). same_flow f (flow_on fs slot)) fs ≡ true
socket_had slot [] any = absurd (true≢false (sym any))
socket_had slot (f ∷ fs) any = by (f.slot == slot) any (socket_had slot fs)
  where
    by : (t : Bool) → (t || list_any (is_on slot) fs) ≡ true
        → (list_any (is_on slot) fs ≡ true → list_any (λ (g : FlowId). same_flow g (flow_on fs slot)) fs ≡ true)
        → (same_flow f (cond t f (flow_on fs slot))
        || list_any (λ (g : FlowId). same_flow g (cond t f (flow_on fs slot))) fs) ≡ true
    by true any rest = ap (λ t. t || list_any (λ (g : FlowId). same_flow g f) fs) (same_self f)
    by false any rest = ap (λ t. same_flow f (flow_on fs slot) || t) (rest any)
        ∙ or_true (same_flow f (flow_on fs slot))

pub socket_slot : (slot : ℕ) (fs : List FlowId) → (flow_on fs slot).slot ≡ slot
socket_slot slot [] = refl
socket_slot slot (f ∷ fs) = by (f.slot == slot) refl (socket_slot slot fs)
  where
    by : (t : Bool) → (f.slot == slot) ≡ t → (flow_on fs slot).slot ≡ slot → (cond t f (flow_on fs slot)).slot ≡ slot
    by true e rest = grind (arith, nat_tests, e)
    by false e rest = rest

-- so there is a book of it that says so
pub flow_had : (table : TableId) (bs : List Book) (a : Application) (id : FlowId) → IsApp table bs a
    → list_any (λ (f : FlowId). same_flow f id) a.sockets ≡ true → list_any (has_flow a.number id) bs ≡ true
flow_had table bs a id app any =
    sym (any_names (λ (f : FlowId). same_flow f id) (is_held_of a.number) bs)
    ∙ (sym (list_any-IsPermutation (λ (f : FlowId). same_flow f id) a.sockets
    (map id_of (filter (is_held_of a.number) bs)) app.sockets)
    ∙ any)

-- ----- what agrees
-- books, applications, the generation of each slot's flow, and the pins of each slot
pub record AreTaken (table : TableId) (books : List Book) (xs : List Application) : Type 0 where
  pub apps : Each (IsApp table books) xs
  pub numbers : (k : ℕ) → count_by (λ (a : Application). a.number == k) xs ≤ 1
  pub holders : Each (HasHolder xs) books

abbrev pub IsNumberedBy : (generation : ℕ → ℕ) → Book → Type 0
IsNumberedBy generation b = b.filed ≡ false → b.id.generation ≡ generation b.id.slot

abbrev pub IsPinnedBy : (pins : ℕ → ℕ) → Book → Type 0
IsPinnedBy pins b = b.filed ≡ false → pins b.id.slot ≡ 1 + flag (is_held_by b.holder)

pub record AreRight (table : TableId) (generation pins : ℕ → ℕ) (books : List Book) (xs : List Application)
    : Type 0 where
  pub numbered : AreNumbered table.slots [] books
  pub generations : Each (IsNumberedBy generation) books
  pub pinned : Each (IsPinnedBy pins) books
  pub taken : AreTaken table books xs

-- ----- an application that is the same but for its pass
module _ (table : TableId) (generation pins : ℕ → ℕ) (bs : List Book) (front : List Application) (a b : Application)
    (back : List Application) (left : HasLeft [] a b) where
  pub same_right : AreRight table generation pins bs (front ++ a ∷ back)
      → AreRight table generation pins bs (front ++ b ∷ back)
  same_right right =
      let own = middle (IsApp table bs) front a back right.taken.apps in
      record {
        numbered = right.numbered;
        generations = right.generations;
        pinned = right.pinned;
        taken = record {
          apps = each_append (IsApp table bs) front (b ∷ back)
              (firsts (IsApp table bs) front a back right.taken.apps) (
                record {
                  own = left.own ∙ own.own;
                  turns = left.turns;
                  begun = left.begun ∙ own.begun;
                  sockets = subst (λ n. IsPermutation b.sockets (map id_of (filter (is_held_of n) bs)))
                      (sym left.number)
                      (subst (λ l. IsPermutation l (map id_of (filter (is_held_of a.number) bs))) (sym left.sockets)
                      own.sockets);
                },
                lasts (IsApp table bs) front a back right.taken.apps,
              );
          numbers = λ k.
              let few : count_by (λ (x : Application). x.number == k) (front ++ a ∷ back) ≤ 1 = right.taken.numbers k in
              let same : count_by (λ (x : Application). x.number == k) (front ++ b ∷ back)
              ≡ count_by (λ (x : Application). x.number == k) (front ++ a ∷ back) =
              count_swap (λ (x : Application). x.number == k) front a b back (ap (λ n. n == k) left.number) in
              omega (arith, few, same);
          holders = same_holders bs right.taken.holders;
        };
      }
    where
      same_holders : (cs : List Book) → Each (HasHolder (front ++ a ∷ back)) cs
          → Each (HasHolder (front ++ b ∷ back)) cs
      same_holders [] each = tt
      same_holders (c ∷ cs) each = (
        λ h. (
          any_swap (λ (x : Application). is_held_of x.number c) front a b back (ap (λ n. is_held_of n c) left.number)
              ∙ (each.0 h).0,
          (each.0 h).1,
        ),
        same_holders cs each.1,
      )

-- ----- one socket is given up
module _ (table : TableId) (generation pins pins' : ℕ → ℕ) (bs : List Book) (front : List Application)
    (a : Application) (back : List Application) (id : FlowId)
    (right : AreRight table generation pins bs (front ++ a ∷ back))
    (has : list_any (λ (f : FlowId). same_flow f id) a.sockets ≡ true)
    (less : (i : ℕ) → pins' i + total (at_slot i) (id ∷ []) ≡ pins i) where
  abbrev names : List FlowId
  names = map id_of (filter (is_held_of a.number) bs)

  own : IsApp table bs a
  own = middle (IsApp table bs) front a back right.taken.apps

  has_it : list_any (has_flow a.number id) bs ≡ true
  has_it = flow_had table bs a id own has

  -- of those that stand it is the one of its slot
  abbrev IsUnfiled : Book → Type 0
  IsUnfiled b = is_held_by b.holder ≡ true → b.filed ≡ false

  unfiled : (cs : List Book) → Each (HasHolder (front ++ a ∷ back)) cs → Each IsUnfiled cs
  unfiled [] each = tt
  unfiled (c ∷ cs) each = (λ h. (each.0 h).1, unfiled cs each.1)

  abbrev IsKnown : Book → Type 0
  IsKnown b = IsUnfiled b × IsNumberedBy generation b

  known : (cs : List Book) → Each IsUnfiled cs → Each (IsNumberedBy generation) cs → Each IsKnown cs
  known [] x y = tt
  known (c ∷ cs) x y = ((x.0, y.0), known cs x.1 y.1)

  number : id.generation ≡ generation id.slot
  number =
      let b = any_each (has_flow a.number id) IsKnown bs has_it
      (known bs (unfiled bs right.taken.holders) right.generations) in
      let both = and_both (is_held_of a.number b.0) (same_flow b.0.id id) b.1 in
      subst (λ (f : FlowId). f.generation ≡ generation f.slot) (is_same_flow b.0.id id both.1)
      (b.2.1 (b.2.0 (held_by a.number b.0.holder both.0)))

  abbrev IsItsSlot : Book → Type 0
  IsItsSlot b = b.filed ≡ false → (b.id.slot == id.slot) ≡ has_flow a.number id b

  its_slot : (cs : List Book) → Each (IsNumberedBy generation) cs
      → Each (λ (b : Book). same_flow b.id id ≡ true → is_held_of a.number b ≡ true) cs → Each IsItsSlot cs
  its_slot [] x y = tt
  its_slot (c ∷ cs) x y = (λ f. by (c.id.slot == id.slot) refl f, its_slot cs x.1 y.1)
    where
      by : (t : Bool) → (c.id.slot == id.slot) ≡ t → c.filed ≡ false → (c.id.slot == id.slot) ≡ has_flow a.number id c
      by true e f =
          let slot : c.id.slot ≡ id.slot = grind (arith, nat_tests, e) in
          let later : c.id.generation ≡ id.generation = x.0 f ∙ (ap generation slot ∙ sym number) in
          let same : same_flow c.id id ≡ true = grind (arith, nat_tests, slot, later) in
          e ∙ sym (λ i. y.0 same i && same i)
      by false e f =
          e
          ∙ sym ((λ i. is_held_of a.number c && (e i && (c.id.generation == id.generation)))
          ∙ and_false (is_held_of a.number c))

  slots : Each IsItsSlot bs
  slots = its_slot bs right.generations (only a.number id bs (apart_of table.slots [] bs right.numbered) has_it)

  -- ----- the sockets that are left
  abbrev IsTold : FlowId → Book → Type 0
  IsTold f b =
      ((is_held_of a.number b && not (same_flow b.id id)) && same_flow f b.id)
      ≡ (is_held_of a.number b && (not (f.slot == id.slot) && same_flow f b.id))

  told : (f : FlowId) (cs : List Book) → Each IsUnfiled cs → Each IsItsSlot cs → Each (IsTold f) cs
  told f [] x y = tt
  told f (c ∷ cs) x y = (by (is_held_of a.number c) refl, told f cs x.1 y.1)
    where
      same_test : is_held_of a.number c ≡ true → (t : Bool) → same_flow f c.id ≡ t
          → (not (same_flow c.id id) && same_flow f c.id) ≡ (not (f.slot == id.slot) && same_flow f c.id)
      same_test h true e =
          let slot : (c.id.slot == id.slot) ≡ (is_held_of a.number c && same_flow c.id id) =
          y.0 (x.0 (held_by a.number c.holder h)) in
          let test : same_flow c.id id ≡ (f.slot == id.slot) =
          sym (λ i. h i && same_flow c.id id)
          ∙ (sym slot ∙ ap (λ (g : FlowId). g.slot == id.slot) (sym (is_same_flow f c.id e))) in
          ap (λ s. not s && same_flow f c.id) test
      same_test h false e =
          (λ i. not (same_flow c.id id) && e i)
          ∙ (and_false (not (same_flow c.id id))
          ∙ sym ((λ i. not (f.slot == id.slot) && e i) ∙ and_false (not (f.slot == id.slot))))

      by : (h : Bool) → is_held_of a.number c ≡ h → IsTold f c
      by true e =
          (λ i. (e i && not (same_flow c.id id)) && same_flow f c.id)
          ∙ (same_test e (same_flow f c.id) refl
          ∙ sym (λ i. e i && (not (f.slot == id.slot) && same_flow f c.id)))
      by false e =
          (λ i. (e i && not (same_flow c.id id)) && same_flow f c.id)
          ∙ sym (λ i. e i && (not (f.slot == id.slot) && same_flow f c.id))

  -- by slots
  of_slot : (f x : FlowId) → (not (x.slot == id.slot) && same_flow f x) ≡ (not (f.slot == id.slot) && same_flow f x)
  of_slot f x = by (same_flow f x) refl
    where
      by : (t : Bool) → same_flow f x ≡ t
          → (not (x.slot == id.slot) && same_flow f x) ≡ (not (f.slot == id.slot) && same_flow f x)
      by true e = ap (λ (g : FlowId). not (g.slot == id.slot) && same_flow f x) (sym (is_same_flow f x e))
      by false e =
          (λ i. not (x.slot == id.slot) && e i)
          ∙ (and_false (not (x.slot == id.slot))
          ∙ sym ((λ i. not (f.slot == id.slot) && e i) ∙ and_false (not (f.slot == id.slot))))

  owns : (cs : List Book)
      → Each (λ (b : Book). is_held_of a.number (reheld (left_by a.number id) b)
      ≡ (is_held_of a.number b && not (same_flow b.id id))) cs
  owns [] = tt
  owns (c ∷ cs) = (own_left a.number c.holder (same_flow c.id id), owns cs)

  sockets : IsPermutation (without id.slot a.sockets)
      (map id_of (filter (is_held_of a.number) (map (reheld (left_by a.number id)) bs)))
  sockets = by_counts same_flow is_same_flow same_self (without id.slot a.sockets)
      (map id_of (filter (is_held_of a.number) (map (reheld (left_by a.number id)) bs)))
      (λ f. ap (λ l. count_by (same_flow f) l) (without_filter id.slot a.sockets)
      ∙ (count_filter (same_flow f) (λ (x : FlowId). not (x.slot == id.slot)) a.sockets
      ∙ ((λ i. count_by (λ (x : FlowId). of_slot f x i) a.sockets)
      ∙ (count_same (λ (x : FlowId). not (f.slot == id.slot) && same_flow f x) a.sockets names own.sockets
      ∙ (count_map id_of (λ (x : FlowId). not (f.slot == id.slot) && same_flow f x)
      (filter (is_held_of a.number) bs)
      ∙ (count_filter (λ (b : Book). not (f.slot == id.slot) && same_flow f b.id) (is_held_of a.number) bs
      ∙ (sym (count_each
      (λ (b : Book). (is_held_of a.number b && not (same_flow b.id id)) && same_flow f b.id)
      (λ (b : Book). is_held_of a.number b && (not (f.slot == id.slot) && same_flow f b.id)) bs
      (told f bs (unfiled bs right.taken.holders) slots))
      ∙ (sym (count_filter (λ (b : Book). same_flow f b.id)
      (λ (b : Book). is_held_of a.number b && not (same_flow b.id id)) bs)
      ∙ (sym (count_map id_of (same_flow f)
      (filter (λ (b : Book). is_held_of a.number b && not (same_flow b.id id)) bs))
      ∙ ap (λ l. count_by (same_flow f) l) (sym (names_reheld (left_by a.number id) (is_held_of a.number)
      (λ (b : Book). is_held_of a.number b && not (same_flow b.id id)) bs (owns bs))))))))))))

  -- ----- the others
  abbrev IsElse : Application → Type 0
  IsElse x = (x.number == a.number) ≡ false

  others : Each IsElse (front ++ back)
  others =
      let few : count_by (λ (x : Application). x.number == a.number) (front ++ a ∷ back) ≤ 1 =
      right.taken.numbers a.number in
      let is : count_by (λ (x : Application). x.number == a.number) (front ++ a ∷ back)
      ≡ tally (a.number == a.number) + count_by (λ (x : Application). x.number == a.number) (front ++ back) =
      count_middle (λ (x : Application). x.number == a.number) front a back in
      let self : (a.number == a.number) ≡ true = grind (arith, nat_tests) in
      let one : tally (a.number == a.number) ≡ 1 = ap tally self in
      zero_none (λ (x : Application). x.number == a.number) (front ++ back) (omega (arith, few, is, one))

  fronts : (xs ys : List Application) → Each IsElse (xs ++ ys) → Each IsElse xs × Each IsElse ys
  fronts [] ys each = (tt, each)
  fronts (x ∷ xs) ys each = let r = fronts xs ys each.1 in ((each.0, r.0), r.1)

  else_names : (m : ℕ) → (a.number == m) ≡ false → (cs : List Book)
      → Each (λ (b : Book). is_held_of m (reheld (left_by a.number id) b) ≡ is_held_of m b) cs
  else_names m ne [] = tt
  else_names m ne (c ∷ cs) = (else_left a.number m ne c.holder (same_flow c.id id), else_names m ne cs)

  others_right : (xs : List Application) → Each IsElse xs → Each (IsApp table bs) xs
      → Each (IsApp table (map (reheld (left_by a.number id)) bs)) xs
  others_right [] ne each = tt
  others_right (x ∷ xs) ne each = (
    record {
      own = each.0.own;
      turns = each.0.turns;
      begun = each.0.begun;
      sockets = subst (IsPermutation x.sockets)
          (sym (names_reheld (left_by a.number id) (is_held_of x.number) (is_held_of x.number) bs
          (else_names x.number (flipped x.number ne.0) bs)))
          each.0.sockets;
    },
    others_right xs ne.1 each.1,
  )
    where
      flipped : (m : ℕ) → (m == a.number) ≡ false → (a.number == m) ≡ false
      flipped m e = grind (arith, nat_tests, e)

  -- ----- holders
  abbrev b : Application
  b = record a { sockets = without id.slot a.sockets }

  abbrev IsHad : Book → Holder → Type 0
  IsHad c x = is_held_by x ≡ true
      → (list_any (λ (y : Application). is_holder y.number x) (front ++ b ∷ back) ≡ true) × (c.filed ≡ false)

  had : (c : Book) → HasHolder (front ++ a ∷ back) c → HasHolder (front ++ b ∷ back) (reheld (left_by a.number id) c)
  had c old = by (has_flow a.number id c)
    where
      by : (g : Bool) → IsHad c (cond g GivenUp c.holder)
      by true h = absurd (true≢false (sym h))
      by false h = (
        any_swap (λ (y : Application). is_holder y.number c.holder) front a b back refl ∙ (old h).0,
        (old h).1,
      )

  -- ----- pins
  abbrev IsBoth : Book → Type 0
  IsBoth c = IsPinnedBy pins c × IsItsSlot c

  both : (cs : List Book) → Each (IsPinnedBy pins) cs → Each IsItsSlot cs → Each IsBoth cs
  both [] x y = tt
  both (c ∷ cs) x y = ((x.0, y.0), both cs x.1 y.1)

  pinned : (c : Book) → IsBoth c → IsPinnedBy pins' (reheld (left_by a.number id) c)
  pinned c (pin, slot) f = by (has_flow a.number id c) refl
    where
      at_slot_is : (g : Bool) → (c.id.slot == id.slot) ≡ g → total (at_slot c.id.slot) (id ∷ []) ≡ flag g
      at_slot_is true e =
          let t : (id.slot == c.id.slot) ≡ true = grind (arith, nat_tests, e) in ap (λ x. cond x 1 0 + 0) t
      at_slot_is false e =
          let t : (id.slot == c.id.slot) ≡ false = grind (arith, nat_tests, e) in ap (λ x. cond x 1 0 + 0) t

      by : (g : Bool) → has_flow a.number id c ≡ g
          → pins' c.id.slot ≡ 1 + flag (is_held_by (cond g GivenUp c.holder))
      by true e =
          let one : total (at_slot c.id.slot) (id ∷ []) ≡ 1 = at_slot_is true (slot f ∙ e) in
          let held : flag (is_held_by c.holder) ≡ 1 =
          ap flag (held_by a.number c.holder (and_both (is_held_of a.number c) (same_flow c.id id) e).0) in
          let before : pins c.id.slot ≡ 1 + flag (is_held_by c.holder) = pin f in
          let left : pins' c.id.slot + total (at_slot c.id.slot) (id ∷ []) ≡ pins c.id.slot = less c.id.slot in
          omega (arith, one, held, before, left)
      by false e =
          let none : total (at_slot c.id.slot) (id ∷ []) ≡ 0 = at_slot_is false (slot f ∙ e) in
          let before : pins c.id.slot ≡ 1 + flag (is_held_by c.holder) = pin f in
          let left : pins' c.id.slot + total (at_slot c.id.slot) (id ∷ []) ≡ pins c.id.slot = less c.id.slot in
          omega (arith, none, before, left)

  pub one_right : AreRight table generation pins' (map (reheld (left_by a.number id)) bs)
      (front ++ record a { sockets = without id.slot a.sockets } ∷ back)
  one_right =
      let ne = fronts front back others in
      record {
        numbered = numbered_reheld (left_by a.number id) table.slots [] bs right.numbered;
        generations = each_reheld (left_by a.number id) (IsNumberedBy generation) (IsNumberedBy generation)
            (λ c x. x) bs
            right.generations;
        pinned = each_reheld (left_by a.number id) IsBoth (IsPinnedBy pins') pinned bs (both bs right.pinned slots);
        taken = record {
          apps = each_append (IsApp table (map (reheld (left_by a.number id)) bs)) front (b ∷ back)
              (others_right front ne.0 (firsts (IsApp table bs) front a back right.taken.apps)) (
                record { own = own.own; turns = own.turns; begun = own.begun; sockets = sockets },
                others_right back ne.1 (lasts (IsApp table bs) front a back right.taken.apps),
              );
          numbers = λ k.
              let few : count_by (λ (x : Application). x.number == k) (front ++ a ∷ back) ≤ 1 = right.taken.numbers k in
              let same : count_by (λ (x : Application). x.number == k) (front ++ b ∷ back)
              ≡ count_by (λ (x : Application). x.number == k) (front ++ a ∷ back) =
              count_swap (λ (x : Application). x.number == k) front a b back refl in
              omega (arith, few, same);
          holders = each_reheld (left_by a.number id) (HasHolder (front ++ a ∷ back)) (HasHolder (front ++ b ∷ back))
              had
              bs right.taken.holders;
        };
      }

-- ----- all that are given up
-- what holds of the books after each, holds after all
module _ (P : List Book → Type 0)
    (keeps : (n : ℕ) (id : FlowId) (cs : List Book) → P cs → P (map (reheld (left_by n id)) cs)) where
  pub left_keeps : (n : ℕ) (ids : List FlowId) (bs : List Book) → P bs → P (books_left n ids bs)
  left_keeps n [] bs p = p
  left_keeps n (id ∷ ids) bs p = left_keeps n ids (map (reheld (left_by n id)) bs) (keeps n id bs p)

module _ (table : TableId) (generation : ℕ → ℕ) (front back : List Application) where
  abbrev Right : (ℕ → ℕ) → List Book → Application → Type 0
  Right pins bs a = AreRight table generation pins bs (front ++ a ∷ back)

  ids_right : (ids : List FlowId) (pins pins' : ℕ → ℕ) (bs : List Book) (a : Application) → Right pins bs a
      → AreSockets ids a.sockets → ((i : ℕ) → pins' i + total (at_slot i) ids ≡ pins i)
      → Right pins' (books_left a.number ids bs) (record a { sockets = sockets_left ids a.sockets })
  ids_right [] pins pins' bs a right had less =
      subst (λ (p : ℕ → ℕ). AreRight table generation p bs (front ++ a ∷ back)) (λ j i. same i j) right
    where
      same : (i : ℕ) → pins i ≡ pins' i
      same i = let l : pins' i + total (at_slot i) [] ≡ pins i = less i in omega (arith, l)
  ids_right (id ∷ ids) pins pins' bs a right had less =
      ids_right ids (λ i. pins' i + total (at_slot i) ids) pins' (map (reheld (left_by a.number id)) bs)
      (record a { sockets = without id.slot a.sockets })
      (one_right table generation pins (λ i. pins' i + total (at_slot i) ids) bs front a back id right had.0
      (λ i. one_less i))
      had.1 (λ i. refl)
    where
      one_less : (i : ℕ) → (pins' i + total (at_slot i) ids) + total (at_slot i) (id ∷ []) ≡ pins i
      one_less i = let l : pins' i + (at_slot i id + total (at_slot i) ids) ≡ pins i = less i in omega (arith, l)

  -- the application gave up these
  pub left_right : (ids : List FlowId) (pins pins' : ℕ → ℕ) (bs : List Book) (a b : Application) → Right pins bs a
      → HasLeft ids a b → ((i : ℕ) → pins' i + total (at_slot i) ids ≡ pins i)
      → Right pins' (books_left a.number ids bs) b
  left_right ids pins pins' bs a b right left less =
      same_right table generation pins' (books_left a.number ids bs) front
      (record a { sockets = sockets_left ids a.sockets }) b back
      (record {
        number = left.number;
        own = left.own;
        turns = left.turns;
        begun = left.begun;
        sockets = left.sockets;
        had = tt;
      })
      (ids_right ids pins pins' bs a right left.had less)

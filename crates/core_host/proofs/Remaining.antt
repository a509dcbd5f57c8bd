-- What a host leaves: its slots may be freed once its applications gave their sockets up, and each flow's history is
-- found. For the answers for `CoreHost::finish` and its parts.
use Rattle.std.proofs.Common.{◌≡◌, ℕ, ◌+◌, ◌-◌, ◌<◌, ◌≤◌, ◌==◌, ◌&&◌, ◌||◌, not, Bool, true, false, true≢false}
use Rattle.std.proofs.Common.{List, [], ◌∷◌, ◌++◌, map, refl, sym, ap, ◌∙◌, subst, arith, count_by}
use Rattle.std.proofs.lemmas.Bool.Decides.{nat_tests}
use Rattle.std.proofs.lemmas.List.Sorted.{list_any-IsPermutation}
use Rattle.std.specs.Prelude.{IsPermutation, IsSome}
use Rattle.std.specs.List.{filter, list_any}
use Rattle.atomic_table.specs.Seated.{TableId}
use Rattle.tas_model.specs.declared.entry.FlowId.{FlowId}
use Rattle.host_rounds.specs.Hosts as hosts
use Rattle.host_rounds.specs.Hosts.{Holder, Host, is_held_by}
use Rattle.host_rounds.specs.Lists.{Each}
use Rattle.host_rounds.proofs.Lists.{each_append}
use Rattle.core_rounds.proofs.Filters.{tally, count_cons}
use Rattle.flow_lock.specs.Callers.{IsOwner}
use Rattle.flow_lock.specs.Orders.{pins_at, same_flow, total, at_slot}
use Rattle.flow_lock.specs.Passes.{Seen}
use Rattle.flow_lock.specs.Words.{flag}
use Rattle.flow_lock.specs.declared.view.Held.{Held}
use Rattle.flow_lock.specs.declared.word.Word.{Word}
use Rattle.flow_lock.proofs.Sums.{total-append}
use Rattle.app_reaper.specs.Lists.{is_on}
use Rattle.flow_clock.proofs.Keeping.{same_owner}
use Rattle.libtas_sockets.specs.Apps.{Application}
use Rattle.core_worker.specs.Workers.{Common}
use Rattle.core_phase.specs.Lanes.{IsIdle}
use Rattle.core_phase.specs.declared.lane.Lane.{Lane}
use Rattle.core_phase.specs.declared.lane.Lane.TheVariants as lanes
use Rattle.host_books.specs.Books.{Book, live_in}
use Rattle.host_books.proofs.Indexing.{is_same_flow}
use Rattle.host_books.proofs.Orders.{same_self}
use Rattle.sound_hosts.specs.Hosts.{CoreHost, id_of, is_holder, is_held_of, is_indexed, is_doomed, is_filed}
use Rattle.sound_hosts.specs.Hosts.{AreNumbered}
use Rattle.sound_hosts.specs.Sound.{IsHostSound, IsApp, HasHolder, IsPlain, IsWorded}
use Rattle.sound_hosts.proofs.Counts.{count_each, count_filter, count_map, count_middle, count_none, count_same}
use Rattle.sound_hosts.proofs.Leaving.{any_names, held_by}
use Rattle.sound_hosts.proofs.Sweeping.{all_elsewhere, apart_before, apart_behind, firsts, lasts, middle}
use Rattle.sound_phases.specs.Phased.{apps_in}
use Rattle.core_host.specs.Ending.{HasLeft, sockets_on, IsAtEase, IsSole, MayFree, left_in, found_in}
use Rattle.core_host.specs.Ending.{AreFound, record_id, flow_left}
use Rattle.core_host.proofs.Filed.{Has, each_has, has_same, has_book}
use Rattle.core_host.proofs.Found.{Entries}

-- ----- applications
pub at_ease : (c : Common) (ls : List Lane) → Each (IsIdle c) ls → Each (IsAtEase c.table) (apps_in ls)
at_ease c [] idle = tt
at_ease c (lanes.Core l ∷ ls) idle = at_ease c ls idle.1
at_ease c (lanes.App l ∷ ls) idle =
    let is = idle.0.1 in
    (record { table = is.table; turns = is.turns; slow = is.slow; baton = is.baton }, at_ease c ls idle.1)

-- ----- lists
and_both : (a b : Bool) → (a && b) ≡ true → (a ≡ true) × (b ≡ true)
and_both true b e = (refl, e)
and_both false b e = absurd (true≢false (sym e))

or_true : (b : Bool) → (b || true) ≡ true
or_true true = refl
or_true false = refl

-- one that passes, with those before and behind it
record IsSplit {X : Type 0} (p : X → Bool) (xs : List X) : Type 0 where
  pub before : List X
  pub one : X
  pub behind : List X
  pub is : xs ≡ before ++ one ∷ behind
  pub passes : p one ≡ true

split_any : {X : Type 0} (p : X → Bool) (xs : List X) → list_any p xs ≡ true → IsSplit p xs
split_any p [] any = absurd (true≢false (sym any))
split_any {X} p (x ∷ xs) any = by (p x) refl any (split_any p xs)
  where
    by : (t : Bool) → p x ≡ t → (t || list_any p xs) ≡ true → (list_any p xs ≡ true → IsSplit p xs) → IsSplit p (x ∷ xs)
    by true e any rest = record { before = []; one = x; behind = xs; is = refl; passes = e }
    by false e any rest =
        let r = rest any in record {
          before = x ∷ r.before;
          one = r.one;
          behind = r.behind;
          is = ap (λ l. x ∷ l) r.is;
          passes = r.passes;
        }

one_counts : {X : Type 0} (p : X → Bool) (xs : List X) → list_any p xs ≡ true → 1 ≤ count_by p xs
one_counts p [] any = absurd (true≢false (sym any))
one_counts p (x ∷ xs) any =
    let a : count_by p (x ∷ xs) ≡ tally (p x) + count_by p xs = count_cons p x xs in
    by (p x) refl any (one_counts p xs) a
  where
    by : (t : Bool) → p x ≡ t → (t || list_any p xs) ≡ true → (list_any p xs ≡ true → 1 ≤ count_by p xs)
        → count_by p (x ∷ xs) ≡ tally (p x) + count_by p xs → 1 ≤ count_by p (x ∷ xs)
    by true e any rest a = let one : tally (p x) ≡ 1 = ap tally e in omega (arith, a, one)
    by false e any rest a = let more = rest any in omega (arith, a, more)

count_on : (i : ℕ) (fs : List FlowId) → total (at_slot i) fs ≡ count_by (is_on i) fs
count_on i [] = refl
count_on i (f ∷ fs) =
    let a : count_by (is_on i) (f ∷ fs) ≡ tally (is_on i f) + count_by (is_on i) fs = count_cons (is_on i) f fs in
    let rest : total (at_slot i) fs ≡ count_by (is_on i) fs = count_on i fs in
    omega (arith, a, rest)

-- ----- sockets on the slot of a flow that stands
module _ (h : CoreHost) (sound : IsHostSound h) (xs : List Book) (b : Book) (cs : List Book)
    (split : h.books ≡ xs ++ b ∷ cs) (stands : b.filed ≡ false) where
  worded : Each (IsWorded h.slow.pass.view) (xs ++ b ∷ cs)
  worded = subst (Each (IsWorded h.slow.pass.view)) split sound.table.words

  holders : Each (HasHolder h.apps) (xs ++ b ∷ cs)
  holders = subst (Each (HasHolder h.apps)) split sound.holders

  abbrev IsElse : Book → Type 0
  IsElse c = c.filed ≡ false → (c.id.slot == b.id.slot) ≡ false

  before : Each IsElse xs
  before = all_elsewhere h.slow.pass.view b stands (middle (IsWorded h.slow.pass.view) xs b cs worded) xs
      (apart_before h.table.slots [] xs b cs
      (subst (λ l. AreNumbered h.table.slots [] l) split sound.numbered))
      (firsts (IsWorded h.slow.pass.view) xs b cs worded)

  behind : Each IsElse cs
  behind = all_elsewhere h.slow.pass.view b stands (middle (IsWorded h.slow.pass.view) xs b cs worded) cs
      (apart_behind h.table.slots [] xs b cs
      (subst (λ l. AreNumbered h.table.slots [] l) split sound.numbered))
      (lasts (IsWorded h.slow.pass.view) xs b cs worded)

  -- the application has no other flow there
  abbrev has_there : (n : ℕ) → Book → Bool
  has_there n c = is_held_of n c && is_on b.id.slot c.id

  none_there : (n : ℕ) (zs : List Book) → Each IsElse zs → Each (HasHolder h.apps) zs
      → Each (λ (c : Book). has_there n c ≡ false) zs
  none_there n [] away each = tt
  none_there n (z ∷ zs) away each = (by (is_held_of n z) refl, none_there n zs away.1 each.1)
    where
      by : (t : Bool) → is_held_of n z ≡ t → (is_held_of n z && is_on b.id.slot z.id) ≡ false
      by true e = (λ i. e i && away.0 (each.0 (held_by n z.holder e)).1 i)
      by false e = ap (λ t. t && is_on b.id.slot z.id) e

  app_there : (a : Application) → IsApp h.table h.books a
      → total (at_slot b.id.slot) a.sockets ≡ tally (is_held_of a.number b)
  app_there a own =
      let i = b.id.slot in
      let names = map id_of (filter (is_held_of a.number) h.books) in
      let a1 : total (at_slot i) a.sockets ≡ count_by (is_on i) a.sockets = count_on i a.sockets in
      let a2 : count_by (is_on i) a.sockets ≡ count_by (is_on i) names =
      count_same (is_on i) a.sockets names own.sockets in
      let a3 : count_by (is_on i) names
      ≡ count_by (λ (c : Book). is_on i c.id) (filter (is_held_of a.number) h.books) =
      count_map id_of (is_on i) (filter (is_held_of a.number) h.books) in
      let a4 : count_by (λ (c : Book). is_on i c.id) (filter (is_held_of a.number) h.books)
      ≡ count_by (has_there a.number) h.books =
      count_filter (λ (c : Book). is_on i c.id) (is_held_of a.number) h.books in
      let a5 : count_by (has_there a.number) h.books ≡ count_by (has_there a.number) (xs ++ b ∷ cs) =
      ap (count_by (has_there a.number)) split in
      let a6 : count_by (has_there a.number) (xs ++ b ∷ cs)
      ≡ tally (has_there a.number b) + count_by (has_there a.number) (xs ++ cs) =
      count_middle (has_there a.number) xs b cs in
      let a7 : count_by (has_there a.number) (xs ++ cs) ≡ 0 =
      count_none (has_there a.number) (xs ++ cs) (each_append (λ (c : Book). has_there a.number c ≡ false) xs cs
      (none_there a.number xs before (firsts (HasHolder h.apps) xs b cs holders))
      (none_there a.number cs behind (lasts (HasHolder h.apps) xs b cs holders))) in
      let here : (b.id.slot == b.id.slot) ≡ true = grind (arith, nat_tests) in
      let a8 : tally (has_there a.number b) ≡ tally (is_held_of a.number b) =
      ap (λ t. tally (is_held_of a.number b && t)) here ∙ ap tally (and_true (is_held_of a.number b)) in
      omega (arith, a1, a2, a3, a4, a5, a6, a7, a8)
    where
      and_true : (t : Bool) → (t && true) ≡ t
      and_true true = refl
      and_true false = refl

  all_there : (ys : List Application) → Each (IsApp h.table h.books) ys
      → sockets_on ys b.id.slot ≡ count_by (λ (a : Application). is_held_of a.number b) ys
  all_there [] each = refl
  all_there (a ∷ ys) each =
      let one : total (at_slot b.id.slot) a.sockets ≡ tally (is_held_of a.number b) = app_there a each.0 in
      let more : sockets_on ys b.id.slot ≡ count_by (λ (x : Application). is_held_of x.number b) ys =
      all_there ys each.1 in
      let c : count_by (λ (x : Application). is_held_of x.number b) (a ∷ ys)
      ≡ tally (is_held_of a.number b) + count_by (λ (x : Application). is_held_of x.number b) ys =
      count_cons (λ (x : Application). is_held_of x.number b) a ys in
      omega (arith, one, more, c)

  -- one application holds it, or none
  count_holder : count_by (λ (a : Application). is_held_of a.number b) h.apps ≡ flag (is_held_by b.holder)
  count_holder = by b.holder refl
    where
      none : (ys : List Application) → Each (λ (a : Application). false ≡ false) ys
      none [] = tt
      none (a ∷ ys) = (refl, none ys)

      turned : (m : ℕ) (ys : List Application) → Each (λ (a : Application). (m == a.number) ≡ (a.number == m)) ys
      turned m [] = tt
      turned m (a ∷ ys) = (grind (arith, nat_tests), turned m ys)

      by : (x : Holder) → b.holder ≡ x → count_by (λ (a : Application). is_held_of a.number b) h.apps ≡ flag
          (is_held_by b.holder)
      by hosts.Waiting e =
          ap (λ x. count_by (λ (a : Application). is_holder a.number x) h.apps) e
          ∙ (count_none (λ (a : Application). false) h.apps (none h.apps) ∙ sym (ap (λ x. flag (is_held_by x)) e))
      by hosts.GivenUp e =
          ap (λ x. count_by (λ (a : Application). is_holder a.number x) h.apps) e
          ∙ (count_none (λ (a : Application). false) h.apps (none h.apps) ∙ sym (ap (λ x. flag (is_held_by x)) e))
      by (hosts.Application m) e =
          let held : is_held_by b.holder ≡ true = ap is_held_by e in
          let one : flag (is_held_by b.holder) ≡ 1 = ap flag held in
          let some : 1 ≤ count_by (λ (a : Application). is_held_of a.number b) h.apps =
          one_counts (λ (a : Application). is_held_of a.number b) h.apps
          (middle (HasHolder h.apps) xs b cs holders held).0 in
          let few : count_by (λ (a : Application). a.number == m) h.apps ≤ 1 = sound.numbers m in
          let same : count_by (λ (a : Application). is_held_of a.number b) h.apps
          ≡ count_by (λ (a : Application). a.number == m) h.apps =
          ap (λ x. count_by (λ (a : Application). is_holder a.number x) h.apps) e
          ∙ count_each (λ (a : Application). m == a.number) (λ (a : Application). a.number == m) h.apps (turned m
          h.apps)
          in
          omega (arith, one, some, few, same)

  -- so with all sockets given up the slow path's pin is the only one
  pub pins_left : (n : Seen) → HasLeft (sockets_on h.apps) h.slow.pass n → pins_at n.view.words b.id.slot ≡ 1
  pins_left n left =
      let a : pins_at n.view.words b.id.slot ≡ pins_at h.slow.pass.view.words b.id.slot - sockets_on h.apps b.id.slot =
      left.view.pins b.id.slot in
      let w : pins_at h.slow.pass.view.words b.id.slot ≡ 1 + flag (is_held_by b.holder) =
      ap (λ (x : Word). x.pins) (middle (IsWorded h.slow.pass.view) xs b cs worded stands) in
      let s : sockets_on h.apps b.id.slot ≡ flag (is_held_by b.holder) = all_there h.apps sound.apps ∙ count_holder in
      omega (arith, a, w, s)

-- ----- slots that may be freed
module _ (h : CoreHost) (sound : IsHostSound h) (n : Seen) (left : HasLeft (sockets_on h.apps) h.slow.pass n) where
  sole_pin : (q : Book → Bool) → ((b : Book) → IsPlain b → q b ≡ true → b.filed ≡ false) → (f : FlowId)
      → list_any (λ (b : Book). q b && same_flow b.id f) h.books ≡ true → pins_at n.view.words f.slot ≡ 1
  sole_pin q stands f any =
      let s = split_any (λ (b : Book). q b && same_flow b.id f) h.books any in
      let both = and_both (q s.one) (same_flow s.one.id f) s.passes in
      let plain : IsPlain s.one =
      middle IsPlain s.before s.one s.behind (subst (Each IsPlain) s.is sound.plain) in
      ap (λ (g : FlowId). pins_at n.view.words g.slot) (sym (is_same_flow s.one.id f both.1))
      ∙ pins_left h sound s.before s.one s.behind s.is (stands s.one plain both.0) n left

  plain_stands : (b : Book) → IsPlain b → is_indexed b ≡ true → b.filed ≡ false
  plain_stands b plain e = by b.filed refl
    where
      by : (t : Bool) → b.filed ≡ t → b.filed ≡ false
      by true f = absurd (true≢false (sym e ∙ plain f))
      by false f = f

  doomed_stands : (b : Book) → IsPlain b → is_doomed b ≡ true → b.filed ≡ false
  doomed_stands b plain e = by b.filed refl
    where
      by : (t : Bool) → b.filed ≡ t → b.filed ≡ false
      by true f = absurd (true≢false (sym (and_both (not b.indexed) (not b.filed) e).1 ∙ ap not f))
      by false f = f

  sole_of : (fs : List FlowId) → Each (λ (f : FlowId). IsOwner f h.slow.pass × (f.slot < h.table.slots)) fs
      → Each (λ (f : FlowId). pins_at n.view.words f.slot ≡ 1) fs → Each (IsSole h.table.slots n) fs
  sole_of [] own pins = tt
  sole_of (f ∷ fs) own pins = (
    record { owner = same_owner f h.slow.pass n left.own left.marks own.0.0; low = own.0.1; pins = pins.0 },
    sole_of fs own.1 pins.1,
  )

  pub may_free : MayFree h.table n (h.slow.pins ++ h.slow.doomed)
  may_free = record {
    quiet = record {
      table = left.table ∙ sound.sound.0.ready.0;
      alone = left.view.alone;
      held = left.view.held ∙ sound.sound.0.ready.2;
      wide = left.view.wide ∙ sound.wide.1;
    };
    each = each_append (IsSole h.table.slots n) h.slow.pins h.slow.doomed
        (sole_of h.slow.pins sound.sound.0.owned.each_pin (each_has (λ (f : FlowId). pins_at n.view.words f.slot ≡ 1)
        h.slow.pins (λ f has. sole_pin is_indexed plain_stands f
        (has_book is_indexed h.books f (subst (λ fs. Has fs f) sound.kept.pins has)))))
        (sole_of h.slow.doomed sound.sound.0.owned.each_doomed
        (each_has (λ (f : FlowId). pins_at n.view.words f.slot ≡ 1) h.slow.doomed (λ f has. sole_pin is_doomed
        doomed_stands f
        (has_book is_doomed h.books f
        (has_same h.slow.doomed (map id_of (filter is_doomed h.books)) f sound.kept.doomed has)))));
    once = λ i.
        let o : total (at_slot i) h.slow.doomed + total (at_slot i) h.slow.pins ≤ 1 = sound.sound.0.owned.once i in
        let a : total (at_slot i) (h.slow.pins ++ h.slow.doomed)
        ≡ total (at_slot i) h.slow.pins + total (at_slot i) h.slow.doomed =
        total-append (at_slot i) h.slow.pins h.slow.doomed in
        omega (arith, o, a);
  }

-- the first ones
each_front : (P : FlowId → Type 0) (fs gs : List FlowId) → Each P (fs ++ gs) → Each P fs
each_front P [] gs each = tt
each_front P (f ∷ fs) gs each = (each.0, each_front P fs gs each.1)

pub may_free_first : (t : TableId) (s : Seen) (fs gs : List FlowId) → MayFree t s (fs ++ gs) → MayFree t s fs
may_free_first t s fs gs may = record {
  quiet = may.quiet;
  each = each_front (IsSole t.slots s) fs gs may.each;
  once = λ i.
      let o : total (at_slot i) (fs ++ gs) ≤ 1 = may.once i in
      let a : total (at_slot i) (fs ++ gs) ≡ total (at_slot i) fs + total (at_slot i) gs =
      total-append (at_slot i) fs gs in
      omega (arith, o, a);
}

-- ----- all flows are found
-- it holds of a flow of the list
one_of : (P : FlowId → Type 0) (fs : List FlowId) (id : FlowId) → Has fs id → Each P fs → P id
one_of P [] id has each = absurd (true≢false (sym has))
one_of P (f ∷ fs) id has each = by (same_flow f id) refl has (one_of P fs id)
  where
    by : (t : Bool) → same_flow f id ≡ t → (t || list_any (λ (g : FlowId). same_flow g id) fs) ≡ true
        → (Has fs id → Each P fs → P id) → P id
    by true e has rest = subst P (is_same_flow f id e) each.0
    by false e has rest = rest has each.1

-- a book of the list is among those that pass a test which it passes
each_book : (P : FlowId → Type 0) (bs : List Book)
    → ((b : Book) → ((q : Book → Bool) → q b ≡ true → Has (map id_of (filter q bs)) b.id) → P b.id)
    → Each P (map id_of bs)
each_book P bs all = from bs (λ b told. all b (λ q e. any_names (λ (f : FlowId). same_flow f b.id) q bs ∙ told q e))
  where
    from : (cs : List Book)
        → ((b : Book) → ((q : Book → Bool) → q b ≡ true → list_any (λ (c : Book). q c && same_flow c.id b.id) cs ≡ true)
        → P b.id) → Each P (map id_of cs)
    from [] all = tt
    from (c ∷ cs) all = (
      all c (λ q e. ap (λ t. t || list_any (λ (d : Book). q d && same_flow d.id c.id) cs)
          ((λ i. e i && same_self c.id i))),
      from cs (λ b told. all b (λ q e. ap (λ t. (q c && same_flow c.id b.id) || t) (told q e)
          ∙ or_true (q c && same_flow c.id b.id))),
    )

abbrev Stands : Entries → FlowId → Type 0
Stands es id = IsSome (found_in es id)

pub all_found : (h : CoreHost) (known : List Held) (es : Entries) → IsHostSound h
    → AreFound known es ((map record_id h.slow.filed ++ h.slow.pins) ++ h.slow.doomed)
    → AreFound known es (map id_of h.books)
all_found h known es sound found = record {
  right = found.right;
  all = each_book (λ (id : FlowId). IsSome (found_in es id)) h.books (λ b told. by b told b.filed refl b.indexed refl);
}
  where
    parts : (fs gs : List FlowId) → Each (Stands es) (fs ++ gs) → Each (Stands es) fs × Each (Stands es) gs
    parts [] gs each = (tt, each)
    parts (f ∷ fs) gs each = let r = parts fs gs each.1 in ((each.0, r.0), r.1)

    two : Each (Stands es) (map record_id h.slow.filed ++ h.slow.pins) × Each (Stands es) h.slow.doomed
    two = parts (map record_id h.slow.filed ++ h.slow.pins) h.slow.doomed found.all

    three : Each (Stands es) (map record_id h.slow.filed) × Each (Stands es) h.slow.pins
    three = parts (map record_id h.slow.filed) h.slow.pins two.0

    back : (fs gs : List FlowId) (id : FlowId) → IsPermutation fs gs → Has gs id → Has fs id
    back fs gs id same has =
        list_any-IsPermutation (λ (f : FlowId). same_flow f id) fs gs same ∙ has

    by : (b : Book) → ((q : Book → Bool) → q b ≡ true → Has (map id_of (filter q h.books)) b.id) → (f : Bool)
        → b.filed ≡ f → (i : Bool) → b.indexed ≡ i → Stands es b.id
    by b told true f i e =
        one_of (Stands es) (map record_id h.slow.filed) b.id
        (back (map record_id h.slow.filed) (map id_of (filter is_filed h.books)) b.id sound.kept.filed (told is_filed
        f))
        three.0
    by b told false f true e =
        one_of (Stands es) h.slow.pins b.id (subst (λ fs. Has fs b.id) (sym sound.kept.pins) (told is_indexed e))
        three.1
    by b told false f false e =
        one_of (Stands es) h.slow.doomed b.id
        (back h.slow.doomed (map id_of (filter is_doomed h.books)) b.id sound.kept.doomed
        (told is_doomed (λ j. not (e j) && not (f j)))) two.1

-- as a run has them
pub flows_are : (known : List Held) (bs : List Book)
    → map flow_left (map (left_in known) (map id_of bs))
    ≡ map (λ (l : hosts.Live). l.flow) (map (live_in known) bs)
flows_are known [] = refl
flows_are known (b ∷ bs) = ap (λ l. (live_in known b).flow ∷ l) (flows_are known bs)

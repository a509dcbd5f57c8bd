-- An application that has the baton accepts a flow: for the law accepts_alone_keep_it.
use Rattle.std.proofs.Common.{◌≡◌, ◌≢◌, ℕ, ◌+◌, ◌≤◌, ◌==◌, ◌&&◌, not, Bool, true, false}
use Rattle.std.proofs.Common.{cond}
use Rattle.std.proofs.Common.{List, [], ◌∷◌, ◌++◌, map, refl, sym, ap, ◌∙◌, subst, arith, count_by}
use Rattle.std.specs.Prelude.{IsPermutation}
use Rattle.std.specs.List.{filter}
use Rattle.std.proofs.lemmas.Bool.Decides.{nat_tests}
use Rattle.tas_model.specs.declared.entry.FlowId.{FlowId}
use Rattle.host_rounds.specs.Hosts as hosts
use Rattle.host_rounds.specs.Hosts.{Holder, Waiting, GivenUp, is_held_by, is_waiting_by}
use Rattle.host_rounds.specs.Lists.{Each}
use Rattle.host_rounds.proofs.Lists.{each_append, map_append}
use Rattle.core_rounds.proofs.Filters.{tally, count_cons}
use Rattle.flow_lock.specs.Orders.{same_flow}
use Rattle.flow_lock.specs.Words.{flag, word_at}
use Rattle.flow_lock.specs.declared.view.Held.{Held}
use Rattle.flow_lock.specs.declared.view.History.{History}
use Rattle.flow_lock.specs.declared.view.View.{View}
use Rattle.flow_lock.specs.Steps.{pin_more}
use Rattle.slow_handshake.specs.Openings.{is_named}
use Rattle.slow_handshake.specs.declared.openings.PassiveFlow.{PassiveFlow}
use Rattle.libtas_sockets.specs.Apps.{Application}
use Rattle.host_books.specs.Books.{Book}
use Rattle.sound_hosts.specs.Hosts.{CoreHost, is_held_of, is_holder, passive_flow, waiting_in, waits, word_of}
use Rattle.sound_hosts.specs.Hosts.{AreNumbered}
use Rattle.sound_hosts.specs.Leaving.{reheld}
use Rattle.sound_hosts.specs.Sound.{IsHostSound, IsApp, HasHolder, IsWorded}
use Rattle.sound_hosts.proofs.Counts.{count_middle}
use Rattle.sound_hosts.proofs.Fresh.{waiting_fresh}
use Rattle.sound_hosts.proofs.Leaving.{AreTaken}
use Rattle.sound_hosts.proofs.Moved.{IsMovedOn, Lifts, moved_sound}
use Rattle.sound_hosts.proofs.Names.{names, names_with, names_without, one_more}
use Rattle.sound_hosts.proofs.Numbers.{unlike}
use Rattle.sound_hosts.proofs.Sweeping.{all_elsewhere, any_here, apart_before, apart_behind, any_swap, count_swap}
use Rattle.sound_hosts.proofs.Sweeping.{firsts, lasts, middle}
use Rattle.sound_hosts.proofs.Told.{named_is}
use Rattle.sound_calls.specs.Handing.{accepted_by}

-- ----- the flows that wait
pub waiting_append : (known : List Held) (xs ys : List Book)
    → waiting_in known (xs ++ ys) ≡ waiting_in known xs ++ waiting_in known ys
waiting_append known [] ys = refl
waiting_append known (x ∷ xs) ys = by (waits known x) (waiting_append known xs ys)
  where
    by : (t : Bool) → waiting_in known (xs ++ ys) ≡ waiting_in known xs ++ waiting_in known ys
        → cond t (passive_flow known x ∷ waiting_in known (xs ++ ys)) (waiting_in known (xs ++ ys))
        ≡ cond t (passive_flow known x ∷ waiting_in known xs) (waiting_in known xs) ++ waiting_in known ys
    by true rest = ap (λ l. passive_flow known x ∷ l) rest
    by false rest = rest

abbrev stays : FlowId → PassiveFlow → Bool
stays id f = not (is_named id f)

abbrev IsOther : FlowId → Book → Type 0
IsOther id c = same_flow id c.id ≡ false

-- those of other flows stay
others_stay : (known : List Held) (id : FlowId) (bs : List Book) → Each (IsOther id) bs
    → filter (stays id) (waiting_in known bs) ≡ waiting_in known bs
others_stay known id [] each = refl
others_stay known id (b ∷ bs) each = by (waits known b) (others_stay known id bs each.1)
  where
    stay : not (b.id.slot == id.slot && b.id.generation == id.generation) ≡ true
    stay = ap not (named_is id b.id ∙ each.0)

    by : (t : Bool) → filter (stays id) (waiting_in known bs) ≡ waiting_in known bs
        → filter (stays id) (cond t (passive_flow known b ∷ waiting_in known bs) (waiting_in known bs))
        ≡ cond t (passive_flow known b ∷ waiting_in known bs) (waiting_in known bs)
    by true rest =
        ap (λ x. cond x (passive_flow known b ∷ filter (stays id) (waiting_in known bs))
        (filter (stays id) (waiting_in known bs))) stay
        ∙ ap (λ l. passive_flow known b ∷ l) rest
    by false rest = rest

filter_append : {X : Type 0} (p : X → Bool) (xs ys : List X) → filter p (xs ++ ys) ≡ filter p xs ++ filter p ys
filter_append p [] ys = refl
filter_append {X} p (x ∷ xs) ys = by (p x) (filter_append p xs ys)
  where
    by : (t : Bool) → filter p (xs ++ ys) ≡ filter p xs ++ filter p ys
        → cond t (x ∷ filter p (xs ++ ys)) (filter p (xs ++ ys)) ≡ cond t (x ∷ filter p xs) (filter p xs) ++ filter p ys
    by true rest = ap (λ l. x ∷ l) rest
    by false rest = rest

-- its own leaves
own_leaves : (known : List Held) (b : Book) (bs : List Book) → same_flow b.id b.id ≡ true → Each (IsOther b.id) bs
    → filter (stays b.id) (waiting_in known (b ∷ bs)) ≡ waiting_in known bs
own_leaves known b bs self each = by (waits known b) (others_stay known b.id bs each)
  where
    leave : not (b.id.slot == b.id.slot && b.id.generation == b.id.generation) ≡ false
    leave = ap not (named_is b.id b.id ∙ self)

    by : (t : Bool) → filter (stays b.id) (waiting_in known bs) ≡ waiting_in known bs
        → filter (stays b.id) (cond t (passive_flow known b ∷ waiting_in known bs) (waiting_in known bs))
        ≡ waiting_in known bs
    by true rest =
        ap (λ x. cond x (passive_flow known b ∷ filter (stays b.id) (waiting_in known bs))
        (filter (stays b.id) (waiting_in known bs))) leave
        ∙ rest
    by false rest = rest

-- ----- the books
-- all others are as they were
reheld_others : (n : ℕ) (id : FlowId) (bs : List Book) → Each (IsOther id) bs → map (reheld (accepted_by n id)) bs ≡ bs
reheld_others n id [] each = refl
reheld_others n id (b ∷ bs) each =
    λ i. record b { holder = cond (not_it i) (hosts.Application n) b.holder } ∷ reheld_others n id bs each.1 i
  where
    mirror : same_flow b.id id ≡ same_flow id b.id
    mirror = grind (arith, nat_tests)

    not_it : same_flow b.id id ≡ false
    not_it = mirror ∙ each.0

abbrev accepted : ℕ → Book → Book
accepted n b = record b { holder = hosts.Application n }

reheld_is : (n : ℕ) (xs : List Book) (b : Book) (ys : List Book) → same_flow b.id b.id ≡ true
    → Each (IsOther b.id) xs → Each (IsOther b.id) ys
    → map (reheld (accepted_by n b.id)) (xs ++ b ∷ ys) ≡ xs ++ accepted n b ∷ ys
reheld_is n xs b ys self x y =
    map_append (reheld (accepted_by n b.id)) xs (b ∷ ys)
    ∙ (λ i. reheld_others n b.id xs x i
    ++ record b { holder = cond (self i) (hosts.Application n) b.holder } ∷ reheld_others n b.id ys y i)

-- ----- applications by their numbers
zero_none : (n : ℕ) (zs : List Application) → count_by (λ (x : Application). x.number == n) zs ≡ 0
    → Each (λ (x : Application). (n == x.number) ≡ false) zs
zero_none n [] e = tt
zero_none n (z ∷ zs) e =
    let c : count_by (λ (x : Application). x.number == n) (z ∷ zs)
    ≡ tally (z.number == n) + count_by (λ (x : Application). x.number == n) zs =
    count_cons (λ (x : Application). x.number == n) z zs in
    (none (z.number == n) refl (omega (arith, c, e)), zero_none n zs (omega (arith, c, e)))
  where
    none : (t : Bool) → (z.number == n) ≡ t → tally (z.number == n) ≡ 0 → (n == z.number) ≡ false
    none true q h = absurd (let one : tally (z.number == n) ≡ 1 = ap tally q in omega (arith, one, h))
    none false q h = grind (arith, nat_tests, q)

pub apart_numbers : (front : List Application) (a : Application) (back : List Application)
    → ((n : ℕ) → count_by (λ (x : Application). x.number == n) (front ++ a ∷ back) ≤ 1)
    → Each (λ (x : Application). (a.number == x.number) ≡ false) front
    × Each (λ (x : Application). (a.number == x.number) ≡ false) back
apart_numbers front a back numbers =
    let few : count_by (λ (x : Application). x.number == a.number) (front ++ a ∷ back) ≤ 1 = numbers a.number in
    let is : count_by (λ (x : Application). x.number == a.number) (front ++ a ∷ back)
    ≡ tally (a.number == a.number) + count_by (λ (x : Application). x.number == a.number) (front ++ back) =
    count_middle (λ (x : Application). x.number == a.number) front a back in
    let self : (a.number == a.number) ≡ true = grind (arith, nat_tests) in
    let one : tally (a.number == a.number) ≡ 1 = ap tally self in
    parts front back (zero_none a.number (front ++ back) (omega (arith, few, is, one)))
  where
    parts : (xs ys : List Application) → Each (λ (x : Application). (a.number == x.number) ≡ false) (xs ++ ys)
        → Each (λ (x : Application). (a.number == x.number) ≡ false) xs
        × Each (λ (x : Application). (a.number == x.number) ≡ false) ys
    parts [] ys each = (tt, each)
    parts (x ∷ xs) ys each = let r = parts xs ys each.1 in ((each.0, r.0), r.1)

-- ----- a host with one flow accepted
-- What the application's view shows of it: the flow was led on, and its word has a pin more.
pub record IsPinnedOn (h : CoreHost) (w : View) (id : FlowId) (k : History) : Type 0 where
  pub on : IsMovedOn h w
  pub base : w.base ≡ record { flow = id; history = k } ∷ h.slow.pass.view.base
  pub own : word_at w.words id.slot ≡ pin_more (word_at h.slow.pass.view.words id.slot)
  pub others : (i : ℕ) → i ≢ id.slot → word_at w.words i ≡ word_at h.slow.pass.view.words i

module _ (h : CoreHost) (front : List Application) (a : Application) (back : List Application) (b' : Application)
    (xs : List Book) (b : Book) (ys : List Book) (w : View) (k : History) (sound : IsHostSound h)
    (apps : h.apps ≡ front ++ a ∷ back) (split : h.books ≡ xs ++ b ∷ ys) (self : same_flow b.id b.id ≡ true)
    (waits_ : b.holder ≡ Waiting) (stands : b.filed ≡ false) (pinned : IsPinnedOn h w b.id k)
    (number : b'.number ≡ a.number) (own_table : b'.pass.table ≡ a.pass.table) (turns : b'.pass.view.turns ≡ [])
    (begun : b'.begun ≡ a.begun) (sockets : b'.sockets ≡ a.sockets ++ b.id ∷ []) where
  abbrev cs : List Book
  cs = xs ++ accepted a.number b ∷ ys

  numbered : AreNumbered h.table.slots [] (xs ++ b ∷ ys)
  numbered = subst (AreNumbered h.table.slots []) split sound.numbered

  apart_x : Each (IsOther b.id) xs
  apart_x = apart_before h.table.slots [] xs b ys numbered

  apart_y : Each (IsOther b.id) ys
  apart_y = apart_behind h.table.slots [] xs b ys numbered

  are : map (reheld (accepted_by a.number b.id)) h.books ≡ cs
  are = ap (map (reheld (accepted_by a.number b.id))) split ∙ reheld_is a.number xs b ys self apart_x apart_y

  lift : (P : List Book → Type 0) → Lifts h.books (map (reheld (accepted_by a.number b.id)) h.books) P
  lift P keeps p = keeps (accepted_by a.number b.id) h.books p

  -- ----- flows that wait
  abbrev known : List Held
  known = h.slow.pass.view.base

  abbrev later : List Held
  later = record { flow = b.id; history = k } ∷ h.slow.pass.view.base

  not_waiting : waits later (accepted a.number b) ≡ false
  not_waiting = refl

  left : filter (stays b.id) h.slow.path.flows ≡ waiting_in w.base cs
  left =
      ap (filter (stays b.id)) (sound.opening.flows ∙ ap (waiting_in h.slow.pass.view.base) split
      ∙ waiting_append h.slow.pass.view.base xs (b ∷ ys))
      ∙ (filter_append (stays b.id) (waiting_in h.slow.pass.view.base xs) (waiting_in h.slow.pass.view.base (b ∷ ys))
      ∙ ((λ i. others_stay h.slow.pass.view.base b.id xs apart_x i
      ++ own_leaves h.slow.pass.view.base b ys self apart_y i)
      ∙ ((λ i. sym (waiting_fresh h.slow.pass.view.base b.id k xs apart_x) i
      ++ sym (waiting_fresh h.slow.pass.view.base b.id k ys apart_y) i)
      ∙ (sym (waiting_append later xs (accepted a.number b ∷ ys))
      ∙ ap (λ l. waiting_in l cs) (sym pinned.base)))))

  -- ----- words
  worded : Each (IsWorded h.slow.pass.view) (xs ++ b ∷ ys)
  worded = subst (Each (IsWorded h.slow.pass.view)) split sound.table.words

  own_word : word_at h.slow.pass.view.words b.id.slot ≡ word_of b
  own_word = middle (IsWorded h.slow.pass.view) xs b ys worded stands

  abbrev IsElsewhere : Book → Type 0
  IsElsewhere c = c.filed ≡ false → (c.id.slot == b.id.slot) ≡ false

  still_worded : (zs : List Book) → Each (IsWorded h.slow.pass.view) zs → Each IsElsewhere zs → Each (IsWorded w) zs
  still_worded [] x y = tt
  still_worded (z ∷ zs) x y = (
    λ f. pinned.others z.id.slot (λ e. unlike z.id.slot b.id.slot e (y.0 f)) ∙ x.0 f,
    still_worded zs x.1 y.1,
  )

  words : Each (IsWorded w) cs
  words =
      each_append (IsWorded w) xs (accepted a.number b ∷ ys)
      (still_worded xs (firsts (IsWorded h.slow.pass.view) xs b ys worded)
      (all_elsewhere h.slow.pass.view b stands (λ f. own_word) xs apart_x
      (firsts (IsWorded h.slow.pass.view) xs b ys worded))) (
        λ f. pinned.own ∙ (ap pin_more own_word ∙ more),
        still_worded ys (lasts (IsWorded h.slow.pass.view) xs b ys worded)
            (all_elsewhere h.slow.pass.view b stands (λ f. own_word) ys apart_y
            (lasts (IsWorded h.slow.pass.view) xs b ys worded)),
      )
    where
      more : pin_more (word_of b) ≡ word_of (accepted a.number b)
      more = λ i. record (word_of b) { pins = (ap (λ x. (1 + flag (is_held_by x)) + 1) waits_) i }

  -- ----- applications
  all_apps : Each (IsApp h.table (xs ++ b ∷ ys)) (front ++ a ∷ back)
  all_apps =
      subst (Each (IsApp h.table (xs ++ b ∷ ys))) apps
      (subst (λ (bs : List Book). Each (IsApp h.table bs) h.apps) split sound.apps)

  own : IsApp h.table (xs ++ b ∷ ys) a
  own = middle (IsApp h.table (xs ++ b ∷ ys)) front a back all_apps

  unheld : (m : ℕ) → is_held_of m b ≡ false
  unheld m = ap (is_holder m) waits_

  its : is_held_of a.number (accepted a.number b) ≡ true
  its = let t : (a.number == a.number) ≡ true = grind (arith, nat_tests) in t

  own_after : IsApp h.table cs b'
  own_after = record {
    own = own_table ∙ own.own;
    turns = turns;
    begun = begun ∙ own.begun;
    sockets = subst (λ n. IsPermutation b'.sockets (names (is_held_of n) cs)) (sym number)
        (subst (λ l. IsPermutation l (names (is_held_of a.number) cs)) (sym sockets)
        (subst (IsPermutation (a.sockets ++ b.id ∷ []))
        (sym (names_with (is_held_of a.number) xs (accepted a.number b) ys its))
        (one_more a.sockets (names (is_held_of a.number) xs) (names (is_held_of a.number) ys) b.id
        (subst (IsPermutation a.sockets) (names_without (is_held_of a.number) xs b ys (unheld a.number))
        own.sockets))));
  }

  abbrev IsElse : Application → Type 0
  IsElse x = (a.number == x.number) ≡ false

  others_after : (zs : List Application) → Each IsElse zs → Each (IsApp h.table (xs ++ b ∷ ys)) zs
      → Each (IsApp h.table cs) zs
  others_after [] x y = tt
  others_after (z ∷ zs) x y = (
    record {
      own = y.0.own;
      turns = y.0.turns;
      begun = y.0.begun;
      sockets = subst (IsPermutation z.sockets)
          (names_without (is_held_of z.number) xs b ys (unheld z.number)
          ∙ sym (names_without (is_held_of z.number) xs (accepted a.number b) ys x.0))
          y.0.sockets;
    },
    others_after zs x.1 y.1,
  )

  others : Each IsElse front × Each IsElse back
  others = apart_numbers front a back (subst (λ (zs : List Application).
      (n : ℕ) → count_by (λ (x : Application). x.number == n) zs ≤ 1) apps sound.numbers)

  all_holders : Each (HasHolder (front ++ a ∷ back)) (xs ++ b ∷ ys)
  all_holders =
      subst (Each (HasHolder (front ++ a ∷ back))) split
      (subst (λ (zs : List Application). Each (HasHolder zs) h.books) apps sound.holders)

  still_held : (zs : List Book) → Each (HasHolder (front ++ a ∷ back)) zs → Each (HasHolder (front ++ b' ∷ back)) zs
  still_held [] x = tt
  still_held (z ∷ zs) x = (
    λ e. (
      any_swap (λ (y : Application). is_held_of y.number z) front a b' back (ap (λ n. is_held_of n z) number)
          ∙ (x.0 e).0,
      (x.0 e).1,
    ),
    still_held zs x.1,
  )

  own_held : HasHolder (front ++ b' ∷ back) (accepted a.number b)
  own_held e = (
    any_here (λ (y : Application). is_held_of y.number (accepted a.number b)) front b' back
        (ap (λ n. a.number == n) number ∙ its),
    stands,
  )

  taken : AreTaken h.table cs (front ++ b' ∷ back)
  taken = record {
    apps = each_append (IsApp h.table cs) front (b' ∷ back)
        (others_after front others.0 (firsts (IsApp h.table (xs ++ b ∷ ys)) front a back all_apps))
        (own_after, others_after back others.1 (lasts (IsApp h.table (xs ++ b ∷ ys)) front a back all_apps));
    numbers = λ n.
        let few : count_by (λ (x : Application). x.number == n) (front ++ a ∷ back) ≤ 1 =
        subst (λ (zs : List Application). count_by (λ (x : Application). x.number == n) zs ≤ 1)
        apps (sound.numbers n) in
        let same : count_by (λ (x : Application). x.number == n) (front ++ b' ∷ back)
        ≡ count_by (λ (x : Application). x.number == n) (front ++ a ∷ back) =
        count_swap (λ (x : Application). x.number == n) front a b' back (ap (λ m. m == n) number) in
        omega (arith, few, same);
    holders = each_append (HasHolder (front ++ b' ∷ back)) xs (accepted a.number b ∷ ys)
        (still_held xs (firsts (HasHolder (front ++ a ∷ back)) xs b ys all_holders))
        (own_held, still_held ys (lasts (HasHolder (front ++ a ∷ back)) xs b ys all_holders));
  }

  pub accepted_sound : IsHostSound (record h {
    slow = record (h.slow) {
      pass = record (h.slow.pass) { view = w };
      path = record (h.slow.path) { flows = filter (stays b.id) h.slow.path.flows };
    };
    apps = front ++ b' ∷ back;
    books = map (reheld (accepted_by a.number b.id)) h.books;
  })
  accepted_sound =
      moved_sound h sound w pinned.on (record (h.slow.path) { flows = filter (stays b.id) h.slow.path.flows })
      (front ++ b' ∷ back) (map (reheld (accepted_by a.number b.id)) h.books) lift refl
      (left ∙ ap (waiting_in w.base) (sym are))
      (subst (Each (IsWorded w)) (sym are) words)
      (subst (λ (bs : List Book). AreTaken h.table bs (front ++ b' ∷ back)) (sym are) taken)

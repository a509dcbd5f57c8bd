-- The flows of an application that ended and was reaped alone: for the law reaped_flows_are_given_up.
use Rattle.std.proofs.Common.{◌≡◌, ℕ, ◌≤◌, ◌&&◌, ◌||◌, cond, Bool, true, false, List, [], ◌∷◌, ◌++◌, map}
use Rattle.std.proofs.Common.{refl, sym, ap, ◌∙◌, subst, arith, true≢false}
use Rattle.std.specs.Prelude.{Option, None}
use Rattle.std.proofs.lemmas.Bool.Decides.{nat_tests}
use Rattle.std.proofs.lemmas.List.Sorted.{list_any-IsPermutation}
use Rattle.atomic_table.specs.Seated.{TableId}
use Rattle.tas_model.specs.declared.entry.Call.TheVariants as calls
use Rattle.tas_model.specs.declared.entry.Caller.TheVariants.{Slow}
use Rattle.tas_model.specs.declared.entry.FlowId.{FlowId}
use Rattle.flow_state.specs.Flow.{Flow}
use Rattle.host_rounds.specs.Hosts.{Live, Holder, GivenUp, with_call}
use Rattle.host_rounds.specs.Lists.{Each}
use Rattle.flow_lock.specs.Orders.{same_flow, total, at_slot}
use Rattle.flow_lock.specs.Passes.{Seen, with_baton}
use Rattle.flow_lock.specs.Steps.{IsAlone}
use Rattle.flow_lock.specs.declared.view.Held.{Held}
use Rattle.app_reaper.specs.Reaping.{AreReaped, IsAtRest, IsReapedAlone, returned}
use Rattle.app_reaper.specs.declared.ended.Ended.{Ended}
use Rattle.libtas_sockets.specs.Apps.{Application}
use Rattle.host_books.specs.Books.{Book, live_in}
use Rattle.host_books.proofs.Orders.{same_self}
use Rattle.sound_hosts.specs.Hosts.{CoreHost, host_of, known_in, is_holder, is_held_of}
use Rattle.sound_hosts.specs.Leaving.{reheld, left_by, books_left}
use Rattle.sound_hosts.specs.Sound.{IsHostSound, IsApp}
use Rattle.sound_hosts.proofs.Leaving.{AreApart, apart_of, flow_had, only}
use Rattle.sound_hosts.proofs.Names.{names}
use Rattle.sound_hosts.proofs.Sweeping.{middle}
use Rattle.slow_rounds.specs.Aborting.{aborted_in, given_up_by, left_alone}
use Rattle.slow_rounds.specs.SoFar.{is_in}
use Rattle.slow_rounds.proofs.Aborts.{one_reaped}
use Rattle.slow_rounds.proofs.Stepping.{each_named}

-- ----- the books
-- whose holder is none any more, where the application had its flow
abbrev left_of : (app : ℕ) → List FlowId → Book → Holder
left_of app ids b = cond (is_held_of app b && is_in ids b.id) GivenUp b.holder

one_left : (app : ℕ) (id : FlowId) (ids : List FlowId) (b : Book)
    → reheld (left_of app ids) (reheld (left_by app id) b) ≡ reheld (left_of app (id ∷ ids)) b
one_left app id ids b = by (is_holder app b.holder) refl (same_flow b.id id) (same_flow id b.id) (is_in ids b.id) mirror
  where
    mirror : same_flow id b.id ≡ same_flow b.id id
    mirror = grind (arith, nat_tests)

    by : (x : Bool) → is_holder app b.holder ≡ x → (s t r : Bool) → t ≡ s
        → ◌≡◌ {A = Book} (record b {
          holder = cond (is_holder app (cond (is_holder app b.holder && s) GivenUp b.holder) && r) GivenUp
              (cond (is_holder app b.holder && s) GivenUp b.holder);
        })
        (record b { holder = cond (is_holder app b.holder && (t || r)) GivenUp b.holder })
    by true e true t r q =
        (λ i. record b {
          holder = cond (is_holder app (cond (e i && true) GivenUp b.holder) && r) GivenUp
              (cond (e i && true) GivenUp b.holder);
        })
        ∙ (λ i. record b { holder = cond (sym e i && (sym q i || r)) GivenUp b.holder })
    by true e false t r q =
        (λ i. record b {
          holder = cond (is_holder app (cond (e i && false) GivenUp b.holder) && r) GivenUp
              (cond (e i && false) GivenUp b.holder);
        })
        ∙ (λ i. record b { holder = cond (is_holder app b.holder && (sym q i || r)) GivenUp b.holder })
    by false e s t r q =
        (λ i. record b {
          holder = cond (is_holder app (cond (e i && s) GivenUp b.holder) && r) GivenUp
              (cond (e i && s) GivenUp b.holder);
        })
        ∙ ((λ i. record b { holder = cond (e i && r) GivenUp b.holder })
        ∙ (λ i. record b { holder = cond (sym e i && (t || r)) GivenUp b.holder }))

none_left : (app : ℕ) (bs : List Book) → map (reheld (left_of app [])) bs ≡ bs
none_left app [] = refl
none_left app (b ∷ bs) =
    λ i. record b { holder = cond (and_false (is_held_of app b) i) GivenUp b.holder } ∷ none_left app bs i
  where
    and_false : (x : Bool) → (x && false) ≡ false
    and_false true = refl
    and_false false = refl

two_maps : (app : ℕ) (id : FlowId) (ids : List FlowId) (bs : List Book)
    → map (reheld (left_of app ids)) (map (reheld (left_by app id)) bs) ≡ map (reheld (left_of app (id ∷ ids))) bs
two_maps app id ids [] = refl
two_maps app id ids (b ∷ bs) = λ i. one_left app id ids b i ∷ two_maps app id ids bs i

all_left : (app : ℕ) (ids : List FlowId) (bs : List Book) → books_left app ids bs ≡ map (reheld (left_of app ids)) bs
all_left app [] bs = sym (none_left app bs)
all_left app (id ∷ ids) bs = all_left app ids (map (reheld (left_by app id)) bs) ∙ two_maps app id ids bs

-- ----- its sockets are those that the books say
-- of a book it has the flow, or not
abbrev IsHad : (a : Application) → Book → Type 0
IsHad a b = is_in a.sockets b.id ≡ is_held_of a.number b

module _ (table : TableId) (bs : List Book) (a : Application) (app : IsApp table bs a) (apart : AreApart bs) where
  abbrev IsNamed : Book → Type 0
  IsNamed b = is_held_of a.number b ≡ true → is_in (names (is_held_of a.number) bs) b.id ≡ true

  is_had : (b : Book) → IsNamed b → (is_in a.sockets b.id ≡ true → is_held_of a.number b ≡ true) → IsHad a b
  is_had b named back = by (is_held_of a.number b) refl (is_in a.sockets b.id) refl
    where
      by : (x : Bool) → is_held_of a.number b ≡ x → (s : Bool) → is_in a.sockets b.id ≡ s → IsHad a b
      by true e s f =
          list_any-IsPermutation (λ (g : FlowId). same_flow g b.id) a.sockets (names (is_held_of a.number) bs)
          app.sockets
          ∙ (named e ∙ sym e)
      by false e true f = absurd (true≢false (sym (back f) ∙ e))
      by false e false f = f ∙ sym e

  backs : (cs : List Book) → ((n : Book) → Each (λ (b : Book). same_flow b.id n.id ≡ true
      → is_in a.sockets n.id ≡ true → is_held_of a.number b ≡ true) cs)
      → Each (λ (b : Book). is_in a.sockets b.id ≡ true → is_held_of a.number b ≡ true) cs
  backs [] all = tt
  backs (c ∷ cs) all = ((all c).0 (same_self c.id), backs cs (λ n. (all n).1))

  held : (n : Book) → Each (λ (b : Book). same_flow b.id n.id ≡ true → is_in a.sockets n.id ≡ true
      → is_held_of a.number b ≡ true) bs
  held n = by (is_in a.sockets n.id) refl
    where
      never : (cs : List Book) → is_in a.sockets n.id ≡ false
          → Each (λ (b : Book). same_flow b.id n.id ≡ true → is_in a.sockets n.id ≡ true
          → is_held_of a.number b ≡ true) cs
      never [] e = tt
      never (c ∷ cs) e = (λ s x. absurd (true≢false (sym x ∙ e)), never cs e)

      ever : (cs : List Book) → Each (λ (b : Book). same_flow b.id n.id ≡ true → is_held_of a.number b ≡ true) cs
          → Each (λ (b : Book). same_flow b.id n.id ≡ true → is_in a.sockets n.id ≡ true
          → is_held_of a.number b ≡ true) cs
      ever [] each = tt
      ever (c ∷ cs) each = (λ s x. each.0 s, ever cs each.1)

      by : (s : Bool) → is_in a.sockets n.id ≡ s
          → Each (λ (b : Book). same_flow b.id n.id ≡ true → is_in a.sockets n.id ≡ true
          → is_held_of a.number b ≡ true) bs
      by true e = ever bs (only a.number n.id bs apart (flow_had table bs a n.id app e))
      by false e = never bs e

  all_had : (cs : List Book) → Each IsNamed cs
      → Each (λ (b : Book). is_in a.sockets b.id ≡ true → is_held_of a.number b ≡ true) cs → Each (IsHad a) cs
  all_had [] x y = tt
  all_had (c ∷ cs) x y = (is_had c x.0 y.0, all_had cs x.1 y.1)

  pub had : Each (IsHad a) bs
  had = all_had bs (each_named (is_held_of a.number) bs) (backs bs held)

-- ----- the flows
one_given_up : (tick app : ℕ) (ids : List FlowId) (known now : List Held) (b : Book)
    → is_in ids b.id ≡ is_held_of app b → live_in now b ≡ aborted_in ids tick (live_in known b)
    → live_in now (reheld (left_of app ids) b) ≡ given_up_by app tick (live_in known b)
one_given_up tick app ids known now b had led =
    ap (λ (l : Live). record l { holder = left_of app ids b }) led ∙ by (is_held_of app b) refl
  where
    by : (x : Bool) → is_held_of app b ≡ x
        → record (aborted_in ids tick (live_in known b)) { holder = left_of app ids b }
        ≡ given_up_by app tick (live_in known b)
    by true e =
        (λ i. record (cond ((had ∙ e) i) (with_call (live_in known b) Slow tick calls.Abort []) (live_in known b)) {
          holder = cond (e i && (had ∙ e) i) GivenUp b.holder;
        })
        ∙ ap (λ c. cond c (record (with_call (live_in known b) Slow tick calls.Abort []) { holder = GivenUp })
        (live_in known b)) (sym e)
    by false e =
        (λ i. record (cond ((had ∙ e) i) (with_call (live_in known b) Slow tick calls.Abort []) (live_in known b)) {
          holder = cond (e i && (had ∙ e) i) GivenUp b.holder;
        })
        ∙ ap (λ c. cond c (record (with_call (live_in known b) Slow tick calls.Abort []) { holder = GivenUp })
        (live_in known b)) (sym e)

all_given_up : (tick app : ℕ) (ids : List FlowId) (known now : List Held) (bs : List Book)
    → Each (λ (b : Book). is_in ids b.id ≡ is_held_of app b) bs
    → ((b : Book) → live_in now b ≡ aborted_in ids tick (live_in known b))
    → map (live_in now) (map (reheld (left_of app ids)) bs) ≡ map (given_up_by app tick) (map (live_in known) bs)
all_given_up tick app ids known now [] had led = refl
all_given_up tick app ids known now (b ∷ bs) had led =
    λ i. one_given_up tick app ids known now b had.0 (led b) i ∷ all_given_up tick app ids known now bs had.1 led i

-- ----- the host
pub given_up_made : (h : CoreHost) (front back : List Application) (a : Application) (ended : Ended) (tick : ℕ)
    (n : Seen) → IsHostSound h → h.apps ≡ front ++ a ∷ back → IsAtRest h.table ended → ended.pins.list ≡ a.sockets
    → ended.held ≡ None → IsReapedAlone tick ended h.slow.pass n
    → host_of (left_alone a n h)
    ≡ record (host_of h) { flows = map (given_up_by a.number tick) (host_of h).flows }
given_up_made h front back a ended tick n sound apps rest pins none (w, reaped, after) =
    ap (λ (ls : List Live). record (host_of h) { flows = ls })
    ((λ i. map (live_in (after i).view.base) (all_left a.number a.sockets h.books i))
    ∙ all_given_up tick a.number a.sockets (known_in h) w.base h.books
    (had h.table h.books a (middle (IsApp h.table h.books) front a back
    (subst (Each (IsApp h.table h.books)) apps sound.apps)) (apart_of h.table.slots [] h.books sound.numbered))
    (λ b. one_reaped tick a.sockets (with_baton ended.pass.view h.slow.pass.view) w alone once are b))
  where
    alone : IsAlone (with_baton ended.pass.view h.slow.pass.view)
    alone = (refl, rest.quiet, sound.alone.2)

    once : (i : ℕ) → total (at_slot i) a.sockets ≤ 1
    once i = subst (λ (fs : List FlowId). total (at_slot i) fs ≤ 1) pins (rest.pins.once i)

    are : AreReaped tick a.sockets (with_baton ended.pass.view h.slow.pass.view) w
    are = subst (λ (fs : List FlowId). AreReaped tick fs (with_baton ended.pass.view h.slow.pass.view) w) pins
        (subst (λ (o : Option (ℕ × Flow)). AreReaped tick ended.pins.list
        (returned o (with_baton ended.pass.view h.slow.pass.view)) w) none reaped)

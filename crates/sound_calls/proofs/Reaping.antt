-- The flows of an application that ended are reaped: for the law kills_keep_it.
use Rattle.std.proofs.Common.{◌≡◌, ℕ, ◌+◌, ◌≤◌, ◌==◌, ◌||◌, Bool, true, false, cond, List, [], ◌∷◌, ◌++◌, map, length}
use Rattle.std.proofs.Common.{refl}
use Rattle.std.proofs.Common.{sym, ap, ◌∙◌, subst, arith, count_by, eq-eqb}
use Rattle.std.specs.Prelude.{None}
use Rattle.std.specs.List.{filter, list_any}
use Rattle.std.proofs.lemmas.List.Sorted.{length_permutation}
use Rattle.tas_model.specs.declared.entry.Caller.TheVariants.{Slow}
use Rattle.tas_model.specs.declared.entry.FlowId.{FlowId}
use Rattle.flow_state.specs.Calls.{call_of, offer_of}
use Rattle.flow_state.specs.declared.call.CallIn.TheVariants.{Abort}
use Rattle.flow_state.specs.Flow.{Flow}
use Rattle.host_rounds.specs.Lists.{Each}
use Rattle.host_rounds.proofs.Lists.{each_append}
use Rattle.core_rounds.proofs.Filters.{tally}
use Rattle.flow_lock.specs.Orders.{known_of, total, at_slot}
use Rattle.flow_lock.specs.Passes.{Seen, both, with_baton, without_baton}
use Rattle.flow_lock.specs.Steps.{IsAlone, noted, unpinned, without}
use Rattle.flow_lock.specs.declared.view.History.{History}
use Rattle.flow_lock.specs.declared.view.Turn.{Turn}
use Rattle.flow_lock.specs.declared.view.View.{View}
use Rattle.app_reaper.specs.OneCall.{history, history_with}
use Rattle.app_reaper.specs.Reaping.{AreReaped, IsAtRest, IsReapedAlone, returned}
use Rattle.app_reaper.specs.declared.ended.Ended.{Ended}
use Rattle.libtas_sockets.specs.Apps.{Application, IsSocket, flow_on, socket_on, with_view, without_socket}
use Rattle.host_books.specs.Books.{Book}
use Rattle.sound_hosts.specs.Hosts.{CoreHost, id_of, is_held_of}
use Rattle.sound_hosts.specs.Leading.{LedOn}
use Rattle.sound_hosts.specs.Leaving.{books_left}
use Rattle.sound_hosts.specs.Moving.{IsLed, with_slow}
use Rattle.sound_hosts.specs.Sound.{IsHostSound, IsApp, HasHolder}
use Rattle.sound_hosts.proofs.Calls.{call_leads}
use Rattle.sound_hosts.proofs.Counts.{count_middle}
use Rattle.sound_hosts.proofs.Leaving.{AreTaken}
use Rattle.sound_hosts.proofs.Moved.{moved_sound}
use Rattle.sound_hosts.proofs.OneFlow.{used_leads, words_same}
use Rattle.sound_hosts.proofs.Sweeping.{firsts, lasts, middle}
use Rattle.sound_calls.specs.Handing.{given_back, handing, with_books, after_kill}
use Rattle.sound_calls.proofs.Alone.{same_led, no_lift, handed_sound, led_alone}
use Rattle.sound_calls.proofs.Releasing.{released_alone}

-- ----- lists
off : (i : ℕ) (fs : List FlowId) → total (at_slot i) fs ≡ 0 → without i fs ≡ fs
off i [] none = refl
off i (f ∷ fs) none = by (f.slot == i) none (off i fs)
  where
    by : (t : Bool) → ◌≡◌ {A = ℕ} (cond t 1 0 + total (at_slot i) fs) 0
        → (total (at_slot i) fs ≡ 0 → without i fs ≡ fs) → cond t (without i fs) (f ∷ without i fs) ≡ f ∷ fs
    by true e rest = absurd (omega (arith, e))
    by false e rest = ap (λ l. f ∷ l) (rest (omega (arith, e)))

self : (n : ℕ) → (n == n) ≡ true
self n = eq-eqb n n refl

any_without : {X : Type 0} (p : X → Bool) (xs : List X) (x : X) (ys : List X) → p x ≡ false
    → list_any p (xs ++ x ∷ ys) ≡ list_any p (xs ++ ys)
any_without p [] x ys e = ap (λ t. t || list_any p ys) e
any_without p (z ∷ zs) x ys e = ap (λ t. p z || t) (any_without p zs x ys e)

none_passes : (p : Book → Bool) (bs : List Book) → length (map id_of (filter p bs)) ≡ 0
    → Each (λ (b : Book). p b ≡ false) bs
none_passes p [] e = tt
none_passes p (b ∷ bs) e = by (p b) refl e (none_passes p bs)
  where
    by : (t : Bool) → p b ≡ t → length (map id_of (cond t (b ∷ filter p bs) (filter p bs))) ≡ 0
        → (length (map id_of (filter p bs)) ≡ 0 → Each (λ (c : Book). p c ≡ false) bs)
        → Each (λ (c : Book). p c ≡ false) (b ∷ bs)
    by true t e rest = absurd (omega (arith, e))
    by false t e rest = (t, rest e)

-- ----- one flow after the other
-- the application, with this view and these sockets
abbrev with_left : Application → View → List FlowId → Application
with_left a u fs = record (with_view u a) { sockets = fs }

-- what is left to reap, and what was reaped
record IsReaping (h : CoreHost) (front : List Application) (a : Application) (back : List Application)
    (fs : List FlowId)
    (bs : List Book) (u : View) : Type 0 where
  pub sound : IsHostSound (given_back front (with_left a u fs) back (with_books bs h))
  pub alone : IsAlone u
  pub once : (i : ℕ) → total (at_slot i) fs ≤ 1

module _ (h : CoreHost) (front : List Application) (a : Application) (back : List Application) (tick : ℕ) where
  one_reaped : (f : FlowId) (fs : List FlowId) (bs : List Book) (v u : View) (r : Flow)
      → IsReaping h front a back (f ∷ fs) bs v
      → IsHostSound (given_back front (with_left a u (f ∷ fs)) back (with_books bs h)) → IsAlone u
      → IsReaping h front a back fs (books_left a.number (f ∷ []) bs) (unpinned f u)
  one_reaped f fs bs v u r before sound alone =
      record {
        sound = subst (λ (x : Application). IsHostSound (given_back front x back
            (with_books (books_left a.number (f ∷ []) bs) h))) same
            (subst (λ g. IsHostSound (given_back front (without_socket (socket_on f) (with_left a u (f ∷ fs))) back
            (with_books (books_left a.number (g ∷ []) bs) h))) named
            (released_alone (with_books bs h) front back (with_left a u (f ∷ fs)) (socket_on f) sound alone there));
        alone = (alone.0, ap (λ (ts : List Turn). noted [] [] (f ∷ []) ts) alone.1, alone.2);
        once = λ i. let o : at_slot i f + total (at_slot i) fs ≤ 1 = before.once i in omega (arith, o);
      }
    where
      there : IsSocket (with_left a u (f ∷ fs)) (socket_on f)
      there = ap (λ t. t || list_any (λ (g : FlowId). g.slot == f.slot) fs) (self f.slot)

      named : flow_on (f ∷ fs) f.slot ≡ f
      named = ap (λ t. cond t f (flow_on fs f.slot)) (self f.slot)

      gone : without f.slot (f ∷ fs) ≡ fs
      gone =
          ap (λ t. cond t (without f.slot fs) (f ∷ without f.slot fs)) (self f.slot)
          ∙ off f.slot fs
          (let o : cond (f.slot == f.slot) 1 0 + total (at_slot f.slot) fs ≤ 1 = before.once f.slot in
          let one : ◌≡◌ {A = ℕ} (cond (f.slot == f.slot) 1 0) 1 = ap (λ t. cond {A = ℕ} t 1 0) (self f.slot) in
          omega (arith, o, one))

      same : without_socket (socket_on f) (with_left a u (f ∷ fs)) ≡ with_left a (unpinned f u) fs
      same = λ i. with_left a (unpinned (named i) u) (gone i)

  all_reaped : (fs : List FlowId) (bs : List Book) (v w : View) → IsReaping h front a back fs bs v
      → AreReaped tick fs v w → IsReaping h front a back [] (books_left a.number fs bs) w
  all_reaped [] bs v w before same = subst (IsReaping h front a back [] bs) (sym same) before
  all_reaped (f ∷ fs) bs v w before (u, (r, own, given), rest) =
      let by_use : IsLed f (history_with r Slow tick Abort) v u =
      used_leads f r (history_with r Slow tick Abort) v u before.alone given in
      all_reaped fs (books_left a.number (f ∷ []) bs) (unpinned f u) w
      (one_reaped f fs bs v u r before
      (led_alone (with_books bs h) front (with_left a v (f ∷ fs)) (with_left a u (f ∷ fs)) back (socket_on f) f
      (history_with r Slow tick Abort) before.sound before.alone
      (ap (λ t. t || list_any (λ (g : FlowId). g.slot == f.slot) fs) (self f.slot))
      (ap (λ t. cond t f (flow_on fs f.slot)) (self f.slot))
      (subst (λ (x : History). LedOn x (history_with r Slow tick Abort)) (own.known before.alone)
      (call_leads (history r) Slow tick (call_of Abort) (offer_of Abort) own.legal))
      by_use refl)
      by_use.alone)
      rest

-- ----- the application leaves
module _ (h : CoreHost) (front : List Application) (a : Application) (back : List Application) (bs : List Book)
    (w : View) (done : IsReaping h front a back [] bs w) where
  own : IsApp h.table bs (with_view (without_baton w) (record a { sockets = [] }))
  own = middle (IsApp h.table bs) front (with_view (without_baton w) (record a { sockets = [] })) back done.sound.apps

  none_held : Each (λ (b : Book). is_held_of a.number b ≡ false) bs
  none_held = none_passes (is_held_of a.number) bs
      (length_permutation [] (map id_of (filter (is_held_of a.number) bs)) own.sockets)

  abbrev all : List Application
  all = front ++ with_view (without_baton w) (record a { sockets = [] }) ∷ back

  holders : (cs : List Book) → Each (HasHolder all) cs → Each (λ (b : Book). is_held_of a.number b ≡ false) cs
      → Each (HasHolder (front ++ back)) cs
  holders [] x y = tt
  holders (c ∷ cs) x y = (
    λ e. (
      sym (any_without (λ (z : Application). is_held_of z.number c) front
          (with_view (without_baton w) (record a { sockets = [] })) back y.0)
          ∙ (x.0 e).0,
      (x.0 e).1,
    ),
    holders cs x.1 y.1,
  )

  taken : AreTaken h.table bs (front ++ back)
  taken = record {
    apps = each_append (IsApp h.table bs) front back
        (firsts (IsApp h.table bs) front (with_view (without_baton w) (record a { sockets = [] })) back done.sound.apps)
        (lasts (IsApp h.table bs) front (with_view (without_baton w) (record a { sockets = [] })) back done.sound.apps);
    numbers = λ k.
        let few : count_by (λ (x : Application). x.number == k) all ≤ 1 = done.sound.numbers k in
        let split : count_by (λ (x : Application). x.number == k) all
        ≡ tally (a.number == k) + count_by (λ (x : Application). x.number == k) (front ++ back) =
        count_middle (λ (x : Application). x.number == k) front
        (with_view (without_baton w) (record a { sockets = [] })) back in
        omega (arith, few, split);
    holders = holders bs done.sound.holders none_held;
  }

  abbrev joined : View
  joined = both (with_baton h.slow.pass.view w) w

  left : IsHostSound (record h {
    slow = record (h.slow) { pass = record (h.slow.pass) { view = joined } };
    apps = front ++ back;
    books = bs;
  })
  left = moved_sound (given_back front (with_left a w []) back (with_books bs h)) done.sound joined
      (record {
        alone = (refl, (λ i. done.sound.alone.1 i ++ done.alone.1 i), done.alone.2);
        slow = done.sound.slow_pass;
        marks = refl;
        pins = refl;
        idle = done.sound.sound.0.ready.2;
        wide = refl;
        leads = λ f. same_led (known_of f w.base);
      })
      h.slow.path (front ++ back) bs (no_lift bs) refl done.sound.opening.flows
      (words_same (with_baton h.slow.pass.view w) joined (λ slot. refl) bs done.sound.table.words) taken

-- ----- the whole kill
pub killed_sound : (h : CoreHost) (front back : List Application) (a : Application) (ended : Ended) (tick : ℕ)
    (n : Seen) → IsHostSound h → h.apps ≡ front ++ a ∷ back → IsAtRest h.table ended → ended.pass ≡ a.pass
    → ended.pins.list ≡ a.sockets → ended.held ≡ None → IsReapedAlone tick ended h.slow.pass n
    → IsHostSound (after_kill front a back n h)
killed_sound h front back a ended tick n sound apps rest pass pins held (w, reaped, e) =
    subst (λ (x : Seen). IsHostSound (after_kill front a back x h)) (sym e)
    (left (with_slow (handing h.slow) h) front a back (books_left a.number a.sockets h.books) w
    (all_reaped (with_slow (handing h.slow) h) front a back tick a.sockets h.books
    (with_baton a.pass.view h.slow.pass.view) w
    (record {
      sound = handed_sound h front back a sound apps;
      alone = (
        refl,
        (middle (IsApp h.table h.books) front a back (subst (Each (IsApp h.table h.books)) apps sound.apps)).turns,
        sound.alone.2,
      );
      once = subst (λ l. (i : ℕ) → total (at_slot i) l ≤ 1) pins rest.pins.once;
    })
    (subst (λ l. AreReaped tick l (with_baton a.pass.view h.slow.pass.view) w) pins
    (subst (λ (x : View). AreReaped tick ended.pins.list x w)
    (λ i. returned (held i) (with_baton (pass i).view h.slow.pass.view)) reaped))))

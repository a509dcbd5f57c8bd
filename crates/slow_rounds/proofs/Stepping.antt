-- Flows are served one after the other, each once: for the law first_turns_are_slow_phases.
use Rattle.std.proofs.Common.{◌≡◌, ℕ, ◌+◌, ◌≤◌, ◌==◌, ◌&&◌, ◌||◌, cond, Bool, true, false, List, [], ◌∷◌, ◌++◌, map}
use Rattle.std.proofs.Common.{refl, sym, ap, ◌∙◌, subst, arith, true≢false}
use Rattle.std.specs.List.{filter}
use Rattle.std.proofs.lemmas.Bool.Decides.{nat_tests}
use Rattle.tas_model.specs.declared.entry.Caller.TheVariants.{Slow}
use Rattle.tas_model.specs.declared.entry.FlowId.{FlowId}
use Rattle.host_rounds.specs.Lists.{Each}
use Rattle.host_rounds.specs.Upkeep.{swept, timed}
use Rattle.flow_lock.specs.Orders.{known_of, same_flow, total, at_slot}
use Rattle.flow_lock.specs.declared.view.Held.{Held}
use Rattle.host_books.specs.Books.{Book, live_as, live_in}
use Rattle.host_books.proofs.Indexing.{is_same_flow}
use Rattle.host_books.proofs.Orders.{same_self}
use Rattle.sound_hosts.proofs.Leaving.{AreApart}
use Rattle.sound_hosts.proofs.Sweeping.{middle}
use Rattle.sound_hosts.proofs.Names.{names}
use Rattle.slow_rounds.specs.SoFar.{phased, is_in, IsSoFar, AreSoFar, IsStepped, AreStepped}

-- ----- each once
abbrev pub Once : List FlowId → Type 0
Once fs = (i : ℕ) → total (at_slot i) fs ≤ 1

pub once_rest : (f : FlowId) (fs : List FlowId) → Once (f ∷ fs) → Once fs
once_rest f fs once i =
    let all : at_slot i f + total (at_slot i) fs ≤ 1 = once i in
    omega (arith, all)

none_there : (f : FlowId) (fs : List FlowId) → total (at_slot f.slot) fs ≡ 0 → is_in fs f ≡ false
none_there f [] none = refl
none_there f (g ∷ gs) none =
    by (g.slot == f.slot) refl none (λ n. none_there f gs n)
  where
    by : (s : Bool) → (g.slot == f.slot) ≡ s → cond (g.slot == f.slot) 1 0 + total (at_slot f.slot) gs ≡ 0
        → (total (at_slot f.slot) gs ≡ 0 → is_in gs f ≡ false)
        → (((g.slot == f.slot) && (g.generation == f.generation)) || is_in gs f) ≡ false
    by true e n rest =
        let one : 1 + total (at_slot f.slot) gs ≡ 0 =
        subst (λ s. cond s 1 0 + total (at_slot f.slot) gs ≡ 0) e n in
        absurd (omega (arith, one))
    by false e n rest =
        ap (λ s. (s && (g.generation == f.generation)) || is_in gs f) e
        ∙ rest (let none_ : 0 + total (at_slot f.slot) gs ≡ 0 =
        subst (λ s. cond s 1 0 + total (at_slot f.slot) gs ≡ 0) e n in omega (arith, none_))

own_slot : (f : FlowId) → at_slot f.slot f ≡ 1
own_slot f = grind (arith, nat_tests)

pub apart_rest : (f : FlowId) (fs : List FlowId) → Once (f ∷ fs) → is_in fs f ≡ false
apart_rest f fs once =
    let all : at_slot f.slot f + total (at_slot f.slot) fs ≤ 1 = once f.slot in
    let own : at_slot f.slot f ≡ 1 = own_slot f in
    none_there f fs (omega (arith, all, own))

-- ----- one step
one_step : (tick : ℕ) (f : FlowId) (rest : List FlowId) (known now next : List Held) (b c d : Book) → c.id ≡ b.id
    → is_in rest f ≡ false → (s : Bool) → same_flow f b.id ≡ s → (r : Bool) → is_in rest b.id ≡ r
    → IsSoFar (s || r) tick known now b c → IsStepped s tick now next c d → IsSoFar r tick known next b d
one_step tick f rest known now next b c d named apart true own true there so step =
    absurd (true≢false (sym there ∙ (ap (is_in rest) (sym (is_same_flow f b.id own)) ∙ apart)))
one_step tick f rest known now next b c d named apart true own false there so step =
    step ∙ ap (phased tick) (ap (live_in now) so.0 ∙ ap (live_as b) so.1)
one_step tick f rest known now next b c d named apart false own true there so step =
    (step.0 ∙ so.0, ap (λ g. known_of g next) (sym named) ∙ (step.1 ∙ (ap (λ g. known_of g now) named ∙ so.1)))
one_step tick f rest known now next b c d named apart false own false there so step =
    ap (live_in next) step.0 ∙ (ap (live_as c) step.1 ∙ so)

pub all_stepped : (tick : ℕ) (f : FlowId) (rest : List FlowId) (known now next : List Held) → is_in rest f ≡ false
    → (bs cs ds : List Book) → AreSoFar (f ∷ rest) tick known now bs cs → AreStepped f tick now next cs ds
    → AreSoFar rest tick known next bs ds
all_stepped tick f rest known now next apart [] [] ds so step = step
all_stepped tick f rest known now next apart [] (c ∷ cs) ds so step = absurd (cc (so))
all_stepped tick f rest known now next apart (b ∷ bs) [] ds so step = absurd so
all_stepped tick f rest known now next apart (b ∷ bs) (c ∷ cs) [] so step = absurd step
all_stepped tick f rest known now next apart (b ∷ bs) (c ∷ cs) (d ∷ ds) so step = (
  step.0 ∙ so.0,
  one_step tick f rest known now next b c d so.0 apart (same_flow f b.id) refl (is_in rest b.id) refl so.1
      (subst (λ (g : FlowId). IsStepped (same_flow f g) tick now next c d) so.0 step.1),
  all_stepped tick f rest known now next apart bs cs ds so.2 step.2,
)

-- ----- steps
module _ (tick : ℕ) (now next : List Held) (f : FlowId)
    (others : (g : FlowId) → same_flow f g ≡ false → known_of g next ≡ known_of g now) where
  -- the books stay
  pub books_stay : ((c : Book) → same_flow f c.id ≡ true → live_in next c ≡ phased tick (live_in now c))
      → (cs : List Book) → AreStepped f tick now next cs cs
  books_stay own [] = refl
  books_stay own (c ∷ cs) = (refl, by (same_flow f c.id) refl, books_stay own cs)
    where
      by : (s : Bool) → same_flow f c.id ≡ s → IsStepped s tick now next c c
      by true e = own c e
      by false e = (refl, others c.id e)

  unlike_stay : (cs : List Book) → Each (λ (c : Book). same_flow f c.id ≡ false) cs → AreStepped f tick now next cs cs
  unlike_stay [] each = refl
  unlike_stay (c ∷ cs) each = (
    refl,
    subst (λ s. IsStepped s tick now next c c) (sym each.0) (refl, others c.id each.0),
    unlike_stay cs each.1,
  )

  flipped : (g : FlowId) → same_flow g f ≡ false → same_flow f g ≡ false
  flipped g e = mirror ∙ e
    where
      mirror : same_flow f g ≡ same_flow g f
      mirror = grind (arith, nat_tests)

  -- one is another
  pub one_changes : (xs : List Book) (b d : Book) (ys : List Book) → AreApart (xs ++ b ∷ ys) → b.id ≡ f → d.id ≡ b.id
      → live_in next d ≡ phased tick (live_in now b) → AreStepped f tick now next (xs ++ b ∷ ys) (xs ++ d ∷ ys)
  one_changes [] b d ys apart is named made = (
    named,
    subst (λ s. IsStepped s tick now next b d) (sym (ap (same_flow f) is ∙ same_self f)) made,
    unlike_stay ys (subst (λ g. Each (λ (c : Book). same_flow g c.id ≡ false) ys) is apart.0),
  )
  one_changes (x ∷ xs) b d ys apart is named made = (
    refl,
    subst (λ s. IsStepped s tick now next x x) (sym away) (refl, others x.id away),
    one_changes xs b d ys apart.1 is named made,
  )
    where
      away : same_flow f x.id ≡ false
      away =
          flipped x.id
          (ap (same_flow x.id) (sym is) ∙ middle (λ (c : Book). same_flow x.id c.id ≡ false) xs b ys apart.0)

-- ----- the beginning
pub each_named : (p : Book → Bool) (bs : List Book)
    → Each (λ (b : Book). p b ≡ true → is_in (names p bs) b.id ≡ true) bs
each_named p [] = tt
each_named p (b ∷ bs) = (λ e. head e, more (p b) bs (each_named p bs))
  where
    head : p b ≡ true → is_in (names p (b ∷ bs)) b.id ≡ true
    head e =
        ap (λ s. is_in (map (λ (c : Book). c.id) (cond s (b ∷ filter p bs) (filter p bs))) b.id) e
        ∙ ap (λ s. s || is_in (names p bs) b.id) (same_self b.id)

    or_true : (x : Bool) → (x || true) ≡ true
    or_true true = refl
    or_true false = refl

    more : (s : Bool) (cs : List Book) → Each (λ (c : Book). p c ≡ true → is_in (names p bs) c.id ≡ true) cs
        → Each (λ (c : Book). p c ≡ true
        → is_in (map (λ (c : Book). c.id) (cond s (b ∷ filter p bs) (filter p bs))) c.id ≡ true) cs
    more s [] each = tt
    more true (c ∷ cs) each = (
      λ e. ap (λ x. same_flow b.id c.id || x) (each.0 e) ∙ or_true (same_flow b.id c.id),
      more true cs each.1,
    )
    more false (c ∷ cs) each = (each.0, more false cs each.1)

-- where each flow is to be served, or is as the phase leaves it
pub begun : (tick : ℕ) (fs : List FlowId) (known : List Held) (bs : List Book)
    → Each (λ (b : Book). is_in fs b.id ≡ false → live_in known b ≡ phased tick (live_in known b)) bs
    → AreSoFar fs tick known known bs bs
begun tick fs known [] each = refl
begun tick fs known (b ∷ bs) each = (refl, by (is_in fs b.id) refl, begun tick fs known bs each.1)
  where
    by : (s : Bool) → is_in fs b.id ≡ s → IsSoFar s tick known known b b
    by true e = (refl, refl)
    by false e = each.0 e

-- ----- the end
pub ended : (tick : ℕ) (known now : List Held) (bs cs : List Book) → AreSoFar [] tick known now bs cs
    → map (live_in now) cs ≡ map (timed Slow tick) (map swept (map (live_in known) bs))
ended tick known now [] cs so = ap (map (live_in now)) so
ended tick known now (b ∷ bs) [] so = absurd so
ended tick known now (b ∷ bs) (c ∷ cs) so = λ i. so.1 i ∷ ended tick known now bs cs so.2 i

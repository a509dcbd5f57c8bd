-- The order of deeds, step by step.
use Rattle.std.proofs.Common.{◌≡◌, ◌≢◌, ℕ, zero, suc, ◌+◌, ◌<◌, ◌≤◌, Bool, true, false, eqb, eq-eqb, ne_eqb, cond, List}
use Rattle.std.proofs.Common.{[], ◌∷◌, ◌++◌, map, length, set, sym, refl, ap, ◌∙◌, subst, inl, ⊎_elim, arith}
use Rattle.std.proofs.Common.{true≢false, append-nil}
use Rattle.std.proofs.lemmas.Bool.Decides.{nat_tests}
use mathlib.Core.Option as O
use mathlib.Core.Option.{some-injective, some-ne-none}
use lib.ListN.{get_elem?}
use Rattle.atomic_table.proofs.Lists.{at_set}
use Rattle.tas_model.specs.declared.entry.Entry.{Entry}
use Rattle.tas_model.specs.declared.entry.FlowId.{FlowId}
use Rattle.flow_lock.specs.Words.{flag}
use Rattle.flow_lock.specs.Histories.{longer}
use Rattle.flow_lock.specs.Orders.{total, at_slot, same_flow, once_below, named, won_on, lost_on, pins_at, Order, of}
use Rattle.flow_lock.specs.Orders.{known_of, put, played, IsNext, IsRun, Ordered}
use Rattle.flow_lock.specs.Steps.{noted, deeds_of, HasTurn, IsAlone, MayAct, HasAll}
use Rattle.flow_lock.specs.declared.word.Word.{Word}
use Rattle.flow_lock.specs.declared.view.View.{View}
use Rattle.flow_lock.specs.declared.view.Held.{Held}
use Rattle.flow_lock.specs.declared.view.History.{History}
use Rattle.flow_lock.specs.declared.view.Deed.{Deed}
use Rattle.flow_lock.specs.declared.view.Turn.{Turn}
use Rattle.flow_lock.proofs.Sums.{total-set, term_le, terms_le, total-append, total_none}
use Rattle.flow_lock.proofs.Histories.{longer_nil, longer_twice, known_first, known_past}

-- ----- orders
abbrev pub signed : ℕ → List Deed → Order
signed p ds = map (λ (d : Deed). (p, d)) ds

of_append : (p : ℕ) (xs ys : Order) → of p (xs ++ ys) ≡ of p xs ++ of p ys
of_append p [] ys = refl
of_append p (x ∷ xs) ys = by_name (eqb x.0 p) (of_append p xs ys)
  where
    by_name : (b : Bool) → of p (xs ++ ys) ≡ of p xs ++ of p ys
        → cond b (x.1 ∷ of p (xs ++ ys)) (of p (xs ++ ys)) ≡ cond b (x.1 ∷ of p xs) (of p xs) ++ of p ys
    by_name true e = ap (λ l. x.1 ∷ l) e
    by_name false e = e

of_same : (p : ℕ) (ds : List Deed) → of p (signed p ds) ≡ ds
of_same p [] = refl
of_same p (d ∷ ds) = subst (λ b. cond b (d ∷ of p (signed p ds)) (of p (signed p ds)) ≡ d ∷ ds) (sym (eq-eqb p p refl))
    (ap (λ l. d ∷ l) (of_same p ds))

of_else : (q p : ℕ) (ds : List Deed) → q ≢ p → of q (signed p ds) ≡ []
of_else q p [] n = refl
of_else q p (d ∷ ds) n = subst (λ b. cond b (d ∷ of q (signed p ds)) (of q (signed p ds)) ≡ [])
    (sym (ne_eqb p q (λ e. n (sym e)))) (of_else q p ds n)

nobody : (order : Order) → ((p : ℕ) → of p order ≡ []) → order ≡ []
nobody [] all = refl
nobody (x ∷ xs) all =
    absurd (some (subst (λ b. cond b (x.1 ∷ of x.0 xs) (of x.0 xs) ≡ []) (eq-eqb x.0 x.0 refl) (all x.0)))
  where
    some : x.1 ∷ of x.0 xs ≡ [] → ⊥
    some e = let n : suc (length (of x.0 xs)) ≡ 0 = ap (length {A = Deed}) e in absurd (omega arith)

played_append : (known : List Held) (xs ys : Order) → played known (xs ++ ys) ≡ played (played known xs) ys
played_append known [] ys = refl
played_append known (x ∷ xs) ys = played_append (put known x.1) xs ys

run_append : (known : List Held) (xs ys : Order) → IsRun known xs → IsRun (played known xs) ys → IsRun known (xs ++ ys)
run_append known [] ys a b = b
run_append known (x ∷ xs) ys a b = (a.0, run_append (put known x.1) xs ys a.1 b)

-- entries behind the history that is there
pub played_here : (known : List Held) (p : ℕ) (f : FlowId) (h : History) (xs : List Entry) → h ≡ known_of f known
    → known_of f (played known (signed p (deeds_of f h xs))) ≡ longer h xs
played_here known p f h [] is = sym is ∙ sym (longer_nil h)
played_here known p f h (x ∷ xs) is =
    let d : Deed = record { flow = f; before = h; entry = x } in
    played_here (put known d) p f (longer h (x ∷ [])) xs (sym (known_first f (longer h (x ∷ [])) known))
    ∙ longer_twice h (x ∷ []) xs

-- the first entries of a flow
pub played_first : (known : List Held) (p : ℕ) (f : FlowId) (h : History) (x : Entry) (xs : List Entry)
    → known_of f (played known (signed p (deeds_of f h (x ∷ xs)))) ≡ longer h (x ∷ xs)
played_first known p f h x xs =
    let d : Deed = record { flow = f; before = h; entry = x } in
    played_here (put known d) p f (longer h (x ∷ [])) xs (sym (known_first f (longer h (x ∷ [])) known))
    ∙ longer_twice h (x ∷ []) xs

pub run_here : (known : List Held) (p : ℕ) (f : FlowId) (h : History) (xs : List Entry) → IsNext h (known_of f known)
    → IsRun known (signed p (deeds_of f h xs))
run_here known p f h [] is = tt
run_here known p f h (x ∷ xs) is =
    let d : Deed = record { flow = f; before = h; entry = x } in
    (is, run_here (put known d) p f (longer h (x ∷ [])) xs (inl (sym (known_first f (longer h (x ∷ [])) known))))

pub played_else : (known : List Held) (p : ℕ) (f g : FlowId) (h : History) (xs : List Entry) → same_flow f g ≡ false
    → known_of g (played known (signed p (deeds_of f h xs))) ≡ known_of g known
played_else known p f g h [] n = refl
played_else known p f g h (x ∷ xs) n =
    let d : Deed = record { flow = f; before = h; entry = x } in
    played_else (put known d) p f g (longer h (x ∷ [])) xs n ∙ known_past f g (longer h (x ∷ [])) known n

-- ----- turns
hit_name : (p : ℕ) (t : Turn) → t.name ≡ p → cond {A = ℕ} (eqb t.name p) 1 0 ≡ 1
hit_name p t e = ap (λ b. cond b 1 0) (eq-eqb t.name p e)

has_name : (l : List Turn) (k : ℕ) (t : Turn) → get_elem? l k ≡ O.some t
    → 0 < total (λ (x : Turn). cond (eqb x.name t.name) 1 0) l
has_name l k t e = omega (arith, term_le (λ (x : Turn). cond (eqb x.name t.name) 1 0) l k t e, hit_name t.name t refl)

no_turns : (l : List Turn) → ((p : ℕ) → total (λ (x : Turn). cond (eqb x.name p) 1 0) l ≡ 0) → l ≡ []
no_turns [] z = refl
no_turns (t ∷ ts) z = absurd (omega (arith, z t.name, has_name (t ∷ ts) 0 t refl))

pub none_below : (p : ℕ) → once_below p 0 ≡ 0
none_below p = grind (arith, nat_tests)

below_not : (p n : ℕ) → n ≤ p → once_below p n ≡ 0
below_not p n le = grind (arith, nat_tests)

below_le : (p n : ℕ) → once_below p n ≤ 1
below_le p n = grind (arith, nat_tests)

pub one_more : (p m : ℕ) → cond {A = ℕ} (eqb m p) 1 0 + once_below p m ≡ once_below p (m + 1)
one_more p m = grind (arith, nat_tests)

no_nil : (t : Turn) (ts l : List Turn) → l ≡ t ∷ ts → l ≡ [] → ⊥
no_nil t ts l e n = let z : suc (length ts) ≡ 0 = ap (length {A = Turn}) (sym e ∙ n) in absurd (omega arith)

module _ (ds : List Deed) (won lost : List FlowId) where
  noted_names : (q : ℕ) (l : List Turn)
      → total (λ (t : Turn). cond (eqb t.name q) 1 0) (noted ds won lost l)
      ≡ total (λ (t : Turn). cond (eqb t.name q) 1 0) l
  noted_names q [] = refl
  noted_names q (t ∷ ts) = refl

  noted_won : (k : ℕ) (t : Turn) (ts : List Turn)
      → total (λ (x : Turn). total (at_slot k) x.pinned) (noted ds won lost (t ∷ ts))
      ≡ total (λ (x : Turn). total (at_slot k) x.pinned) (t ∷ ts) + total (at_slot k) won
  noted_won k t ts = omega (arith, total-append (at_slot k) t.pinned won)

  noted_lost : (k : ℕ) (t : Turn) (ts : List Turn)
      → total (λ (x : Turn). total (at_slot k) x.unpinned) (noted ds won lost (t ∷ ts))
      ≡ total (λ (x : Turn). total (at_slot k) x.unpinned) (t ∷ ts) + total (at_slot k) lost
  noted_lost k t ts = omega (arith, total-append (at_slot k) t.unpinned lost)

-- ----- with no turn anywhere
module _ (H : FlowId → History) (ws : List Word) (views : List View) (id : ℕ) (v : View)
    (me : get_elem? views id ≡ O.some v) (o : Ordered H ws views) where
  -- only one view has the baton
  pub no_baton : v.baton ≡ true → (j : ℕ) (u : View) → j ≢ id → get_elem? views j ≡ O.some u → u.baton ≡ true → ⊥
  no_baton here j u ne e there =
      let a = terms_le (λ (y : View). flag y.baton) views id j v u ne me e in
      let b = o.one_baton in let c : flag v.baton ≡ 1 = ap flag here in let d : flag u.baton ≡ 1 = ap flag there in
      absurd (omega arith)

  -- what who is alone knows
  pub record Alone : Type 0 where
    pub histories : (f : FlowId) → H f ≡ known_of f v.base
    pub words : v.words ≡ ws
    pub none_done : o.order ≡ []
    pub made : o.made ≡ 0
    pub turns : (j : ℕ) (u : View) → get_elem? views j ≡ O.some u → u.turns ≡ []
    pub held : (j : ℕ) (u : View) → j ≢ id → get_elem? views j ≡ O.some u → u.held ≡ []

  pub alone : IsAlone v → Alone
  alone (baton, no_turn, no_made) =
      let k = o.knows id v me baton in
      let zero_made : o.made ≡ 0 = sym k.1 ∙ no_made in
      let none_done : o.order ≡ [] = nobody o.order (λ p. o.unborn p (omega arith)) in
      let turns : (j : ℕ) (u : View) → get_elem? views j ≡ O.some u → u.turns ≡ [] = λ j u e. no_turns u.turns (λ p.
      let a = term_le (named p) views j u e in let b = o.names p in
      let c : once_below p o.made ≡ once_below p 0 = ap (once_below p) zero_made in omega (arith, none_below p)) in
      record {
        histories = λ f. o.now f ∙ (ap (λ z. known_of f (played o.base z)) none_done ∙ ap (known_of f) (sym k.0));
        words = k.2 ∙ o.same zero_made;
        none_done = none_done;
        made = zero_made;
        turns = turns;
        held = λ j u ne e. quick u.baton (λ is. o.idle j u e is (turns j u e))
            (λ is. absurd (no_baton baton j u ne e is));
      }
    where
      quick : {P : Type 0} (b : Bool) → (b ≡ false → P) → (b ≡ true → P) → P
      quick false f t = f refl
      quick true f t = t refl

-- a turn, or the baton and no turn, keeps a view from being idle
pub acts_not_idle : (v : View) → MayAct v → v.baton ≡ false → v.turns ≡ [] → ⊥
acts_not_idle v may quick none_ = ⊎_elim
    (λ (t : HasTurn v). no_nil t.0 t.1 v.turns t.2 none_)
    (λ (t : IsAlone v). true≢false (sym t.0 ∙ quick))
    may

-- ----- steps
-- a step that does nothing of it
pub kept_order : (H : FlowId → History) (ws : List Word) (views : List View) (id : ℕ) (v v' : View)
    → get_elem? views id ≡ O.some v
    → (v'.turns ≡ v.turns) × (v'.made ≡ v.made) × (v'.base ≡ v.base) × (v'.words ≡ v.words) × (v'.baton ≡ v.baton)
    → (v'.baton ≡ false → v'.turns ≡ [] → v'.held ≡ []) → Ordered H ws views → Ordered H ws (set views id v')
kept_order H ws views id v v' me kept idle o = record {
  base = o.base;
  words = o.words;
  order = o.order;
  made = o.made;
  run = o.run;
  now = o.now;
  pins = λ k. let a = total-set (lost_on k) views id v v' me in let b = total-set (won_on k) views id v v' me in
      let c : lost_on k v' ≡ lost_on k v = ap (total (λ (t : Turn). total (at_slot k) t.unpinned)) kept.0 in
      let d : won_on k v' ≡ won_on k v = ap (total (λ (t : Turn). total (at_slot k) t.pinned)) kept.0 in
      omega (arith, o.pins k);
  same = o.same;
  wide = o.wide;
  own = λ j u e k t q. ⊎_elim
      (λ (c : (j ≡ id) × (v' ≡ u)). o.own id v me k t
      (subst (λ l. get_elem? l k ≡ O.some t) (ap (λ (y : View). y.turns) (sym c.1) ∙ kept.0) q))
      (λ c. o.own j u c.1 k t q)
      (at_set views id j v' u e);
  names = λ p. let a = total-set (named p) views id v v' me in
      let b : named p v' ≡ named p v = ap (total (λ (t : Turn). cond (eqb t.name p) 1 0)) kept.0 in
      omega (arith, o.names p);
  unborn = o.unborn;
  one_baton = let a = total-set (λ (y : View). flag y.baton) views id v v' me in
      let b : flag v'.baton ≡ flag v.baton = ap flag kept.4 in let c = o.one_baton in omega arith;
  knows = λ j u e baton. ⊎_elim
      (λ (c : (j ≡ id) × (v' ≡ u)). let k = o.knows id v me (sym kept.4 ∙ (ap (λ (y : View). y.baton) c.1 ∙ baton)) in (
        ap (λ (y : View). y.base) (sym c.1) ∙ (kept.2 ∙ k.0),
        ap (λ (y : View). y.made) (sym c.1) ∙ (kept.1 ∙ k.1),
        ap (λ (y : View). y.words) (sym c.1) ∙ (kept.3 ∙ k.2),
      ))
      (λ c. o.knows j u c.1 baton)
      (at_set views id j v' u e);
  idle = λ j u e. ⊎_elim (λ (c : (j ≡ id) × (v' ≡ u)). subst (λ (y : View). y.baton ≡ false → y.turns ≡ []
      → y.held ≡ []) c.1 idle) (λ c. o.idle j u c.1) (at_set views id j v' u e);
}

-- a step by who may act
pub record Act (H H' : FlowId → History) (ws ws' : List Word) (v v' : View) (ds : List Deed)
    (won lost : List FlowId) : Type 0 where
  pub may : MayAct v
  pub turns : v'.turns ≡ noted ds won lost v.turns
  pub made : v'.made ≡ v.made
  pub baton : v'.baton ≡ v.baton
  -- in a turn
  pub base : (t : Turn) (ts : List Turn) → v.turns ≡ t ∷ ts → (v'.base ≡ v.base) × (v'.words ≡ v.words)
  pub run : (A : List Held) (p : ℕ) → ((g : FlowId) → H g ≡ known_of g A)
      → IsRun A (signed p ds) × ((g : FlowId) → H' g ≡ known_of g (played A (signed p ds)))
  pub pins : (k : ℕ) → pins_at ws' k + total (at_slot k) lost ≡ pins_at ws k + total (at_slot k) won
  -- alone
  pub known : v.turns ≡ [] → ((g : FlowId) → H g ≡ known_of g v.base) → (g : FlowId) → H' g ≡ known_of g v'.base
  pub words : v.turns ≡ [] → v.words ≡ ws → v'.words ≡ ws'
  pub wide : length ws' ≡ length ws

pub acts_order : (H H' : FlowId → History) (ws ws' : List Word) (views : List View) (id : ℕ) (v v' : View)
    (ds : List Deed) (won lost : List FlowId) → get_elem? views id ≡ O.some v
    → Act H H' ws ws' v v' ds won lost → Ordered H ws views → Ordered H' ws' (set views id v')
acts_order H H' ws ws' views id v v' ds won lost me act o = ⊎_elim in_turn by_alone act.may
  where
    by_alone : IsAlone v → Ordered H' ws' (set views id v')
    by_alone is =
        let a = alone H ws views id v me o is in
        let none' : v'.turns ≡ [] = act.turns ∙ ap (noted ds won lost) is.1 in
        let nobody' : (j : ℕ) (u : View) → get_elem? (set views id v') j ≡ O.some u → u.turns ≡ [] = λ j u e. ⊎_elim
        (λ (c : (j ≡ id) × (v' ≡ u)). ap (λ (y : View). y.turns) (sym c.1)
        ∙ none') (λ c. a.turns j u c.1) (at_set views id j v' u e) in
        record {
          base = v'.base;
          words = v'.words;
          order = [];
          made = 0;
          run = tt;
          now = act.known is.1 a.histories;
          pins = λ k. let x = total_none (lost_on k) (set views id v')
              (λ j u e. ap (total (λ (t : Turn). total (at_slot k) t.unpinned)) (nobody' j u e)) in
              let y = total_none (won_on k) (set views id v')
              (λ j u e. ap (total (λ (t : Turn). total (at_slot k) t.pinned)) (nobody' j u e)) in
              let z : pins_at v'.words k ≡ pins_at ws' k = ap (λ l. pins_at l k) (act.words is.1 a.words) in
              omega arith;
          same = λ _. act.words is.1 a.words;
          wide = ap (λ (l : List Word). length l) (act.words is.1 a.words);
          own = λ j u e m t q. absurd (some-ne-none t (sym (subst (λ l. get_elem? l m ≡ O.some t) (nobody' j u e) q)));
          names = λ p. total_none (named p) (set views id v')
              (λ j u e. ap (total (λ (t : Turn). cond (eqb t.name p) 1 0)) (nobody' j u e)) ∙ sym (none_below p);
          unborn = λ p le. refl;
          one_baton = let x = total-set (λ (y : View). flag y.baton) views id v v' me in
              let y : flag v'.baton ≡ flag v.baton = ap flag act.baton in let z = o.one_baton in omega arith;
          knows = λ j u e baton. ⊎_elim
              (λ (c : (j ≡ id) × (v' ≡ u)). (
                ap (λ (y : View). y.base) (sym c.1),
                ap (λ (y : View). y.made) (sym c.1)
                    ∙ (act.made ∙ is.2),
                ap (λ (y : View). y.words) (sym c.1),
              ))
              (λ c. absurd (no_baton H ws views id v me o is.0 j u c.0 c.1 baton))
              (at_set views id j v' u e);
          idle = λ j u e. ⊎_elim
              (λ (c : (j ≡ id) × (v' ≡ u)). subst (λ (y : View). y.baton ≡ false → y.turns ≡ []
              → y.held ≡ []) c.1 (λ quick. absurd (true≢false (sym is.0 ∙ (sym act.baton ∙ quick)))))
              (λ c. o.idle j u c.1)
              (at_set views id j v' u e);
        }

    grows : (t : Turn) (ts : List Turn) (order' : Order) → of t.name order' ≡ of t.name o.order ++ ds
        → ((q : ℕ) → q ≢ t.name → of q order' ≡ of q o.order)
        → of t.name o.order ≡ t.deeds → ((m : ℕ) (y : Turn) → get_elem? ts m ≡ O.some y → of y.name o.order ≡ y.deeds)
        → ((m : ℕ) (y : Turn) → get_elem? ts m ≡ O.some y → y.name ≡ t.name → ⊥)
        → (k : ℕ) (x : Turn) → get_elem? (noted ds won lost (t ∷ ts)) k ≡ O.some x → of x.name order' ≡ x.deeds
    grows t ts order' same others own_first own_later apart zero x e =
        subst (λ (y : Turn). of y.name order' ≡ y.deeds)
        (some-injective (record t {
          deeds = t.deeds ++ ds;
          pinned = t.pinned ++ won;
          unpinned = t.unpinned
              ++ lost;
        }) x e) (same ∙ ap (λ z. z ++ ds) own_first)
    grows t ts order' same others own_first own_later apart (suc k) x e = others x.name (λ z. absurd (apart k x e z))
        ∙ own_later k x e

    in_turn : HasTurn v → Ordered H' ws' (set views id v')
    in_turn (t, ts, turns) =
        let p : ℕ = t.name in
        let A = played o.base o.order in
        let done = act.run A p o.now in
        let order' = o.order ++ signed p ds in
        let noted' : v'.turns ≡ noted ds won lost (t ∷ ts) = act.turns ∙ ap (noted ds won lost) turns in
        let first : get_elem? v.turns 0 ≡ O.some t = ap (λ (z : List Turn). get_elem? z 0) turns in
        let my_name : 0 < named p v = has_name v.turns 0 t first in
        let others : (q : ℕ) → q ≢ p → of q order' ≡ of q o.order = λ q ne. of_append q o.order (signed p ds)
        ∙ (ap (λ z. of q o.order ++ z) (of_else q p ds ne) ∙ append-nil (of q o.order)) in
        let same_p : of p order' ≡ of p o.order ++ ds = of_append p o.order (signed p ds)
        ∙ ap (λ z. of p o.order ++ z) (of_same p ds) in
        let stay = act.base t ts turns in
        let total_p = o.names p in
        record {
          base = o.base;
          words = o.words;
          order = order';
          made = o.made;
          run = run_append o.base o.order (signed p ds) o.run done.0;
          now = λ g. done.1 g ∙ sym (ap (known_of g) (played_append o.base o.order (signed p ds)));
          pins = λ k. let a = total-set (lost_on k) views id v v' me in let b = total-set (won_on k) views id v v' me in
              let c : lost_on k v' ≡ lost_on k v + total (at_slot k) lost =
              ap (total (λ (y : Turn). total (at_slot k) y.unpinned)) noted'
              ∙ (noted_lost ds won lost k t ts
              ∙ ap (λ l. total (λ (y : Turn). total (at_slot k) y.unpinned) l + total (at_slot k) lost)
              (sym turns)) in
              let d : won_on k v' ≡ won_on k v + total (at_slot k) won =
              ap (total (λ (y : Turn). total (at_slot k) y.pinned)) noted'
              ∙ (noted_won ds won lost k t ts
              ∙ ap (λ l. total (λ (y : Turn). total (at_slot k) y.pinned) l + total (at_slot k) won) (sym turns)) in
              omega (arith, o.pins k, act.pins k);
          wide = o.wide ∙ sym act.wide;
          same = λ z. absurd (let a = term_le (named p) views id v me in
              let b : once_below p o.made ≡ once_below p 0 = ap (once_below p) z in omega (arith, none_below p));
          own = λ j u e k x q. ⊎_elim
              (λ (c : (j ≡ id) × (v' ≡ u)). grows t ts order' same_p others (o.own id v me 0 t first)
              (λ m y d. o.own id v me (suc m) y (ap (λ (z : List Turn). get_elem? z (suc m)) turns ∙ d))
              (λ m y d z. let a = terms_le (λ (w : Turn). cond (eqb w.name p) 1 0) v.turns 0 (suc m) t y
              (λ h. absurd (omega arith)) first (ap (λ (w : List Turn). get_elem? w (suc m)) turns ∙ d) in
              let b = term_le (named p) views id v me in
              omega (arith, below_le p o.made, hit_name p t refl, hit_name p y z))
              k x (subst (λ z. get_elem? z k ≡ O.some x) (ap (λ (y : View). y.turns) (sym c.1) ∙ noted') q))
              (λ c. let ne = c.0 in others x.name (λ z. absurd (let a = terms_le (named p) views id j v u ne me c.1 in
              let b = subst (λ y. 0 < total (λ (w : Turn). cond (eqb w.name y) 1 0) u.turns) z
              (has_name u.turns k x q) in let d = below_le p o.made in omega arith)) ∙ o.own j u c.1 k x q)
              (at_set views id j v' u e);
          names = λ q. let a = total-set (named q) views id v v' me in
              let b : named q v' ≡ named q v = ap (total (λ (y : Turn). cond (eqb y.name q) 1 0)) act.turns
              ∙ noted_names ds won lost q v.turns in omega (arith, o.names q);
          unborn = λ q le. others q (λ z. absurd (let a = term_le (named p) views id v me in
              let b = below_not p o.made (subst (λ y. o.made ≤ y) z le) in omega arith)) ∙ o.unborn q le;
          one_baton = let x = total-set (λ (y : View). flag y.baton) views id v v' me in
              let y : flag v'.baton ≡ flag v.baton = ap flag act.baton in let z = o.one_baton in omega arith;
          knows = λ j u e baton. ⊎_elim
              (λ (c : (j ≡ id) × (v' ≡ u)). let k = o.knows id v me (sym act.baton
              ∙ (ap (λ (y : View). y.baton) c.1 ∙ baton)) in (
                ap (λ (y : View). y.base) (sym c.1) ∙ (stay.0 ∙ k.0),
                ap (λ (y : View). y.made) (sym c.1)
                    ∙ (act.made ∙ k.1),
                ap (λ (y : View). y.words) (sym c.1) ∙ (stay.1 ∙ k.2),
              ))
              (λ c. o.knows j u c.1 baton)
              (at_set views id j v' u e);
          idle = λ j u e. ⊎_elim
              (λ (c : (j ≡ id) × (v' ≡ u)). subst (λ (y : View). y.baton ≡ false → y.turns ≡ []
              → y.held ≡ []) c.1 (λ _ none_. absurd
              (no_nil (record t {
                deeds = t.deeds ++ ds;
                pinned = t.pinned ++ won;
                unpinned = t.unpinned
                    ++ lost;
              }) ts v'.turns noted' none_)))
              (λ c. o.idle j u c.1)
              (at_set views id j v' u e);
        }

-- all turns are in one view, which learns the order and the words
pub learnt_order : (H : FlowId → History) (ws : List Word) (views : List View) (id : ℕ) (v : View)
    → get_elem? views id ≡ O.some v → v.baton ≡ true → HasAll v → (o : Ordered H ws views)
    → Ordered H ws (set views id (record v { turns = []; made = 0; base = played v.base o.order; words = ws }))
    × ((k : ℕ) → pins_at ws k + lost_on k v ≡ pins_at v.words k + won_on k v)
    × ((j : ℕ) (u : View) → j ≢ id → get_elem? views j ≡ O.some u → u.held ≡ [])
learnt_order H ws views id v me baton all o =
    let v' : View = record v { turns = []; made = 0; base = played v.base o.order; words = ws } in
    let k = o.knows id v me baton in
    let other : (j : ℕ) (u : View) → j ≢ id → get_elem? views j ≡ O.some u
    → u.turns ≡ [] = λ j u ne e. no_turns u.turns (λ p.
    let a = terms_le (named p) views id j v u ne me e in let b = o.names p in
    let c : once_below p v.made ≡ once_below p o.made = ap (once_below p) k.1 in let d = all p in omega arith) in
    let nobody' : (j : ℕ) (u : View) → get_elem? (set views id v') j ≡ O.some u → u.turns ≡ [] = λ j u e. ⊎_elim
    (λ (c : (j ≡ id) × (v' ≡ u)). ap (λ (y : View). y.turns) (sym c.1)) (λ c. other j u c.0 c.1)
    (at_set views id j v' u e) in
    let none_lost : (m : ℕ) → total (lost_on m) (set views id v') ≡ 0 =
    λ m. total_none (lost_on m) (set views id v')
    (λ j u e. ap (total (λ (t : Turn). total (at_slot m) t.unpinned)) (nobody' j u e)) in
    let none_won : (m : ℕ) → total (won_on m) (set views id v') ≡ 0 =
    λ m. total_none (won_on m) (set views id v')
    (λ j u e. ap (total (λ (t : Turn). total (at_slot m) t.pinned)) (nobody' j u e)) in (
      record {
        base = played o.base o.order;
        words = ws;
        order = [];
        made = 0;
        run = tt;
        now = o.now;
        pins = λ m. omega (arith, none_lost m, none_won m);
        same = λ _. refl;
        wide = refl;
        own = λ j u e m t q. absurd (some-ne-none t (sym (subst (λ l. get_elem? l m ≡ O.some t) (nobody' j u e) q)));
        names = λ p. total_none (named p) (set views id v')
            (λ j u e. ap (total (λ (t : Turn). cond (eqb t.name p) 1 0)) (nobody' j u e)) ∙ sym (none_below p);
        unborn = λ p le. refl;
        one_baton = let x = total-set (λ (y : View). flag y.baton) views id v v' me in let z = o.one_baton in
            omega arith;
        knows = λ j u e baton'. ⊎_elim
            (λ (c : (j ≡ id) × (v' ≡ u)). (
              ap (λ (y : View). y.base) (sym c.1) ∙ ap (λ l. played l o.order) k.0,
              ap (λ (y : View). y.made) (sym c.1),
              ap (λ (y : View). y.words) (sym c.1),
            ))
            (λ c. absurd (no_baton H ws views id v me o baton j u c.0 c.1 baton'))
            (at_set views id j v' u e);
        idle = λ j u e. ⊎_elim
            (λ (c : (j ≡ id) × (v' ≡ u)). subst (λ (y : View). y.baton ≡ false → y.turns ≡ []
            → y.held ≡ []) c.1 (λ quick. absurd (true≢false (sym baton ∙ quick))))
            (λ c. o.idle j u c.1)
            (at_set views id j v' u e);
      },
      (λ m. let a = total-set (lost_on m) views id v v' me in let b = total-set (won_on m) views id v v' me in
          let c : pins_at v.words m ≡ pins_at o.words m = ap (λ l. pins_at l m) k.2 in
          omega (arith, none_lost m, none_won m, o.pins m)),
      λ j u ne e. quick u.baton (λ is. o.idle j u e is (other j u ne e))
          (λ is. absurd (no_baton H ws views id v me o baton j u ne e is)),
    )
  where
    quick : {P : Type 0} (b : Bool) → (b ≡ false → P) → (b ≡ true → P) → P
    quick false f t = f refl
    quick true f t = t refl

-- and it learns as many words as it knew
pub learnt_wide : (H : FlowId → History) (ws : List Word) (views : List View) (id : ℕ) (v : View)
    → get_elem? views id ≡ O.some v → v.baton ≡ true → Ordered H ws views → length ws ≡ length v.words
learnt_wide H ws views id v me baton o =
    sym o.wide ∙ ap (λ (l : List Word). length l) (sym (o.knows id v me baton).2)

-- what each of some views owes
pub record Fair {H : FlowId → History} {ws : List Word} {views : List View} (o : Ordered H ws views) (made : ℕ)
    (v : View) : Type 0 where
  pub own : (k : ℕ) (t : Turn) → get_elem? v.turns k ≡ O.some t → of t.name o.order ≡ t.deeds
  pub knows : v.baton ≡ true → (v.base ≡ o.base) × (v.made ≡ made) × (v.words ≡ o.words)
  pub idle : v.baton ≡ false → v.turns ≡ [] → v.held ≡ []

-- other views, with the same sums
pub reordered : {H : FlowId → History} {ws : List Word} {views : List View} (o : Ordered H ws views) (vs : List View)
    (made : ℕ) → o.made ≤ made
    → ((p : ℕ) → total (named p) vs + once_below p o.made ≡ total (named p) views + once_below p made)
    → ((k : ℕ) → total (lost_on k) vs ≡ total (lost_on k) views)
    → ((k : ℕ) → total (won_on k) vs ≡ total (won_on k) views)
    → total (λ v. flag v.baton) vs ≡ total (λ v. flag v.baton) views
    → ((j : ℕ) (v : View) → get_elem? vs j ≡ O.some v → Fair o made v) → Ordered H ws vs
reordered o vs made more names lost won batons each = record {
  base = o.base;
  words = o.words;
  order = o.order;
  made = made;
  run = o.run;
  now = o.now;
  pins = λ k. omega (arith, o.pins k, lost k, won k);
  same = λ z. o.same (omega arith);
  wide = o.wide;
  own = λ j v e. (each j v e).own;
  names = λ p. omega (arith, names p, o.names p);
  unborn = λ p le. o.unborn p (omega arith);
  one_baton = batons ∙ o.one_baton;
  knows = λ j v e. (each j v e).knows;
  idle = λ j v e. (each j v e).idle;
}

pub fair : {H : FlowId → History} {ws : List Word} {views : List View} (o : Ordered H ws views) (j : ℕ) (v : View)
    → get_elem? views j ≡ O.some v → Fair o o.made v
fair o j v e = record { own = o.own j v e; knows = o.knows j v e; idle = o.idle j v e }

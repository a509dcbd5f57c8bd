-- Passes are split and joined, and turns and the baton go from view to view.
use Rattle.std.proofs.Common.{◌≡◌, ◌≢◌, ℕ, suc, ◌+◌, ◌<◌, ◌≤◌, true, false, eqb, cond, List, [], ◌∷◌, ◌++◌, length}
use Rattle.std.proofs.Common.{get_or, set, sym, refl, ap, ◌∙◌, subst, ⊎_elim, arith, true≢false}
use Rattle.std.specs.Prelude.{Option}
use mathlib.Core.Option as O
use mathlib.Core.Option.{some-injective, some-ne-none}
use lib.ListN.{get_elem?}
use Rattle.atomic_table.specs.Table.{State, Me, step, keeps, Allows, Splits, Joins}
use Rattle.atomic_table.proofs.Lists.{at_set, at_snoc}
use Rattle.tas_model.specs.declared.entry.FlowId.{FlowId}
use Rattle.flow_lock.specs.Words.{flag}
use Rattle.flow_lock.specs.Histories.{Begins}
use Rattle.flow_lock.specs.Orders.{total, at_slot, once_below, named, won_on, lost_on, of, played, IsRun, Ordered}
use Rattle.flow_lock.specs.Claims.{pins_on, holds_on, outs_on, Fits, Lawful, Knows, in_span}
use Rattle.flow_lock.specs.Steps.{HasAll}
use Rattle.flow_lock.specs.Plays.{tallies, learns}
use Rattle.flow_lock.specs.Passes.{new_turn, left, right, both, lender, lent, peeled, peel, with_turns, without_baton}
use Rattle.flow_lock.specs.Passes.{baton_of, with_baton, spent}
use Rattle.flow_lock.specs.declared.view.View.{View}
use Rattle.flow_lock.specs.declared.view.Held.{Held}
use Rattle.flow_lock.specs.declared.view.History.{History}
use Rattle.flow_lock.specs.declared.view.Turn.{Turn}
use Rattle.flow_lock.proofs.Sums.{total-set, term_le, total-append, total_one, in_both, one_only, set_same}
use Rattle.flow_lock.proofs.Ordering.{one_more, no_baton, learnt_order, learnt_wide, Fair, fair, reordered}
use Rattle.flow_lock.proofs.Changes.{changes, found_word, fits_same}
use Rattle.flow_lock.proofs.Pinning.{seen}

module _ {R : Type 0} (flow : R → FlowId) (history : R → History) where
  abbrev Law : State (Option R) View → Type 0
  Law = Lawful flow history

  -- other views, with the same sums
  regrouped : (s : State (Option R) View) (r : Law s) (vs : List View)
      → ((i : ℕ) → total (pins_on i) vs ≡ total (pins_on i) s.views)
      → ((i : ℕ) → total (holds_on i) vs ≡ total (holds_on i) s.views)
      → ((i : ℕ) → total (outs_on i) vs ≡ total (outs_on i) s.views)
      → ((f : FlowId) (p : ℕ)
      → total (λ v. total (in_span f p) v.mine) vs ≡ total (λ v. total (in_span f p) v.mine) s.views)
      → total (λ v. v.parts) vs ≡ total (λ v. v.parts) s.views
      → total (λ v. flag v.slow) vs ≡ total (λ v. flag v.slow) s.views → Ordered r.H r.ws vs
      → ((j : ℕ) (v : View) → get_elem? vs j ≡ O.some v → Fits r.ws v × Knows r.H v)
      → Law (record { words = s.words; homes = s.homes; views = vs })
  regrouped s r vs pins holds outs mine parts slow ordered each = record {
    ws = r.ws;
    H = r.H;
    words = r.words;
    wide = r.wide;
    small = r.small;
    pinned = λ i w e. pins i ∙ r.pinned i w e;
    busy = λ i w e. holds i ∙ r.busy i w e;
    dead = r.dead;
    home = λ i w e alive idle. let h = r.home i w e alive idle in
        record { item = h.item; there = h.there; named = h.named; listed = h.listed };
    empty = λ i w e gone none_out. r.empty i w e gone (sym (outs i) ∙ none_out);
    fits = λ j v e. (each j v e).0;
    knows = λ j v e. (each j v e).1;
    mine = λ f p. mine f p ∙ r.mine f p;
    parts = parts ∙ r.parts;
    one_slow = slow ∙ r.one_slow;
    fresh = r.fresh;
    ordered = ordered;
  }

  -- what each of some views owes
  abbrev Owed : (s : State (Option R) View) (r : Lawful flow history s) (made : ℕ) → View → Type 0
  Owed s r made v = Fits r.ws v × Knows r.H v × Fair r.ordered made v

  -- what is counted of two views is counted of a third
  pub record Sums (a b c : View) : Type 0 where
    pub pins : (i : ℕ) → pins_on i a + pins_on i b ≡ pins_on i c
    pub holds : (i : ℕ) → holds_on i a + holds_on i b ≡ holds_on i c
    pub outs : (i : ℕ) → outs_on i a + outs_on i b ≡ outs_on i c
    pub mine : (f : FlowId) (p : ℕ)
        → total (in_span f p) a.mine + total (in_span f p) b.mine ≡ total (in_span f p) c.mine
    pub parts : a.parts + b.parts ≡ c.parts
    pub slow : flag a.slow + flag b.slow ≡ flag c.slow
    pub lost : (i : ℕ) → lost_on i a + lost_on i b ≡ lost_on i c
    pub won : (i : ℕ) → won_on i a + won_on i b ≡ won_on i c
    pub baton : flag a.baton + flag b.baton ≡ flag c.baton

  -- a view is cut in two
  halves : (s : State (Option R) View) (r : Law s) (id : ℕ) (v a b : View) (made : ℕ) → get_elem? s.views id ≡ O.some v
      → r.ordered.made ≤ made → Sums a b v
      → ((p : ℕ) → named p a + named p b + once_below p r.ordered.made ≡ named p v + once_below p made)
      → Owed s r made a → Owed s r made b
      → ((j : ℕ) (u : View) → j ≢ id → get_elem? s.views j ≡ O.some u → u.baton ≡ true → u.made ≡ made)
      → Law (record { words = s.words; homes = s.homes; views = set s.views id a ++ b ∷ [] })
  halves s r id v a b made at more sums names owed_a owed_b others =
      let vs = set s.views id a ++ b ∷ [] in
      let n : (g : View → ℕ) → total g vs + g v ≡ total g s.views + g a + g b =
      λ g. omega (arith, total-append g (set s.views id a) (b ∷ []), total-set g s.views id v a at) in
      let each : (j : ℕ) (u : View) → get_elem? vs j ≡ O.some u → Owed s r made u = λ j u e. ⊎_elim
      (λ q. ⊎_elim
      (λ (t : (j ≡ id) × (a ≡ u)). subst (Owed s r made) t.1 owed_a)
      (λ t. let f = fair r.ordered j u t.1 in (
        r.fits j u t.1,
        r.knows j u t.1,
        record {
          own = f.own;
          knows = λ is. let k = f.knows is in
              (k.0, others j u t.0 t.1 is, k.2);
          idle = f.idle;
        },
      ))
      (at_set s.views id j a u q))
      (λ (q : b ≡ u). subst (Owed s r made) q owed_b)
      (at_snoc (set s.views id a) b u j e) in
      regrouped s r vs (λ i. omega (arith, n (pins_on i), sums.pins i))
      (λ i. omega (arith, n (holds_on i), sums.holds i)) (λ i. omega (arith, n (outs_on i), sums.outs i))
      (λ x p. omega (arith, n (λ y. total (in_span x p) y.mine), sums.mine x p)) (let z = sums.parts in
      omega (arith, n (λ y. y.parts))) (let z = sums.slow in omega (arith, n (λ y. flag y.slow)))
      (reordered r.ordered vs made more (λ p. omega (arith, n (named p), names p))
      (λ k. omega (arith, n (lost_on k), sums.lost k)) (λ k. omega (arith, n (won_on k), sums.won k))
      (let z = sums.baton in omega (arith, n (λ y. flag y.baton))) (λ j u e. (each j u e).2))
      (λ j u e. ((each j u e).0, (each j u e).1))

  nothing : (s : State (Option R) View) (r : Law s) (made : ℕ) → Owed s r made spent
  nothing s r made = (
    record {
      pins = λ m x z. absurd (some-ne-none x (sym z));
      once = λ i. omega arith;
      paid = λ i. omega arith;
      held = λ i. omega arith;
      bears = λ m x z. absurd (some-ne-none x (sym z));
      marks =
          λ z. absurd (true≢false (sym z));
      quick = λ _ i. refl;
      spent = λ z. refl;
    },
    record { held = λ m x z. absurd (some-ne-none x (sym z)); seen = λ m x z. absurd (some-ne-none x (sym z)) },
    record {
      own = λ m x z. absurd (some-ne-none x (sym z));
      knows = λ z. absurd (true≢false (sym z));
      idle = λ _ _. refl;
    },
  )

  -- two views are put together, and one of them is spent
  joined : (s : State (Option R) View) (r : Law s) (id other : ℕ) (v w u : View) → get_elem? s.views id ≡ O.some v
      → ¬ (other ≡ id) → get_elem? (set s.views id u) other ≡ O.some w → Sums v w u
      → ((p : ℕ) → named p u ≡ named p v + named p w)
      → (get_elem? s.views other ≡ O.some w → Owed s r r.ordered.made u)
      → Law (record { words = s.words; homes = s.homes; views = set (set s.views id u) other spent })
  joined s r id other v w u at apart there sums names owed =
      let vs = set (set s.views id u) other spent in
      let was : get_elem? s.views other ≡ O.some w =
      ⊎_elim (λ (t : (other ≡ id) × (u ≡ w)). absurd (apart t.0)) (λ t. t.1) (at_set s.views id other u w there) in
      let n : (g : View → ℕ) → total g vs + g v + g w ≡ total g s.views + g u + g spent =
      λ g. omega (arith, total-set g s.views id v u at, total-set g (set s.views id u) other w spent there) in
      let each : (j : ℕ) (y : View) → get_elem? vs j ≡ O.some y → Owed s r r.ordered.made y = λ j y e. ⊎_elim
      (λ (t : (j ≡ other) × (spent ≡ y)). subst (Owed s r r.ordered.made) t.1 (nothing s r r.ordered.made))
      (λ q. ⊎_elim
      (λ (t : (j ≡ id) × (u ≡ y)). subst (Owed s r r.ordered.made) t.1 (owed was))
      (λ t. (r.fits j y t.1, r.knows j y t.1, fair r.ordered j y t.1))
      (at_set s.views id j u y q.1))
      (at_set (set s.views id u) other j spent y e) in
      regrouped s r vs (λ i. omega (arith, n (pins_on i), sums.pins i))
      (λ i. omega (arith, n (holds_on i), sums.holds i)) (λ i. omega (arith, n (outs_on i), sums.outs i))
      (λ x p. omega (arith, n (λ y. total (in_span x p) y.mine), sums.mine x p)) (let z = sums.parts in
      omega (arith, n (λ y. y.parts))) (let z = sums.slow in omega (arith, n (λ y. flag y.slow)))
      (reordered r.ordered vs r.ordered.made (omega arith) (λ p. omega (arith, n (named p), names p))
      (λ k. omega (arith, n (lost_on k), sums.lost k)) (λ k. omega (arith, n (won_on k), sums.won k))
      (let z = sums.baton in omega (arith, n (λ y. flag y.baton))) (λ j y e. (each j y e).2))
      (λ j y e. ((each j y e).0, (each j y e).1))

  -- a view that has nothing but turns
  turns_only : (s : State (Option R) View) (r : Law s) (made : ℕ) (ts : List Turn)
      → ((k : ℕ) (t : Turn) → get_elem? ts k ≡ O.some t → of t.name r.ordered.order ≡ t.deeds)
      → Owed s r made (record spent { turns = ts })
  turns_only s r made ts own = let z = nothing s r made in (
    record {
      pins = z.0.pins;
      once = z.0.once;
      paid = z.0.paid;
      held = z.0.held;
      bears = z.0.bears;
      marks = z.0.marks;
      quick = z.0.quick;
      spent = z.0.spent;
    },
    record { held = z.1.held; seen = z.1.seen },
    record { own = own; knows = z.2.knows; idle = λ _ _. refl },
  )

  new_turn_own : (s : State (Option R) View) (r : Law s) (v : View) → v.made ≡ r.ordered.made → (k : ℕ) (t : Turn)
      → get_elem? (new_turn v.made ∷ []) k ≡ O.some t → of t.name r.ordered.order ≡ t.deeds
  new_turn_own s r v is k t e = one_only (λ (y : Turn). of y.name r.ordered.order ≡ y.deeds) k (new_turn v.made) t
      (r.ordered.unborn v.made (omega arith)) e

  -- who has the baton makes one turn more
  one_turn : (s : State (Option R) View) (r : Law s) (v : View) (a : View) → v.made ≡ r.ordered.made → (p : ℕ)
      → named p a ≡ named p v → named p a + (cond {A = ℕ} (eqb v.made p) 1 0 + 0) + once_below p r.ordered.made
      ≡ named p v + once_below p (r.ordered.made + 1)
  one_turn s r v a is p same = let d : cond {A = ℕ} (eqb v.made p) 1 0 ≡ cond {A = ℕ} (eqb r.ordered.made p) 1 0 =
      ap (λ m. cond {A = ℕ} (eqb m p) 1 0) is in omega (arith, one_more p r.ordered.made)

  pub splits : (id : ℕ) (v : View) → v.baton ≡ true → 1 < v.parts → Splits Law id v (left v) (right v)
  splits id v baton some_parts s r at =
      let f = r.fits id v at in
      let k = r.knows id v at in
      let o = fair r.ordered id v at in
      let mine = o.knows baton in
      halves s r id v (left v) (right v) (r.ordered.made + 1) at (omega arith)
      (record {
        pins = λ i. omega arith;
        holds = λ i. omega arith;
        outs = λ i. omega arith;
        mine = λ x p. omega arith;
        parts = omega arith;
        slow = omega arith;
        lost = λ i. omega arith;
        won = λ i. omega arith;
        baton =
            omega arith;
      })
      (λ p. one_turn s r v (left v) mine.1 p refl) (
        record {
          pins = f.pins;
          once = f.once;
          paid = λ i. omega (arith, f.once i);
          held = f.held;
          bears = f.bears;
          marks = f.marks;
          quick = f.quick;
          spent = λ z. absurd (omega arith);
        },
        record { held = k.held; seen = k.seen },
        record { own = o.own; knows = λ _. (mine.0, ap (λ m. m + 1) mine.1, mine.2); idle = o.idle },
      ) (
        record {
          pins = λ m x z. absurd (some-ne-none x (sym z));
          once = λ i. omega arith;
          paid = λ i. omega arith;
          held = λ i. omega arith;
          bears = λ m x z. absurd (some-ne-none x (sym z));
          marks =
              λ z. absurd (true≢false (sym z));
          quick = λ _ i. refl;
          spent = λ z. refl;
        },
        record { held = λ m x z. absurd (some-ne-none x (sym z)); seen = k.seen },
        record { own = new_turn_own s r v mine.1; knows = λ z. absurd (true≢false (sym z)); idle = λ _ _. refl },
      )
      (λ j u ne e is. absurd (no_baton r.H r.ws s.views id v at r.ordered baton j u ne e is))

  pub lends : (id : ℕ) (v : View) → v.baton ≡ true → Splits Law id v (lender v) (lent v)
  lends id v baton s r at =
      let f = r.fits id v at in
      let k = r.knows id v at in
      let o = fair r.ordered id v at in
      let mine = o.knows baton in
      halves s r id v (lender v) (lent v) (r.ordered.made + 1) at (omega arith)
      (record {
        pins = λ i. omega arith;
        holds = λ i. omega arith;
        outs = λ i. omega arith;
        mine = λ x p. omega arith;
        parts = omega arith;
        slow = omega arith;
        lost = λ i. omega arith;
        won = λ i. omega arith;
        baton =
            omega arith;
      })
      (λ p. one_turn s r v (lender v) mine.1 p refl) (
        record {
          pins = f.pins;
          once = f.once;
          paid = f.paid;
          held = f.held;
          bears = f.bears;
          marks = f.marks;
          quick = f.quick;
          spent = f.spent;
        },
        record { held = k.held; seen = k.seen },
        record { own = o.own; knows = λ _. (mine.0, ap (λ m. m + 1) mine.1, mine.2); idle = o.idle },
      )
      (turns_only s r (r.ordered.made + 1) (new_turn v.made ∷ []) (new_turn_own s r v mine.1))
      (λ j u ne e is. absurd (no_baton r.H r.ws s.views id v at r.ordered baton j u ne e is))

  pub peels : (id : ℕ) (v : View) → v.held ≡ [] → Splits Law id v (peeled v) (peel v)
  peels id v free s r at =
      let f = r.fits id v at in
      let k = r.knows id v at in
      let o = fair r.ordered id v at in
      halves s r id v (peeled v) (peel v) r.ordered.made at (omega arith)
      (record {
        pins = λ i. omega arith;
        holds = λ i. omega arith;
        outs = λ i. omega arith;
        mine = λ x p. omega arith;
        parts = omega arith;
        slow = omega arith;
        lost = λ i. omega arith;
        won = λ i. omega arith;
        baton =
            omega arith;
      })
      (λ p. omega arith) (
        record {
          pins = f.pins;
          once = f.once;
          paid = f.paid;
          held = f.held;
          bears = f.bears;
          marks = f.marks;
          quick = f.quick;
          spent = f.spent;
        },
        record { held = k.held; seen = k.seen },
        record { own = λ m x z. absurd (some-ne-none x (sym z)); knows = o.knows; idle = λ _ _. free },
      )
      (turns_only s r r.ordered.made v.turns o.own)
      (λ j u ne e is. ((fair r.ordered j u e).knows is).1)

  pub yields : (id : ℕ) (v : View) → v.baton ≡ true → v.held ≡ [] → Splits Law id v (without_baton v) (baton_of v)
  yields id v baton free s r at =
      let f = r.fits id v at in
      let k = r.knows id v at in
      let o = fair r.ordered id v at in
      let one : flag v.baton ≡ 1 = ap flag baton in
      let z = nothing s r r.ordered.made in
      halves s r id v (without_baton v) (baton_of v) r.ordered.made at (omega arith)
      (record {
        pins = λ i. omega arith;
        holds = λ i. omega arith;
        outs = λ i. omega arith;
        mine = λ x p. omega arith;
        parts = omega arith;
        slow = omega arith;
        lost = λ i. omega arith;
        won = λ i. omega arith;
        baton =
            omega arith;
      })
      (λ p. omega arith) (
        record {
          pins = f.pins;
          once = f.once;
          paid = f.paid;
          held = f.held;
          bears = f.bears;
          marks = f.marks;
          quick = f.quick;
          spent = f.spent;
        },
        record { held = k.held; seen = k.seen },
        record { own = o.own; knows = λ q. absurd (true≢false (sym q)); idle = λ _ _. free },
      ) (
        record {
          pins = z.0.pins;
          once = z.0.once;
          paid = z.0.paid;
          held = z.0.held;
          bears = z.0.bears;
          marks = z.0.marks;
          quick = z.0.quick;
          spent = z.0.spent;
        },
        record { held = z.1.held; seen = z.1.seen },
        record { own = z.2.own; knows = λ _. o.knows baton; idle = λ _ _. refl },
      )
      (λ j u ne e is. ((fair r.ordered j u e).knows is).1)

  -- no turns in front of others
  front : (xs ys : List Turn) → xs ++ ys ≡ [] → xs ≡ []
  front [] ys e = refl
  front (x ∷ xs) ys e = absurd (let n : suc (length (xs ++ ys)) ≡ 0 = ap (length {A = Turn}) e in omega arith)

  pub joins : (id other : ℕ) (v w : View) → w.slow ≡ false → w.baton ≡ false → w.pins ≡ [] → w.held ≡ []
      → Joins Law id v other w (both v w) spent
  joins id other v w quick plain no_pins no_held s r at apart there =
      let u = both v w in
      let np : (i : ℕ) → pins_on i w ≡ 0 = λ i. ap (total (at_slot i)) no_pins in
      let nh : (i : ℕ) → holds_on i w ≡ 0 = λ i. ap (total (λ (h : Held). at_slot i h.flow)) no_held in
      let qw : flag w.slow ≡ 0 = ap flag quick in
      let pw : flag w.baton ≡ 0 = ap flag plain in
      let was : get_elem? s.views other ≡ O.some w =
      ⊎_elim (λ (t : (other ≡ id) × (u ≡ w)). absurd (apart t.0)) (λ t. t.1) (at_set s.views id other u w there) in
      let f = r.fits id v at in let fw = r.fits other w was in
      let k = r.knows id v at in let kw = r.knows other w was in
      let o = fair r.ordered id v at in let ow = fair r.ordered other w was in
      joined s r id other v w u at apart there
      (record {
        pins = λ i. omega (arith, np i);
        holds = λ i. omega (arith, nh i);
        outs = λ i. omega (arith, fw.quick quick i);
        mine = λ x p. sym (total-append (in_span x p) v.mine w.mine);
        parts = refl;
        slow = omega arith;
        lost = λ i. sym (total-append (λ (t : Turn). total (at_slot i) t.unpinned) v.turns w.turns);
        won = λ i. sym (total-append (λ (t : Turn). total (at_slot i) t.pinned) v.turns w.turns);
        baton = omega arith;
      })
      (λ p. total-append (λ (t : Turn). cond (eqb t.name p) 1 0) v.turns w.turns)
      (λ _. (
        record {
          pins = f.pins;
          once = f.once;
          paid = λ i. omega (arith, f.paid i);
          held = f.held;
          bears = f.bears;
          marks = f.marks;
          quick = f.quick;
          spent = λ z. let p : v.parts ≡ 0 = omega arith in let q : w.parts ≡ 0 = omega arith in
              (λ i. f.spent p i ++ fw.spent q i);
        },
        record {
          held = k.held;
          seen = λ m x z. in_both
              (λ (h : Held). Begins h.history (r.H h.flow)) v.seen w.seen m x k.seen kw.seen z;
        },
        record {
          own = λ m x z. in_both (λ (t : Turn). of t.name r.ordered.order
              ≡ t.deeds) v.turns w.turns m x o.own ow.own z;
          knows = o.knows;
          idle = λ q none_. o.idle q (front v.turns w.turns none_);
        },
      ))

  pub fetches : (id other : ℕ) (v w : View) (ts : List Turn) → w ≡ record spent { turns = ts }
      → Joins Law id v other w (with_turns v w) spent
  fetches id other v w ts is s r at apart there =
      let u = with_turns v w in
      let n : (g : View → ℕ) → g w ≡ g (record spent { turns = ts }) = λ g. ap g is in
      let was : get_elem? s.views other ≡ O.some w =
      ⊎_elim (λ (t : (other ≡ id) × (u ≡ w)). absurd (apart t.0)) (λ t. t.1) (at_set s.views id other u w there) in
      let f = r.fits id v at in
      let k = r.knows id v at in
      let o = fair r.ordered id v at in let ow = fair r.ordered other w was in
      joined s r id other v w u at apart there
      (record {
        pins = λ i. omega (arith, n (pins_on i));
        holds = λ i. omega (arith, n (holds_on i));
        outs = λ i. omega (arith, n (outs_on i));
        mine = λ x p. omega (arith, n (λ y. total (in_span x p) y.mine));
        parts = omega (arith, n (λ y. y.parts));
        slow = omega (arith, n (λ y. flag y.slow));
        lost = λ i. sym (total-append (λ (t : Turn). total (at_slot i) t.unpinned) v.turns w.turns);
        won = λ i. sym (total-append (λ (t : Turn). total (at_slot i) t.pinned) v.turns w.turns);
        baton = omega (arith, n (λ y. flag y.baton));
      })
      (λ p. total-append (λ (t : Turn). cond (eqb t.name p) 1 0) v.turns w.turns)
      (λ _. (
        record {
          pins = f.pins;
          once = f.once;
          paid = f.paid;
          held = f.held;
          bears = f.bears;
          marks = f.marks;
          quick = f.quick;
          spent = f.spent;
        },
        record { held = k.held; seen = k.seen },
        record {
          own = λ m x z. in_both (λ (t : Turn). of t.name r.ordered.order
              ≡ t.deeds) v.turns w.turns m x o.own ow.own z;
          knows = o.knows;
          idle = λ q none_. o.idle q (front v.turns w.turns none_);
        },
      ))

  pub accepts : (id other : ℕ) (v w b : View) → v.baton ≡ false → w ≡ baton_of b → b.baton ≡ true
      → Joins Law id v other w (with_baton v w) spent
  accepts id other v w b plain is has s r at apart there =
      let u = with_baton v w in
      let n : (g : View → ℕ) → g w ≡ g (baton_of b) = λ g. ap g is in
      let pv : flag v.baton ≡ 0 = ap flag plain in
      let was : get_elem? s.views other ≡ O.some w =
      ⊎_elim (λ (t : (other ≡ id) × (u ≡ w)). absurd (apart t.0)) (λ t. t.1) (at_set s.views id other u w there) in
      let f = r.fits id v at in
      let k = r.knows id v at in
      let o = fair r.ordered id v at in let ow = fair r.ordered other w was in
      joined s r id other v w u at apart there
      (record {
        pins = λ i. omega (arith, n (pins_on i));
        holds = λ i. omega (arith, n (holds_on i));
        outs = λ i. omega (arith, n (outs_on i));
        mine = λ x p. omega (arith, n (λ y. total (in_span x p) y.mine));
        parts = omega (arith, n (λ y. y.parts));
        slow = omega (arith, n (λ y. flag y.slow));
        lost = λ i. omega (arith, n (lost_on i));
        won = λ i. omega (arith, n (won_on i));
        baton = omega (arith, n (λ y. flag y.baton));
      })
      (λ p. omega (arith, n (named p)))
      (λ _. (
        record {
          pins = f.pins;
          once = f.once;
          paid = f.paid;
          held = f.held;
          bears = f.bears;
          marks = f.marks;
          quick = f.quick;
          spent = f.spent;
        },
        record { held = k.held; seen = k.seen },
        record {
          own = o.own;
          knows = λ _. ow.knows (ap (λ (y : View). y.baton) is);
          idle = λ q. absurd (true≢false q);
        },
      ))

  pub tallies_it : (slots id : ℕ) (me : Me (Option R) View) → 0 < slots
      → Allows Law slots id me 0 (λ n. n) (tallies (step slots 0 0 0 O.none) me)
  tallies_it slots id me near s r long at _ =
      let t = found_word flow history s r slots 0 long near in (
        me.0,
        keeps,
        tt,
        seen flow history true s r 0 id (get_or s.words 0 0) me.0 at t refl,
        ((let q = r.parts in omega (arith, term_le (λ (v : View). v.parts) s.views id me.0 at)), refl),
      )

  -- the barrier: all turns are back
  pub learns_it : (slots id : ℕ) (me : Me (Option R) View) → 0 < slots → HasAll me.0 → me.0.baton ≡ true
      → Allows Law slots id me 0 (λ n. n) (learns (step slots 0 0 0 O.none) me)
  learns_it slots id me near all baton s r long at _ =
      let t = found_word flow history s r slots 0 long near in
      let w = t.w in
      let o = r.ordered in
      let fits = r.fits id me.0 at in
      let k = r.knows id me.0 at in
      let mine = o.knows id me.0 at baton in
      let v' : View = record (me.0) { turns = []; made = 0; base = played me.0.base o.order; words = r.ws } in
      let l = learnt_order r.H r.ws s.views id me.0 at baton all o in (
        v',
        keeps,
        tt,
        changes flow history s r 0 id (get_or s.words 0 0) w w me.0 v' s.homes r.H (record {
          near = t.near;
          at = t.at;
          me = at;
          is = t.is;
          small = t.small;
          long = refl;
          elsewhere = λ k ne. refl;
          pins = refl;
          pins_else = λ k ne. refl;
          holds = refl;
          holds_else = λ k ne. refl;
          outs_else = λ k ne. refl;
          dead = r.dead 0 w t.at;
          home = λ alive idle. let h = r.home 0 w t.at alive idle in
              record { item = h.item; there = h.there; named = h.named; listed = h.listed };
          empty = λ gone none_out. r.empty 0 w t.at gone (let q = total-set (outs_on 0) s.views id me.0 v' at in
              omega arith);
          same_H = λ f ne. refl;
          my_fits = fits_same r.ws 0 w w v' t.at t.near refl refl refl
              (record {
                pins = fits.pins;
                once = fits.once;
                paid = fits.paid;
                held = fits.held;
                bears = fits.bears;
                marks = fits.marks;
                quick = fits.quick;
                spent = fits.spent;
              });
          others_fit = λ j u ne e. fits_same r.ws 0 w w u t.at t.near refl refl refl (r.fits j u e);
          my_knows = record { held = k.held; seen = k.seen };
          others_know = λ j u ne e. r.knows j u e;
          mine = λ f p. refl;
          parts = refl;
          slow = refl;
          ordered = subst (λ z. Ordered r.H z (set s.views id v')) (sym (set_same r.ws 0 w t.at)) l.0;
          fresh = λ x lt. r.fresh 0 w x t.at lt;
        }),
        (
          (
            o.order,
            (
              (λ m x e. o.own id me.0 at m x e),
              (λ p le. o.unborn p (subst (λ m. m ≤ p) mine.1 le)),
              subst (λ z. IsRun z o.order) (sym mine.0) o.run,
              refl,
            ),
          ),
          (
            l.1,
            (λ i x e. sym (r.busy i x e)
                ∙ total_one (holds_on i) s.views id me.0 at
                (λ j u ne q. ap (total (λ (h : Held). at_slot i h.flow)) (l.2 j u ne q))),
            fits.marks,
            learnt_wide r.H r.ws s.views id me.0 at baton o,
          ),
          refl,
        ),
      )

-- A step at one word, by one view, keeps the claims.
use Rattle.std.proofs.Common.{◌≡◌, ◌≢◌, ℕ, zero, suc, ◌+◌, ◌<◌, ◌≤◌, true, false, eqb, eq-eqb, ne_eqb, cond, List, []}
use Rattle.std.proofs.Common.{◌∷◌, map, length, get_or, set, sym, refl, ap, ◌∙◌, subst, ⊎_elim, arith, length-set}
use Rattle.std.specs.Prelude.{Option, None}
use Rattle.std.proofs.lemmas.List.{map-set}
use mathlib.Core.Option as O
use mathlib.Core.Option.{some-injective, some-ne-none}
use mathlib.Core.Logic.{dite}
use native.Mathlib.Decide.{ℕ_discrete}
use lib.ListN.{get_elem?}
use Rattle.atomic_table.specs.Table.{State}
use Rattle.atomic_table.proofs.Lists.{at_set, set_here, set_else}
use Rattle.flow_lock.specs.Words.{flag, code, word_of, mark_of, Small, word_at}
use Rattle.flow_lock.specs.Orders.{total, at_slot, once_below, Ordered}
use Rattle.flow_lock.specs.Steps.{IsAlone}
use Rattle.flow_lock.specs.Claims.{flow_at, pins_on, holds_on, outs_on, Bears, Fits, Home, Lawful, Knows, in_span}
use Rattle.flow_lock.specs.declared.word.Word.{Word}
use Rattle.tas_model.specs.declared.entry.FlowId.{FlowId}
use Rattle.flow_lock.specs.declared.view.View.{View}
use Rattle.flow_lock.specs.declared.view.Held.{Held}
use Rattle.flow_lock.specs.declared.view.History.{History}
use Rattle.flow_lock.proofs.Words.{reads_back}
use Rattle.flow_lock.proofs.Sums.{total-set, term_le, terms_le, total_below, set_same}
use Rattle.flow_lock.proofs.Ordering.{kept_order, alone}
use Rattle.flow_lock.proofs.Acting.{word_here}

pub coded_at : (ws : List Word) (i : ℕ) → i < length ws → (w : Word) × (get_elem? ws i ≡ O.some w)
    × (get_or (map code ws) i 0 ≡ code w)
coded_at [] i h = absurd (omega arith)
coded_at (x ∷ xs) zero h = (x, refl, refl)
coded_at (x ∷ xs) (suc i) h = coded_at xs i (omega arith)

pub hit_slot : (i : ℕ) (f : FlowId) → f.slot ≡ i → at_slot i f ≡ 1
hit_slot i f e = ap (λ b. cond b 1 0) (eq-eqb f.slot i e)

pub miss_slot : (i : ℕ) (f : FlowId) → f.slot ≢ i → at_slot i f ≡ 0
miss_slot i f ne = ap (λ b. cond b 1 0) (ne_eqb f.slot i ne)

-- the slot of a flow that a pin has is counted
pub has_some : (l : List FlowId) (k : ℕ) (f : FlowId) → get_elem? l k ≡ O.some f → 0 < total (at_slot f.slot) l
has_some l k f e = omega (arith, term_le (at_slot f.slot) l k f e, hit_slot f.slot f refl)

-- a word that keeps its generation and its life
pub still_bears : (ws : List Word) (i : ℕ) (w w' : Word) (f : FlowId) → get_elem? ws i ≡ O.some w → i < length ws
    → w'.generation ≡ w.generation → w'.live ≡ w.live → Bears ws f → Bears (set ws i w') f
still_bears ws i w w' f at near g l b = dite (ℕ_discrete f.slot i)
    (λ e. let same : w ≡ b.0 = some-injective w b.0 (sym at ∙ (ap (λ k. get_elem? ws k) (sym e) ∙ b.1)) in (
      w',
      subst (λ k. get_elem? (set ws i w') k ≡ O.some w') (sym e) (set_here ws i w' near),
      g
          ∙ (ap (λ (x : Word). x.generation) same ∙ b.2),
      l ∙ (ap (λ (x : Word). x.live) same ∙ b.3),
    ))
    (λ ne. (b.0, set_else ws i f.slot w' ne ∙ b.1, b.2, b.3))

-- at another slot
pub bears_else : (ws : List Word) (i : ℕ) (w' : Word) (f : FlowId) → f.slot ≢ i → Bears ws f → Bears (set ws i w') f
bears_else ws i w' f ne b = (b.0, set_else ws i f.slot w' ne ∙ b.1, b.2, b.3)

-- a view and the words after one of them changed
pub fits_after : (ws : List Word) (i : ℕ) (w' : Word) (u : View)
    → ((f : FlowId) → 0 < pins_on f.slot u → Bears ws f → Bears (set ws i w') f)
    → (u.slow ≡ true → get_elem? u.marks i ≡ O.some (mark_of w')) → Fits ws u → Fits (set ws i w') u
fits_after ws i w' u still marks fits = record {
  pins = λ k f e. still f (has_some u.pins k f e) (fits.pins k f e);
  once = fits.once;
  paid = fits.paid;
  held = fits.held;
  bears = λ k h e. still h.flow (omega (
    arith,
    fits.held h.flow.slot,
    term_le (λ (x : Held). at_slot h.flow.slot x.flow) u.held k h e,
    hit_slot h.flow.slot h.flow refl,
  ))
      (fits.bears k h e);
  marks = λ slow k x e. ⊎_elim
      (λ (t : (k ≡ i) × (w' ≡ x)). subst (λ (y : ℕ × Word). get_elem? u.marks y.0 ≡ O.some (mark_of y.1))
      (λ q. (sym t.0 q, t.1 q)) (marks slow))
      (λ t. fits.marks slow k x t.1)
      (at_set ws i k w' x e);
  quick = fits.quick;
  spent = fits.spent;
}

-- where the mark of the word stays
pub fits_same : (ws : List Word) (i : ℕ) (w w' : Word) (u : View) → get_elem? ws i ≡ O.some w → i < length ws
    → w'.generation ≡ w.generation → w'.live ≡ w.live → w'.doomed ≡ w.doomed → Fits ws u → Fits (set ws i w') u
fits_same ws i w w' u at near g l d fits = fits_after ws i w' u (λ f _. still_bears ws i w w' f at near g l)
    (λ slow. fits.marks slow i w at
    ∙ (λ q. O.some (record { generation = sym g q; live = sym l q; doomed = sym d q }))) fits

module _ {R : Type 0} (flow : R → FlowId) (history : R → History) where
  abbrev pub St : Type 0
  St = State (Option R) View

  abbrev pub Law : St → Type 0
  Law = Lawful flow history

  pub record Change (s : St) (r : Lawful flow history s) (i id n : ℕ) (w w' : Word) (v v' : View)
      (homes' : List (O.Option (Option R))) (H' : FlowId → History) : Type 0 where
    pub near : i < length r.ws
    pub at : get_elem? r.ws i ≡ O.some w
    pub me : get_elem? s.views id ≡ O.some v
    pub is : n ≡ code w'
    pub small : Small w'
    pub long : length homes' ≡ length s.homes
    pub elsewhere : (k : ℕ) → k ≢ i → get_elem? homes' k ≡ get_elem? s.homes k
    pub pins : w'.pins + pins_on i v ≡ w.pins + pins_on i v'
    pub pins_else : (k : ℕ) → k ≢ i → pins_on k v' ≡ pins_on k v
    pub holds : flag w'.busy + holds_on i v ≡ flag w.busy + holds_on i v'
    pub holds_else : (k : ℕ) → k ≢ i → holds_on k v' ≡ holds_on k v
    pub outs_else : (k : ℕ) → k ≢ i → outs_on k v' ≡ outs_on k v
    pub dead : w'.live ≡ false → (w'.pins ≡ 0) × (w'.busy ≡ false) × (w'.doomed ≡ false)
    pub home : w'.live ≡ true → w'.busy ≡ false → Home flow history H' homes' i w'
    pub empty : w'.live ≡ false → total (outs_on i) (set s.views id v') ≡ 0 → get_elem? homes' i ≡ O.some (O.some None)
    pub same_H : (f : FlowId) → f.slot ≢ i → H' f ≡ r.H f
    pub my_fits : Fits (set r.ws i w') v'
    pub others_fit : (j : ℕ) (u : View) → j ≢ id → get_elem? s.views j ≡ O.some u → Fits (set r.ws i w') u
    pub my_knows : Knows H' v'
    pub others_know : (j : ℕ) (u : View) → j ≢ id → get_elem? s.views j ≡ O.some u → Knows H' u
    pub mine : (f : FlowId) (p : ℕ)
        → total (in_span f p) v'.mine + once_below p (length (r.H f).entries)
        ≡ total (in_span f p) v.mine + once_below p (length (H' f).entries)
    pub parts : v'.parts ≡ v.parts
    pub slow : v'.slow ≡ v.slow
    pub fresh : (g : ℕ) → w'.generation < g → (H' (flow_at i g)).entries ≡ []
    pub ordered : Ordered H' (set r.ws i w') (set s.views id v')

  pub changes : (s : St) (r : Law s) (i id n : ℕ) (w w' : Word) (v v' : View) (homes' : List (O.Option (Option R)))
      (H' : FlowId → History) → Change s r i id n w w' v v' homes' H'
      → Law (record { words = set s.words i n; homes = homes'; views = set s.views id v' })
  changes s r i id n w w' v v' homes' H' c =
      let a : (g : View → ℕ) → total g (set s.views id v') + g v ≡ total g s.views + g v' =
      λ g. total-set g s.views id v v' c.me in
      record {
        ws = set r.ws i w';
        H = H';
        words = ap (λ (l : List ℕ). set l i n) r.words
            ∙ (ap (λ (k : ℕ). set (map code r.ws) i k) c.is ∙ sym (map-set code r.ws i w'));
        wide = c.long ∙ (r.wide ∙ sym (length-set r.ws i w'));
        small = λ k x e. ⊎_elim (λ (t : (k ≡ i) × (w' ≡ x)). subst Small t.1 c.small) (λ t. r.small k x t.1)
            (at_set r.ws i k w' x e);
        pinned = λ k x e. ⊎_elim
            (λ (t : (k ≡ i) × (w' ≡ x)). subst (λ (y : ℕ × Word). total (pins_on y.0) (set s.views id v') ≡ y.1.pins)
            (λ q. (sym t.0 q, t.1 q)) (let p = c.pins in omega (arith, a (pins_on i), r.pinned i w c.at)))
            (λ t. omega (arith, a (pins_on k), c.pins_else k t.0, r.pinned k x t.1))
            (at_set r.ws i k w' x e);
        busy = λ k x e. ⊎_elim
            (λ (t : (k ≡ i) × (w' ≡ x)).
            subst (λ (y : ℕ × Word). total (holds_on y.0) (set s.views id v') ≡ flag y.1.busy)
            (λ q. (sym t.0 q, t.1 q)) (let p = c.holds in omega (arith, a (holds_on i), r.busy i w c.at)))
            (λ t. omega (arith, a (holds_on k), c.holds_else k t.0, r.busy k x t.1))
            (at_set r.ws i k w' x e);
        dead = λ k x e gone. ⊎_elim
            (λ (t : (k ≡ i) × (w' ≡ x)). subst (λ (y : Word). y.live ≡ false
            → (y.pins ≡ 0) × (y.busy ≡ false) × (y.doomed ≡ false)) t.1 c.dead gone)
            (λ t. r.dead k x t.1 gone)
            (at_set r.ws i k w' x e);
        home = λ k x e alive idle. ⊎_elim
            (λ (t : (k ≡ i) × (w' ≡ x)). subst (λ (y : ℕ × Word). y.1.live ≡ true → y.1.busy ≡ false
            → Home flow history H' homes' y.0 y.1) (λ q. (sym t.0 q, t.1 q)) c.home alive idle)
            (λ t. let ne = t.0 in let m = r.home k x t.1 alive idle in record {
              item = m.item;
              there = c.elsewhere k ne ∙ m.there;
              named = m.named;
              listed = m.listed
                  ∙ sym (c.same_H (flow m.item) (λ q. ne (sym (ap (λ (f : FlowId). f.slot) m.named) ∙ q)));
            })
            (at_set r.ws i k w' x e);
        empty = λ k x e gone none_out. ⊎_elim
            (λ (t : (k ≡ i) × (w' ≡ x)). subst (λ (y : ℕ × Word). y.1.live ≡ false
            → total (outs_on y.0) (set s.views id v') ≡ 0
            → get_elem? homes' y.0 ≡ O.some (O.some None)) (λ q. (sym t.0 q, t.1 q)) c.empty gone none_out)
            (λ t. c.elsewhere k t.0 ∙ r.empty k x t.1 gone (omega (arith, a (outs_on k), c.outs_else k t.0)))
            (at_set r.ws i k w' x e);
        fits = λ j u e. ⊎_elim (λ (t : (j ≡ id) × (v' ≡ u)). subst (Fits (set r.ws i w')) t.1 c.my_fits)
            (λ t. c.others_fit j u t.0 t.1) (at_set s.views id j v' u e);
        knows = λ j u e. ⊎_elim (λ (t : (j ≡ id) × (v' ≡ u)). subst (Knows H') t.1 c.my_knows)
            (λ t. c.others_know j u t.0 t.1) (at_set s.views id j v' u e);
        mine = λ f p. omega (arith, a (λ y. total (in_span f p) y.mine), c.mine f p, r.mine f p);
        parts = let q = c.parts in let p = r.parts in omega (arith, a (λ y. y.parts));
        one_slow = let q : flag v'.slow ≡ flag v.slow = ap flag c.slow in let p = r.one_slow in
            omega (arith, a (λ y. flag y.slow));
        ordered = c.ordered;
        fresh = λ k x g e lt. ⊎_elim
            (λ (t : (k ≡ i) × (w' ≡ x)). subst (λ (y : ℕ × Word). y.1.generation < g
            → (H' (flow_at y.0 g)).entries ≡ []) (λ q. (sym t.0 q, t.1 q)) (c.fresh g) lt)
            (λ t. ap (λ (h : History). h.entries) (c.same_H (flow_at k g) t.0) ∙ r.fresh k x g t.1 lt)
            (at_set r.ws i k w' x e);
      }

  -- what is known of the word i
  pub record Found (s : St) (r : Lawful flow history s) (i : ℕ) : Type 0 where
    pub w : Word
    pub at : get_elem? r.ws i ≡ O.some w
    pub is : get_or s.words i 0 ≡ code w
    pub near : i < length r.ws
    pub few : w.pins ≤ 4097
    pub small : Small w
    pub back : word_of (get_or s.words i 0) ≡ w

  pub found_word : (s : St) (r : Law s) (slots i : ℕ) → length s.homes ≡ slots → i < slots → Found s r i
  found_word s r slots i long near =
      let wide = r.wide in
      let near' : i < length r.ws = omega arith in
      let t = coded_at r.ws i near' in
      let w = t.0 in
      let is : get_or s.words i 0 ≡ code w = ap (λ (l : List ℕ). get_or l i 0) r.words ∙ t.2 in
      let few : total (pins_on i) s.views ≤ total (λ v. v.parts) s.views =
      total_below (pins_on i) (λ v. v.parts) s.views (λ j v e. (r.fits j v e).paid i) in
      let p = r.pinned i w t.1 in
      let q = r.parts in
      let small = r.small i w t.1 in
      record {
        w = w;
        at = t.1;
        is = is;
        near = near';
        few = omega arith;
        small = small;
        back = ap word_of is
            ∙ reads_back w small;
      }

  -- only one view is the slow path's
  pub not_slow : (s : St) (r : Law s) (id j : ℕ) (v u : View) → get_elem? s.views id ≡ O.some v → v.slow ≡ true → j ≢ id
      → get_elem? s.views j ≡ O.some u → u.slow ≡ true → ⊥
  not_slow s r id j v u me slow ne e slow' =
      let a = terms_le (λ (y : View). flag y.slow) s.views id j v u ne me e in let b = r.one_slow in
      let c : flag v.slow ≡ 1 = ap flag slow in let d : flag u.slow ≡ 1 = ap flag slow' in absurd (omega arith)

  -- alone, the word that stands there is the one that is known
  pub known_word : (s : St) (r : Law s) (id i : ℕ) (v : View) (w : Word) → get_elem? s.views id ≡ O.some v
      → get_elem? r.ws i ≡ O.some w → IsAlone v → w ≡ word_at v.words i
  known_word s r id i v w me here is = sym (word_here r.ws i w here)
      ∙ ap (λ l. word_at l i) (sym (alone r.H r.ws s.views id v me r.ordered is).words)

  -- a step that leaves the word, all histories and what may be done: a look, and the moves of an empty slot
  pub rests : (s : St) (r : Law s) (i id n : ℕ) (w : Word) (v v' : View) (homes' : List (O.Option (Option R)))
      → i < length r.ws → get_elem? r.ws i ≡ O.some w → get_elem? s.views id ≡ O.some v → n ≡ code w
      → (v'.parts ≡ v.parts) × (v'.held ≡ v.held) × (v'.seen ≡ v.seen) × (v'.mine ≡ v.mine) × (v'.slow ≡ v.slow)
      × (v'.pins ≡ v.pins) × (v'.turns ≡ v.turns) × (v'.made ≡ v.made) × (v'.base ≡ v.base) × (v'.words ≡ v.words)
      × (v'.baton ≡ v.baton)
      → Fits r.ws v' → length homes' ≡ length s.homes → ((k : ℕ) → k ≢ i → get_elem? homes' k ≡ get_elem? s.homes k)
      → ((k : ℕ) → k ≢ i → outs_on k v' ≡ outs_on k v)
      → (w.live ≡ true → w.busy ≡ false → Home flow history r.H homes' i w)
      → (w.live ≡ false → total (outs_on i) (set s.views id v') ≡ 0 → get_elem? homes' i ≡ O.some (O.some None))
      → Law (record { words = set s.words i n; homes = homes'; views = set s.views id v' })
  rests s r i id n w v v' homes' near at me is kept fits long elsewhere outs home empty =
      changes s r i id n w w v v' homes' r.H (record {
        near = near;
        at = at;
        me = me;
        is = is;
        small = r.small i w at;
        long = long;
        elsewhere = elsewhere;
        pins = ap (λ l. w.pins + total (at_slot i) l) (sym kept.5);
        pins_else = λ k ne. ap (total (at_slot k)) kept.5;
        holds = ap (λ l. flag w.busy + total (λ (y : Held). at_slot i y.flow) l) (sym kept.1);
        holds_else = λ k ne. ap (total (λ (y : Held). at_slot k y.flow)) kept.1;
        outs_else = outs;
        dead = r.dead i w at;
        home = home;
        empty = empty;
        same_H = λ f ne. refl;
        my_fits = fits_same r.ws i w w v' at near refl refl refl fits;
        others_fit = λ j u ne e. fits_same r.ws i w w u at near refl refl refl (r.fits j u e);
        my_knows = let k = r.knows id v me in
            record {
              held = λ j x e. k.held j x (subst (λ l. get_elem? l j ≡ O.some x) kept.1 e);
              seen = λ j x e. k.seen j x (subst (λ l. get_elem? l j ≡ O.some x) kept.2 e);
            };
        others_know = λ j u ne e. r.knows j u e;
        mine = λ f p. ap (λ l. total (in_span f p) l + once_below p (length (r.H f).entries)) kept.3;
        parts = kept.0;
        slow = kept.4;
        ordered = subst (λ l. Ordered r.H l (set s.views id v')) (sym (set_same r.ws i w at))
            (kept_order r.H r.ws s.views id v v' me (kept.6, kept.7, kept.8, kept.9, kept.10) (λ q none_. kept.1
            ∙ r.ordered.idle id v me (sym kept.10 ∙ q) (sym kept.6 ∙ none_)) r.ordered);
        fresh = λ g lt. r.fresh i w g at lt;
      })

  -- a step that changes the pins of the word alone
  pub repins : (s : St) (r : Law s) (i id n : ℕ) (w w' : Word) (v v' : View) → i < length r.ws
      → get_elem? r.ws i ≡ O.some w → get_elem? s.views id ≡ O.some v → n ≡ code w' → Small w'
      → (w'.generation ≡ w.generation) × (w'.live ≡ w.live) × (w'.busy ≡ w.busy) × (w'.doomed ≡ w.doomed)
      × (w.live ≡ false → w'.pins ≡ 0)
      → w'.pins + pins_on i v ≡ w.pins + pins_on i v' → ((k : ℕ) → k ≢ i → pins_on k v' ≡ pins_on k v)
      → (v'.parts ≡ v.parts) × (v'.held ≡ v.held) × (v'.seen ≡ v.seen) × (v'.mine ≡ v.mine) × (v'.out ≡ v.out)
      × (v'.slow ≡ v.slow) → Fits r.ws v' → Ordered r.H (set r.ws i w') (set s.views id v')
      → Law (record { words = set s.words i n; homes = s.homes; views = set s.views id v' })
  repins s r i id n w w' v v' near at me is small same here else_ kept fits ordered =
      changes s r i id n w w' v v' s.homes r.H (record {
        near = near;
        at = at;
        me = me;
        is = is;
        small = small;
        long = refl;
        elsewhere = λ k ne. refl;
        pins = here;
        pins_else = else_;
        holds = let h : holds_on i v' ≡ holds_on i v = ap (total (λ (y : Held). at_slot i y.flow)) kept.1 in
            let b : flag w'.busy ≡ flag w.busy = ap flag same.2 in omega arith;
        holds_else = λ k ne. ap (total (λ (y : Held). at_slot k y.flow)) kept.1;
        outs_else = λ k ne. ap (total (λ (x : ℕ). cond (eqb x k) 1 0)) kept.4;
        dead = λ gone. let was : w.live ≡ false = sym same.1 ∙ gone in let d = r.dead i w at was in
            (same.4 was, same.2 ∙ d.1, same.3 ∙ d.2);
        home = λ alive idle. let h = r.home i w at (sym same.1 ∙ alive) (sym same.2 ∙ idle) in
            record {
              item = h.item;
              there = h.there;
              named = h.named ∙ (λ q. flow_at i (sym same.0 q));
              listed = h.listed;
            };
        empty = λ gone none_out. r.empty i w at (sym same.1 ∙ gone)
            (let o : outs_on i v' ≡ outs_on i v = ap (total (λ (x : ℕ). cond (eqb x i) 1 0)) kept.4 in
            omega (arith, total-set (outs_on i) s.views id v v' me));
        same_H = λ f ne. refl;
        my_fits = fits_same r.ws i w w' v' at near same.0 same.1 same.3 fits;
        others_fit = λ j u ne e. fits_same r.ws i w w' u at near same.0 same.1 same.3 (r.fits j u e);
        my_knows = let k = r.knows id v me in
            record {
              held = λ j x e. k.held j x (subst (λ l. get_elem? l j ≡ O.some x) kept.1 e);
              seen = λ j x e. k.seen j x (subst (λ l. get_elem? l j ≡ O.some x) kept.2 e);
            };
        others_know = λ j u ne e. r.knows j u e;
        mine = λ f p. ap (λ l. total (in_span f p) l + once_below p (length (r.H f).entries)) kept.3;
        parts = kept.0;
        slow = kept.5;
        ordered = ordered;
        fresh = λ g lt. r.fresh i w g at (subst (λ x. x < g) same.0 lt);
      })

-- Steps that move no record: look, pin, unpin, doom.
use Rattle.std.proofs.Common.{◌≡◌, ◌≢◌, ℕ, zero, suc, ◌+◌, ◌-◌, ◌/◌, ◌%◌, ◌<◌, ◌≤◌, Bool, true, false, eqb, eq-eqb}
use Rattle.std.proofs.Common.{ne_eqb, cond, List, [], ◌∷◌, get_or, set, sym, refl, ap, ◌∙◌, subst, arith, true≢false}
use Rattle.std.specs.Prelude.{Option}
use mathlib.Core.Option as O
use mathlib.Core.Option.{some-injective, some-ne-none}
use mathlib.Core.Logic.{dite}
use native.Mathlib.Decide.{ℕ_discrete}
use lib.ListN.{get_elem?}
use Rattle.atomic_table.specs.Table.{State, Me, step, keeps, stepped, Allows, Act, Valid, carried_after}
use Rattle.atomic_table.proofs.Lists.{exchanged}
use prog.Atomic.{either}
use Rattle.tas_model.specs.declared.entry.FlowId.{FlowId}
use Rattle.flow_lock.specs.Words.{code, word_of, word_at}
use Rattle.flow_lock.specs.Orders.{total, at_slot}
use Rattle.flow_lock.specs.Claims.{flow_at, pins_on, holds_on, outs_on, Bears, HasPin, Fits, Lawful}
use Rattle.flow_lock.specs.Steps.{MayAct, IsAlone, counted, is_held, looked, pin_more, pin_less, pinned, without}
use Rattle.flow_lock.specs.Steps.{unpinned}
use Rattle.flow_lock.specs.Plays.{glances, looks, tries, lets_go}
use Rattle.flow_lock.specs.declared.word.Word.{Word}
use Rattle.flow_lock.specs.declared.view.View.{View}
use Rattle.flow_lock.specs.declared.view.History.{History}
use Rattle.flow_lock.proofs.Words.{flag_le}
use Rattle.flow_lock.proofs.Sums.{term_le}
use Rattle.flow_lock.proofs.Ordering.{acts_order}
use Rattle.flow_lock.proofs.Acting.{word_act}
use Rattle.flow_lock.proofs.Changes.{hit_slot, miss_slot, Found, found_word, known_word, rests, repins}

pub without_here : (i : ℕ) (l : List FlowId) → total (at_slot i) (without i l) ≡ 0
without_here i [] = refl
without_here i (f ∷ fs) = dite (ℕ_discrete f.slot i)
    (λ e. subst (λ b. total (at_slot i) (cond b (without i fs) (f ∷ without i fs)) ≡ 0) (sym (eq-eqb f.slot i e))
    (without_here i fs))
    (λ ne. subst (λ b. total (at_slot i) (cond b (without i fs) (f ∷ without i fs)) ≡ 0) (sym (ne_eqb f.slot i ne))
    (omega (arith, miss_slot i f ne, without_here i fs)))

pub without_else : (i k : ℕ) (l : List FlowId) → k ≢ i → total (at_slot k) (without i l) ≡ total (at_slot k) l
without_else i k [] ne = refl
without_else i k (f ∷ fs) ne = dite (ℕ_discrete f.slot i)
    (λ e. subst (λ b. total (at_slot k) (cond b (without i fs) (f ∷ without i fs)) ≡ at_slot k f + total (at_slot k) fs)
    (sym (eq-eqb f.slot i e)) (omega (arith, miss_slot k f (λ h. ne (sym h ∙ e)), without_else i k fs ne)))
    (λ n. subst (λ b. total (at_slot k) (cond b (without i fs) (f ∷ without i fs)) ≡ at_slot k f + total (at_slot k) fs)
    (sym (ne_eqb f.slot i n)) (omega (arith, without_else i k fs ne)))

after_first : (i k : ℕ) (f : FlowId) (fs : List FlowId) (x : FlowId)
    → ((m : ℕ) → get_elem? (without i fs) m ≡ O.some x → (j : ℕ) × (get_elem? fs j ≡ O.some x))
    → get_elem? (f ∷ without i fs) k ≡ O.some x → (j : ℕ) × (get_elem? (f ∷ fs) j ≡ O.some x)
after_first i zero f fs x rest e = (0, e)
after_first i (suc k) f fs x rest e = let t = rest k e in (suc t.0, t.1)

pub without_part : (i : ℕ) (l : List FlowId) (x : FlowId) (k : ℕ) → get_elem? (without i l) k ≡ O.some x
    → (j : ℕ) × (get_elem? l j ≡ O.some x)
without_part i [] x k e = absurd (some-ne-none x (sym e))
without_part i (f ∷ fs) x k e = dite (ℕ_discrete f.slot i)
    (λ h. let t = without_part i fs x k
    (subst (λ b. get_elem? (cond b (without i fs) (f ∷ without i fs)) k ≡ O.some x) (eq-eqb f.slot i h) e) in
    (suc t.0, t.1))
    (λ n. after_first i k f fs x (without_part i fs x)
    (subst (λ b. get_elem? (cond b (without i fs) (f ∷ without i fs)) k ≡ O.some x) (ne_eqb f.slot i n) e))

pub has_one : (ws : List Word) (v : View) (f : FlowId) → Fits ws v → HasPin v f → pins_on f.slot v ≡ 1
has_one ws v f fits has = let a = term_le (at_slot f.slot) v.pins has.0 f has.1 in let b = fits.once f.slot in
    omega (arith, hit_slot f.slot f refl)

-- a view without its pin of the flow
pub unpinned_fits : (ws : List Word) (f : FlowId) (v : View) → holds_on f.slot v ≡ 0 → Fits ws v
    → Fits ws (unpinned f v)
unpinned_fits ws f v idle fits = let i : ℕ = f.slot in let gone : pins_on i (unpinned f v) ≡ 0 =
    without_here i v.pins in record {
      pins = λ k x e. let z = without_part i v.pins x k e in fits.pins z.0 x z.1;
      once = λ k. dite (ℕ_discrete k i) (λ e. subst (λ z. pins_on z (unpinned f v) ≤ 1) (sym e) (omega arith))
          (λ ne. omega (arith, without_else i k v.pins ne, fits.once k));
      paid = λ k. dite (ℕ_discrete k i) (λ e. subst (λ z. pins_on z (unpinned f v) ≤ v.parts) (sym e) (omega arith))
          (λ ne. omega (arith, without_else i k v.pins ne, fits.paid k));
      held = λ k. dite (ℕ_discrete k i)
          (λ e. subst (λ z. holds_on z v ≤ pins_on z (unpinned f v)) (sym e) (omega arith))
          (λ ne. omega (arith, without_else i k v.pins ne, fits.held k));
      bears = fits.bears;
      marks = fits.marks;
      quick = fits.quick;
      spent = fits.spent;
    }

pub counted_fits : (ws : List Word) (v : View) (i : ℕ) (w : Word) → Fits ws v → Fits ws (counted i w v)
counted_fits ws v i w f = record {
  pins = f.pins;
  once = f.once;
  paid = f.paid;
  held = f.held;
  bears = f.bears;
  marks = f.marks;
  quick = f.quick;
  spent = f.spent;
}

pub pinned_fits : (ws : List Word) (v : View) (f : FlowId) → 0 < v.parts → pins_on f.slot v ≡ 0 → Bears ws f → Fits ws v
    → Fits ws (pinned f v)
pinned_fits ws v f some_part none_ bears fits =
    let at : (i : ℕ) (n : ℕ) → 0 < n → pins_on i v ≤ n → at_slot i f + pins_on i v ≤ n =
    λ i n pos le. dite (ℕ_discrete f.slot i)
    (λ e. let z : pins_on i v ≡ 0 = subst (λ k. pins_on k v ≡ 0) e none_ in
    omega (arith, hit_slot i f e)) (λ ne. omega (arith, miss_slot i f ne)) in
    record {
      pins = one;
      once = λ i. at i 1 (omega arith) (fits.once i);
      paid = λ i. at i v.parts some_part (fits.paid i);
      held = λ i. omega (arith, fits.held i);
      bears = fits.bears;
      marks = fits.marks;
      quick = fits.quick;
      spent = fits.spent;
    }
  where
    one : (k : ℕ) (x : FlowId) → get_elem? (f ∷ v.pins) k ≡ O.some x → Bears ws x
    one zero x e = subst (Bears ws) (some-injective f x e) bears
    one (suc k) x e = fits.pins k x e

module _ {R : Type 0} (flow : R → FlowId) (history : R → History) where
  abbrev Law : State (Option R) View → Type 0
  Law = Lawful flow history

  abbrev pub Goes : State (Option R) View → ℕ → ℕ → Me (Option R) View → (ℕ → Me (Option R) View → Type 0) → ℕ → Type 0
  Goes s i id m then k = (w : View) × (a : Act (Option R)) × Valid s.homes m.1 a
      × Lawful flow history (stepped s i k id m.1 w a) × then (get_or s.words i 0) (w, carried_after m.1 a)

  -- what a number that was found says
  pub reads : (s : State (Option R) View) (r : Law s) (id i : ℕ) (v : View) → get_elem? s.views id ≡ O.some v
      → (t : Found flow history s r i)
      → (code (word_of (get_or s.words i 0)) ≡ get_or s.words i 0)
      × (IsAlone v → word_of (get_or s.words i 0) ≡ word_at v.words i)
  reads s r id i v at t = (ap code t.back ∙ sym t.is, λ is. t.back ∙ known_word flow history s r id i v t.w at t.at is)

  -- a step that counts, or not, and changes nothing else
  pub seen : (b : Bool) (s : State (Option R) View) (r : Law s) (i id n : ℕ) (v : View)
      → get_elem? s.views id ≡ O.some v → (t : Found flow history s r i) → n ≡ get_or s.words i 0
      → Law (record {
        words = set s.words i n;
        homes = s.homes;
        views = set s.views id (cond b v (counted i (word_of (get_or s.words i 0)) v));
      })
  seen true s r i id n v at t e = let w = t.w in
      rests flow history s r i id n w v v s.homes t.near t.at at (e ∙ t.is) (
        refl,
        refl,
        refl,
        refl,
        refl,
        refl,
        refl,
        refl,
        refl,
        refl,
        refl,
      ) (r.fits id v at) refl (λ k ne. refl) (λ k ne. refl)
      (λ alive idle. let h = r.home i w t.at alive idle in
      record { item = h.item; there = h.there; named = h.named; listed = h.listed })
      (λ gone none_out. r.empty i w t.at gone
      (let q = Rattle.flow_lock.proofs.Sums.total-set (outs_on i) s.views id v v at in omega arith))
  seen false s r i id n v at t e = let w = t.w in let v' = counted i (word_of (get_or s.words i 0)) v in
      rests flow history s r i id n w v v' s.homes t.near t.at at (e ∙ t.is) (
        refl,
        refl,
        refl,
        refl,
        refl,
        refl,
        refl,
        refl,
        refl,
        refl,
        refl,
      )
      (counted_fits r.ws v i (word_of (get_or s.words i 0)) (r.fits id v at)) refl (λ k ne. refl) (λ k ne. refl)
      (λ alive idle. let h = r.home i w t.at alive idle in
      record { item = h.item; there = h.there; named = h.named; listed = h.listed })
      (λ gone none_out. r.empty i w t.at gone
      (let q = Rattle.flow_lock.proofs.Sums.total-set (outs_on i) s.views id v v' at in omega arith))

  pub counts : (s : State (Option R) View) (r : Law s) (i id n : ℕ) (v : View) → get_elem? s.views id ≡ O.some v
      → (t : Found flow history s r i) → n ≡ get_or s.words i 0
      → Law (record {
        words = set s.words i n;
        homes = s.homes;
        views = set s.views id (counted i (word_of (get_or s.words i 0)) v);
      })
  counts = seen false

  pub looks_at : (slots id i : ℕ) (me : Me (Option R) View) → i < slots
      → Allows Law slots id me i (λ n. n) (looks (step slots i 0 0 O.none) me)
  looks_at slots id i me near s r long at _ =
      let t = found_word flow history s r slots i long near in
      let n : ℕ = get_or s.words i 0 in (
        looked i (word_of n) me.0,
        keeps,
        tt,
        seen (is_held i me.0.held) s r i id n me.0 at t refl,
        (reads s r id i me.0 at t, refl),
      )

  -- a load by a view that holds no record of the slot
  pub glances_at : (slots id i : ℕ) (me : Me (Option R) View) → i < slots
      → Allows Law slots id me i (λ n. n) (glances (step slots i 0 0 O.none) me)
  glances_at slots id i me near s r long at _ =
      let t = found_word flow history s r slots i long near in
      let n : ℕ = get_or s.words i 0 in (
        counted i (word_of n) me.0,
        keeps,
        tt,
        counts s r i id n me.0 at t refl,
        (
          reads s r id i me.0 at t,
          (let p : n % 65536 ≡ t.w.pins = ap (λ (x : Word). x.pins) t.back in let q = t.few in
              omega arith),
          refl,
        ),
      )

  pub tries_it : (slots id i old : ℕ) (me : Me (Option R) View) → i < slots → 0 < me.0.parts → pins_on i me.0 ≡ 0
      → (word_of old).live ≡ true → MayAct me.0
      → Allows Law slots id me i (λ n. either (eqb n old) (old + 1) n) (tries (step slots i old (old + 1) O.none) me)
  tries_it slots id i old me near some_part none_ live may s r long at _ =
      let t = found_word flow history s r slots i long near in
      let w = t.w in
      let n : ℕ = get_or s.words i 0 in
      let back : word_of n ≡ w = t.back in
      let seen' = counted i (word_of n) me.0 in
      let f : FlowId = flow_at i (n / 4294967296) in
      exchanged n old (old + 1) (Goes s i id me (tries (step slots i old (old + 1) O.none) me))
      (λ hit. let w' : Word = pin_more w in
      let v' = pinned f seen' in
      let alive : w.live ≡ true = ap (λ (x : Word). x.live) (sym back) ∙ (ap (λ k. (word_of k).live) hit ∙ live) in
      let bears : Bears r.ws f = (w, t.at, ap (λ (x : Word). x.generation) (sym back), alive) in
      let few = t.few in
      let small = t.small in
      let is : n ≡ code w = t.is in
      let one : at_slot i f ≡ 1 = hit_slot i f refl in (
        v',
        keeps,
        tt,
        repins flow history s r i id (old + 1) w w' me.0 v' t.near t.at at (omega arith) (small.0, omega arith) (
          refl,
          refl,
          refl,
          refl,
          λ gone. absurd (true≢false (sym alive ∙ gone)),
        )
            (omega arith) (λ k ne. omega (arith, miss_slot k f (λ e. ne (sym e)))) (refl, refl, refl, refl, refl, refl)
            (pinned_fits r.ws seen' f some_part none_ bears (counted_fits r.ws me.0 i (word_of n) (r.fits id me.0 at)))
            (acts_order r.H r.H r.ws _ s.views id me.0 v' [] (f ∷ []) [] at
            (word_act r.H r.ws i w pin_more me.0 v' (f ∷ []) [] t.at t.near may (
              refl,
              refl,
              refl,
              refl,
              refl,
            ) (omega arith) (λ k ne. (refl, omega (arith, miss_slot k f (λ e. ne (sym e)))))) r.ordered),
        (reads s r id i me.0 at t, (λ _. refl), λ ne. absurd (ne hit)),
      ))
      (λ miss. (
        seen',
        keeps,
        tt,
        counts s r i id n me.0 at t refl,
        (reads s r id i me.0 at t, (λ e. absurd (miss e)), λ _. refl),
      ))

  -- the pin that a view has on a slot
  pub pin_is : (s : State (Option R) View) (r : Law s) (id : ℕ) (v : View) (f g : FlowId)
      → get_elem? s.views id ≡ O.some v → HasPin v f → HasPin v g → g.slot ≡ f.slot → f ≡ g
  pin_is s r id v f g at had has on =
      let a = (r.fits id v at).pins had.0 f had.1 in
      let b = (r.fits id v at).pins has.0 g has.1 in
      let same : a.0 ≡ b.0 = some-injective a.0 b.0 (sym a.1 ∙ (ap (get_elem? r.ws) (sym on) ∙ b.1)) in
      λ q. record { slot = sym on q; generation = (sym a.2 ∙ (ap (λ (x : Word). x.generation) same ∙ b.2)) q }

  pub lets_it_go : (slots id : ℕ) (f : FlowId) (me : Me (Option R) View) → f.slot < slots → HasPin me.0 f
      → holds_on f.slot me.0 ≡ 0 → MayAct me.0
      → Allows Law slots id me f.slot (λ n. (n + (18446744073709551616 - 1)) % 18446744073709551616)
      (lets_go (step slots f.slot 1 0 O.none) me)
  lets_it_go slots id f me near has idle may s r long at _ =
      let i : ℕ = f.slot in
      let t = found_word flow history s r slots i long near in
      let w = t.w in
      let n : ℕ = get_or s.words i 0 in
      let is : n ≡ code w = t.is in
      let few = t.few in
      let small = t.small in
      let fits = r.fits id me.0 at in
      let one : pins_on i me.0 ≡ 1 = has_one r.ws me.0 f fits has in
      let pins : total (pins_on i) s.views ≡ w.pins = r.pinned i w t.at in
      let some : 0 < w.pins = omega (arith, term_le (pins_on i) s.views id me.0 at) in
      let w' : Word = pin_less w in
      let v' = unpinned f me.0 in
      let gone : pins_on i v' ≡ 0 = without_here i me.0.pins in
      let on : at_slot i f ≡ 1 = hit_slot i f refl in
      let b = flag_le w.busy in let d = flag_le w.doomed in let l = flag_le w.live in (
        v',
        keeps,
        tt,
        repins flow history s r i id ((n + (18446744073709551616 - 1)) % 18446744073709551616) w w' me.0 v' t.near t.at
            at (omega arith) (small.0, omega arith)
            (refl, refl, refl, refl, λ dead. let z = r.dead i w t.at dead in absurd (omega (arith, z.0)))
            (omega arith) (λ k ne. without_else i k me.0.pins ne) (
              refl,
              refl,
              refl,
              refl,
              refl,
              refl,
            ) (unpinned_fits r.ws f me.0 idle fits)
            (acts_order r.H r.H r.ws _ s.views id me.0 v' [] [] (f ∷ []) at
            (word_act r.H r.ws i w pin_less me.0 v' [] (f ∷ []) t.at t.near may (
              refl,
              refl,
              refl,
              refl,
              refl,
            ) (omega arith) (λ k ne. (omega (arith, miss_slot k f (λ e. ne (sym e))), refl))) r.ordered),
        λ g had on'. let eq : f ≡ g = pin_is s r id me.0 f g at has had on' in
            let p : ◌≡◌ {A = Me (Option R) View} (unpinned f me.0, me.1) (unpinned g me.0, me.1) =
            λ q. (unpinned (eq q) me.0, me.1) in p,
      )

-- A table is made, a slot is opened and doomed.
use Rattle.std.proofs.Common.{◌≡◌, ◌≢◌, ℕ, zero, suc, ◌+◌, ◌<◌, ◌≤◌, Bool, true, false, eqb, eq-eqb, ne_eqb, cond, List}
use Rattle.std.proofs.Common.{[], ◌∷◌, map, length, get_or, set, sym, refl, ap, ◌∙◌, subst, inl, inr, ⊎_elim, arith}
use Rattle.std.proofs.Common.{true≢false, length-set}
use Rattle.std.specs.Prelude.{Option, Some, None, replicate, bit_or}
use mathlib.Core.Option as O
use mathlib.Core.Option.{some-injective, some-ne-none}
use mathlib.Core.Logic.{dite}
use native.Mathlib.Decide.{ℕ_discrete}
use lib.ListN.{get_elem?}
use Rattle.atomic_table.specs.Table.{State, Me, step, keeps, takes, gives, put_back, opening, Allows, rest}
use Rattle.atomic_table.proofs.Lists.{at_set, set_here, set_else}
use Rattle.tas_model.specs.declared.entry.Entry.{Entry}
use Rattle.tas_model.specs.declared.entry.FlowId.{FlowId}
use Rattle.flow_lock.specs.Words.{flag, code, dead_word, live_word, mark_of, Small}
use Rattle.flow_lock.specs.Histories.{unborn, no_history, Begins}
use Rattle.flow_lock.specs.Orders.{total, at_slot, known_of, played, of}
use Rattle.flow_lock.specs.Claims.{flow_at, pins_on, outs_on, Bears, HasPin, Fits, Lawful, Knows}
use Rattle.flow_lock.specs.Steps.{MayAct, deeds_of, mark, mark_at, condemned, emptied, opened, restored}
use Rattle.flow_lock.specs.Plays.{dooms, clears, opens, restores}
use Rattle.flow_lock.specs.Passes.{new_turn, first}
use Rattle.flow_lock.specs.declared.word.Word.{Word}
use Rattle.flow_lock.specs.declared.view.View.{View}
use Rattle.flow_lock.specs.declared.view.Held.{Held}
use Rattle.flow_lock.specs.declared.view.History.{History}
use Rattle.flow_lock.specs.declared.view.Mark.{Mark}
use Rattle.flow_lock.specs.declared.view.Turn.{Turn}
use Rattle.flow_lock.proofs.Sums.{total-set, term_le, total_none, at_copy, is_copy, at_below, at_index, one_only}
use Rattle.flow_lock.proofs.Sums.{first_or}
use Rattle.flow_lock.proofs.Histories.{after, after_same, after_else, after_other, still, more_seen, span_counts}
use Rattle.flow_lock.proofs.Ordering.{none_below, one_more, acts_order, signed, run_here, played_first, played_else}
use Rattle.flow_lock.proofs.Acting.{noted_none, word_act, history_act, Leaves}
use Rattle.flow_lock.proofs.Changes.{hit_slot, miss_slot, still_bears, bears_else, fits_after, changes, found_word}
use Rattle.flow_lock.proofs.Changes.{not_slow, rests}
use Rattle.flow_lock.proofs.Pinning.{pin_is}
use Rattle.flow_lock.proofs.Taking.{mine_of, came_out, or_doomed}

codes_none : (n : ℕ) → replicate n 0 ≡ map code (replicate n (dead_word 0))
codes_none zero = refl
codes_none (suc n) = ap (λ l. 0 ∷ l) (codes_none n)

as_long : {A B C : Type 0} (f : A → C) (n : ℕ) (x : A) (y : B) → length (map f (replicate n x)) ≡ length (replicate n y)
as_long f zero x y = refl
as_long f (suc n) x y = ap suc (as_long f n x y)

some_copy : {A : Type 0} (n : ℕ) (x : A) {B : Type 0} (y z : B) (i : ℕ) → get_elem? (replicate n y) i ≡ O.some z
    → get_elem? (map O.some (replicate n x)) i ≡ O.some (O.some x)
some_copy zero x y z i e = absurd (some-ne-none z (sym e))
some_copy (suc n) x y z zero e = refl
some_copy (suc n) x y z (suc i) e = some_copy n x y z i e

-- the one entry of a history
one_entry : (l : History) → length l.entries ≡ 1 → (x : Entry) × (l.entries ≡ x ∷ [])
one_entry l e = of_list l.entries e
  where
    of_list : (xs : List Entry) → length xs ≡ 1 → (x : Entry) × (xs ≡ x ∷ [])
    of_list [] e = absurd (omega arith)
    of_list (x ∷ []) e = (x, refl)
    of_list (x ∷ y ∷ ys) e = absurd (omega arith)

-- the deeds of an opening
opening_leaves : (H : FlowId → History) (f : FlowId) (l : History) → (H f).entries ≡ [] → length l.entries ≡ 1
    → Leaves H f l (deeds_of f (unborn l) l.entries)
opening_leaves H f l none_ one =
    let x = one_entry l one in record {
      run = λ A p all. run_here A p f (unborn l) l.entries
          (inr (refl, ap (λ (y : History). y.entries) (sym (all f)) ∙ none_));
      here = λ A p all. ap (λ z. known_of f (played A (signed p (deeds_of f (unborn l) z)))) x.1
          ∙ (played_first A p f (unborn l) x.0 [] ∙ (λ q. record l { entries = sym x.1 q }));
      else_ = λ A p g ne. played_else A p f g (unborn l) l.entries ne;
    }

module _ {R : Type 0} (flow : R → FlowId) (history : R → History) where
  abbrev Law : State (Option R) View → Type 0
  Law = Lawful flow history

  pub begins : (n : ℕ) → Law (opening (replicate n 0) (replicate n None) (first n))
  begins n =
      let d : Word = dead_word 0 in
      let is : (i : ℕ) (w : Word) → get_elem? (replicate n d) i ≡ O.some w → d ≡ w = λ i w e. at_copy n d w i e in
      record {
        ws = replicate n d;
        H = λ _. no_history;
        words = codes_none n;
        wide = as_long O.some n None d;
        small = λ i w e. subst Small (is i w e) (omega arith, omega arith);
        pinned = λ i w e. ap (λ (x : Word). x.pins) (is i w e);
        busy = λ i w e. ap (λ (x : Word). flag x.busy) (is i w e);
        dead = λ i w e gone. subst (λ (x : Word). (x.pins ≡ 0) × (x.busy ≡ false)
            × (x.doomed ≡ false)) (is i w e) (refl, refl, refl);
        home = λ i w e alive. absurd (true≢false (sym alive ∙ sym (ap (λ (x : Word). x.live) (is i w e))));
        empty = λ i w e gone none_out. some_copy n None d w i e;
        fits = λ j v e. one_only (Fits (replicate n d)) j (first n) v fits e;
        knows = λ j v e. one_only (Knows (λ _. no_history)) j (first n) v
            (record {
              held = λ k h q. absurd (some-ne-none h (sym q));
              seen = λ k h q. absurd (some-ne-none h (sym q));
            }) e;
        mine = λ f p. sym (none_below p);
        parts = refl;
        one_slow = refl;
        fresh = λ i w g e lt. refl;
        ordered = record {
          base = [];
          words = replicate n d;
          order = [];
          made = 1;
          run = tt;
          now = λ f. refl;
          pins = λ i. refl;
          same = λ z. absurd (omega arith);
          wide = refl;
          own = λ j v e. one_only (λ (y : View). (k : ℕ) (t : Turn) → get_elem? y.turns k ≡ O.some t
              → of t.name [] ≡ t.deeds) j (first n) v
              (λ k t q. one_only (λ (y : Turn). of y.name [] ≡ y.deeds) k (new_turn 0) t refl q) e;
          names = λ p. omega (arith, one_more p 0, none_below p);
          unborn = λ p le. refl;
          one_baton = refl;
          knows = λ j v e. one_only (λ (y : View). y.baton ≡ true
              → (y.base ≡ []) × (y.made ≡ 1) × (y.words ≡ replicate n d)) j (first n) v (λ _. (refl, refl, refl)) e;
          idle = λ j v e. one_only (λ (y : View). y.baton ≡ false → y.turns ≡ []
              → y.held ≡ []) j (first n) v (λ _ _. refl) e;
        };
      }
    where
      fits : Fits (replicate n (dead_word 0)) (first n)
      fits = record {
        pins = λ k f q. absurd (some-ne-none f (sym q));
        once = λ i. omega arith;
        paid = λ i. omega arith;
        held = λ i. omega arith;
        bears = λ k h q. absurd (some-ne-none h (sym q));
        marks = λ _ i w q. subst (λ (x : Word). get_elem? (replicate n (mark 0 false false)) i ≡ O.some (mark_of x))
            (at_copy n (dead_word 0) w i q) (is_copy n (dead_word 0) w Mark (mark 0 false false) i q);
        quick = λ z. absurd (true≢false z);
        spent = λ z. refl;
      }

  -- no other view has an empty value out
  pub no_outs : (s : State (Option R) View) (r : Law s) (id i : ℕ) (v : View) → get_elem? s.views id ≡ O.some v
      → v.slow ≡ true → outs_on i v ≡ 0 → total (outs_on i) s.views ≡ 0
  no_outs s r id i v at slow none_ = total_none (outs_on i) s.views (λ j u e. dite (ℕ_discrete j id)
      (λ same. subst (λ (y : View). outs_on i y ≡ 0)
      (some-injective v u (sym at ∙ (ap (λ k. get_elem? s.views k) (sym same) ∙ e))) none_)
      (λ ne. (r.fits j u e).quick (is_quick j u ne e u.slow refl) i))
    where
      is_quick : (j : ℕ) (u : View) → ¬ (j ≡ id) → get_elem? s.views j ≡ O.some u → (b : Bool) → u.slow ≡ b
          → u.slow ≡ false
      is_quick j u ne e true q = absurd (not_slow flow history s r id j v u at slow ne e q)
      is_quick j u ne e false q = q

  -- what the slow path's mark shows of the word
  pub marks_word : (s : State (Option R) View) (r : Law s) (id i : ℕ) (v : View) (w : Word) (m : Mark)
      → get_elem? s.views id ≡ O.some v → v.slow ≡ true → get_elem? r.ws i ≡ O.some w → get_elem? v.marks i ≡ O.some m
      → m ≡ mark_of w
  marks_word s r id i v w m at slow here e = some-injective m (mark_of w) (sym e ∙ (r.fits id v at).marks slow i w here)

  -- a view after its own mark of the slot changed
  pub marked : (ws : List Word) (i : ℕ) (w' : Word) (v : View) (m : Mark) → m ≡ mark_of w' → i < length v.marks
      → ((f : FlowId) → 0 < pins_on f.slot v → Bears ws f → Bears (set ws i w') f) → Fits ws v
      → Fits (set ws i w') (record v { marks = set v.marks i m })
  marked ws i w' v m is near bear fits = record {
    pins = λ k f e. bear f (let h = term_le (at_slot f.slot) v.pins k f e in let o = hit_slot f.slot f refl in
        omega arith) (fits.pins k f e);
    once = fits.once;
    paid = fits.paid;
    held = fits.held;
    bears = λ k h e. bear h.flow (omega (
      arith,
      fits.held h.flow.slot,
      term_le (λ (x : Held). at_slot h.flow.slot x.flow) v.held k h e,
      hit_slot h.flow.slot h.flow refl,
    ))
        (fits.bears k h e);
    marks = λ slow k x e. ⊎_elim
        (λ (t : (k ≡ i) × (w' ≡ x)). subst (λ (y : ℕ × Word). get_elem? (set v.marks i m) y.0 ≡ O.some (mark_of y.1))
        (λ q. (sym t.0 q, t.1 q)) (set_here v.marks i m near ∙ ap O.some is))
        (λ t. set_else v.marks i k m t.0 ∙ fits.marks slow k x t.1)
        (at_set ws i k w' x e);
    quick = fits.quick;
    spent = fits.spent;
  }

  pub clears_it : (slots id i : ℕ) (mk : Mark) (me : Me (Option R) View) → i < slots → me.0.slow ≡ true → me.0.out ≡ []
      → get_elem? me.0.marks i ≡ O.some mk → mk.live ≡ false
      → Allows Law slots id me i (λ n. n) (clears flow history (step slots i 0 0 O.none) me)
  clears_it slots id i mk me near slow none_ free off s r long at _ =
      let t = found_word flow history s r slots i long near in
      let w = t.w in
      let fits = r.fits id me.0 at in
      let m = marks_word s r id i me.0 w mk at slow t.at free in
      let gone : w.live ≡ false = ap (λ (x : Mark). x.live) (sym m) ∙ off in
      let home = r.empty i w t.at gone (no_outs s r id i me.0 at slow
      (ap (total (λ (x : ℕ). cond (eqb x i) 1 0)) none_)) in
      let v' = emptied i me.0 in
      let one : outs_on i v' ≡ 1 = ap (λ (b : Bool). cond {A = ℕ} b 1 0 + 0) (eq-eqb i i refl) in
      let here : outs_on i me.0 ≡ 0 = ap (total (λ (x : ℕ). cond (eqb x i) 1 0)) none_ in (
        v',
        takes i None,
        home,
        rests flow history s r i id (get_or s.words i 0) w me.0 v' (set s.homes i O.none) t.near t.at at t.is (
          refl,
          refl,
          refl,
          refl,
          refl,
          refl,
          refl,
          refl,
          refl,
          refl,
          refl,
        )
            (record {
              pins = fits.pins;
              once = fits.once;
              paid = fits.paid;
              held = fits.held;
              bears = fits.bears;
              marks = fits.marks;
              quick = λ q. absurd (true≢false (sym slow ∙ q));
              spent = fits.spent;
            })
            (length-set s.homes i O.none) (λ k ne. set_else s.homes i k O.none ne)
            (λ k ne. let z : outs_on k v' ≡ 0 = ap (λ (b : Bool). cond {A = ℕ} b 1 0 + 0)
            (ne_eqb i k (λ q. ne (sym q))) in let z' : outs_on k me.0 ≡ 0 =
            ap (total (λ (x : ℕ). cond (eqb x k) 1 0)) none_ in omega arith)
            (λ alive. absurd (true≢false (sym alive ∙ gone)))
            (λ _ none_out. absurd (let q = total-set (outs_on i) s.views id me.0 v' at in omega arith)),
        refl,
      )

  pub restores_it : (slots id i g : ℕ) (me : Me (Option R) View) → i < slots → me.0.slow ≡ true → me.0.out ≡ i ∷ []
      → get_elem? me.0.marks i ≡ O.some (mark g false false) → me.1 ≡ (i, None) ∷ rest me.1
      → Allows Law slots id me i (λ n. n) (restores flow history (step slots i 0 0 O.none) me)
  restores_it slots id i g me near slow out free carried s r long at _ =
      let t = found_word flow history s r slots i long near in
      let w = t.w in
      let fits = r.fits id me.0 at in
      let m = marks_word s r id i me.0 w (mark g false false) at slow t.at free in
      let gone : w.live ≡ false = ap (λ (x : Mark). x.live) (sym m) in
      let v' = restored me.0 in (
        v',
        gives,
        tt,
        subst (λ c. Law (record {
          words = set s.words i (get_or s.words i 0);
          homes = put_back s.homes c;
          views = set s.views id v';
        })) (sym carried)
            (rests flow history s r i id (get_or s.words i 0) w me.0 v'
            (set s.homes i (O.some None)) t.near t.at at t.is (
              refl,
              refl,
              refl,
              refl,
              refl,
              refl,
              refl,
              refl,
              refl,
              refl,
              refl,
            )
            (record {
              pins = fits.pins;
              once = fits.once;
              paid = fits.paid;
              held = fits.held;
              bears = fits.bears;
              marks = fits.marks;
              quick = λ _ k. refl;
              spent = fits.spent;
            })
            (length-set s.homes i (O.some None)) (λ k ne. set_else s.homes i k (O.some None) ne)
            (λ k ne. let z : outs_on k me.0 ≡ cond {A = ℕ} (eqb i k) 1 0 + 0 = ap
            (total (λ (x : ℕ). cond (eqb x k) 1 0)) out in
            let z' : cond {A = ℕ} (eqb i k) 1 0 ≡ 0 =
            ap (λ (b : Bool). cond {A = ℕ} b 1 0) (ne_eqb i k (λ q. ne (sym q))) in omega arith)
            (λ alive. absurd (true≢false (sym alive ∙ gone)))
            (λ _ none_out. set_here s.homes i (O.some None) (let z = r.wide in let z' = t.near in omega arith))),
        refl,
      )

  -- with no pin on the slot, none of the views has one
  no_pins : (s : State (Option R) View) (r : Law s) (i : ℕ) (w : Word) → get_elem? r.ws i ≡ O.some w → w.pins ≡ 0
      → (j : ℕ) (u : View) → get_elem? s.views j ≡ O.some u → pins_on i u ≡ 0
  no_pins s r i w here none_ j u e = let a = term_le (pins_on i) s.views j u e in let b = r.pinned i w here in
      omega arith

  pub opens_it : (slots id : ℕ) (mk : Mark) (f : FlowId) (item : R) (me : Me (Option R) View) → flow item ≡ f
      → length (history item).entries ≡ 1 → f.slot < slots → f.generation ≡ mk.generation + 1
      → f.generation < 4294967296
      → me.0.slow ≡ true → 0 < me.0.parts → me.0.out ≡ f.slot ∷ [] → get_elem? me.0.marks f.slot ≡ O.some mk
      → mk.live ≡ false → me.1 ≡ (f.slot, Some item) ∷ rest me.1 → MayAct me.0
      → (n : ℕ) → n ≡ code (live_word f.generation)
      → Allows Law slots id me f.slot (λ _. n) (λ _. opens flow history (step slots f.slot n 0 O.none) me n)
  opens_it slots id mk f item me named one near next bound slow some_part out free off carried may n is s r long at _ =
      let i : ℕ = f.slot in
      let l = history item in
      let t = found_word flow history s r slots i long near in
      let w = t.w in
      let fits = r.fits id me.0 at in
      let knows = r.knows id me.0 at in
      let m = marks_word s r id i me.0 w mk at slow t.at free in
      let gone : w.live ≡ false = ap (λ (x : Mark). x.live) (sym m) ∙ off in
      let aged : w.generation ≡ mk.generation = ap (λ (x : Mark). x.generation) (sym m) in
      let dead = r.dead i w t.at gone in
      let unpinned' = no_pins s r i w t.at dead.0 in
      let F : Word → Word = λ _. live_word f.generation in
      let w' : Word = live_word f.generation in
      let v' = opened f l me.0 in
      let H' = after r.H f l in
      let no_list : (r.H f).entries ≡ [] = r.fresh i w f.generation t.at (omega arith) in
      let more : Begins (r.H f) l = inl no_list in
      let here = hit_slot i f refl in
      let bear : (x : FlowId) (u : View) → pins_on i u ≡ 0 → 0 < pins_on x.slot u → Bears r.ws x
      → Bears (set r.ws i w') x =
      λ x u z pos. bears_else r.ws i w' x
      (λ q. absurd (let h : pins_on x.slot u ≡ 0 = subst (λ k. pins_on k u ≡ 0) (sym q) z in omega arith)) in
      let me_none = unpinned' id me.0 at in
      let k = marked r.ws i w' me.0 (mark f.generation true false) refl (at_below me.0.marks i mk free)
      (λ x. bear x me.0 me_none) fits in
      let fb : Bears (set r.ws i w') f = (w', set_here r.ws i w' t.near, refl, refl) in
      let sums : (j c : ℕ) → 0 < c → pins_on j me.0 ≤ c → at_slot j f + pins_on j me.0 ≤ c =
      λ j c pos le. dite (ℕ_discrete f.slot j)
      (λ e. let z : pins_on j me.0 ≡ 0 = subst (λ q. pins_on q me.0 ≡ 0) e me_none in
      omega (arith, hit_slot j f e)) (λ ne. omega (arith, miss_slot j f ne)) in
      let apart : (j : ℕ) (u : View) → get_elem? s.views j ≡ O.some u → (x : ℕ) (h : Held)
      → get_elem? u.held x ≡ O.some h → f.slot ≢ h.flow.slot = λ j u e x h z y. absurd
      (let p = (r.fits j u e).held i in let o = unpinned' j u e in
      let a = term_le (λ (d : Held). at_slot i d.flow) u.held x h z in let b = hit_slot i h.flow (sym y) in
      omega arith) in (
        v',
        gives,
        tt,
        subst (λ c. Law (record { words = set s.words i n; homes = put_back s.homes c; views = set s.views id v' }))
            (sym carried)
            (changes flow history s r i id n w w' me.0 v' (set s.homes i (O.some (Some item))) H' (record {
              near = t.near;
              at = t.at;
              me = at;
              is = is;
              small = (bound, omega arith);
              long = length-set s.homes i (O.some (Some item));
              elsewhere = λ x ne. set_else s.homes i x (O.some (Some item)) ne;
              pins = let z = dead.0 in omega arith;
              pins_else = λ x ne. omega (arith, miss_slot x f (λ q. ne (sym q)));
              holds = let z : flag w.busy ≡ 0 = ap flag dead.1 in omega arith;
              holds_else = λ x ne. refl;
              outs_else = λ x ne. let z : outs_on x me.0 ≡ cond {A = ℕ} (eqb i x) 1 0 + 0 =
                  ap (total (λ (y : ℕ). cond (eqb y x) 1 0)) out in
                  let z' : cond {A = ℕ} (eqb i x) 1 0 ≡ 0 =
                  ap (λ (b : Bool). cond {A = ℕ} b 1 0) (ne_eqb i x (λ q. ne (sym q))) in omega arith;
              dead = λ q. absurd (true≢false q);
              home = λ _ _. record {
                item = item;
                there = set_here s.homes i (O.some (Some item)) (let z = r.wide in
                    let z' = t.near in omega arith);
                named = named;
                listed = sym (ap H' named ∙ after_same r.H f l);
              };
              empty = λ q. absurd (true≢false q);
              same_H = λ x ne. after_else r.H f x l (λ q. ne (sym q));
              my_fits = record {
                pins = λ j x e. first_or (Bears (set r.ws i w')) f me.0.pins j x e k.pins fb;
                once = λ j. sums j 1 (omega arith) (fits.once j);
                paid = λ j. sums j me.0.parts some_part (fits.paid j);
                held = λ j. omega (arith, fits.held j);
                bears = k.bears;
                marks = k.marks;
                quick = λ _ j. refl;
                spent = λ z. absurd (omega arith);
              };
              others_fit = λ j u ne e. fits_after r.ws i w' u (λ x. bear x u (unpinned' j u e))
                  (λ slow'. absurd (not_slow flow history s r id j me.0 u at slow ne e slow')) (r.fits j u e);
              my_knows = record {
                held = λ x h z. knows.held x h z
                    ∙ sym (after_else r.H f h.flow l (apart id me.0 at x h z));
                seen =
                    more_seen r.H f l me.0.seen more knows.seen;
              };
              others_know = λ j u ne e. let q = r.knows j u e in record {
                held = λ x h z. q.held x h z ∙ sym (after_else r.H f h.flow l (apart j u e x h z));
                seen = λ x h z. still r.H f h.flow l more h.history (q.seen x h z);
              };
              mine = λ x p. span_counts r.H f x p 0 l (ap (length {A = Entry}) no_list) (omega arith) me.0.mine;
              parts = refl;
              slow = refl;
              ordered = acts_order r.H H' r.ws (set r.ws i w') s.views id me.0 v' (deeds_of f (unborn l) l.entries) (f
                  ∷ []) [] at
                  (history_act r.H f l r.ws i w F me.0 v' (deeds_of f (unborn l) l.entries) (f ∷ []) [] t.at t.near may
                  (refl, refl, refl, refl, refl)
                  (let z = dead.0 in omega arith) (λ k' ne. (refl, omega (arith, miss_slot k' f (λ e. ne (sym e)))))
                  (opening_leaves r.H f l no_list one)) r.ordered;
              fresh = λ x lt. ap (λ (y : History). y.entries)
                  (after_other r.H f (flow_at i x) l (λ q. let z : f.generation ≡ x = q in absurd (omega arith)))
                  ∙ r.fresh i w x t.at (omega arith);
            })),
        λ r' e. let eq : item ≡ r' = came_out me.1 (rest me.1) (rest me.1) i i item r' (Some r') carried e refl in
            let p : ◌≡◌ {A = Me (Option R) View} (
              opened f (history item) me.0,
              rest me.1,
            ) (opened (flow r') (history r') me.0, rest me.1) = λ q.
            (opened ((sym named ∙ ap flow eq) q) (history (eq q)) me.0, rest me.1) in p,
      )

  pub dooms_it : (slots id : ℕ) (f : FlowId) (me : Me (Option R) View) → f.slot < slots → HasPin me.0 f
      → me.0.slow ≡ true → MayAct me.0
      → Allows Law slots id me f.slot (λ n. bit_or n 131072) (dooms (step slots f.slot 131072 0 O.none) me)
  dooms_it slots id f me near has slow may s r long at _ =
      let i : ℕ = f.slot in
      let t = found_word flow history s r slots i long near in
      let w = t.w in
      let n : ℕ = get_or s.words i 0 in
      let m = mine_of flow history s r id me.0 f w at has t.at in
      let fits = r.fits id me.0 at in
      let v' = condemned f me.0 in
      let F : Word → Word = λ x. record x { doomed = true } in
      let w' : Word = F w in
      let there = fits.marks slow i w t.at in
      let old : mark_at me.0.marks i ≡ mark_of w = at_index me.0.marks i (mark_of w) (mark 0 false false) there in
      let others : (j : ℕ) (u : View) → j ≢ id → get_elem? s.views j ≡ O.some u
      → Fits (set r.ws i w') u =
      λ j u ne e. fits_after r.ws i w' u (λ g _. still_bears r.ws i w w' g t.at t.near refl refl)
      (λ slow'. absurd (not_slow flow history s r id j me.0 u at slow ne e slow')) (r.fits j u e) in (
        v',
        keeps,
        tt,
        changes flow history s r i id (bit_or n 131072) w w' me.0 v' s.homes r.H (record {
          near = t.near;
          at = t.at;
          me = at;
          is = ap (λ x. bit_or x 131072) t.is ∙ or_doomed w t.small w.doomed refl;
          small = t.small;
          long = refl;
          elsewhere = λ k ne. refl;
          pins = refl;
          pins_else = λ k ne. refl;
          holds = refl;
          holds_else = λ k ne. refl;
          outs_else = λ k ne. refl;
          dead = λ gone. absurd (true≢false (sym m.alive ∙ gone));
          home = λ alive idle. let z = r.home i w t.at alive idle in
              record { item = z.item; there = z.there; named = z.named; listed = z.listed };
          empty = λ gone. absurd (true≢false (sym m.alive ∙ gone));
          same_H = λ g ne. refl;
          my_fits = let k = marked r.ws i w' me.0 (record (mark_at me.0.marks i) { doomed = true })
              (λ q. record (old q) { doomed = true }) (at_below me.0.marks i (mark_of w) there)
              (λ g _. still_bears r.ws i w w' g t.at t.near refl refl) fits in
              record {
                pins = k.pins;
                once = k.once;
                paid = k.paid;
                held = k.held;
                bears = k.bears;
                marks = k.marks;
                quick = k.quick;
                spent = k.spent;
              };
          others_fit = others;
          my_knows = let k = r.knows id me.0 at in record { held = k.held; seen = k.seen };
          others_know = λ j u ne e. r.knows j u e;
          mine = λ g p. refl;
          parts = refl;
          slow = refl;
          ordered = acts_order r.H r.H r.ws (set r.ws i w') s.views id me.0 v' [] [] [] at
              (word_act r.H r.ws i w F me.0 v' [] [] t.at t.near may (
                noted_none me.0.turns,
                refl,
                refl,
                refl,
                refl,
              ) refl (λ k ne. (refl, refl))) r.ordered;
          fresh = λ g lt. r.fresh i w g t.at lt;
        }),
        λ g had on. let eq : f ≡ g = pin_is flow history s r id me.0 f g at has had on in
            let p : ◌≡◌ {A = Me (Option R) View} (condemned f me.0, me.1) (condemned g me.0, me.1) =
            λ q. (condemned (eq q) me.0, me.1) in p,
      )

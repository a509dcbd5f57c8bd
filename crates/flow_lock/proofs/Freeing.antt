-- A slot is freed.
use Rattle.std.proofs.Common.{◌≡◌, ◌≢◌, ℕ, ◌+◌, ◌<◌, Bool, true, false, eqb, eq-eqb, ne_eqb, cond, [], ◌∷◌, get_or, set}
use Rattle.std.proofs.Common.{sym, refl, ap, ◌∙◌, subst, arith, true≢false, length-set}
use Rattle.std.specs.Prelude.{Option, Some}
use mathlib.Core.Option as O
use mathlib.Core.Option.{some-injective}
use mathlib.Core.Logic.{dite}
use native.Mathlib.Decide.{ℕ_discrete}
use lib.ListN.{get_elem?}
use prog.Atomic.{either}
use Rattle.atomic_table.specs.Table.{State, Me, step, keeps, takes, Allows}
use Rattle.atomic_table.proofs.Lists.{set_else, exchanged}
use Rattle.tas_model.specs.declared.entry.FlowId.{FlowId}
use Rattle.flow_lock.specs.Words.{flag, code, word_of, dead_word, sole_word}
use Rattle.flow_lock.specs.Orders.{total}
use Rattle.flow_lock.specs.Claims.{pins_on, holds_on, outs_on, Bears, HasPin, Lawful}
use Rattle.flow_lock.specs.Steps.{MayAct, counted, mark, unpinned, freed}
use Rattle.flow_lock.specs.Plays.{inspects, frees}
use Rattle.flow_lock.specs.declared.word.Word.{Word}
use Rattle.flow_lock.specs.declared.view.View.{View}
use Rattle.flow_lock.specs.declared.view.History.{History}
use Rattle.flow_lock.specs.declared.view.Mark.{Mark}
use Rattle.flow_lock.proofs.Words.{reads_back}
use Rattle.flow_lock.proofs.Sums.{total-set, terms_le, total_none, at_below}
use Rattle.flow_lock.proofs.Ordering.{acts_order}
use Rattle.flow_lock.proofs.Acting.{word_act}
use Rattle.flow_lock.proofs.Changes.{hit_slot, miss_slot, bears_else, fits_after, changes, found_word, not_slow}
use Rattle.flow_lock.proofs.Pinning.{has_one, counted_fits, unpinned_fits, without_here, without_else, Goes, counts}
use Rattle.flow_lock.proofs.Pinning.{reads, glances_at}
use Rattle.flow_lock.proofs.Taking.{no_flag, comes}
use Rattle.flow_lock.proofs.Opening.{marks_word, marked}

module _ {R : Type 0} (flow : R → FlowId) (history : R → History) where
  abbrev Law : State (Option R) View → Type 0
  Law = Lawful flow history

  -- where a word has one pin, and that is the slow path's, which doesn't hold the record, no view holds it
  idle_word : (s : State (Option R) View) (r : Law s) (id : ℕ) (v : View) (f : FlowId) (w : Word)
      → get_elem? s.views id ≡ O.some v → HasPin v f → holds_on f.slot v ≡ 0 → get_elem? r.ws f.slot ≡ O.some w
      → w.pins ≡ 1 → w.busy ≡ false
  idle_word s r id v f w at has idle here one =
      let i : ℕ = f.slot in
      let mine = has_one r.ws v f (r.fits id v at) has in
      let all = r.pinned i w here in
      let none_ : total (holds_on i) s.views ≡ 0 = total_none (holds_on i) s.views (λ j u e. dite (ℕ_discrete j id)
      (λ same. subst (λ (y : View). holds_on i y ≡ 0)
      (some-injective v u (sym at ∙ (ap (λ k. get_elem? s.views k) (sym same) ∙ e))) idle)
      (λ ne. let a = terms_le (pins_on i) s.views id j v u ne at e in let b = (r.fits j u e).held i in omega arith)) in
      no_flag w.busy (sym (r.busy i w here) ∙ none_)

  sole : (s : State (Option R) View) (r : Law s) (id : ℕ) (v : View) (f : FlowId) (w : Word)
      → get_elem? s.views id ≡ O.some v → v.slow ≡ true → HasPin v f → holds_on f.slot v ≡ 0
      → get_elem? v.marks f.slot ≡ O.some (mark f.generation true true)
      → get_elem? r.ws f.slot ≡ O.some w → w.pins ≡ 1 → w ≡ sole_word f.generation
  sole s r id v f w at slow has idle doomed' here one =
      let m = marks_word flow history s r id f.slot v w (mark f.generation true true) at slow here doomed' in
      let b = idle_word s r id v f w at has idle here one in
      λ q. record {
        generation = (sym m q).generation;
        pins = one q;
        live = (sym m q).live;
        doomed = (sym m q).doomed;
        busy = b q;
      }

  pub inspects_it : (slots id i : ℕ) (me : Me (Option R) View) → i < slots → me.0.slow ≡ true
      → Allows Law slots id me i (λ n. n) (inspects (step slots i 0 0 O.none) me)
  inspects_it slots id i me near slow s r long at small =
      let t = found_word flow history s r slots i long near in
      let l = glances_at flow history slots id i me near s r long at small in (
        l.0,
        l.1,
        l.2,
        l.3,
        (
          l.4,
          λ f has on doomed' idle one.
              let here = ap (λ k. get_elem? r.ws k) on ∙ t.at in
              t.is ∙ ap code (sole s r id me.0 f t.w at slow has idle doomed' here
              (ap (λ (x : Word). x.pins) (sym t.back) ∙ one)),
        ),
      )

  pub frees_it : (slots id old new : ℕ) (f : FlowId) (me : Me (Option R) View) → f.slot < slots → me.0.slow ≡ true
      → HasPin me.0 f → holds_on f.slot me.0 ≡ 0 → me.0.out ≡ []
      → get_elem? me.0.marks f.slot ≡ O.some (mark f.generation true true) → MayAct me.0
      → old ≡ code (sole_word f.generation) → new ≡ code (dead_word f.generation)
      → Allows Law slots id me f.slot (λ n. either (eqb n old) new n)
      (frees flow history (step slots f.slot old new O.none) me)
  frees_it slots id old new f me near slow has idle out doomed' may is_old is_new s r long at _ =
      let i : ℕ = f.slot in
      let t = found_word flow history s r slots i long near in
      let w = t.w in
      let n : ℕ = get_or s.words i 0 in
      let fits = r.fits id me.0 at in
      let knows = r.knows id me.0 at in
      let m = marks_word flow history s r id i me.0 w (mark f.generation true true) at slow t.at doomed' in
      exchanged n old new (Goes flow history s i id me (frees flow history (step slots i old new O.none) me))
      (λ hit.
      let is_sole : w ≡ sole_word f.generation = sym t.back
      ∙ (ap word_of (hit ∙ is_old)
      ∙ reads_back (sole_word f.generation)
      (subst (λ g. g < 4294967296) (ap (λ (x : Mark). x.generation) (sym m)) t.small.0, omega arith)) in
      let one : w.pins ≡ 1 = ap (λ (x : Word). x.pins) is_sole in
      let alive : w.live ≡ true = ap (λ (x : Word). x.live) is_sole in
      let idle' : w.busy ≡ false = ap (λ (x : Word). x.busy) is_sole in
      let aged : w.generation ≡ f.generation = ap (λ (x : Word). x.generation) is_sole in
      let home = r.home i w t.at alive idle' in
      let named : flow home.item ≡ f = home.named ∙ (λ q. record { slot = i; generation = aged q }) in
      let c = counted i (word_of n) me.0 in
      let v' = freed f c in
      let F : Word → Word = λ _. dead_word f.generation in
      let w' : Word = dead_word f.generation in
      let mine : pins_on i me.0 ≡ 1 = has_one r.ws me.0 f fits has in
      let others : (j : ℕ) (u : View) → ¬ (j ≡ id) → get_elem? s.views j ≡ O.some u
      → pins_on i u ≡ 0 = λ j u ne e. let a = terms_le (pins_on i) s.views id j me.0 u ne at e in
      let b = r.pinned i w t.at in omega arith in
      let bear : (x : FlowId) (u : View) → pins_on i u ≡ 0 → 0 < pins_on x.slot u → Bears r.ws x
      → Bears (set r.ws i w') x =
      λ x u z pos. bears_else r.ws i w' x
      (λ q. absurd (let h : pins_on x.slot u ≡ 0 = subst (λ k. pins_on k u ≡ 0) (sym q) z in omega arith)) in
      let gone : pins_on i (unpinned f c) ≡ 0 = without_here i me.0.pins in
      let k = marked flow history r.ws i w' (unpinned f c) (mark f.generation false false) refl
      (at_below me.0.marks i (mark f.generation true true) doomed') (λ x. bear x (unpinned f c) gone)
      (unpinned_fits r.ws f c idle (counted_fits r.ws me.0 i (word_of n) fits)) in
      let out_else : (x : ℕ) → x ≢ i → outs_on x v' ≡ outs_on x me.0 = λ x ne.
      let z : outs_on x v' ≡ 0 = ap (λ (b : Bool). cond {A = ℕ} b 1 0 + 0) (ne_eqb i x (λ q. ne (sym q))) in
      let z' : outs_on x me.0 ≡ 0 = ap (total (λ (y : ℕ). cond (eqb y x) 1 0)) out in omega arith in
      let one_out : outs_on i v' ≡ 1 = ap (λ (b : Bool). cond {A = ℕ} b 1 0 + 0) (eq-eqb i i refl) in
      let none_out' : outs_on i me.0 ≡ 0 = ap (total (λ (y : ℕ). cond (eqb y i) 1 0)) out in (
        v',
        takes i (Some home.item),
        home.there,
        changes flow history s r i id new w w' me.0 v' (set s.homes i O.none) r.H (record {
          near = t.near;
          at = t.at;
          me = at;
          is = is_new;
          small = (subst (λ x. x < 4294967296) aged t.small.0, omega arith);
          long = length-set s.homes i O.none;
          elsewhere = λ x ne. set_else s.homes i x O.none ne;
          pins = omega arith;
          pins_else = λ x ne. without_else i x me.0.pins ne;
          holds = let z : flag w.busy ≡ 0 = ap flag idle' in omega arith;
          holds_else = λ x ne. refl;
          outs_else = out_else;
          dead = λ _. (refl, refl, refl);
          home = λ q. absurd (true≢false (sym q));
          empty = λ _ none_out. absurd (let q = total-set (outs_on i) s.views id me.0 v' at in omega arith);
          same_H = λ x ne. refl;
          my_fits = record {
            pins = k.pins;
            once = k.once;
            paid = k.paid;
            held = k.held;
            bears = k.bears;
            marks = k.marks;
            quick = λ q. absurd (true≢false (sym slow ∙ q));
            spent = k.spent;
          };
          others_fit = λ j u ne e. fits_after r.ws i w' u (λ x. bear x u (others j u ne e))
              (λ slow'. absurd (not_slow flow history s r id j me.0 u at slow ne e slow')) (r.fits j u e);
          my_knows = record { held = knows.held; seen = knows.seen };
          others_know = λ j u ne e. r.knows j u e;
          mine = λ x p. refl;
          parts = refl;
          slow = refl;
          ordered = acts_order r.H r.H r.ws (set r.ws i w') s.views id me.0 v' [] [] (f ∷ []) at
              (word_act r.H r.ws i w F me.0 v' [] (f ∷ []) t.at t.near may (
                refl,
                refl,
                refl,
                refl,
                refl,
              ) (omega (arith, hit_slot i f refl))
              (λ x ne. (omega (arith, miss_slot x f (λ e. ne (sym e))), refl))) r.ordered;
          fresh = λ x lt. r.fresh i w x t.at (subst (λ y. y < x) (sym aged) lt);
        }),
        (
          reads flow history s r id i me.0 at t,
          (λ _. record {
            item = home.item;
            told = comes flow history s r id i me.0 w home.item at t.at home.named home.listed;
            view =
                λ q. freed (sym named q) c;
            carries = refl;
          }),
          λ ne. absurd (ne hit),
        ),
      ))
      (λ miss. (
        counted i (word_of n) me.0,
        keeps,
        tt,
        counts flow history s r i id n me.0 at t refl,
        (
          reads flow history s r id i me.0 at t,
          (λ e. absurd (miss e)),
          λ _. (
            (λ one. miss (t.is
                ∙ (ap code (sole s r id me.0 f w at slow has idle doomed' t.at (ap (λ (x : Word). x.pins) (sym t.back)
                ∙ one)) ∙ sym is_old))),
            refl,
          ),
        ),
      ))

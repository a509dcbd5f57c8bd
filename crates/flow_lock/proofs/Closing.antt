-- What comes out of a closed table.
use Rattle.std.proofs.Common.{◌≡◌, ℕ, zero, suc, ◌+◌, ◌<◌, Bool, true, false, eqb, cond, List, [], ◌∷◌, ◌++◌, length}
use Rattle.std.proofs.Common.{take, sym, refl, ap, ◌∙◌, subst, arith}
use Rattle.std.specs.Prelude.{Option, Some, None}
use mathlib.Core.Option as O
use mathlib.Core.Option.{some-injective, some-ne-none}
use lib.ListN.{get_elem?}
use Rattle.atomic_table.specs.Table.{State, Final, Seen}
use Rattle.tas_model.specs.declared.entry.FlowId.{FlowId}
use Rattle.flow_lock.specs.Words.{mark_of}
use Rattle.flow_lock.specs.Histories.{Begins}
use Rattle.flow_lock.specs.Orders.{total, at_slot, once_below}
use Rattle.flow_lock.specs.Claims.{flow_at, holds_on, in_span, Home, Lawful}
use Rattle.flow_lock.specs.Last.{flows_from, IsLast}
use Rattle.flow_lock.specs.declared.word.Word.{Word}
use Rattle.flow_lock.specs.declared.view.View.{View}
use Rattle.flow_lock.specs.declared.view.Held.{Held}
use Rattle.flow_lock.specs.declared.view.History.{History}
use Rattle.flow_lock.specs.declared.view.Mark.{Mark}
use Rattle.flow_lock.proofs.Sums.{terms_le, total_one, at_below}
use Rattle.flow_lock.proofs.Changes.{coded_at}
use Rattle.flow_lock.proofs.Taking.{no_flag}
use Rattle.flow_lock.proofs.Opening.{no_outs, marks_word}

-- one slot more
pub flows_step : (i at : ℕ) (ms : List Mark) (m : Mark) → get_elem? ms at ≡ O.some m
    → flows_from i (take (suc at) ms) ≡ flows_from i (take at ms) ++ cond m.live (flow_at (i + at) m.generation ∷ []) []
flows_step i at [] m e = absurd (some-ne-none m (sym e))
flows_step i zero (x ∷ xs) m e =
    subst (λ (y : Mark). cond x.live (flow_at i x.generation ∷ []) []
    ≡ cond y.live (flow_at (i + 0) y.generation ∷ []) []) (some-injective x m e)
    (ap (λ n. cond x.live (flow_at n x.generation ∷ []) []) (let q : i ≡ i + 0 = omega arith in q))
flows_step i (suc at) (x ∷ xs) m e = by_life x.live (flows_step (i + 1) at xs m e
    ∙ ap (λ n. flows_from (i + 1) (take at xs) ++ cond m.live (flow_at n m.generation ∷ []) [])
    (let q : i + 1 + at ≡ i + suc at = omega arith in q))
  where
    by_life : (b : Bool) → flows_from (i + 1) (take (suc at) xs) ≡ flows_from (i + 1) (take at xs)
        ++ cond m.live (flow_at (i + suc at) m.generation ∷ []) []
        → cond b (flow_at i x.generation ∷ flows_from (i + 1) (take (suc at) xs))
        (flows_from (i + 1) (take (suc at) xs))
        ≡ cond b (flow_at i x.generation ∷ flows_from (i + 1) (take at xs)) (flows_from (i + 1) (take at xs))
        ++ cond m.live (flow_at (i + suc at) m.generation ∷ []) []
    by_life true rest = ap (λ l. flow_at i x.generation ∷ l) rest
    by_life false rest = rest

module _ {R : Type 0} (flow : R → FlowId) (history : R → History) where
  abbrev Law : State (Option R) View → Type 0
  Law = Lawful flow history

  -- what came out of a slot, beside the slow path's mark of it
  abbrev pub Out : View → Mark → ℕ → Option R → Type 0
  Out v m i None = m.live ≡ false
  Out v m i (Some item) = (m.live ≡ true) × (flow item ≡ flow_at i m.generation) × IsLast flow history v item

  -- where every other pass was joined and the slow path holds no record, each live record is at home, and each place of
  -- each history is the slow path's
  pub record AtRest (s : State (Option R) View) (r : Lawful flow history s) (v : View) : Type 0 where
    pub home : (i : ℕ) (w : Word) → get_elem? r.ws i ≡ O.some w → w.live ≡ true → Home flow history r.H s.homes i w
    pub mine : (f : FlowId) (p : ℕ) → total (in_span f p) v.mine ≡ once_below p (length (r.H f).entries)
    pub seen : (k : ℕ) (h : Held) → get_elem? v.seen k ≡ O.some h → Begins h.history (r.H h.flow)

  pub closes : (s : State (Option R) View) (r : Law s) (id : ℕ) (v : View) → get_elem? s.views id ≡ O.some v
      → v.parts ≡ 4097 → v.held ≡ [] → AtRest s r v
  closes s r id v at all idle =
      let others : (j : ℕ) (u : View) → ¬ (j ≡ id) → get_elem? s.views j ≡ O.some u
      → u.parts ≡ 0 = λ j u ne e. let a = terms_le (λ (y : View). y.parts) s.views id j v u ne at e in
      let b = r.parts in omega arith in
      record {
        home = λ i w here alive. r.home i w here alive
            (no_flag w.busy (sym (r.busy i w here)
            ∙ (total_one (holds_on i) s.views id v at (λ j u ne e. let a = (r.fits j u e).held i in
            let b = (r.fits j u e).paid i in let c = others j u ne e in omega arith)
            ∙ ap (total (λ (x : Held). at_slot i x.flow)) idle)));
        mine = λ f p. sym (total_one (λ y. total (in_span f p) y.mine) s.views id v at
            (λ j u ne e. ap (total (in_span f p)) ((r.fits j u e).spent (others j u ne e)))) ∙ r.mine f p;
        seen = (r.knows id v at).seen;
      }

  pub comes_out : (ws : List ℕ) (xs : List (Option R)) (id : ℕ) (v : View) → Final (Seen Law id v) ws xs → v.slow ≡ true
      → v.parts ≡ 4097 → v.held ≡ [] → v.out ≡ []
      → (i : ℕ) (m : Mark) → get_elem? v.marks i ≡ O.some m → (y : Option R) → get_elem? xs i ≡ O.some y → Out v m i y
  comes_out ws xs id v last slow all held out i m mark y came =
      let s = last.0 in
      let r = last.1.0 in
      let at = last.1.1 in
      let long = last.3 in
      let wide = r.wide in
      let below : i < length xs = at_below xs i y came in
      let t = coded_at r.ws i (omega arith) in
      by_life s r id v at slow out i y (λ z e. some-injective z y (sym (last.4 i z e) ∙ came))
      (closes s r id v at all held) m t.0 t.1
      (marks_word flow history s r id i v t.0 m at slow t.1 mark) t.0.live refl
    where
      is_some : (v : View) (m : Mark) (i : ℕ) (a : R) (y : Option R) → Some a ≡ y → Out v m i (Some a) → Out v m i y
      is_some v m i a y e o = subst (Out v m i) e o

      by_life : (s : State (Option R) View) (r : Law s) (id : ℕ) (v : View) → get_elem? s.views id ≡ O.some v
          → v.slow ≡ true → v.out ≡ [] → (i : ℕ) (y : Option R)
          → ((z : Option R) → get_elem? s.homes i ≡ O.some (O.some z) → z ≡ y) → AtRest s r v
          → (m : Mark) (w : Word) → get_elem? r.ws i ≡ O.some w → m ≡ mark_of w → (b : Bool) → w.live ≡ b → Out v m i y
      by_life s r id v at slow out i y is rest' m w here mark false gone =
          subst (Out v m i)
          (is None (r.empty i w here gone
          (no_outs flow history s r id i v at slow (ap (total (λ (x : ℕ). cond (eqb x i) 1 0)) out))))
          (ap (λ (x : Mark). x.live) mark ∙ gone)
      by_life s r id v at slow out i y is rest' m w here mark true alive =
          let h = rest'.home i w here alive in
          is_some v m i h.item y (is (Some h.item) h.there) (
            ap (λ (x : Mark). x.live) mark ∙ alive,
            h.named ∙ (λ q. flow_at i (sym mark q).generation),
            record {
              mine = λ p. rest'.mine (flow h.item) p
                  ∙ ap (λ (l : History). once_below p (length l.entries)) (sym h.listed);
              seen = λ k x q of. subst (Begins x.history) (ap r.H of ∙ sym h.listed) (rest'.seen k x q);
            },
          )

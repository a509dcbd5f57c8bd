use Rattle.std.proofs.Common.{◌≡◌, ◌≢◌, ℕ, zero, suc, ◌+◌, ◌<◌, Bool, false, cond, List, [], ◌∷◌, ◌++◌, map, length}
use Rattle.std.proofs.Common.{take, get_or, set, ap, sym, ◌∙◌, refl, subst, arith, get_or-set_other, append-nil}
use Rattle.std.proofs.lemmas.List.{map-append}
use Rattle.std.specs.Prelude.{Option, All, vec_len, vec_capacity, slice_index_or}
use mathlib.Core.Option as O
use mathlib.Core.Logic.{dite}
use native.Mathlib.Decide.{ℕ_discrete}
use lib.ListN.{get_elem?}
use Rattle.std.specs.Mem.Slots.{slots_items, slots_filled}
use Rattle.atomic_table.specs.Seated.{TableId}
use Rattle.flow_lock.specs.Histories.{history_of}
use Rattle.flow_lock.specs.Claims.{flow_at}
use Rattle.flow_lock.specs.Last.{IsLast, flows_from}
use Rattle.flow_lock.specs.Passes.{Seen}
use Rattle.flow_lock.specs.declared.view.View.{View}
use Rattle.flow_lock.specs.declared.view.Mark.{Mark}
use Rattle.std.proofs.lemmas.List.Elements.{All-push}
use Rattle.flow_lock.proofs.Sums.{at_get}
use Rattle.flow_lock.proofs.Closing.{Out, flows_step, comes_out}
use Rattle.flow_lock.proofs.table.FlowTable.close_into.Goals as goal
use Rattle.flow_lock.proofs.table.FlowTable.close_into.Goals.{in-Some, in_default}

cleared : (l : List Bool) (i : ℕ) → get_or (set l i false) i false ≡ false
cleared [] i = refl
cleared (x ∷ xs) zero = refl
cleared (x ∷ xs) (suc i) = cleared xs i

pub loop-at-preserved : goal.loop-at-preserved
loop-at-preserved g c =
    let i = c.loop-at.invariant in
    let t = c.take.ensures.others in
    let at = c.loop-at.at in
    let view = ap (λ (s : Seen). s.view) c.pass.view_is in
    let inv = c.pass.invariant in
    let idle = c.requires.pass in
    let history = history_of g.R.Recorded.tuple g.R.Recorded.params g.R.Recorded.entries in
    let marks : List Mark = c.args.pass.view.marks in
    let far = c.requires.marks in
    let near : at < length marks = let a = c.loop-at-test.true in let b = c.slot_count.ensures in let d = i.len in
    let e = c.close_with-closed.ensures.counts.1 in let f = ap (λ (x : TableId). x.slots) c.self.view_is in
    omega arith in
    let m : Mark = slice_index_or marks at (record { generation = 0; live = false; doomed = false }) in
    let there : get_elem? marks at ≡ O.some m =
    at_get marks at (record { generation = 0; live = false; doomed = false }) near in
    let out : (y : Option g.row.R.Denot) → get_elem? (slots_items c.loop-at.closed.slots) at ≡ O.some y
    → Out g.R.Recorded.id history c.args.pass.view m at y =
    λ y e. subst (λ (v : View). Out g.R.Recorded.id history v m at y) view
    (comes_out g.R.Recorded.id history (slots_items c.close_with-closed.result.words)
    (slots_items c.close_with-closed.result.slots) c.pass.inside.seat.id c.pass.inside.seat.me.0
    c.close_with-closed.ensures.values.2
    (ap (λ (v : View). v.slow) view ∙ idle.1) (ap (λ (v : View). v.parts) view ∙ idle.2) (ap (λ (v : View). v.held) view
    ∙ idle.3) inv.1 at m (ap (λ (v : View). get_elem? v.marks at) view
    ∙ there) y (ap (λ l. get_elem? l at) (sym i.items) ∙ e)) in
    let came = out c.take.result c.take.ensures.value in
    let more : flows_from 0 (take (at + 1) marks) ≡ flows_from 0 (take at marks)
    ++ cond m.live (flow_at at m.generation ∷ []) [] =
    ap (λ n. flows_from 0 (take n marks)) (let q : at + 1 ≡ suc at = omega arith in q)
    ∙ (flows_step 0 at marks m there ∙ ap (λ n. flows_from 0 (take at marks)
    ++ cond m.live (flow_at n m.generation ∷ []) []) (let q : 0 + at ≡ at = omega arith in q)) in
    record {
      items = t.0 ∙ i.items;
      len = t.2 ∙ i.len;
      left = λ k a b. let n : k ≢ at = λ e. absurd (omega arith) in
          ap (λ l. slice_index_or l k false) t.1
          ∙ (get_or-set_other (slots_filled c.loop-at.closed.slots) at k false false n
          ∙ i.left k (omega arith) (let q = t.2 in omega arith));
      gone = λ k lt. dite (ℕ_discrete k at)
          (λ e. ap (λ l. slice_index_or l k false) t.1
          ∙ subst (λ x. get_or (set (slots_filled c.loop-at.closed.slots) at false) x false ≡ false) (sym e)
          (cleared (slots_filled c.loop-at.closed.slots) at))
          (λ n. ap (λ l. slice_index_or l k false) t.1
          ∙ (get_or-set_other (slots_filled c.loop-at.closed.slots) at k false false n ∙ i.gone k (omega arith)));
      few = elim c.match-take.branch [
        | in-Some w ↦ (let a = ap vec_len w.room-is in
            let b = w.push_reserved.ensures.len in let d = i.few in
            omega arith)
        | in_default w ↦ (let a = ap vec_len w.room-is in let d = i.few in omega arith)
      ];
      space = elim c.match-take.branch [
        | in-Some w ↦ ap vec_capacity w.room-is
            ∙ (w.push_reserved.ensures.capacity ∙ i.space)
        | in_default w ↦ ap vec_capacity w.room-is ∙ i.space
      ];
      last = elim c.match-take.branch [
        | in-Some w ↦ subst (All (IsLast g.R.Recorded.id history c.args.pass.view))
            (sym (ap (λ v. v.items) w.room-is ∙ w.push_reserved.ensures.items))
            (All-push (IsLast g.R.Recorded.id history c.args.pass.view) c.loop-at.room.items w.in-Some.item i.last
            (subst (Out g.R.Recorded.id history c.args.pass.view m at) w.in-Some.is came).2)
        | in_default w ↦ subst (All (IsLast g.R.Recorded.id history c.args.pass.view))
            (sym (ap (λ v. v.items) w.room-is)) i.last
      ];
      flows = elim c.match-take.branch [
        | in-Some w ↦
            let o = subst (Out g.R.Recorded.id history c.args.pass.view m at) w.in-Some.is came in
            ap (map g.R.Recorded.id) (ap (λ v. v.items) w.room-is ∙ w.push_reserved.ensures.items)
            ∙ (map-append g.R.Recorded.id c.loop-at.room.items (w.in-Some.item ∷ [])
            ∙ ((λ q. i.flows q ++ o.1 q ∷ [])
            ∙ ((λ q. flows_from 0 (take at marks) ++ cond (sym o.0 q) (flow_at at m.generation ∷ []) [])
            ∙ sym more)))
        | in_default w ↦
            let o : m.live ≡ false = subst (Out g.R.Recorded.id history c.args.pass.view m at) w.in_default.is came in
            ap (map g.R.Recorded.id) (ap (λ v. v.items) w.room-is)
            ∙ (i.flows ∙ (sym (append-nil (flows_from 0 (take at marks)))
            ∙ ((λ q. flows_from 0 (take at marks) ++ cond (sym o q) (flow_at at m.generation ∷ []) []) ∙ sym more)))
      ];
      upto = let a = c.loop-at-test.true in let b = c.slot_count.ensures in let q = t.2 in omega arith;
    }

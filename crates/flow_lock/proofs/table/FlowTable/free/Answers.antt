use Rattle.std.proofs.Common.{◌≡◌, ◌≤◌, true, false, length, set, length-set, ap, sym, ◌∙◌, subst, arith}
use Rattle.tas_model.specs.declared.entry.FlowId.{FlowId}
use Rattle.atomic_table.specs.Seated.{TableId}
use Rattle.std.specs.Prelude.{All}
use Rattle.std.proofs.lemmas.List.Elements.{All-set, All-get_or}
use mathlib.Core.Option as O
use lib.ListN.{get_elem?}
use Rattle.flow_lock.specs.Steps.{mark}
use Rattle.flow_lock.specs.Passes.{Seen}
use Rattle.flow_lock.specs.declared.view.View.{View}
use Rattle.flow_lock.specs.declared.view.Mark.{Mark}
use Rattle.flow_lock.proofs.Sums.{at_below, at_index}
use Rattle.flow_lock.proofs.table.FlowTable.free.Goals as goal

pub put_mark-requires : goal.put_mark-requires
put_mark-requires g c =
    let at = ap (λ (f : FlowId). f.slot) c.pin.view_is in
    let h = c.requires.slot in
    let t = ap (λ (x : TableId). x.slots) (ap (λ (s : Seen). s.table) c.slow.view_is ∙ c.requires.slow.0) in
    let l = c.slow.invariant.long in omega arith

pub invariant_of-slow-2 : goal.invariant_of-slow-2
invariant_of-slow-2 g c =
    let i = c.slow.invariant in
    let f = c.pin.inside.flow in
    let v = c.in-Ok.ensures.freed.1 in
    let view = ap (λ (s : Seen). s.view) c.slow.view_is in
    let doomed : get_elem? c.slow.inside.marks.items f.slot ≡ O.some (mark f.generation true true) =
    ap (λ l. get_elem? l f.slot) (sym i.marks)
    ∙ ((λ q. get_elem? (view q).marks (c.pin.view_is q).slot)
    ∙ (c.requires.doomed ∙ (λ q. O.some (mark (sym c.pin.view_is q).generation true true)))) in
    let m : Mark = mark f.generation false false in
    let new : c.put_mark.new.marks.items ≡ set c.slow.inside.marks.items f.slot m = c.put_mark.ensures in
    let near = at_below c.slow.inside.marks.items f.slot (mark f.generation true true) doomed in
    let opened = ap (λ (x : View). x.opened) v in
    let parts = ap (λ (x : View). x.parts) v in
    let long' : length c.put_mark.new.marks.items ≡ length c.slow.inside.marks.items = ap (length {A = Mark}) new
    ∙ length-set c.slow.inside.marks.items f.slot m in
    let table = ap (λ (t : TableId). t.slots) c.free_word.ensures.table in
    let P : Mark → Type 0 = λ x. x.generation ≤ c.slow.inside.pass.view.opened in
    let old : f.generation ≤ c.slow.inside.pass.view.opened =
    subst P (at_index c.slow.inside.marks.items f.slot (mark f.generation true true) (mark 0 false false) doomed)
    (All-get_or P c.slow.inside.marks.items f.slot (mark 0 false false) near i.few) in
    record {
      slow = ap (λ (x : View). x.slow) v ∙ i.slow;
      marks = ap (λ (x : View). x.marks) v
          ∙ ((λ q. set (i.marks q) (sym c.pin.view_is q).slot (mark (sym c.pin.view_is q).generation false false))
          ∙ sym new);
      long = let a = i.long in omega arith;
      near = let a = i.near in omega arith;
      passes = let a = i.passes in omega arith;
      few = subst (All (λ (x : Mark). x.generation ≤ c.free_word.new.pass.view.opened)) (sym new)
          (All-set (λ (x : Mark). x.generation ≤ c.free_word.new.pass.view.opened) c.slow.inside.marks.items f.slot m
          (omega arith) (λ k d lt. omega (arith, i.few k d lt)));
      count = opened ∙ i.count;
    }

use Rattle.std.proofs.Common.{ap, ◌∙◌, arith}
use Rattle.tas_model.specs.declared.entry.FlowId.{FlowId}
use Rattle.atomic_table.specs.Seated.{TableId}
use Rattle.flow_lock.specs.Passes.{Seen}
use Rattle.flow_lock.proofs.table.FlowTable.doom.Goals as goal

pub index-requires : goal.index-requires
index-requires g c =
    let at = ap (λ (f : FlowId). f.slot) c.pin.view_is in
    let h = c.requires.slot in
    let t = ap (λ (x : TableId). x.slots) (ap (λ (s : Seen). s.table) c.slow.view_is ∙ c.requires.slow.0) in
    let l = c.slow.invariant.long in omega arith

pub put_mark-requires : goal.put_mark-requires
put_mark-requires g c =
    let at = ap (λ (f : FlowId). f.slot) c.pin.view_is in
    let h = c.requires.slot in
    let t = ap (λ (x : TableId). x.slots) (ap (λ (s : Seen). s.table) c.slow.view_is ∙ c.requires.slow.0) in
    let l = c.slow.invariant.long in omega arith

use Rattle.std.proofs.Common.{◌<◌, ap, sym, ◌∙◌, arith}
use Rattle.atomic_table.specs.Seated.{TableId}
use Rattle.flow_lock.specs.Passes.{Seen}
use Rattle.flow_lock.proofs.Pinning.{looks_at}
use Rattle.flow_lock.proofs.table.FlowTable.look.Goals as goal

pub load-requires : goal.load-requires
load-requires g c =
    let slots = ap (λ (y : TableId). y.slots) c.self.view_is in
    let inv = c.self.invariant in
    let near : c.args.slot < c.self.inside.table.shared.table_id.slots = omega arith in (
      ap (λ (s : Seen). s.table) c.pass.view_is ∙ (c.requires.pass ∙ sym c.self.view_is),
      omega arith,
      looks_at g.R.Recorded.id _ _ _ _ _ near,
    )

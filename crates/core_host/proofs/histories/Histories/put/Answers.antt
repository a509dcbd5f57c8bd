-- Answers of the proof of histories/Histories/put.
use Rattle.std.proofs.Common.{cond, ◌∙◌}
use Rattle.std.specs.Prelude.{Some}
use Rattle.flow_lock.specs.Orders.{same_flow}
use Rattle.core_host.specs.Ending.{found_in}
use Rattle.core_host.proofs.histories.Histories.put.Goals as goal

pub returns-in-Ok : goal.returns-in-Ok
returns-in-Ok c = λ id.
    c.in-Ok.ensures.updates.0 (id.slot, id.generation)
    ∙ λ i. cond (same_flow (c.id-id.ensures i) id) (Some c.args.history) (found_in (c.self.view_is i) id)

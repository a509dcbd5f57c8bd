use Rattle.std.proofs.Common.{[], ap}
use Rattle.flow_lock.specs.declared.view.View.{View}
use Rattle.shared_tests.proofs.shared_flows.guest.Goals as goal

pub returns-clause-new : goal.returns-clause-new
returns-clause-new c =
    let new = c.split.ensures.new in
    let v = new.1 in (
      (new.0, (_, [], ap (λ (x : View). x.turns) v), ap (λ (x : View). x.slow) v, ap (λ (x : View). x.baton) v),
      ap (λ (x : View). x.pins) v,
      ap (λ (x : View). x.held) v,
    )

use Rattle.std.proofs.Common.{◌≡◌, [], true, ap}
use Rattle.std.specs.Prelude.{Result, Ok, Err, IfOk}
use Rattle.atomic_table.specs.Seated.{TableId}
use Rattle.flow_lock.specs.Callers.{IsKeeper}
use Rattle.flow_lock.specs.Passes.{Seen, first}
use Rattle.flow_lock.specs.declared.view.View.{View}
use Rattle.shared_tests.proofs.shared_flows.start.Goals as goal

ok_map : {A E : Type 0} (P Q : A → Type 0) → ((a : A) → P a → Q a) → (r : Result A E) → IfOk r P → IfOk r Q
ok_map P Q f (Ok a) p = f a p
ok_map P Q f (Err e) p = tt

pub returns-clause-slow : goal.returns-clause-slow
returns-clause-slow c = ok_map (λ (t : TableId × Seen). (t.1.table ≡ t.0)
    × (t.1.view ≡ first 2)) (λ (t : TableId × Seen). IsKeeper t.0 t.1 × (t.1.view.baton ≡ true)
    × (t.1.view.parts ≡ 4097))
    (λ t p. (
      (p.0, (_, [], ap (λ (x : View). x.turns) p.1), ap (λ (x : View). x.held) p.1),
      ap (λ (x : View). x.baton) p.1,
      ap (λ (x : View). x.parts) p.1,
    ))
    c.new.result c.new.ensures.slow

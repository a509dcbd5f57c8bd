use Rattle.std.proofs.Common.{◌≡◌, All, List, length, drop, sym, ap, ◌∙◌, subst}
use Rattle.core_worker.specs.Workers.{Worker}
use Rattle.steering.specs.Tables.{Sight}
use Rattle.host_tests.specs.Hosts.{IsCore}
use Rattle.host_tests.proofs.Added.{written}
use Rattle.host_tests.proofs.starting.started.Goals as goal

pub returns-in-Some-clause-cores : goal.returns-in-Some-clause-cores
returns-in-Some-clause-cores g c =
    let made = c.in-Ok.assembled.cores in
    let new = c.add_both.new.cores in
    let long : length new ≡ made.len = c.add_both.auto.cores ∙ c.deref_mut.ensures.len in (
      ap (λ (s : Sight). s.place) c.in-Ok.ensures.steer ∙ sym c.in-Some.ensures.steering,
      subst (λ (ws : List Worker). All (IsCore c.add_both.new.shared) ws)
          (sym (written new (drop (length new) made.items) made.len long)) c.in-Some.ensures.cores,
    )

pub returns-in-Some-clause-second : goal.returns-in-Some-clause-second
returns-in-Some-clause-second g c = c.in-Some.ensures.apps.1

-- Answers of the proof of staffing/hire.
use Rattle.std.proofs.Common.{sym, subst}
use Rattle.std.specs.Arc.{arc_value}
use Rattle.core_worker.specs.Workers.{Common}
use Rattle.core_host.specs.Staffing.{AreAdded}
use Rattle.core_host.proofs.Hiring.{hired}
use Rattle.core_host.proofs.staffing.hire.Goals as goal

pub add_apps-requires-clause-manned : goal.add_apps-requires-clause-manned
add_apps-requires-clause-manned c =
    let is = c.requires.assembled in (is.0, is.1, is.2, c.rest_cores.ensures is.0 is.1 is.3)

pub returns-clause-hired : goal.returns-clause-hired
returns-clause-hired c params n is =
    let names = c.args.numbers.now in
    let put = c.in_ok-lanes.ensures in
    let slow = c.add_apps.new.slow in
    let workers = c.add_apps.new.workers.items in
    let apps = c.in_ok-apps.apps.items in
    hired params n names (arc_value c.in_ok-shared.shared) slow workers apps c.in_ok-lanes.lanes.items put.0 put.1
    (subst (λ (k : Common). AreAdded params n names k slow workers apps)
    (sym c.in_ok-shared.ensures.ok)
    (c.in_ok-apps.ensures.added params n (c.rest_cores.ensures params n is))) put.2 put.3 put.4

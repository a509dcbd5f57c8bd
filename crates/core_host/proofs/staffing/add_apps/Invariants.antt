-- Measures or invariants of staffing/add_apps.
use Rattle.std.proofs.Common.{◌≡◌, ◌≤◌, ℕ, ◌+◌, length, map, take}
use Rattle.tas_model.specs.declared.entry.HostParams.{HostParams}
use Rattle.core_worker.specs.Telling.{app_with}
use Rattle.core_host.specs.Staffing.{IsManned, AreNewApps}
use Rattle.core_host.proofs.staffing.add_apps.Given as goal

-- the first ones were added
abbrev pub invariant-loop-number : goal.invariant-loop-number
invariant-loop-number l = record {
  manned : (params : HostParams) (cores : ℕ) → IsManned params cores cores l.fn.shared l.fn.slow l.fn.workers.items
      → IsManned params cores (cores + l.number-index) l.shared l.slow l.workers.items;
  near : l.number-index ≤ length l.numbers;
  queues : map app_with l.shared.queues ≡ take l.number-index l.numbers;
  apps : AreNewApps l.fn.shared.table (take l.number-index l.numbers) l.apps.items;
  same : l.shared ≡ record l.fn.shared { queues = l.shared.queues };
}

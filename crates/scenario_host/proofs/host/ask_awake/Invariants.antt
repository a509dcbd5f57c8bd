use Rattle.std.proofs.Common.{◌≡◌, ℕ, drop}
use Rattle.scenario_runs.specs.Worlds.{starts_of, address_in}
use Rattle.scenario_host.specs.Resting.{scripts_in}
use Rattle.scenario_host.specs.Turns.{site_with}
use Rattle.scenario_host.proofs.Rests.{Turning}
use Rattle.scenario_host.proofs.host.ask_awake.Given as goal

-- the scripts before some place had their turns, and these are left of those that are awake
abbrev pub invariant-loop-k : goal.invariant-loop-k
invariant-loop-k l = record {
  walk : (p : ℕ) × Turning (starts_of l.starts.params) (address_in l.s.hosts) l.tick l.fn.scripts.passed
      l.fn.scripts.turns p l.fn.scripts.asleep.items (site_with l.fn.host (scripts_in l.fn.scripts))
      (drop l.k l.fn.scripts.awake.items) l.host l.scripts.items.items;
  asleep : l.scripts.asleep ≡ l.fn.scripts.asleep;
  awake : l.scripts.awake ≡ l.fn.scripts.awake;
  passed : l.scripts.passed ≡ l.fn.scripts.passed;
  turns : l.scripts.turns ≡ l.fn.scripts.turns;
}

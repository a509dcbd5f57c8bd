-- Measures or invariants of run/play_all.
use Rattle.std.proofs.Common.{◌≡◌, ℕ, []}
use Rattle.shared_world.specs.Sites.{IsStart}
use Rattle.shared_world.proofs.Running.{IsOnTheWay}
use Rattle.shared_world.proofs.run.play_all.Given as goal

-- the world is on its way to the end
abbrev pub invariant-loop-tick : goal.invariant-loop-tick
invariant-loop-tick g l = record {
  empty : l.lanes.items ≡ [];
  way : (cores : ℕ) → IsStart l.s cores l.fn.world → IsOnTheWay l.s l.tick cores l.world;
  crew : l.crew ≡ l.fn.crew;
}

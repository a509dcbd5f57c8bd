-- What the lanes of a phase left, collected by the slow path.
use Rattle.std.specs.Prelude.{◌≡◌, List, [], ◌∷◌}
use Rattle.core_worker.specs.Workers as cores
use Rattle.core_phase.specs.declared.lane.Lane.{Lane}
use Rattle.core_phase.specs.declared.lane.Lane.TheVariants as lanes
use Rattle.slow_worker.specs.Queues.{IsCollected}
use Rattle.slow_worker.specs.Workers.{Worker}

-- A core's frames and lines were collected; an application has none.
abbrev pub IsLaneCollected : Lane → (before after : Worker) → Type 0
IsLaneCollected (lanes.Core l) v w = (d : cores.Worker) × IsCollected l.worker d v w
IsLaneCollected (lanes.App l) v w = w ≡ v

-- one lane after the other
abbrev pub AreCollected : List Lane → (before after : Worker) → Type 0
AreCollected [] v w = w ≡ v
AreCollected (l ∷ ls) v w = (u : Worker) × IsLaneCollected l v u × AreCollected ls u w

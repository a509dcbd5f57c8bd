use Rattle.std.proofs.Common.{◌≡◌, ℕ, ◌||◌, nat_lt, drop}
use Rattle.std.specs.List.{list_any}
use Rattle.scenario_runs.specs.Worlds.{is_under_way}
use Rattle.scenario_world.proofs.resting.last_coming.Given as goal

-- the frames that are left lead to the same
abbrev pub invariant-loop-frame : goal.invariant-loop-frame
invariant-loop-frame l = (n : ℕ) → (nat_lt n l.last || list_any (is_under_way l.link n) (drop l.frame-index l.frames))
    ≡ (nat_lt n l.fn.last || list_any (is_under_way l.link n) l.frames)

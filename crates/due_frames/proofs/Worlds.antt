-- The worlds of a run: for the law worlds_stay_few.
use Rattle.std.proofs.Common.{ℕ, ◌+◌, List, [], ◌∷◌, map, arith}
use Rattle.scenario_text.specs.declared.scenario.Scenario.{Scenario}
use Rattle.scenario_text.specs.declared.scenario.HostLine.{HostLine}
use Rattle.scenario_runs.specs.Worlds.{World, site_of, scripts_of, due_at}
use Rattle.scenario_runs.specs.Runs.{AreRounds}
use Rattle.scenario_runs.proofs.ByMoves.{scenarios_by_moves}
use Rattle.due_frames.specs.Few.{AreFew, HaveHistories}
use Rattle.due_frames.proofs.Few.{round_few}

pub start_few : (s : Scenario) (lines : List HostLine) → AreFew (map (site_of s) lines)
start_few s [] = tt
start_few s (l ∷ ls) = (record { few = omega arith }, start_few s ls)

pub rounds_few : (s : Scenario) (whole : World) (t h : ℕ) (before after : World) → AreRounds s whole t h before after
    → HaveHistories before → AreFew before → AreFew after
rounds_few s whole t h [] [] rounds legal few = tt
rounds_few s whole t h [] (a ∷ az) rounds legal few = absurd rounds
rounds_few s whole t h (b ∷ bs) [] rounds legal few = absurd rounds
rounds_few s whole t h (b ∷ bs) (a ∷ az) rounds legal few = (
  round_few (scripts_of s b.host.params) t (due_at s whole t h b.scripts) b a
      (scenarios_by_moves s b.host.params) legal.0 rounds.0 few.0,
  rounds_few s whole t (h + 1) bs az rounds.1 legal.1 few.1,
)

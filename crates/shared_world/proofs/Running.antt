-- A run on shared flows, tick by tick: what holds of its world, and how it ends.
use Rattle.std.proofs.Common.{◌≡◌, ◌<◌, ◌+◌, ◌&&◌, ℕ, zero, not, Bool, true, false, List, [], ◌∷◌}
use Rattle.std.proofs.Common.{refl, sym, ap, ◌∙◌, subst}
use Rattle.std.specs.List.{list_all}
use Rattle.core_host.specs.Views.{Staffed}
use Rattle.scenario_runs.specs.Applications.{Script, has_ended}
use Rattle.scenario_runs.specs.Histories.{AreBelow}
use Rattle.scenario_runs.specs.Runs.{IsTick, RunsFrom}
use Rattle.scenario_runs.specs.Worlds.{World, all_ended, at_start, is_at_rest}
use Rattle.scenario_runs.proofs.AllBelow.{start_low}
use Rattle.scenario_text.specs.declared.scenario.Scenario.{Scenario}
use Rattle.scenario_world.proofs.Finishing.{LeadsRight, end_by, begins_right, goes_on_right, rests_right}
use Rattle.scenario_world.proofs.Finishing.{runs_out_right}
use Rattle.shared_world.specs.Sites.{ArePlayable, IsReady, IsStart, sites_in, world_of}
use Rattle.shared_world.specs.Wholes.{IsOver}
use Rattle.shared_world.specs.declared.run.Rest.{Rest}
use Rattle.shared_world.specs.declared.world.SharedWorld.{SharedWorld}

-- The world may have the next tick, its entries are of so many cores, and each right end of the ticks that are left is
-- one of the whole run.
pub record IsOnTheWay (s : Scenario) (t cores : ℕ) (w : SharedWorld) : Type 0 where
  pub ready : IsReady s t cores w
  pub below : AreBelow cores (world_of w)
  pub run : LeadsRight s t (world_of w)

pub sets_out : (s : Scenario) (cores : ℕ) (w : SharedWorld) → IsStart s cores w → IsOnTheWay s 0 cores w
sets_out s cores w start =
    record {
      ready = start.ready;
      below = subst (AreBelow cores) (sym start.world) (start_low cores s s.hosts);
      run = begins_right s (world_of w) start.world;
    }

-- ----- a tick
-- A tick was played, and then the world was looked at for whether it is at rest.
pub record IsTicked (s : Scenario) (t cores : ℕ) (before played after : SharedWorld) (at_rest : Bool) : Type 0 where
  pub tick : IsTick s t (world_of before) (world_of played)
  pub below : AreBelow cores (world_of before) → AreBelow cores (world_of played)
  pub rest : at_rest ≡ is_at_rest s t (world_of played)
  pub same : world_of after ≡ world_of played
  pub ready : IsReady s (t + 1) cores after

pub goes_further : (s : Scenario) (t cores : ℕ) (before played after : SharedWorld) (rest : Bool) → t < s.limit
    → IsOnTheWay s t cores before → IsTicked s t cores before played after rest → rest ≡ false
    → IsOnTheWay s (t + 1) cores after
goes_further s t cores before played after rest inside way ticked is =
    record {
      ready = ticked.ready;
      below = subst (AreBelow cores) (sym ticked.same) (ticked.below way.below);
      run = subst (LeadsRight s (t + 1)) (sym ticked.same)
          (goes_on_right s t (world_of before) (world_of played) inside way.run ticked.tick (sym ticked.rest ∙ is));
    }

pub comes_to_rest : (s : Scenario) (t cores : ℕ) (before played after : SharedWorld) (rest : Bool) → t < s.limit
    → IsOnTheWay s t cores before → IsTicked s t cores before played after rest → rest ≡ true
    → IsOver s cores (record { ticks = t + 1; stalled = false }) after
comes_to_rest s t cores before played after rest inside way ticked is =
    record {
      tick = t + 1;
      ready = ticked.ready;
      run = subst (λ (w : World). RunsFrom s s.limit 0 (at_start s) (end_by w (t + 1) false)) (sym ticked.same)
          (rests_right s t (world_of before) (world_of played) inside way.run ticked.tick (sym ticked.rest ∙ is));
      below = subst (AreBelow cores) (sym ticked.same) (ticked.below way.below);
    }

-- ----- the limit
-- the scripts of the world are those of its hosts
pub all_scripts_ended : (t : ℕ) (hs : List Staffed) (xs : List (List Script)) → ArePlayable t hs xs
    → list_all (λ (ys : List Script). list_all has_ended ys) xs ≡ all_ended (sites_in hs xs)
all_scripts_ended t [] [] playable = refl
all_scripts_ended t [] (x ∷ xs) playable = absurd playable
all_scripts_ended t (h ∷ hs) [] playable = absurd playable
all_scripts_ended t (h ∷ hs) (x ∷ xs) playable =
    ap (λ (b : Bool). list_all has_ended x && b) (all_scripts_ended t hs xs playable.1)

pub runs_out_so : (s : Scenario) (t cores : ℕ) (w : SharedWorld) (ended : Bool) → t ≡ s.limit
    → IsOnTheWay s t cores w → ended ≡ list_all (λ (ys : List Script). list_all has_ended ys) w.scripts.items
    → IsOver s cores (record { ticks = s.limit; stalled = not ended }) w
runs_out_so s t cores w ended over way is =
    record {
      tick = t;
      ready = way.ready;
      run = runs_out_right s t (world_of w) (not ended) over way.run
          (ap not (is ∙ all_scripts_ended t w.hosts.items w.scripts.items way.ready.playable));
      below = way.below;
    }

-- How a tick goes on when lanes have played: scripts go on by the answers, the slow path serves what cores left, and
-- the scripts ask all else alone.
use Rattle.std.specs.Prelude.{◌≡◌, ℕ, suc, true, false, List}
use Rattle.core_phase.specs.declared.lane.Lane.{Lane}
use Rattle.core_worker.specs.declared.frames.Frame.{Frame}
use Rattle.host_rounds.specs.Lists.{Each}
use Rattle.host_rounds.specs.SerialOrder.{ask_phase}
use Rattle.scenario_host.specs.Sound.{AreRising}
use Rattle.scenario_host.specs.Tries.{IsAtStep}
use Rattle.scenario_runs.specs.Applications.{Script}
use Rattle.scenario_runs.specs.Worlds.{scripts_of}
use Rattle.scenario_text.specs.declared.scenario.Scenario.{Scenario}
use Rattle.slow_handshake.specs.Numbers.{FirstNumbers, spaced_from}
use Rattle.slow_worker.specs.Turns.{has_passed}
use Rattle.tas_model.specs.declared.entry.HostParams.{HostParams}
use Rattle.core_host.specs.Emission.{AreTriesSet, IsKicked}
use Rattle.core_host.specs.Serving.{AreLeft, IsServed}
use Rattle.core_host.specs.Sharing.{IsPlayed, MayAllPlay}
use Rattle.core_host.specs.Sound.{IsStaffSound, IsUnasked}
use Rattle.core_host.specs.Ticks.{AreAsked, site_in}
use Rattle.core_host.specs.Views.{Staffed, seen_by}
use Rattle.shared_scripts.specs.Answers.{answers_in, heard_by, later_by, AreWithin}
use Rattle.shared_scripts.specs.Begun.{IsBegun}
use Rattle.shared_scripts.specs.Playing.{IsPlayable, Owns, RunsOn}
use Rattle.shared_scripts.specs.Turns.{numbers_in}

-- ----- before it
-- The host began a tick with these scripts, and its lanes played.
pub record WasBegun (s : Scenario) (t : ℕ) (scripts : List Script) (played : Staffed) : Type 0 where
  pub name : List ℕ
  pub frames : List Frame
  pub before : Staffed
  pub playable : IsPlayable t before scripts
  pub trying : Staffed
  pub begun : IsBegun s t name frames scripts before trying
  pub phase : IsPlayed t trying played

-- Scripts that may have their turns of this tick on the host.
pub record IsReadyFor (t : ℕ) (h : Staffed) (scripts : List Script) : Type 0 where
  pub numbers : AreRising scripts
  pub steps : Each IsAtStep scripts
  pub own : Each (Owns (seen_by h).flows) scripts
  pub runs : Each (RunsOn t h) scripts

-- What must hold for it: the host is sound, in the tick, and has left so much in its lanes; and the scripts may go on
-- by what their applications were answered, to have their turns in this tick then.
pub record CanGoOn (t : ℕ) (scripts : List Script) (played : Staffed) : Type 0 where
  pub sound : IsStaffSound played
  pub later : has_passed t played.host.slow ≡ true
  pub listens : (seen_by played).params.fixed ≡ false
  pub numbers : AreRising scripts
  pub runs : Each (RunsOn t played) scripts
  pub within : AreWithin (answers_in played.lanes scripts) scripts
  pub ready : IsReadyFor t played (heard_by (answers_in played.lanes scripts) scripts)
  pub lanes : List Lane
  pub left : (told : Staffed) → AreTriesSet played told → AreLeft t lanes told

-- ----- the step
-- the first numbers of a host's flows
abbrev pub numbers_of : HostParams → FirstNumbers
numbers_of params = spaced_from (record { 0 = params.iss })

-- Each application whose call was made went on by its answer, and none tries anything more; the slow path served what
-- its cores left; all others had their turns, alone, in their order; and flows with something to send were kicked.
pub record IsGoneOn (s : Scenario) (t : ℕ) (scripts next : List Script) (played kicked : Staffed) : Type 0 where
  pub told : Staffed
  pub answers : AreTriesSet played told
  pub none : Each IsUnasked told.lanes
  pub served : Staffed
  pub serves : IsServed (numbers_of (seen_by played).params) t told served
  pub asked : Staffed
  pub alone : ask_phase (scripts_of s (seen_by played).params) t
      (site_in served (heard_by (answers_in played.lanes scripts) scripts))
      (later_by (answers_in played.lanes scripts) (numbers_in scripts)) ≡ site_in asked next
  pub stays : AreAsked served asked
  pub params : (seen_by asked).params ≡ (seen_by played).params
  pub time : asked.host.slow.time ≡ played.host.slow.time
  pub ready : IsReadyFor (suc t) asked next
  pub kicks : IsKicked asked kicked
  pub may : MayAllPlay kicked

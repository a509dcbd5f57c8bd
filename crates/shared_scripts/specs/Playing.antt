-- What holds of a host and the scripts of its applications between two ticks.
use Rattle.std.specs.Prelude.{◌≡◌, ℕ, ◌<◌, true, false, List, [], ◌⊎◌, Some, IfSome}
use Rattle.host_rounds.specs.Hosts.{Live}
use Rattle.host_rounds.specs.Lists.{Each}
use Rattle.slow_worker.specs.Clocks.{last_tick}
use Rattle.scenario_runs.specs.Applications.{Script}
use Rattle.scenario_laws.specs.Names.{AreOwn}
use Rattle.scenario_host.specs.Sound.{AreRising}
use Rattle.scenario_host.specs.Tries.{IsAtStep}
use Rattle.core_host.specs.Asking.{HasApp}
use Rattle.core_host.specs.Ticks.{IsBetweenTicks}
use Rattle.core_host.specs.Views.{Staffed, seen_by}

-- ----- one script
-- Each socket that its names stand for is its own application's, by who has the sockets of these flows.
abbrev pub Owns : List Live → Script → Type 0
Owns flows x = AreOwn flows x.number x.names

-- Its application is gone: no step is left, no name stands for anything, and its kill is over, where it has one.
pub record IsGone (t : ℕ) (x : Script) : Type 0 where
  pub left : x.left ≡ []
  pub names : x.names ≡ []
  pub past : (at : ℕ) → x.kill ≡ Some at → at < t

-- Its application runs, or is gone before this tick.
abbrev pub RunsOn : (t : ℕ) → Staffed → Script → Type 0
RunsOn t h x = HasApp x.number h ⊎ IsGone t x

-- ----- a host
-- The host may have the tick t, and so may the scripts of its applications: nothing is left to do, and no later tick
-- was begun. Packets are read with their checksums, and only what listens on the host listens. Applications are
-- numbered upward; the steps of each are in their ranges, and the first is under way; each has the sockets that its
-- names stand for, and runs on the host but where it is gone.
pub record IsPlayable (t : ℕ) (h : Staffed) (scripts : List Script) : Type 0 where
  pub between : IsBetweenTicks h
  pub risen : IfSome (last_tick h.host.slow.time) (λ last. last < t)
  pub checks : h.host.slow.check_sums ≡ true
  pub listens : (seen_by h).params.fixed ≡ false
  pub numbers : AreRising scripts
  pub steps : Each IsAtStep scripts
  pub own : Each (Owns (seen_by h).flows) scripts
  pub runs : Each (RunsOn t h) scripts

-- Scenarios that were read from texts are in the ranges that the laws of both ends ask for.
use Rattle.std.proofs.Common.{◌≡◌, ℕ, List, [], ◌∷◌, Ok}
use Rattle.host_rounds.specs.Lists.{Each}
use Rattle.host_rounds.specs.Logs.{RunLog}
use Rattle.scenario_text.specs.declared.scenario.Scenario.{Scenario}
use Rattle.scenario_text.specs.declared.scenario.HostLine.{HostLine}
use Rattle.scenario_text.specs.Reads.{reads}
use Rattle.scenario_ranges.specs.Ranges.{IsInRange, IsHostInRange}
use Rattle.scenario_ranges.proofs.Drafts.{read_in_range}
use Rattle.scenario_runs.specs.Runs.{Run}
use Rattle.scenario_runs.specs.Histories.{AreInRange}
use Rattle.two_ends.specs.Ends.{IsFaithful, HearsOtherEnd, ReadsOtherEnd}
use Rattle.two_ends.proofs.Ends.{InLog, run_hears, run_reads}

hosts_fit : (hosts : List HostLine) → Each IsHostInRange hosts → AreInRange hosts
hosts_fit [] all = tt
hosts_fit (h ∷ hs) all = (all.0.params, hosts_fit hs all.1)

pub text_hears : (text : List ℕ) (s : Scenario) (log : RunLog) → reads text ≡ Ok s → IsFaithful s.link → Run s log
    → InLog (HearsOtherEnd log.hosts) log.hosts
text_hears text s log read faithful run =
    let ranges : IsInRange s = read_in_range text s read in
    run_hears s log (hosts_fit s.hosts ranges.hosts) ranges.limit.1 faithful run

pub text_reads : (text : List ℕ) (s : Scenario) (log : RunLog) → reads text ≡ Ok s → IsFaithful s.link → Run s log
    → InLog (ReadsOtherEnd log.hosts) log.hosts
text_reads text s log read faithful run =
    let ranges : IsInRange s = read_in_range text s read in
    run_reads s log (hosts_fit s.hosts ranges.hosts) ranges.limit.1 faithful run

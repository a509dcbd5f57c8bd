-- Each segment that a flow took was sent to it, where the link damages nothing.
use Rattle.std.proofs.Common.{◌≡◌, ℕ, List, [], ◌∷◌, Contains, Some, None, refl, sym, subst, ap}
use Rattle.tas_model.specs.declared.entry.FourTuple.{FourTuple}
use Rattle.tas_model.specs.declared.entry.Seg.{Seg}
use Rattle.tas_model.specs.declared.entry.Entry.{Entry}
use Rattle.tas_model.specs.declared.entry.Call.{Call}
use Rattle.tas_model.specs.declared.entry.Call.TheVariants as calls
use Rattle.tas_model.specs.Outputs.{sent}
use Rattle.host_rounds.specs.declared.log.LogLine.{LogLine}
use Rattle.host_rounds.specs.declared.log.LogEvent.{LogEvent}
use Rattle.host_rounds.specs.declared.log.LogEvent.TheVariants as events
use Rattle.host_rounds.specs.Lists.{Each}
use Rattle.host_rounds.specs.Logs.{HostRun, RunLog}
use Rattle.host_rounds.specs.Hosts.{Live}
use Rattle.host_rounds.specs.Scripts.{Site}
use Rattle.scenario_text.specs.declared.scenario.Scenario.{Scenario}
use Rattle.scenario_text.specs.declared.scenario.HostLine.{HostLine}
use Rattle.scenario_runs.specs.Applications.{Script}
use Rattle.scenario_runs.specs.Worlds.{World, at_start, answer_on}
use Rattle.scenario_runs.specs.Runs.{hosts_of, End, RunsFrom, Run}
use Rattle.two_ends.specs.Ends.{flows_in, IsFaithful}
use Rattle.two_ends.specs.Origins.{as_read, lines_in, Origin, OfFlow, OfHost, HasOrigin, TookWhatWasSent}
use Rattle.two_ends.proofs.Lists.{each_as, each_both, each_left, each_right, each_contained}
use Rattle.two_ends.proofs.Back.{SentLive, LineHas}
use Rattle.two_ends.proofs.Heard.{LineResets, Heard, HeardLive}
use Rattle.two_ends.proofs.Frames.{SentSite}
use Rattle.two_ends.proofs.Worlds.{AllRight, run_heard, run_right}
use Rattle.two_ends.proofs.Ends.{InWorld, InLog, LinesReset, log_too, log_of_all, world_of_log, lines_reset}

-- ----- what is sent
-- What has this origin when it is read.
abbrev Leaves : List HostRun → FourTuple → Seg → Type 0
Leaves hosts tuple seg = Origin hosts tuple (as_read seg)

line_leaves : (hosts : List HostRun) (l : LogLine) → Contains (lines_in hosts) l → LineResets l.event
    → LineHas (Leaves hosts) l.event
line_leaves hosts l among resets = by_event l.event refl resets where
  by_event : (event : LogEvent) → l.event ≡ event → LineResets event → LineHas (Leaves hosts) event
  by_event (events.Stray frame tuple seg None) is resets = tt
  by_event (events.Stray frame tuple seg (Some head)) is resets =
      OfHost (record { line = l; head = head; among = among; shows = ap answer_on is; read = refl; reset = resets })
  by_event _ is resets = tt

flow_leaves : (hosts : List HostRun) (l : Live) → Contains (flows_in hosts) l.flow → SentLive (Leaves hosts) l
flow_leaves hosts l among =
    each_as (Contains (sent l.flow.entries)) (Leaves hosts l.flow.tuple)
    (λ seg one. OfFlow (record { flow = l.flow; said = seg; among = among; own = refl; one = one; read = refl }))
    (sent l.flow.entries) (each_contained (sent l.flow.entries))

-- a fact of each line of a world's logs
abbrev OnLines : (LogLine → Type 0) → World → Type 0
OnLines P world = Each (λ (site : Site (List Script)). Each P site.host.log) world

-- each line of the world is in the log
lines_of_log : (P : LogLine → Type 0) (t : ℕ) (hosts : List HostLine) (world : World) → AllRight t hosts world
    → Each P (lines_in (hosts_of hosts world)) → OnLines P world
lines_of_log P t [] [] right all = tt
lines_of_log P t [] (site ∷ sites) right all = absurd right
lines_of_log P t (h ∷ hs) [] right all = absurd right
lines_of_log P t (h ∷ hs) (site ∷ sites) right all = (
  each_left P site.host.log (lines_in (hosts_of hs sites)) all,
  lines_of_log P t hs sites right.1 (each_right P site.host.log (lines_in (hosts_of hs sites)) all),
)

sites_leave : (hosts : List HostRun) (world : World) → InWorld (Contains (flows_in hosts)) world
    → OnLines (Contains (lines_in hosts)) world → LinesReset world → Each (SentSite (Leaves hosts)) world
sites_leave hosts [] among lines resets = tt
sites_leave hosts (site ∷ sites) among lines resets = (
  record {
    flows = each_as _ _ (λ l here. flow_leaves hosts l here) site.host.flows among.0;
    lines =
        each_as _ _ (λ l here. line_leaves hosts l here.0 here.1) site.host.log
        (each_both (Contains (lines_in hosts)) (λ (l : LogLine). LineResets l.event) site.host.log lines.0 resets.0);
  },
  sites_leave hosts sites among.1 lines.1 resets.1,
)

-- ----- what is taken
call_comes : (hosts : List HostRun) (tuple : FourTuple) (call : Call) → Heard (Origin hosts) tuple call
    → HasOrigin hosts tuple call
call_comes hosts tuple (calls.Rx frame seg) heard = heard
call_comes hosts tuple (calls.Passive frame iss seg) heard = heard.0
call_comes hosts tuple _ heard = tt

live_comes : (hosts : List HostRun) (l : Live) → HeardLive (Origin hosts) l → TookWhatWasSent hosts l.flow
live_comes hosts l heard =
    each_as (λ (x : Entry). Heard (Origin hosts) l.flow.tuple x.call)
    (λ (x : Entry). HasOrigin hosts l.flow.tuple x.call)
    (λ x here. call_comes hosts l.flow.tuple x.call here) l.flow.entries heard

end_comes : (s : Scenario) (end : End) → IsFaithful s.link → RunsFrom s s.limit 0 (at_start s) end
    → InLog (TookWhatWasSent (hosts_of s.hosts end.world)) (hosts_of s.hosts end.world)
end_comes s end faithful run =
    let hosts : List HostRun = hosts_of s.hosts end.world in
    let among : InWorld (Contains (flows_in hosts)) end.world =
    world_of_log (Contains (flows_in hosts)) s.limit s.hosts end.world (run_right s end run)
    (log_of_all (Contains (flows_in hosts)) hosts (each_contained (flows_in hosts))) in
    let lines : OnLines (Contains (lines_in hosts)) end.world =
    lines_of_log (Contains (lines_in hosts)) s.limit s.hosts end.world (run_right s end run)
    (each_contained (lines_in hosts)) in
    log_too (TookWhatWasSent hosts) s.hosts end.world
    (each_as _ _ (λ site heard. each_as _ _ (λ l here. live_comes hosts l here) site.host.flows heard.flows) end.world
    (run_heard (Leaves hosts) (Origin hosts) (λ tuple seg here. here) s end faithful run
    (sites_leave hosts end.world among lines (lines_reset s end faithful run))))

pub run_comes : (s : Scenario) (log : RunLog) → IsFaithful s.link → Run s log
    → InLog (TookWhatWasSent log.hosts) log.hosts
run_comes s log faithful run =
    subst (λ (r : RunLog). InLog (TookWhatWasSent r.hosts) r.hosts) (sym run.2) (end_comes s run.0 faithful run.1)

-- What stands between two ticks of a host in a run, and that each tick keeps it.
use Rattle.std.proofs.Common.{◌≡◌, ℕ, ◌+◌, ◌≤◌, ◌<◌, List, [], ◌∷◌, ◌++◌, sym, subst, arith}
use Rattle.tas_model.specs.declared.entry.HostParams.{HostParams}
use Rattle.tas_model.specs.declared.entry.Entry.{Entry}
use Rattle.tas_model.specs.LegalHistory.{last_tick}
use Rattle.host_rounds.specs.declared.log.LogLine.{LogLine}
use Rattle.host_rounds.specs.Lists.{Each}
use Rattle.host_rounds.specs.Hosts.{Live, Host}
use Rattle.host_rounds.specs.Scripts.{Site}
use Rattle.host_rounds.specs.Rounds.{Due, Round, IsQuiet}
use Rattle.host_rounds.specs.Passing.{AllGrew, Grew, Went, IsUpTo}
use Rattle.host_rounds.specs.Standing.{AreApart}
use Rattle.host_rounds.proofs.AllOpened.{IsRight, round_right}
use Rattle.host_rounds.proofs.AllGrown.{round_went}
use Rattle.host_rounds.proofs.AllStanding.{round_apart}
use Rattle.scenario_text.specs.declared.scenario.Scenario.{Scenario}
use Rattle.scenario_runs.specs.Applications.{Script}
use Rattle.scenario_runs.specs.Worlds.{starts_of, scripts_of}
use Rattle.scenario_runs.proofs.ByMoves.{scenarios_by_moves}
use Rattle.scenario_laws.specs.Ends.{AllBefore, LinesBefore}
use Rattle.scenario_laws.proofs.AllControlled.{AreAllControlled, round_controlled}

-- ----- lists of what bears a tick
-- what was before the tick, and what the tick adds, is before the next one
grown_before : {X : Type 0} (tick : X → ℕ) (t : ℕ) (xs more : List X) → Each (λ (x : X). tick x < t) xs
    → Each (λ (x : X). tick x ≡ t) more → Each (λ (x : X). tick x < t + 1) (xs ++ more)
grown_before tick t [] [] low now = tt
grown_before tick t [] (m ∷ more) low now =
    let here : tick m ≡ t = now.0 in (omega arith, grown_before tick t [] more tt now.1)
grown_before tick t (x ∷ xs) more low now =
    let here : tick x < t = low.0 in (omega arith, grown_before tick t xs more low.1 now)

entries_before : (t : ℕ) (before after : List Entry) → AllBefore t before → Grew t before after
    → AllBefore (t + 1) after
entries_before t before after low grew =
    subst (AllBefore (t + 1)) (sym grew.1) (grown_before (λ (x : Entry). x.tick) t before grew.0 low grew.2)

last_before : (t from : ℕ) (xs : List Entry) → from ≤ t → AllBefore t xs → last_tick from xs ≤ t
last_before t from [] h low = h
last_before t from (x ∷ xs) h low = let here : x.tick < t = low.0 in last_before t x.tick xs (omega arith) low.1

-- ----- one host
abbrev pub FlowBefore : (tick : ℕ) → Live → Type 0
FlowBefore t l = AllBefore t l.flow.entries

pub flows_up_to : (t : ℕ) (ls : List Live) → Each (FlowBefore t) ls → Each (IsUpTo t) ls
flows_up_to t [] low = tt
flows_up_to t (l ∷ ls) low = (last_before t 0 l.flow.entries (omega arith) low.0, flows_up_to t ls low.1)

flows_before : (t : ℕ) (ls ms : List Live) → Each (FlowBefore t) ls → AllGrew t ls ms → Each (FlowBefore (t + 1)) ms
flows_before t [] [] low grew = tt
flows_before t [] (m ∷ ms) low grew =
    (entries_before t [] m.flow.entries tt grew.0, flows_before t [] ms tt grew.1)
flows_before t (l ∷ ls) [] low grew = absurd grew
flows_before t (l ∷ ls) (m ∷ ms) low grew =
    (entries_before t l.flow.entries m.flow.entries low.0 grew.0, flows_before t ls ms low.1 grew.1)

-- Before the tick with this number.
pub record Stands (p : HostParams) (t : ℕ) (host : Host) : Type 0 where
  pub right : IsRight (starts_of p) p host
  pub flows : Each (FlowBefore t) host.flows
  pub lines : LinesBefore t host.log
  pub apart : AreApart host.flows
  pub quiet : Each IsQuiet host.flows
  pub controlled : AreAllControlled host.flows

pub tick_went : (s : Scenario) (p : HostParams) (t : ℕ) (due : Due ℕ) (b a : Site (List Script))
    → Round (scripts_of s p) t due b a → Stands p t b.host → Went t b.host a.host
tick_went s p t due b a round stands =
    round_went (scripts_of s p) t due b a (scenarios_by_moves s p) stands.right.legal
    (flows_up_to t b.host.flows stands.flows) round

pub tick_stands : (s : Scenario) (p : HostParams) (t : ℕ) (due : Due ℕ) (b a : Site (List Script))
    → Round (scripts_of s p) t due b a → Stands p t b.host → Stands p (t + 1) a.host
tick_stands s p t due b a round stands =
    let went : Went t b.host a.host = tick_went s p t due b a round stands in
    record {
      right = round_right (scripts_of s p) p t due b a (scenarios_by_moves s p) round stands.right;
      flows = flows_before t b.host.flows a.host.flows stands.flows went.flows;
      lines =
          subst (LinesBefore (t + 1)) (sym went.log.1)
          (grown_before (λ (l : LogLine). l.tick) t b.host.log went.log.0 stands.lines went.log.2);
      apart =
          round_apart (scripts_of s p) t due b a (scenarios_by_moves s p) stands.right.legal round stands.apart;
      quiet = round.quiet;
      controlled =
          round_controlled (scripts_of s p) t due b a (scenarios_by_moves s p) stands.right.legal
          (flows_up_to t b.host.flows stands.flows) round stands.controlled;
    }

-- What a kill leaves of a host.
use Rattle.std.specs.Prelude.{ℕ, ◌==◌, not, map}
use Rattle.std.specs.List.{filter}
use Rattle.host_rounds.specs.Hosts.{Host, Live, Listener}
use Rattle.scenario_runs.specs.Applications.{aborted_where, is_concerned}

-- The flows that the kill concerns have one Abort by the slow path, and the application's listeners go.
abbrev pub without_app : (app tick : ℕ) → Host → Host
without_app app t host =
    record host {
      listeners = filter (λ (l : Listener). not (l.app == app)) host.listeners;
      flows = map (λ (l : Live). aborted_where (is_concerned app host l) t l) host.flows;
    }

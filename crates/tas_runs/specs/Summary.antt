-- The summary of a run of the scenario of `bulk`, in place of its report: how many clients were asked for, how many
-- bytes were read on host b, and how many flows of host a were closed by both of their ends.
use Rattle.std.specs.Prelude.{ℕ, Bool, true, false, List, [], ◌∷◌, ◌++◌, length, flat_map, count_by, bytes_eq, codes}
use Rattle.std.specs.Prelude.{decimal, Option, Some, if◌then◌else◌}
use Rattle.tas_model.specs.declared.entry.Reason.{Reason}
use Rattle.tas_model.specs.declared.entry.Reason.TheVariants as reasons
use Rattle.tas_model.specs.LegalHistory.{replay}
use Rattle.tas_model.specs.Outputs.{bytes_read}
use Rattle.host_rounds.specs.Logs.{Flow, HostRun, RunLog}
use Rattle.tas_runs.specs.Report.{line}

-- the flows of the host with this name, none where there is no such host
abbrev pub flows_on : (name : List ℕ) → List HostRun → List Flow
flows_on name [] = []
flows_on name (h ∷ hs) = if bytes_eq h.name name then h.flows else flows_on name hs

-- all bytes that were read in these flows
abbrev pub all_read : List Flow → List ℕ
all_read flows = flat_map (λ (f : Flow). bytes_read f.entries) flows

-- both ends closed, and each has acknowledged the other's FIN
abbrev pub is_by_both : Option Reason → Bool
is_by_both (Some reasons.Done) = true
is_by_both _ = false

-- so the history of the flow has ended
abbrev pub is_done : Flow → Bool
is_done f = is_by_both (replay f.params f.entries).reason

-- its lines
abbrev pub summary_lines : (clients read closed : ℕ) → List ℕ
summary_lines clients read closed =
    line (codes "bulk " ++ decimal clients)
    ++ line (codes "read " ++ decimal read)
    ++ line (codes "closed " ++ decimal closed)

-- The summary of a run with so many clients.
unfoldable pub summary : (clients : ℕ) → RunLog → List ℕ
summary clients log =
    let read = length (all_read (flows_on (codes "b") log.hosts)) in
    let closed = count_by is_done (flows_on (codes "a") log.hosts) in
    summary_lines clients read closed

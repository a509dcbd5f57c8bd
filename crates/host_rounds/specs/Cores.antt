-- Which cores made the entries of a run. A host with so many cores has them numbered from 0 on; on one thread the only
-- core is core 0.
use Rattle.std.specs.Prelude.{ℕ, ◌<◌, List, ⊤}
use Rattle.tas_model.specs.declared.entry.Caller.{Caller}
use Rattle.tas_model.specs.declared.entry.Caller.TheVariants.{Slow, Core, App}
use Rattle.tas_model.specs.declared.entry.Entry.{Entry}
use Rattle.host_rounds.specs.Lists.{Each}
use Rattle.host_rounds.specs.Logs.{Flow, HostRun}
use Rattle.host_rounds.specs.Hosts.{Live, Host}

-- the slow path, or one of so many cores
abbrev pub IsWorkerOf : (cores : ℕ) → Caller → Type 0
IsWorkerOf cores Slow = ⊤
IsWorkerOf cores (Core k) = k < cores
IsWorkerOf cores (App k) = ⊥

-- where it is a core, it is one of so many
abbrev pub IsBelow : (cores : ℕ) → Caller → Type 0
IsBelow cores (Core k) = k < cores
IsBelow cores Slow = ⊤
IsBelow cores (App k) = ⊤

-- each entry of the flow that a core made was made by one of so many
abbrev pub HasCoresBelow : (cores : ℕ) → Flow → Type 0
HasCoresBelow cores f = Each (λ (x : Entry). IsBelow cores x.caller) f.entries

-- so it is in all flows of a host, while the run goes on,
abbrev pub AllBelow : (cores : ℕ) → Host → Type 0
AllBelow cores host = Each (λ (l : Live). HasCoresBelow cores l.flow) host.flows

-- and in those of all hosts that a run left.
abbrev pub CoresBelow : (cores : ℕ) → List HostRun → Type 0
CoresBelow cores hosts = Each (λ (h : HostRun). Each (HasCoresBelow cores) h.flows) hosts

-- The log of a replay as the definitions of runs have it.
use Rattle.std.specs.Prelude.{◌≡◌, ℕ, ◌≤◌, List, length, count_by, map, Err, ⊤}
use Rattle.tas_num.specs.Captures.{capture_of}
use Rattle.pcap_frames.specs.Views.{fault_in}
use Rattle.host_rounds.specs.Logs.{Flow, HostRun, RunLog}
use Rattle.host_rounds.specs.Lists.{Each}
use Rattle.tas_model.specs.LegalHistory.{Legal}
use Rattle.tas_model.specs.Valid.{InRange}
use Rattle.run_texts.specs.declared.frames.Frame.{Frame}
use Rattle.run_texts.specs.Frames.{history_of, host_of, all_frames, AreShort, IsInOrder}
use Rattle.tas_runs.specs.Records.{Item, is_damaged}
use Rattle.tas_runs.specs.Batches.{batches_of}
use Rattle.tas_runs.specs.LocalScript.{capture_scripts, due_in}
use Rattle.tas_runs.specs.Replays.{at_start}
use Rattle.host_rounds.specs.Rounds.{Rounds}
use Rattle.host_rounds.specs.Cores.{AllBelow}
use Rattle.host_rounds.specs.SerialOrder.{serial_ticks}
use Rattle.tas_round.specs.declared.logs.HostRun as code_host
use Rattle.tas_round.specs.declared.logs.RunLog as code
use Rattle.tas_round.specs.declared.replaying.Ending.{Ending}
use Rattle.tas_round.specs.declared.replaying.Mode.{Mode}
use Rattle.tas_round.specs.declared.replaying.Mode.TheVariants as modes
use Rattle.tas_round.specs.declared.replaying.ReplayFault.{ReplayFault}
use Rattle.tas_round.specs.declared.replaying.ReplayFault.TheVariants.{OutOfMemory, Pcap}

abbrev pub host_in : code_host.HostRun → HostRun
host_in h = record { name = h.name; addr = h.addr; log = h.log; flows = map history_of h.flows }

abbrev pub log_in : code.RunLog → RunLog
log_in log =
    record {
      replay = log.replay;
      hosts = map host_in log.hosts;
      ticks = log.ticks;
      stalled = log.stalled;
      records = log.records;
      frames = log.frames;
      passed = log.passed;
      refused = log.refused;
    }

-- the same without its name and address, which the frames that it sent do not show
abbrev pub unnamed_in : code_host.HostRun → HostRun
unnamed_in h = host_of (map history_of h.flows) h.log

-- each flow of the host has a history of the endpoint, with parameters in their ranges
abbrev pub AreLegal : HostRun → Type 0
AreLegal h = Each (λ (f : Flow). InRange f.params × Legal f.params f.entries) h.flows

-- these are the frames that the hosts sent, by their tick, and each has room in a packet
pub record AreSentBy (hosts : List code_host.HostRun) (frames : List Frame) : Type 0 where
  pub order : IsInOrder (all_frames (map unnamed_in hosts)) frames
  pub short : AreShort (map unnamed_in hosts)

-- the host and its script after all ticks of these items, and how many they are
pub record Ended (local : ℕ) (items : List Item) (ending : Ending) : Type 0 where
  pub played : ending.replay
      ≡ serial_ticks (capture_scripts items) 0 (at_start local) (map due_in (batches_of items))
  pub ticks : ending.ticks ≡ length (batches_of items)
  pub met : ending.tally.items ≡ length items
  pub refused : ending.tally.refused ≡ count_by is_damaged items

-- the same after right ticks, in whatever order each of them went, on so many cores
pub record EndedRight (local cores : ℕ) (items : List Item) (ending : Ending) : Type 0 where
  pub played : Rounds (capture_scripts items) 0 (map due_in (batches_of items)) (at_start local) ending.replay
  pub below : AllBelow cores ending.replay.host
  pub ticks : ending.ticks ≡ length (batches_of items)
  pub met : ending.tally.items ≡ length items
  pub refused : ending.tally.refused ≡ count_by is_damaged items

-- the bytes are no capture, where it isn't want of memory
abbrev pub Refuses : List ℕ → ReplayFault → Type 0
Refuses b OutOfMemory = ⊤
Refuses b (Pcap fault) = capture_of b ≡ Err (fault_in fault)

-- so many cores as a host may have
abbrev pub AreCores : Mode → Type 0
AreCores modes.Serial = ⊤
AreCores (modes.Cores count) = (1 ≤ count) × (count ≤ 16)

-- how many cores a host has: on one thread there is one, core 0
abbrev pub cores_of : Mode → ℕ
cores_of modes.Serial = 1
cores_of (modes.Cores count) = count

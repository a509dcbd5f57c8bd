-- Which logs are those of a replay: the run of a capture on the one host whose address is local.
use Rattle.std.specs.Prelude.{◌≡◌, ℕ, ◌-◌, Bool, true, false, List, [], ◌∷◌, length, count_by, map, codes, Result, Ok}
use Rattle.std.specs.Prelude.{Err, None}
use Rattle.tas_num.specs.Captures.{Fault, Capture, capture_of}
use Rattle.tas_model.specs.declared.entry.HostParams.{HostParams}
use Rattle.host_rounds.specs.Logs.{RunLog}
use Rattle.tas_runs.specs.Records.{Item, items_of, is_damaged}
use Rattle.tas_runs.specs.Batches.{batches_of}
use Rattle.tas_runs.specs.LocalScript.{Shown, capture_scripts, due_in}
use Rattle.host_rounds.specs.Hosts.{Host, run_of}
use Rattle.host_rounds.specs.Scripts.{Site}
use Rattle.host_rounds.specs.Rounds.{Rounds}

-- What a capture shows to the host with this address: its records that are not passed over. With `loose` no checksum of
-- a frame is looked at.
abbrev pub items_found : (local : ℕ) → (loose : Bool) → Result Capture Fault → List Item
items_found local loose (Err fault) = []
items_found local loose (Ok c) = items_of c.form local loose c.records

abbrev pub items_in : (local : ℕ) → (bytes : List ℕ) → (loose : Bool) → List Item
items_in local bytes loose = items_found local loose (capture_of bytes)

-- The parameters of a replay's flows. Every port listens without a bound on its backlog, so that the number given for
-- it, which is that of a host that names none, is never looked at.
abbrev pub replay_params : (local : ℕ) → HostParams
replay_params local = record {
  addr = local;
  iss = 0;
  ring = 65535;
  mss = 1460;
  rto = 100;
  slots = 1024;
  backlog = 16;
  fixed = true;
  scale = None;
}

-- a replay begins without flows and with an empty log, and nothing was shown
abbrev pub at_start : (local : ℕ) → Site (List Shown)
at_start local = record {
  host = record { params = replay_params local; listeners = []; log = []; flows = [] };
  scripts = [];
}

-- The log of a replay of so many records, of which `items` are not passed over, where the host ends like this. It has a
-- tick for each batch, and is never stalled.
abbrev pub replay_log : (local records : ℕ) → List Item → Host → RunLog
replay_log local records items host =
    record {
      replay = true;
      hosts = run_of (codes "local") host ∷ [];
      ticks = length (batches_of items);
      stalled = false;
      records = records;
      frames = length items - count_by is_damaged items;
      passed = records - length items;
      refused = count_by is_damaged items;
    }

-- The log is one of a run of these items, of so many records: the rounds of its batches lead from the start to a host
-- that leaves this log.
abbrev pub IsReplayOf : (local records : ℕ) → List Item → RunLog → Type 0
IsReplayOf local records items log =
    (last : Site (List Shown)) × Rounds (capture_scripts items) 0 (map due_in (batches_of items)) (at_start local) last
    × (log ≡ replay_log local records items last.host)

abbrev pub IsReplayFound : (local : ℕ) → (loose : Bool) → Result Capture Fault → RunLog → Type 0
IsReplayFound local loose (Err fault) log = ⊥
IsReplayFound local loose (Ok c) log = IsReplayOf local (length c.records) (items_of c.form local loose c.records) log

-- The log is one of a run of this capture, on the host with this address.
abbrev pub Replay : (local : ℕ) → (bytes : List ℕ) → (loose : Bool) → RunLog → Type 0
Replay local bytes loose log = IsReplayFound local loose (capture_of bytes) log

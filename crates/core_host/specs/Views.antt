-- What a host of shared flows is seen as: its table, slow path, applications and books, by which it is a host of a run,
-- and those who work beside the slow path.
use Rattle.std.specs.Prelude.{ℕ, List, length}
use Rattle.std.specs.Arc.{arc_value}
use Rattle.steering.specs.Tables.{Sight}
use Rattle.host_rounds.specs.Hosts.{Host}
use Rattle.core_worker.specs.Workers.{Common}
use Rattle.core_phase.specs.declared.lane.Lane.{Lane}
use Rattle.sound_hosts.specs.Hosts as sound
use Rattle.sound_phases.specs.Phased.{apps_in}
use Rattle.core_host.specs.declared.host.CoreHost.TheInside.{Inside}

-- A host and what its workers share, how many cores it has and what the steering was seen to say, its lanes (the cores
-- first, and then the applications that run), the numbers of these, and how many bytes one call may read.
pub record Staffed : Type 0 where
  pub host : sound.CoreHost
  pub shared : Common
  pub cores : ℕ
  pub steer : Sight
  pub lanes : List Lane
  pub names : List ℕ
  pub room : ℕ

abbrev pub staffed_in : Inside → Staffed
staffed_in h = record {
  host = record {
    table = (arc_value h.shared).table;
    slow = h.slow;
    apps = apps_in h.lanes.items;
    books = h.books;
  };
  shared = arc_value h.shared;
  cores = h.cores;
  steer = h.steer;
  lanes = h.lanes.items;
  names = h.names.items;
  room = length h.buffer.items;
}

-- as a run has it
abbrev pub seen_by : Staffed → Host
seen_by h = sound.host_of h.host

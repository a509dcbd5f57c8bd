-- The cores of a host, and the groups of frames.
use Rattle.std.specs.Prelude.{◌≡◌, ℕ, ◌<◌, ◌≤◌}
use Rattle.steering.specs.Tables.{Place, Sight, group_of}
use Rattle.local_host.specs.declared.arrival.Packet.{Packet}
use Rattle.local_host.specs.declared.arrival.Packet.TheVariants as packets

-- The cores of a host: its number, and how many they are.
pub record Steered : Type 0 where
  pub host : ℕ
  pub count : ℕ

-- The pass is of this table, and the table is of so many cores.
pub record AreOwn (host count : ℕ) (table : Place) (pass : Sight) : Type 0 where
  pub low : host < 67108863
  pub cores : table.cores ≡ count
  pub own : pass.place ≡ table
  pub some : 0 < count
  pub most : count ≤ 16

-- the group of a frame: that of its four-tuple, and 0 of a packet that breaks a rule of reading
abbrev pub group_in : Packet → ℕ
group_in (packets.Damaged rule) = 0
group_in (packets.Segment tuple seg) = group_of tuple

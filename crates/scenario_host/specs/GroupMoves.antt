-- Which groups of flows go to other cores, by the lines of a scenario.
use Rattle.std.specs.Prelude.{ℕ, ◌==◌, ◌&&◌, nat_lt, Bool, List, [], bytes_eq, slice_get, Option, Some, None}
use Rattle.scenario_text.specs.declared.scenario.HostLine.{HostLine}
use Rattle.scenario_text.specs.declared.scenario.MoveLine.{MoveLine}
use Rattle.local_host.specs.declared.steer.GroupMove.{GroupMove}

-- the name of the host on a line
abbrev pub name_on : Option HostLine → List ℕ
name_on None = []
name_on (Some h) = h.name

-- the name of the host with this number; none where there is no such host
abbrev pub name_at : (number : ℕ) → List HostLine → List ℕ
name_at number hosts = name_on (slice_get hosts number)

-- The line moves a group of this host in the tick. There are 64 groups.
abbrev pub is_move_of : (name : List ℕ) → (tick : ℕ) → MoveLine → Bool
is_move_of name t m = m.at == t && nat_lt m.group 64 && bytes_eq m.host name

abbrev pub group_move : MoveLine → GroupMove
group_move m = record { group = m.group; core = m.core }

-- A store's map, by the entries that it keeps.
use Rattle.std.specs.Prelude.{ℕ, List, map, Vec}
use Rattle.std.specs.FinMap.{from_entries}
use Rattle.std.specs.declared.alloc.Global.{Global}
use Rattle.kv_sessions.specs.Stored.{Item, Map}
use Rattle.kv_sessions.specs.declared.store.Held.{Held}

abbrev pub item_of : Held → Item
item_of held = record { flags = held.flags; bytes = held.bytes.items }

abbrev pub map_of : List (Vec ℕ Global × Held) → Map
map_of entries = from_entries (map (λ (e : Vec ℕ Global × Held). (e.0.items, item_of e.1)) entries)

-- The entries of the map, whose keys ascend.
use Rattle.std.specs.Prelude.{List, [], fold, Option, Some, None}
use Rattle.std.specs.declared.cmp.Ordering.{Ordering}
use Rattle.std.specs.BTreeMap.{insert_entry, is_at}
use Rattle.std.specs.Map.{remove_entry, lookup}
use Rattle.std.specs.Ordering.{nat_cmp, on, then_cmp}
use Rattle.tas_model.specs.declared.entry.FourTuple.{FourTuple}
use Rattle.tas_model.specs.declared.entry.FlowId.{FlowId}
use Rattle.flow_index.specs.declared.store.Key.{Key}
use Rattle.flow_index.specs.declared.change.Change.{Change}
use Rattle.flow_index.specs.declared.change.Change.TheVariants.{Put, Remove}
use Rattle.flow_index.specs.declared.change.Found.{Found}
use Rattle.flow_index.specs.declared.change.Found.TheVariants.{Flow, Absent}

abbrev pub Entries : Type 0
Entries = List (Key × FlowId)

abbrev pub key_of : FourTuple → Key
key_of t = record { laddr = t.laddr; lport = t.lport; raddr = t.raddr; rport = t.rport }

-- the order of keys, field by field
abbrev pub key_cmp : Key → Key → Ordering
key_cmp =
    then_cmp (on (λ k. k.laddr) nat_cmp)
    (then_cmp (on (λ k. k.lport) nat_cmp) (then_cmp (on (λ k. k.raddr) nat_cmp) (on (λ k. k.rport) nat_cmp)))

abbrev pub changed : Entries → Change → Entries
changed es (Put t flow) = insert_entry key_cmp es (key_of t) flow
changed es (Remove t) = remove_entry (is_at (key_cmp (key_of t))) es

-- the entries after these changes of an empty map
abbrev pub entries_of : List Change → Entries
entries_of changes = fold changed [] changes

abbrev pub answer : Option FlowId → Found
answer (Some flow) = Flow flow
answer None = Absent

-- what the entries answer for a four-tuple
abbrev pub found_in : Entries → FourTuple → Found
found_in es t = answer (lookup (is_at (key_cmp (key_of t))) es)

-- How a record is seen, and what it keeps true.
use Rattle.std.specs.Prelude.{◌-◌, min, vec_len, vec_capacity}
use Rattle.flow_state.specs.declared.record.FlowRecord.TheInside.{Inside}
use Rattle.flow_state.specs.Flow.{Flow}
use Rattle.flow_state.specs.Stretches.{entries_of}
use Rattle.flow_state.specs.Record.{IsRecord}

-- An entry needs a stretch, a count where its caller is a new one, and a place among the segments that came where its
-- call brings one.
abbrev pub flow_of : Inside → Flow
flow_of r = record {
  id = r.id;
  tuple = r.parts.tuple;
  params = r.parts.params;
  entries = entries_of r.arena.memory r.stretches.items;
  parts = r.parts;
  spare_entries = min (min (vec_capacity r.stretches - vec_len r.stretches) r.counts.spare) r.arena.spare_came;
  spare_bytes = r.arena.spare;
}

-- what it keeps true
abbrev pub IsKept : Inside → Type 0
IsKept r = IsRecord r.parts r.arena.memory r.stretches.items r.counts.counts r.application r.made r.last
    r.sent

use Rattle.std.proofs.Common.{◌≡◌, ℕ, ◌-◌, ◌<◌, ◌≤◌, true, false, slice_index_or}
use Rattle.std.specs.Prelude.{All, map, take, vec_len, vec_capacity}
use Rattle.std.specs.Mem.Slots.{slots_items, slots_filled, slots_len}
use Rattle.flow_lock.specs.Histories.{history_of}
use Rattle.flow_lock.specs.Last.{IsLast, flows_from}
use Rattle.flow_lock.proofs.table.FlowTable.close_into.Given as goal

abbrev pub invariant-loop-at : goal.invariant-loop-at
invariant-loop-at g l = record {
  items : slots_items l.closed.slots ≡ slots_items l.initial.closed.slots;
  len : slots_len l.closed.slots ≡ slots_len l.initial.closed.slots;
  left : (k : ℕ) → l.at ≤ k → k < slots_len l.closed.slots
      → slice_index_or (slots_filled l.closed.slots) k false ≡ true;
  gone : (k : ℕ) → k < l.at → slice_index_or (slots_filled l.closed.slots) k false ≡ false;
  few : vec_len l.room ≤ l.at;
  space : vec_capacity l.room ≡ vec_capacity l.fn.room;
  last : All (IsLast g.R.Recorded.id (history_of g.R.Recorded.tuple g.R.Recorded.params g.R.Recorded.entries)
      l.fn.pass.view) l.room.items;
  flows : map g.R.Recorded.id l.room.items ≡ flows_from 0 (take l.at l.fn.pass.view.marks);
  upto : l.at ≤ slots_len l.closed.slots;
}

abbrev pub decreases-loop-at : goal.decreases-loop-at
decreases-loop-at g l = slots_len l.closed.slots - l.at

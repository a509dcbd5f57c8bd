use Rattle.std.proofs.Common.{◌≡◌, ◌++◌, List, flat_map, take}
use Rattle.tas_model.specs.declared.entry.Entry.{Entry}
use Rattle.sent_frames.specs.Sending.{of_tick, AreUpTo, entry_frames, sent_by}
use Rattle.sent_frames.proofs.flows.collect_entries.Given as goal

abbrev pub invariant-loop-i : goal.invariant-loop-i
invariant-loop-i l = record {
  number : l.number ≡ sent_by (flat_map (λ (xs : List Entry). xs) (take l.i l.stretches));
  frames : l.sent ≡ l.fn.sent
      ++ of_tick l.tick (entry_frames l.origin 0 (flat_map (λ (xs : List Entry). xs) (take l.i l.stretches)));
  last : AreUpTo l.tick l.sent;
}

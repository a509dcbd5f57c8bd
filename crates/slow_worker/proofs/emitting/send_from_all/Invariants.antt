use Rattle.std.proofs.Common.{◌≡◌, take}
use Rattle.core_worker.specs.Sending.{IsAllSent}
use Rattle.slow_worker.specs.Alone.{AreUsed}
use Rattle.slow_worker.proofs.emitting.send_from_all.Given as goal

-- all that may go was sent of the first flows
abbrev pub invariant-loop-at : goal.invariant-loop-at
invariant-loop-at l = record {
  table : l.slow.table ≡ l.fn.slow.table;
  sent : AreUsed (IsAllSent 0 l.tick) (take l.at l.pins.list) l.fn.slow.view l.slow.view;
}

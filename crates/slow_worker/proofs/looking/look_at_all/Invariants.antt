use Rattle.std.proofs.Common.{◌≡◌, take}
use Rattle.slow_worker.specs.Alone.{AreUsed, IsAsItWas, kicks_due}
use Rattle.slow_worker.proofs.looking.look_at_all.Given as goal

-- the first flows were looked at
abbrev pub invariant-loop-at : goal.invariant-loop-at
invariant-loop-at l = record {
  table : l.slow.table ≡ l.fn.slow.table;
  looked : AreUsed IsAsItWas (take l.at l.pins.list) l.fn.slow.view l.slow.view;
  kicks : l.kicks.list ≡ kicks_due l.fn.slow.view.base (take l.at l.pins.list);
}

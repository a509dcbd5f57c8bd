-- Invariants of the proof of stepping/go_on_all.
use Rattle.std.proofs.Common.{◌≡◌, length}
use Rattle.shared_world.proofs.Stepped.{GoneTo}
use Rattle.shared_world.proofs.stepping.go_on_all.Given as goal

-- the scripts before this one went on
abbrev pub invariant-loop-k : goal.invariant-loop-k
invariant-loop-k g l = record {
  gone : GoneTo l.s l.tick l.k l.fn.scripts l.scripts l.fn.hosts l.hosts;
  same : length l.scripts ≡ length l.hosts;
}

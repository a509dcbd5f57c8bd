-- Measures or invariants of ending/let_go.
use Rattle.std.proofs.Common.{length}
use Rattle.core_host.proofs.Pins.{IsLettingGo}
use Rattle.core_host.proofs.ending.let_go.Given as goal

-- those in front were given up
abbrev pub invariant-loop-pass : goal.invariant-loop-pass
invariant-loop-pass l = IsLettingGo l.table l.fn.pins.list l.fn.pass.view l.pass l.pins.list

abbrev pub decreases-loop-pass : goal.decreases-loop-pass
decreases-loop-pass l = length l.pins.list

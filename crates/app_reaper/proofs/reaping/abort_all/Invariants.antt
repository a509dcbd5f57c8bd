use Rattle.std.proofs.Common.{length}
use Rattle.app_reaper.proofs.Walking.{Reaping}
use Rattle.app_reaper.proofs.reaping.abort_all.Given as goal

abbrev pub invariant-loop-pass : goal.invariant-loop-pass
invariant-loop-pass l = Reaping l.tick l.table l.fn.pins.list l.fn.pass.view l.pass l.pins.list

abbrev pub decreases-loop-pass : goal.decreases-loop-pass
decreases-loop-pass l = length l.pins.list

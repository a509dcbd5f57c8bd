-- Measures or invariants of starting/new_scripts.
use Rattle.std.proofs.Common.{◌≡◌, map, take}
use Rattle.shared_world.proofs.Started.{own_scripts}
use Rattle.shared_world.proofs.starting.new_scripts.Given as goal

-- those of the first lines
abbrev pub invariant-loop-line : goal.invariant-loop-line
invariant-loop-line l = l.scripts.items ≡ map (own_scripts l.s) (take l.line-index l.line-items)

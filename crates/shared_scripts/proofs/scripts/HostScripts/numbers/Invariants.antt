-- Measures or invariants of scripts/HostScripts/numbers.
use Rattle.std.proofs.Common.{◌≡◌, take}
use Rattle.shared_scripts.specs.Turns.{numbers_in}
use Rattle.shared_scripts.proofs.scripts.HostScripts.numbers.Given as goal

-- the numbers of the first scripts
abbrev pub invariant-loop-script : goal.invariant-loop-script
invariant-loop-script l = l.numbers.items ≡ numbers_in (take l.script-index l.script-items)

-- Measures or invariants of begin/try_all.
use Rattle.std.proofs.Common.{take}
use Rattle.core_host.specs.Emission.{AreTriesSet}
use Rattle.shared_scripts.proofs.Trying.{AreSetBy}
use Rattle.shared_scripts.proofs.begin.try_all.Given as goal

-- those of the first scripts
abbrev pub invariant-loop-script : goal.invariant-loop-script
invariant-loop-script l = record {
  tries : AreTriesSet l.fn.host l.host;
  set : AreSetBy l.tick (take l.script-index l.scripts) l.host;
}

-- Measures or invariants of host/CoreHost/serve_all.
use Rattle.std.proofs.Common.{take}
use Rattle.core_host.specs.Handing.{comings}
use Rattle.core_host.specs.Serving.{AreTaken}
use Rattle.core_host.proofs.host.CoreHost.serve_all.Given as goal

-- the first frames were taken
abbrev pub invariant-loop-frame : goal.invariant-loop-frame
invariant-loop-frame g l =
    AreTaken (g.N.NumberSource.number l.numbers) l.tick (comings (take l.frame-index l.frames)) l.fn.self l.self

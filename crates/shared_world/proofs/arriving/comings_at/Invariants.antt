-- Invariants of the proof of arriving/comings_at.
use Rattle.std.proofs.Common.{◌≡◌, take}
use Rattle.core_host.specs.Handing.{comings}
use Rattle.shared_world.specs.Stepping.{frames_to}
use Rattle.shared_world.proofs.arriving.comings_at.Given as goal

abbrev pub invariant-loop-i : goal.invariant-loop-i
invariant-loop-i l = comings l.frames.items ≡ frames_to l.number (take l.i l.due)

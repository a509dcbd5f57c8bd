-- Answers of the proof of again/two_phases.
use Rattle.std.proofs.Common.{refl}
use Rattle.phase_tests.proofs.Playing.{played_of}
use Rattle.phase_tests.proofs.again.two_phases.Goals as goal

pub counted-requires : goal.counted-requires
counted-requires g c =
    played_of c.try_again.new.host c.played.new.host (c.if-not-try_again.ensures refl) c.in_ok-second.ensures.played

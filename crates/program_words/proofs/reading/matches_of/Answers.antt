use Rattle.std.proofs.Common.{◌∙◌}
use Rattle.program_words.proofs.Takes.{passes, finds}
use Rattle.program_words.proofs.reading.matches_of.Goals as goal

pub unreachable-requires : goal.unreachable-requires
unreachable-requires c =
    c.in_default.not-OutOfMemory
    (c.kind.ensures ∙ c.in-Err.ensures.passes (passes _ _ c.in_ok-program.ensures c.requires))

pub returns-in-Ok : goal.returns-in-Ok
returns-in-Ok c = finds _ _ c.in-Ok.matches c.in_ok-program.ensures c.in-Ok.ensures.matches

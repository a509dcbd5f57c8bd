-- Answers of the proof of again/held.
use Rattle.app_reaper.specs.OneCall.{history}
use Rattle.phase_tests.proofs.Playing.{held_of, back_of}
use Rattle.phase_tests.proofs.again.held.Goals as goal

pub slow_give-requires-clause-held : goal.slow_give-requires-clause-held
slow_give-requires-clause-held g c =
    held_of c.args.host.now c.played.new.host (history c.in-Ok.flow) c.slow_take.new.slow c.requires
    c.in-Ok.ensures.taken c.slow_take.ensures.table c.in_ok-seen.ensures.played

pub returns-clause-played : goal.returns-clause-played
returns-clause-played g c =
    back_of c.args.host.now c.played.new.host (history c.in-Ok.flow) c.slow_take.new.slow c.slow_give.new.slow
    c.requires c.in-Ok.ensures.taken c.slow_take.ensures.table c.in_ok-seen.ensures.played c.slow_give.ensures

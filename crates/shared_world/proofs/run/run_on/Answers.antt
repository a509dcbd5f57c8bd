-- Answers of the proof of run/run_on.
use Rattle.shared_world.proofs.run.run_on.Goals as goal

pub play_all-requires-clause-start : goal.play_all-requires-clause-start
play_all-requires-clause-start g c = (c.args.cores, c.in_ok-world.ensures)

pub finish-requires : goal.finish-requires
finish-requires g c = (c.args.cores, c.in-Ok.ensures.over c.args.cores c.in_ok-world.ensures)

pub returns-in-Ok-clause-run : goal.returns-in-Ok-clause-run
returns-in-Ok-clause-run g c =
    c.finish.ensures c.args.cores (c.in-Ok.ensures.over c.args.cores c.in_ok-world.ensures)

-- Answers of the proof of closing/is_closed_at.
use Rattle.shared_world.proofs.closing.is_closed_at.Goals as goal

pub returns-clause-closed : goal.returns-clause-closed
returns-clause-closed c l here =
    c.has_closed-closed.ensures l (c.take_record-flow.ensures.of_place c.args.place c.requires.there l here)

-- Answers of the proof of laws/left_frames_are_collected.
use Rattle.phase_orders.proofs.Collecting.{left_collected, lines_collected}
use Rattle.phase_orders.proofs.laws.left_frames_are_collected.Goals as goal

pub returns-clause-frames : goal.returns-clause-frames
returns-clause-frames g c = left_collected

pub returns-clause-lines : goal.returns-clause-lines
returns-clause-lines g c = lines_collected

-- Answers of the proof of laws/broken_frames_are_lines.
use Rattle.phase_orders.proofs.Collecting.{broken_lines}
use Rattle.phase_orders.proofs.laws.broken_frames_are_lines.Goals as goal

pub returns : goal.returns
returns g c = broken_lines

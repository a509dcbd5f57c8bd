-- Answers of the proof of laws/lanes_have_a_hand_out.
use Rattle.phase_orders.proofs.Handing.{hand_out_of}
use Rattle.phase_orders.proofs.laws.lanes_have_a_hand_out.Goals as goal

pub returns : goal.returns
returns g c = hand_out_of

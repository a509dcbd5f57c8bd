use Rattle.tas_model.proofs.WorkedScaling.{both_scale_legal, own_side_alone_legal, peers_side_alone_legal}
use Rattle.tas_model.proofs.WorkedScaling.{small_opening_legal}
use Rattle.tas_model.proofs.scaling_laws.worked_scaling_is_legal.Goals as goal

pub returns-clause-both_scale : goal.returns-clause-both_scale
returns-clause-both_scale c = both_scale_legal

pub returns-clause-own_side_alone : goal.returns-clause-own_side_alone
returns-clause-own_side_alone c = own_side_alone_legal

pub returns-clause-peers_side_alone : goal.returns-clause-peers_side_alone
returns-clause-peers_side_alone c = peers_side_alone_legal

pub returns-clause-small_opening : goal.returns-clause-small_opening
returns-clause-small_opening c = small_opening_legal

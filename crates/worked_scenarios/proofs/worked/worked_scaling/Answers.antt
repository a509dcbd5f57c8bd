use Rattle.worked_scenarios.proofs.WorkedScaling.{both_scale_is, one_scales_is, coarse_for_ring_is, large_for_slots_is}
use Rattle.worked_scenarios.proofs.worked.worked_scaling.Goals as goal

pub returns-clause-both_scale : goal.returns-clause-both_scale
returns-clause-both_scale c = both_scale_is

pub returns-clause-one_scales : goal.returns-clause-one_scales
returns-clause-one_scales c = one_scales_is

pub returns-clause-coarse_for_ring : goal.returns-clause-coarse_for_ring
returns-clause-coarse_for_ring c = coarse_for_ring_is

pub returns-clause-large_for_slots : goal.returns-clause-large_for_slots
returns-clause-large_for_slots c = large_for_slots_is

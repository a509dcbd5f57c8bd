use Rattle.tas_runs.proofs.WorkedScales.{scaled_upload_is, own_scales_is}
use Rattle.tas_runs.proofs.worked.worked_scales.Goals as goal

pub returns-clause-scaled_upload : goal.returns-clause-scaled_upload
returns-clause-scaled_upload c = scaled_upload_is

pub returns-clause-own_scales : goal.returns-clause-own_scales
returns-clause-own_scales c = own_scales_is

use Rattle.std.proofs.Common.{refl}
use Rattle.tas_model.proofs.UnscaledLaw.{bear_in_syn, theirs_alone}
use Rattle.tas_model.proofs.scaling_laws.shifts_are_agreed.Goals as goal

pub returns-clause-ours : goal.returns-clause-ours
returns-clause-ours c = λ theirs. refl

pub returns-clause-theirs : goal.returns-clause-theirs
returns-clause-theirs c = theirs_alone

pub returns-clause-both : goal.returns-clause-both
returns-clause-both c = λ own theirs. refl

pub returns-clause-in_syn : goal.returns-clause-in_syn
returns-clause-in_syn c = bear_in_syn

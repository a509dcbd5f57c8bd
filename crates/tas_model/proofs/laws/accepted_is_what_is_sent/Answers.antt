use Rattle.tas_model.proofs.MovesLaws.{out_is_accepted}
use Rattle.tas_model.proofs.Grows.{takes_what_fits}
use Rattle.tas_model.proofs.SentLaw.{sent_says_accepted}
use Rattle.tas_model.proofs.laws.accepted_is_what_is_sent.Goals as goal

pub returns-clause-out : goal.returns-clause-out
returns-clause-out c = out_is_accepted

pub returns-clause-fits : goal.returns-clause-fits
returns-clause-fits c = takes_what_fits

pub returns-clause-sent : goal.returns-clause-sent
returns-clause-sent c = sent_says_accepted

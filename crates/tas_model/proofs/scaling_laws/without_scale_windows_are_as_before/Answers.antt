use Rattle.tas_model.proofs.UnscaledLaw.{replay_unscaled, plain_wnd, plain_field, plain_offer, plain_update}
use Rattle.tas_model.proofs.UnscaledLaw.{bear_none, same_rx}
use Rattle.tas_model.proofs.scaling_laws.without_scale_windows_are_as_before.Goals as goal

pub returns-clause-unscaled : goal.returns-clause-unscaled
returns-clause-unscaled c = replay_unscaled

pub returns-clause-wnd : goal.returns-clause-wnd
returns-clause-wnd c = plain_wnd

pub returns-clause-field : goal.returns-clause-field
returns-clause-field c = plain_field

pub returns-clause-offer : goal.returns-clause-offer
returns-clause-offer c = λ e seg is. plain_offer e.scaling seg is

pub returns-clause-update : goal.returns-clause-update
returns-clause-update c = plain_update

pub returns-clause-sent : goal.returns-clause-sent
returns-clause-sent c = bear_none

pub returns-clause-received : goal.returns-clause-received
returns-clause-received c = same_rx

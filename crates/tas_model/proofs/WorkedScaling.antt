-- The histories of WorkedScaling are legal, by computation.
use Rattle.std.proofs.Common.{refl}
use Rattle.tas_num.specs.Places.{nearest}
use Rattle.tas_model.specs.Receive.{rx, rx_later, rx_syn_sent}
use Rattle.tas_model.specs.NextSegment.{going}
use Rattle.tas_model.specs.Timers.{ticks, control}
use Rattle.tas_model.specs.LegalHistory.{step, Legal}
use Rattle.tas_model.specs.WorkedScaling.{scaled_params, unscaled_params, coarse_params, both_scale, own_side_alone}
use Rattle.tas_model.specs.WorkedScaling.{peers_side_alone, small_opening}
use Rattle.tas_model.proofs.Worked.{legal_by}

pub both_scale_legal : Legal scaled_params both_scale
unfolding nearest rx rx_later rx_syn_sent going ticks control step
both_scale_legal =
    legal_by scaled_params both_scale (record { opens = tt; reply = refl; number = refl }, refl, refl, refl)

pub own_side_alone_legal : Legal scaled_params own_side_alone
unfolding nearest rx rx_later rx_syn_sent going ticks control step
own_side_alone_legal =
    legal_by scaled_params own_side_alone (record { opens = tt; reply = refl; number = refl }, refl, refl, refl)

pub peers_side_alone_legal : Legal unscaled_params peers_side_alone
unfolding nearest rx rx_later rx_syn_sent going ticks control step
peers_side_alone_legal =
    legal_by unscaled_params peers_side_alone (record { opens = tt; reply = refl; number = refl }, refl, refl, refl)

pub small_opening_legal : Legal coarse_params small_opening
unfolding nearest rx rx_later rx_syn_sent going ticks control step
small_opening_legal =
    legal_by coarse_params small_opening (record { opens = tt; reply = refl; number = refl }, refl, refl, refl)

-- The histories of WorkedReceiving are legal, by computation.
use Rattle.std.proofs.Common.{refl}
use Rattle.tas_num.specs.Places.{nearest}
use Rattle.tas_model.specs.Receive.{rx, rx_later, rx_syn_sent}
use Rattle.tas_model.specs.NextSegment.{going}
use Rattle.tas_model.specs.Timers.{ticks, control}
use Rattle.tas_model.specs.LegalHistory.{step, Legal}
use Rattle.tas_model.proofs.Worked.{legal_by}
use Rattle.worked_histories.specs.Beginnings.{patient_params}
use Rattle.worked_histories.specs.WorkedReceiving.{
  numbers_after_going_back,
  no_update_after_the_end,
  no_update_after_both_ends,
  acceptable_by_either_end,
  bytes_past_a_full_ring,
  touching_bytes_are_joined,
}

pub numbers_after_going_back_legal : Legal patient_params numbers_after_going_back
unfolding nearest rx rx_later rx_syn_sent going ticks control step
numbers_after_going_back_legal = legal_by patient_params numbers_after_going_back
    (record { opens = tt; reply = refl; number = refl }, refl, refl, refl)

pub no_update_after_the_end_legal : Legal patient_params no_update_after_the_end
unfolding nearest rx rx_later rx_syn_sent going ticks control step
no_update_after_the_end_legal = legal_by patient_params no_update_after_the_end
    (record { opens = tt; reply = refl; number = refl }, refl, refl, refl)

pub no_update_after_both_ends_legal : Legal patient_params no_update_after_both_ends
unfolding nearest rx rx_later rx_syn_sent going ticks control step
no_update_after_both_ends_legal = legal_by patient_params no_update_after_both_ends
    (record { opens = tt; reply = refl; number = refl }, refl, refl, refl)

pub acceptable_by_either_end_legal : Legal patient_params acceptable_by_either_end
unfolding nearest rx rx_later rx_syn_sent going ticks control step
acceptable_by_either_end_legal = legal_by patient_params acceptable_by_either_end
    (record { opens = tt; reply = refl; number = refl }, refl, refl, refl)

pub bytes_past_a_full_ring_legal : Legal patient_params bytes_past_a_full_ring
unfolding nearest rx rx_later rx_syn_sent going ticks control step
bytes_past_a_full_ring_legal = legal_by patient_params bytes_past_a_full_ring
    (record { opens = tt; reply = refl; number = refl }, refl, refl, refl)

pub touching_bytes_are_joined_legal : Legal patient_params touching_bytes_are_joined
unfolding nearest rx rx_later rx_syn_sent going ticks control step
touching_bytes_are_joined_legal = legal_by patient_params touching_bytes_are_joined
    (record { opens = tt; reply = refl; number = refl }, refl, refl, refl)

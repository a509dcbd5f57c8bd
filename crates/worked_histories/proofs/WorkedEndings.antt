-- The histories of WorkedEndings are legal, by computation.
use Rattle.std.proofs.Common.{refl}
use Rattle.tas_num.specs.Places.{nearest}
use Rattle.tas_model.specs.Receive.{rx, rx_later, rx_syn_sent}
use Rattle.tas_model.specs.NextSegment.{going}
use Rattle.tas_model.specs.Timers.{ticks, control}
use Rattle.tas_model.specs.LegalHistory.{step, Legal}
use Rattle.tas_model.proofs.Worked.{legal_by}
use Rattle.worked_histories.specs.Beginnings.{patient_params}
use Rattle.worked_histories.specs.WorkedEndings.{
  bucket_is_filled_by_ticks,
  wait_after_fin_wait_2,
  wait_after_closing,
  fin_has_a_place,
  shut_twice,
  close_in_syn_sent,
  close_in_syn_received,
}

pub bucket_is_filled_by_ticks_legal : Legal patient_params bucket_is_filled_by_ticks
unfolding nearest rx rx_later rx_syn_sent going ticks control step
bucket_is_filled_by_ticks_legal = legal_by patient_params bucket_is_filled_by_ticks
    (record { opens = tt; reply = refl; number = refl }, refl, refl, refl)

pub wait_after_fin_wait_2_legal : Legal patient_params wait_after_fin_wait_2
unfolding nearest rx rx_later rx_syn_sent going ticks control step
wait_after_fin_wait_2_legal = legal_by patient_params wait_after_fin_wait_2
    (record { opens = tt; reply = refl; number = refl }, refl, refl, refl)

pub wait_after_closing_legal : Legal patient_params wait_after_closing
unfolding nearest rx rx_later rx_syn_sent going ticks control step
wait_after_closing_legal = legal_by patient_params wait_after_closing
    (record { opens = tt; reply = refl; number = refl }, refl, refl, refl)

pub fin_has_a_place_legal : Legal patient_params fin_has_a_place
unfolding nearest rx rx_later rx_syn_sent going ticks control step
fin_has_a_place_legal = legal_by patient_params fin_has_a_place
    (record { opens = tt; reply = refl; number = refl }, refl, refl, refl)

pub shut_twice_legal : Legal patient_params shut_twice
unfolding nearest rx rx_later rx_syn_sent going ticks control step
shut_twice_legal = legal_by patient_params shut_twice
    (record { opens = tt; reply = refl; number = refl }, refl, refl, refl)

pub close_in_syn_sent_legal : Legal patient_params close_in_syn_sent
unfolding nearest rx rx_later rx_syn_sent going ticks control step
close_in_syn_sent_legal = legal_by patient_params close_in_syn_sent
    (record { opens = tt; reply = refl; number = refl }, refl, refl, refl)

pub close_in_syn_received_legal : Legal patient_params close_in_syn_received
unfolding nearest rx rx_later rx_syn_sent going ticks control step
close_in_syn_received_legal = legal_by patient_params close_in_syn_received
    (record { opens = tt; reply = refl; number = refl }, refl, refl, refl)

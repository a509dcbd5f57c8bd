-- The histories of WorkedProgress are legal, by computation.
use Rattle.std.proofs.Common.{refl, ◌≡◌, None}
use Rattle.tas_num.specs.Places.{nearest}
use Rattle.tas_model.specs.declared.entry.Call.TheVariants as calls
use Rattle.tas_model.specs.declared.entry.Reply.TheVariants as replies
use Rattle.tas_model.specs.Receive.{rx, rx_later, rx_syn_sent}
use Rattle.tas_model.specs.NextSegment.{going}
use Rattle.tas_model.specs.Timers.{ticks, control}
use Rattle.tas_model.specs.LegalHistory.{step, replay, Legal}
use Rattle.tas_model.proofs.Worked.{legal_by}
use Rattle.worked_histories.specs.Beginnings.{patient_params}
use Rattle.worked_histories.specs.WorkedProgress.{
  timer_begins_anew,
  duplicates_begin_anew,
  connected_begins_anew,
  accepted_begins_anew,
  opened_window,
  probe_is_over,
  open_window_moves,
  tries_at_a_closed_window,
  answers_to_a_probe,
}

pub timer_begins_anew_legal : Legal patient_params timer_begins_anew
unfolding nearest rx rx_later rx_syn_sent going ticks control step
timer_begins_anew_legal = legal_by patient_params timer_begins_anew
    (record { opens = tt; reply = refl; number = refl }, refl, refl, refl)

pub duplicates_begin_anew_legal : Legal patient_params duplicates_begin_anew
unfolding nearest rx rx_later rx_syn_sent going ticks control step
duplicates_begin_anew_legal = legal_by patient_params duplicates_begin_anew
    (record { opens = tt; reply = refl; number = refl }, refl, refl, refl)

pub connected_begins_anew_legal : Legal patient_params connected_begins_anew
unfolding nearest rx rx_later rx_syn_sent going ticks control step
connected_begins_anew_legal = legal_by patient_params connected_begins_anew
    (record { opens = tt; reply = refl; number = refl }, refl, refl, refl)

pub accepted_begins_anew_legal : Legal patient_params accepted_begins_anew
unfolding nearest rx rx_later rx_syn_sent going ticks control step
accepted_begins_anew_legal = legal_by patient_params accepted_begins_anew
    (record { opens = tt; reply = refl; number = refl }, refl, refl, refl)

pub opened_window_legal : Legal patient_params opened_window
unfolding nearest rx rx_later rx_syn_sent going ticks control step
opened_window_legal = legal_by patient_params opened_window
    (record { opens = tt; reply = refl; number = refl }, refl, refl, refl)

pub probe_is_over_legal : Legal patient_params probe_is_over
unfolding nearest rx rx_later rx_syn_sent going ticks control step
probe_is_over_legal = legal_by patient_params probe_is_over
    (record { opens = tt; reply = refl; number = refl }, refl, refl, refl)

pub open_window_moves_legal : Legal patient_params open_window_moves
unfolding nearest rx rx_later rx_syn_sent going ticks control step
open_window_moves_legal = legal_by patient_params open_window_moves
    (record { opens = tt; reply = refl; number = refl }, refl, refl, refl)

pub tries_at_a_closed_window_legal : Legal patient_params tries_at_a_closed_window
unfolding nearest rx rx_later rx_syn_sent going ticks control step
tries_at_a_closed_window_legal = legal_by patient_params tries_at_a_closed_window
    (record { opens = tt; reply = refl; number = refl }, refl, refl, refl)

pub answers_to_a_probe_legal : Legal patient_params answers_to_a_probe
unfolding nearest rx rx_later rx_syn_sent going ticks control step
answers_to_a_probe_legal = legal_by patient_params answers_to_a_probe
    (record { opens = tt; reply = refl; number = refl }, refl, refl, refl)

pub no_probe_goes : step (replay patient_params probe_is_over) 3 calls.Emit replies.Ok ≡ None
unfolding nearest rx rx_later rx_syn_sent going ticks control step replay
no_probe_goes = refl

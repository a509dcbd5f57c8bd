-- The short histories of the standard's rules are legal, by computation.
use Rattle.std.proofs.Common.{◌≡◌, None, refl}
use Rattle.tas_num.specs.Places.{nearest}
use Rattle.tas_model.specs.declared.entry.Call.TheVariants as calls
use Rattle.tas_model.specs.declared.entry.Reply.TheVariants as replies
use Rattle.tas_model.specs.Receive.{rx, rx_later, rx_syn_sent}
use Rattle.tas_model.specs.NextSegment.{going}
use Rattle.tas_model.specs.Timers.{ticks, control}
use Rattle.tas_model.specs.LegalHistory.{step, replay, Legal}
use Rattle.tas_model.specs.WorkedRules.{
  brief_params,
  third_duplicate,
  timer_backs_off,
  newest_window,
  zero_window,
  window_update,
  held_past_a_gap,
  abort_in_syn_received,
  strays_after_an_abort,
  resets_in_syn_sent,
  bytes_wait,
  fin_after_bytes,
}
use Rattle.tas_model.proofs.Worked.{legal_by}

pub third_duplicate_legal : Legal brief_params third_duplicate
unfolding nearest rx rx_later rx_syn_sent going ticks control step
third_duplicate_legal =
    legal_by brief_params third_duplicate (record { opens = tt; reply = refl; number = refl }, refl, refl, refl)

pub timer_backs_off_legal : Legal brief_params timer_backs_off
unfolding nearest rx rx_later rx_syn_sent going ticks control step
timer_backs_off_legal =
    legal_by brief_params timer_backs_off (record { opens = tt; reply = refl; number = refl }, refl, refl, refl)

pub newest_window_legal : Legal brief_params newest_window
unfolding nearest rx rx_later rx_syn_sent going ticks control step
newest_window_legal =
    legal_by brief_params newest_window (record { opens = tt; reply = refl; number = refl }, refl, refl, refl)

pub zero_window_legal : Legal brief_params zero_window
unfolding nearest rx rx_later rx_syn_sent going ticks control step
zero_window_legal =
    legal_by brief_params zero_window (record { opens = tt; reply = refl; number = refl }, refl, refl, refl)

pub window_update_legal : Legal brief_params window_update
unfolding nearest rx rx_later rx_syn_sent going ticks control step
window_update_legal =
    legal_by brief_params window_update (record { opens = tt; reply = refl; number = refl }, refl, refl, refl)

pub held_past_a_gap_legal : Legal brief_params held_past_a_gap
unfolding nearest rx rx_later rx_syn_sent going ticks control step
held_past_a_gap_legal =
    legal_by brief_params held_past_a_gap (record { opens = tt; reply = refl; number = refl }, refl, refl, refl)

pub abort_in_syn_received_legal : Legal brief_params abort_in_syn_received
unfolding nearest rx rx_later rx_syn_sent going ticks control step
abort_in_syn_received_legal =
    legal_by brief_params abort_in_syn_received (record { opens = tt; reply = refl; number = refl }, refl, refl, refl)

pub strays_after_an_abort_legal : Legal brief_params strays_after_an_abort
unfolding nearest rx rx_later rx_syn_sent going ticks control step
strays_after_an_abort_legal =
    legal_by brief_params strays_after_an_abort (record { opens = tt; reply = refl; number = refl }, refl, refl, refl)

pub resets_in_syn_sent_legal : Legal brief_params resets_in_syn_sent
unfolding nearest rx rx_later rx_syn_sent going ticks control step
resets_in_syn_sent_legal =
    legal_by brief_params resets_in_syn_sent (record { opens = tt; reply = refl; number = refl }, refl, refl, refl)

pub fin_after_bytes_legal : Legal brief_params fin_after_bytes
unfolding nearest rx rx_later rx_syn_sent going ticks control step
fin_after_bytes_legal =
    legal_by brief_params fin_after_bytes (record { opens = tt; reply = refl; number = refl }, refl, refl, refl)

pub nothing_goes : step (replay brief_params bytes_wait) 0 calls.Emit replies.Ok ≡ None
unfolding nearest rx rx_later rx_syn_sent going ticks control step replay
nothing_goes = refl

use Rattle.tas_model.proofs.WorkedRules.{
  third_duplicate_legal,
  timer_backs_off_legal,
  newest_window_legal,
  zero_window_legal,
  window_update_legal,
  held_past_a_gap_legal,
  abort_in_syn_received_legal,
  strays_after_an_abort_legal,
  resets_in_syn_sent_legal,
  fin_after_bytes_legal,
  nothing_goes,
}
use Rattle.tas_model.proofs.endpoint_laws.worked_rules_are_legal.Goals as goal

pub returns-clause-third_duplicate : goal.returns-clause-third_duplicate
returns-clause-third_duplicate c = third_duplicate_legal

pub returns-clause-timer_backs_off : goal.returns-clause-timer_backs_off
returns-clause-timer_backs_off c = timer_backs_off_legal

pub returns-clause-newest_window : goal.returns-clause-newest_window
returns-clause-newest_window c = newest_window_legal

pub returns-clause-zero_window : goal.returns-clause-zero_window
returns-clause-zero_window c = zero_window_legal

pub returns-clause-window_update : goal.returns-clause-window_update
returns-clause-window_update c = window_update_legal

pub returns-clause-held_past_a_gap : goal.returns-clause-held_past_a_gap
returns-clause-held_past_a_gap c = held_past_a_gap_legal

pub returns-clause-abort_in_syn_received : goal.returns-clause-abort_in_syn_received
returns-clause-abort_in_syn_received c = abort_in_syn_received_legal

pub returns-clause-strays_after_an_abort : goal.returns-clause-strays_after_an_abort
returns-clause-strays_after_an_abort c = strays_after_an_abort_legal

pub returns-clause-resets_in_syn_sent : goal.returns-clause-resets_in_syn_sent
returns-clause-resets_in_syn_sent c = resets_in_syn_sent_legal

pub returns-clause-fin_after_bytes : goal.returns-clause-fin_after_bytes
returns-clause-fin_after_bytes c = fin_after_bytes_legal

pub returns-clause-fin_waits : goal.returns-clause-fin_waits
returns-clause-fin_waits c = nothing_goes

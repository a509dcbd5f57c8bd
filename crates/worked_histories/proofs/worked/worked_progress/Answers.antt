use Rattle.worked_histories.proofs.WorkedProgress.{
  timer_begins_anew_legal,
  duplicates_begin_anew_legal,
  connected_begins_anew_legal,
  accepted_begins_anew_legal,
  opened_window_legal,
  probe_is_over_legal,
  open_window_moves_legal,
  tries_at_a_closed_window_legal,
  answers_to_a_probe_legal,
  no_probe_goes,
}
use Rattle.worked_histories.proofs.worked.worked_progress.Goals as goal

pub returns-clause-timer_begins_anew : goal.returns-clause-timer_begins_anew
returns-clause-timer_begins_anew c = timer_begins_anew_legal

pub returns-clause-duplicates_begin_anew : goal.returns-clause-duplicates_begin_anew
returns-clause-duplicates_begin_anew c = duplicates_begin_anew_legal

pub returns-clause-connected_begins_anew : goal.returns-clause-connected_begins_anew
returns-clause-connected_begins_anew c = connected_begins_anew_legal

pub returns-clause-accepted_begins_anew : goal.returns-clause-accepted_begins_anew
returns-clause-accepted_begins_anew c = accepted_begins_anew_legal

pub returns-clause-opened_window : goal.returns-clause-opened_window
returns-clause-opened_window c = opened_window_legal

pub returns-clause-probe_is_over : goal.returns-clause-probe_is_over
returns-clause-probe_is_over c = probe_is_over_legal

pub returns-clause-no_probe_goes : goal.returns-clause-no_probe_goes
returns-clause-no_probe_goes c = no_probe_goes

pub returns-clause-open_window_moves : goal.returns-clause-open_window_moves
returns-clause-open_window_moves c = open_window_moves_legal

pub returns-clause-tries_at_a_closed_window : goal.returns-clause-tries_at_a_closed_window
returns-clause-tries_at_a_closed_window c = tries_at_a_closed_window_legal

pub returns-clause-answers_to_a_probe : goal.returns-clause-answers_to_a_probe
returns-clause-answers_to_a_probe c = answers_to_a_probe_legal

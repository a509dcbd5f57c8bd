use Rattle.worked_histories.proofs.WorkedEndings.{
  bucket_is_filled_by_ticks_legal,
  wait_after_fin_wait_2_legal,
  wait_after_closing_legal,
  fin_has_a_place_legal,
  shut_twice_legal,
  close_in_syn_sent_legal,
  close_in_syn_received_legal,
}
use Rattle.worked_histories.proofs.worked.worked_endings.Goals as goal

pub returns-clause-bucket_is_filled_by_ticks : goal.returns-clause-bucket_is_filled_by_ticks
returns-clause-bucket_is_filled_by_ticks c = bucket_is_filled_by_ticks_legal

pub returns-clause-wait_after_fin_wait_2 : goal.returns-clause-wait_after_fin_wait_2
returns-clause-wait_after_fin_wait_2 c = wait_after_fin_wait_2_legal

pub returns-clause-wait_after_closing : goal.returns-clause-wait_after_closing
returns-clause-wait_after_closing c = wait_after_closing_legal

pub returns-clause-fin_has_a_place : goal.returns-clause-fin_has_a_place
returns-clause-fin_has_a_place c = fin_has_a_place_legal

pub returns-clause-shut_twice : goal.returns-clause-shut_twice
returns-clause-shut_twice c = shut_twice_legal

pub returns-clause-close_in_syn_sent : goal.returns-clause-close_in_syn_sent
returns-clause-close_in_syn_sent c = close_in_syn_sent_legal

pub returns-clause-close_in_syn_received : goal.returns-clause-close_in_syn_received
returns-clause-close_in_syn_received c = close_in_syn_received_legal

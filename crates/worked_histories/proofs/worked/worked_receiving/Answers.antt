use Rattle.worked_histories.proofs.WorkedReceiving.{
  numbers_after_going_back_legal,
  no_update_after_the_end_legal,
  no_update_after_both_ends_legal,
  acceptable_by_either_end_legal,
  bytes_past_a_full_ring_legal,
  touching_bytes_are_joined_legal,
}
use Rattle.worked_histories.proofs.worked.worked_receiving.Goals as goal

pub returns-clause-numbers_after_going_back : goal.returns-clause-numbers_after_going_back
returns-clause-numbers_after_going_back c = numbers_after_going_back_legal

pub returns-clause-no_update_after_the_end : goal.returns-clause-no_update_after_the_end
returns-clause-no_update_after_the_end c = no_update_after_the_end_legal

pub returns-clause-no_update_after_both_ends : goal.returns-clause-no_update_after_both_ends
returns-clause-no_update_after_both_ends c = no_update_after_both_ends_legal

pub returns-clause-acceptable_by_either_end : goal.returns-clause-acceptable_by_either_end
returns-clause-acceptable_by_either_end c = acceptable_by_either_end_legal

pub returns-clause-bytes_past_a_full_ring : goal.returns-clause-bytes_past_a_full_ring
returns-clause-bytes_past_a_full_ring c = bytes_past_a_full_ring_legal

pub returns-clause-touching_bytes_are_joined : goal.returns-clause-touching_bytes_are_joined
returns-clause-touching_bytes_are_joined c = touching_bytes_are_joined_legal

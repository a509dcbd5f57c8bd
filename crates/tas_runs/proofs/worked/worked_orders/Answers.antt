use Rattle.tas_runs.proofs.WorkedOrders.{second_number_is, syn_with_data_is, local_gap_is, strays_last_is}
use Rattle.tas_runs.proofs.worked.worked_orders.Goals as goal

pub returns-clause-second_number : goal.returns-clause-second_number
returns-clause-second_number c = second_number_is

pub returns-clause-syn_with_data : goal.returns-clause-syn_with_data
returns-clause-syn_with_data c = syn_with_data_is

pub returns-clause-local_gap : goal.returns-clause-local_gap
returns-clause-local_gap c = local_gap_is

pub returns-clause-strays_last : goal.returns-clause-strays_last
returns-clause-strays_last c = strays_last_is

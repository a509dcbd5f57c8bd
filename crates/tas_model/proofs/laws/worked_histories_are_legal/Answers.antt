use Rattle.tas_model.proofs.Worked.{three_packets_legal, data_out_of_order_legal, three_duplicates_legal}
use Rattle.tas_model.proofs.Worked.{client_of_hello_legal, server_of_hello_legal}
use Rattle.tas_model.proofs.laws.worked_histories_are_legal.Goals as goal

pub returns-clause-three_packets : goal.returns-clause-three_packets
returns-clause-three_packets c = three_packets_legal

pub returns-clause-data_out_of_order : goal.returns-clause-data_out_of_order
returns-clause-data_out_of_order c = data_out_of_order_legal

pub returns-clause-three_duplicates : goal.returns-clause-three_duplicates
returns-clause-three_duplicates c = three_duplicates_legal

pub returns-clause-client_of_hello : goal.returns-clause-client_of_hello
returns-clause-client_of_hello c = client_of_hello_legal

pub returns-clause-server_of_hello : goal.returns-clause-server_of_hello
returns-clause-server_of_hello c = server_of_hello_legal

use Rattle.two_ends.proofs.WorkedEnds.{hello_has, own_host_has}
use Rattle.two_ends.proofs.laws.worked_flows_have_other_ends.Goals as goal

pub returns-clause-hello : goal.returns-clause-hello
returns-clause-hello c = hello_has

pub returns-clause-own_host : goal.returns-clause-own_host
returns-clause-own_host c = own_host_has

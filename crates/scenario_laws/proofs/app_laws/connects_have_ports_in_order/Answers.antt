use Rattle.scenario_laws.proofs.PortsKept.{ports_in_order, ports_most, ports_wanting, ports_of_listeners}
use Rattle.scenario_laws.proofs.PortsKept.{none_left_refused}
use Rattle.scenario_laws.proofs.PortsNext.{ports_next}
use Rattle.scenario_laws.proofs.app_laws.connects_have_ports_in_order.Goals as goal

pub returns-clause-next : goal.returns-clause-next
returns-clause-next c = ports_next

pub returns-clause-ports : goal.returns-clause-ports
returns-clause-ports c = ports_in_order

pub returns-clause-most : goal.returns-clause-most
returns-clause-most c = ports_most

pub returns-clause-refused : goal.returns-clause-refused
returns-clause-refused c = none_left_refused

pub returns-clause-wanting : goal.returns-clause-wanting
returns-clause-wanting c = ports_wanting

pub returns-clause-listeners : goal.returns-clause-listeners
returns-clause-listeners c = ports_of_listeners

use Rattle.libtas_sockets.proofs.Apart.{none_next, none_other, not_any}
use Rattle.libtas_sockets.proofs.laws.no_socket_is_in_the_way.Goals as goal

pub returns-clause-next : goal.returns-clause-next
returns-clause-next c marks a id open_ next any =
    not_any id.slot a.sockets (none_next marks id a.sockets next open_) any

pub returns-clause-other : goal.returns-clause-other
returns-clause-other c marks a id open_ is no_flow any =
    not_any id.slot a.sockets (none_other marks id a.sockets is open_ no_flow) any

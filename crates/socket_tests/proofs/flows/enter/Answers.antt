use Rattle.flow_lock.proofs.Calling.{guest_pins}
use Rattle.socket_tests.proofs.flows.enter.Goals as goal

pub returns-in-Ok-clause-pinned : goal.returns-in-Ok-clause-pinned
returns-in-Ok-clause-pinned c =
    let p = c.in-Ok.ensures.pinned in
    (p.0, guest_pins _ _ c.args.pass.now c.pin.new.pass c.pin.ensures.table p.1 c.requires.0)

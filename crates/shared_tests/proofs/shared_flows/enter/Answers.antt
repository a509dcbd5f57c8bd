use Rattle.flow_lock.proofs.Calling.{guest_pins}
use Rattle.shared_tests.proofs.shared_flows.enter.Goals as goal

pub returns-in-Ok-clause-pinned : goal.returns-in-Ok-clause-pinned
returns-in-Ok-clause-pinned c = (
  c.in-Ok.ensures.pinned.0,
  guest_pins _ _ c.args.pass.now c.pin.new.pass c.pin.ensures.table c.in-Ok.ensures.pinned.1 c.requires.0,
)

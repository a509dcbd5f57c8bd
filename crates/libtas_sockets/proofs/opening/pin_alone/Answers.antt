use Rattle.libtas_sockets.proofs.Openings.{pinned_alone}
use Rattle.libtas_sockets.proofs.opening.pin_alone.Goals as goal

pub returns-clause-pinned : goal.returns-clause-pinned
returns-clause-pinned c =
    pinned_alone c.args.id c.args.sp.now c.pass_on.new.from c.pass_back.new.to c.args.pass.now c.pass_on.new.to
    c.pin.new.pass c.pass_back.new.from c.pass_on.ensures.from c.pass_on.ensures.to c.pin.ensures.table
    c.in-Ok.ensures.pinned.1 c.pass_back.ensures.from c.pass_back.ensures.to

use Rattle.flow_state.specs.Arena.{memory_of}
use Rattle.flow_state.proofs.Looking.{joined}
use Rattle.flow_state.proofs.stretches.Stretches.new.Goals as goal

pub returns : goal.returns
returns c = joined (memory_of c.args.arena.now c.args.came.now) c.args.items.now

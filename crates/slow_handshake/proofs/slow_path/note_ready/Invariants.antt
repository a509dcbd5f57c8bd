use Rattle.std.proofs.Common.{◌≡◌, map, drop, take, ◌++◌}
use Rattle.slow_handshake.specs.Openings.{readied}
use Rattle.slow_handshake.proofs.slow_path.note_ready.Given as goal

abbrev pub invariant-loop-flow : goal.invariant-loop-flow
invariant-loop-flow l = l.flow-items ≡ map (readied l.fn.id) (take l.flow-index l.fn.flows.items)
    ++ drop l.flow-index l.fn.flows.items

use Rattle.std.proofs.Common.{suc, flat_map, map, Ok}
use Rattle.tas_core.specs.Stretches.{numbered_lines}
use Rattle.run_texts.specs.Writes.{Writes}
use Rattle.run_texts.proofs.Lists.{log_line}
use Rattle.run_texts.proofs.logs.write_host_frames.Given as goal

abbrev pub invariant-loop-j : goal.invariant-loop-j
invariant-loop-j g l = Writes (g.K.Sink.state l.fn.sink) l.fn.writer (Ok tt) (g.K.Sink.state l.sink) l.writer
    (flat_map (log_line (map (λ n. n.now) l.names)) (numbered_lines l.run l.run.first.number (suc l.j)))

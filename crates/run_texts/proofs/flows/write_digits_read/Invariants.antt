use Rattle.std.proofs.Common.{take, flat_map, Ok}
use Rattle.tas_model.specs.Outputs.{bytes_read}
use Rattle.tas_runs.specs.Report.{hex_bytes}
use Rattle.run_texts.specs.Writes.{Writes}
use Rattle.run_texts.proofs.flows.write_digits_read.Given as goal

abbrev pub invariant-loop-i : goal.invariant-loop-i
invariant-loop-i g l = Writes (g.K.Sink.state l.fn.sink) l.fn.writer (Ok tt) (g.K.Sink.state l.sink) l.writer
    (flat_map (λ xs. hex_bytes (bytes_read xs)) (take l.i l.stretches))

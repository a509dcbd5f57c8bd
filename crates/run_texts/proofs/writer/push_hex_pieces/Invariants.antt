use Rattle.std.proofs.Common.{◌-◌, ◌≤◌, length, take, Ok}
use Rattle.tas_runs.specs.Report.{hex_bytes}
use Rattle.run_texts.specs.Writes.{Writes}
use Rattle.run_texts.proofs.writer.push_hex_pieces.Given as goal

abbrev pub invariant-loop-done : goal.invariant-loop-done
invariant-loop-done g l = record {
  writes : Writes (g.K.Sink.state l.fn.sink) l.fn.waiting (Ok tt) (g.K.Sink.state l.sink) l.waiting
      (hex_bytes (take l.done l.bytes));
  within : l.done ≤ length l.bytes;
}

abbrev pub decreases-loop-done : goal.decreases-loop-done
decreases-loop-done g l = length l.bytes - l.done

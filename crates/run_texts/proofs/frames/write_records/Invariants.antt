use Rattle.std.proofs.Common.{◌≡◌, take, flat_map, length, Ok}
use Rattle.run_texts.specs.Frames.{frame_before}
use Rattle.run_texts.specs.Writes.{Writes}
use Rattle.run_texts.proofs.frames.write_records.Given as goal

abbrev pub invariant-loop-frame : goal.invariant-loop-frame
invariant-loop-frame g l = record {
  writes : Writes (g.K.Sink.state l.fn.sink) l.fn.writer (Ok tt) (g.K.Sink.state l.sink) l.writer
      (flat_map (frame_before l.ticks) (take l.frame-index l.frames));
  room : length l.packet ≡ 65535;
}

use Rattle.std.proofs.Common.{rules, take, drop}
use Rattle.tas_runs.specs.Report.{hex_bytes}
use Rattle.run_texts.proofs.Writing.{piece_more, stopped_between, hex_more, hex_rest}
use Rattle.run_texts.proofs.writer.push_hex_pieces.Goals as goal

pub loop-done-preserved : goal.loop-done-preserved
loop-done-preserved g c =
    record {
      writes = piece_more (g.K.Sink.state c.args.sink.now) (g.K.Sink.state c.loop-done.sink)
          (g.K.Sink.state c.make_room.new.sink) (hex_bytes (take c.loop-done.done c.args.bytes.now)) _
          (hex_bytes (take c.min-end.result c.args.bytes.now)) c.push_digits.new.self
          (hex_more c.args.bytes.now c.loop-done.done c.min-end.result (search rules)) c.push_digits.ensures
          c.loop-done.invariant.writes c.in_ok-make_room.ensures.writes;
      within = search rules;
    }

pub returns-in_err-make_room : goal.returns-in_err-make_room
returns-in_err-make_room g c =
    stopped_between (g.K.Sink.state c.args.sink.now) (g.K.Sink.state c.loop-done.sink)
    (g.K.Sink.state c.make_room.new.sink) _ _ (hex_bytes (take c.loop-done.done c.args.bytes.now))
    (hex_bytes (drop c.loop-done.done c.args.bytes.now)) (hex_bytes c.args.bytes.now)
    (hex_rest c.args.bytes.now c.loop-done.done) (search rules) (search rules) c.loop-done.invariant.writes
    c.make_room.ensures.writes

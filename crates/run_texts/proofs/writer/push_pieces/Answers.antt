use Rattle.std.proofs.Common.{rules, take, drop, take-append-drop}
use Rattle.run_texts.proofs.Writing.{piece_more, stopped_between, text_more}
use Rattle.run_texts.proofs.writer.push_pieces.Goals as goal

pub loop-done-preserved : goal.loop-done-preserved
loop-done-preserved g c =
    record {
      writes = piece_more (g.K.Sink.state c.args.sink.now) (g.K.Sink.state c.loop-done.sink)
          (g.K.Sink.state c.make_room.new.sink) (take c.loop-done.done c.args.bytes.now) _
          (take c.min-end.result c.args.bytes.now) c.push.new.self
          (text_more c.args.bytes.now c.loop-done.done c.min-end.result (search rules)) c.push.ensures
          c.loop-done.invariant.writes c.in_ok-make_room.ensures.writes;
      within = search rules;
    }

pub returns-in_err-make_room : goal.returns-in_err-make_room
returns-in_err-make_room g c =
    stopped_between (g.K.Sink.state c.args.sink.now) (g.K.Sink.state c.loop-done.sink)
    (g.K.Sink.state c.make_room.new.sink) _ _ (take c.loop-done.done c.args.bytes.now)
    (drop c.loop-done.done c.args.bytes.now) c.args.bytes.now (take-append-drop c.loop-done.done c.args.bytes.now)
    (search rules) (search rules) c.loop-done.invariant.writes c.make_room.ensures.writes

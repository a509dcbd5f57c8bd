use Rattle.std.proofs.Common.{◌≡◌, ◌+◌, ◌-◌, ℕ, List, rules, ap, sym, ◌∙◌, arith}
use Rattle.run_texts.specs.Counting.{lines_from}
use Rattle.run_texts.proofs.Counting.{first_append}
use Rattle.run_texts.proofs.Writing.{piece_more, stopped_between, wrote_as}
use Rattle.run_texts.proofs.writer.push_lines.Goals as goal

pub loop-done-preserved : goal.loop-done-preserved
loop-done-preserved g c =
    let f : ℕ → List ℕ = g.L.CountedLines.line c.args.lines.now in
    let j : ℕ = c.loop-done.done in
    let k : ℕ = c.add_lines.result in
    record {
      writes = piece_more (g.K.Sink.state c.args.sink.now) (g.K.Sink.state c.loop-done.sink)
          (g.K.Sink.state c.make_room.new.sink) (lines_from f 0 j) (lines_from f j k) _ c.add_lines.new.waiting
          (first_append f j k ∙ ap (λ (n : ℕ). lines_from f 0 (j + n)) (sym c.from-done.ensures))
          c.add_lines.ensures.text c.loop-done.invariant.writes
          c.in_ok-make_room.ensures.writes;
      within = omega (arith, c.add_lines.ensures.within, c.from-done.ensures);
    }

pub returns-in_err-make_room : goal.returns-in_err-make_room
returns-in_err-make_room g c =
    let f : ℕ → List ℕ = g.L.CountedLines.line c.args.lines.now in
    let j : ℕ = c.loop-done.done in
    let all : ℕ = g.L.CountedLines.more c.args.lines.now + 1 in
    let count : j + (all - j) ≡ all = omega (arith, c.loop-done.invariant.within) in
    stopped_between (g.K.Sink.state c.args.sink.now) (g.K.Sink.state c.loop-done.sink)
    (g.K.Sink.state c.make_room.new.sink) _ _ (lines_from f 0 j) (lines_from f j (all - j)) (lines_from f 0 all)
    (first_append f j (all - j) ∙ ap (lines_from f 0) count) (search rules) (search rules)
    c.loop-done.invariant.writes c.make_room.ensures.writes

pub returns : goal.returns
returns g c =
    let f : ℕ → List ℕ = g.L.CountedLines.line c.args.lines.now in
    let all : c.loop-done.done ≡ g.L.CountedLines.more c.args.lines.now + 1 =
    omega (arith, c.loop-done-test.false, c.loop-done.invariant.within, c.followers-followers.ensures) in
    wrote_as _ _ _ _ _ (ap (lines_from f 0) all) c.loop-done.invariant.writes

use Rattle.std.proofs.Common.{List, ℕ, subst, append-nil}
use Rattle.tas_runs.specs.Summary.{summary_lines}
use Rattle.run_texts.specs.Writes.{Writes}
use Rattle.run_texts.proofs.Writing.{wrote_then}
use Rattle.tas_round.proofs.summary.put_summary.Goals as goal

pub returns-clause-writes : goal.returns-clause-writes
returns-clause-writes g c =
    let before = g.K.Sink.state c.args.sink.now in
    let after = g.K.Sink.state c.finish.new.sink in
    let lines = summary_lines c.args.summary.clients c.args.summary.read c.args.summary.closed in
    subst (λ (t : List ℕ). Writes before c.args.writer.now c.finish.result after c.finish.new.self t) (append-nil lines)
    (wrote_then _ _ _ _ _ _ c.in_ok-write_summary_lines.ensures c.finish.ensures.writes)

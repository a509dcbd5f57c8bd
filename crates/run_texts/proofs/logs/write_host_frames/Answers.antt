use Rattle.std.proofs.Common.{rules, ◌+◌, ◌-◌, ◌<◌, suc, map, ap, arith, flat_map, subst, Result, ℕ, List}
use Rattle.tas_num.specs.declared.outside.IoFault.{IoFault}
use Rattle.tas_runs.specs.Report.{log_text}
use Rattle.tas_core.specs.Stretches.{numbered_line, numbered_lines}
use Rattle.run_texts.specs.Writes.{Writes}
use Rattle.run_texts.proofs.Lists.{log_line}
use Rattle.run_texts.proofs.LogRuns.{run_step, run_left, run_rest, run_whole}
use Rattle.run_texts.proofs.Writing.{wrote_as, wrote_both, stopped_in, stopped_at}
use Rattle.run_texts.proofs.logs.write_host_frames.Goals as goal

pub returns-in_err-write_line : goal.returns-in_err-write_line
returns-in_err-write_line g c =
    let run = c.args.run.now in
    let first : ℕ = run.first.number in
    stopped_at _ _ _ _ (log_line (map (λ n. n.now) c.args.names.now) (numbered_line run first))
    (log_text (map (λ n. n.now) c.args.names.now) (numbered_lines run (first + 1) (run.last - first)))
    (search rules) (search rules)
    (wrote_as _ _ _ _ _ (ap (log_line (map (λ n. n.now) c.args.names.now)) c.run_line.ensures) c.write_line.ensures)

pub overflow_add-first : goal.overflow_add-first
overflow_add-first g c = omega (arith, c.more-j-end.ensures.fits, c.loop-j-test.true)

pub overflow_add-first-in-loop-j : goal.overflow_add-first-in-loop-j
overflow_add-first-in-loop-j g c = omega (arith, c.more-j-end.ensures.fits, c.loop-j-test.true)

pub returns-in_err-write_line-2 : goal.returns-in_err-write_line-2
returns-in_err-write_line-2 g c =
    let run = c.args.run.now in
    let j : ℕ = c.loop-j.j in
    let below : j < run.last - run.first.number = omega (arith, c.more-j-end.ensures.count, c.loop-j-test.true) in
    let front : List ℕ = flat_map (log_line (map (λ n. n.now) c.args.names.now))
    (numbered_lines run run.first.number (suc j)) in
    let next : List ℕ = log_line (map (λ n. n.now) c.args.names.now) (numbered_line run (run.first.number + j + 1)) in
    stopped_in _ _ _ (flat_map (log_line (map (λ n. n.now) c.args.names.now))
    (numbered_lines run run.first.number (suc (j + 1)))) (run_left (map (λ n. n.now) c.args.names.now) run j) _
    (run_rest (map (λ n. n.now) c.args.names.now) run j below) (search rules)
    (subst (λ (r : Result (Unit {0}) IoFault). Writes (g.K.Sink.state c.args.sink.now) c.args.writer.now r
    (g.K.Sink.state c.write_line-in-loop-j.new.sink) c.write_line-in-loop-j.new.writer
    (flat_map (log_line (map (λ n. n.now) c.args.names.now)) (numbered_lines run run.first.number (suc (j + 1)))))
    (search rules)
    (wrote_both _ _ _ _ front next _ (run_step (map (λ n. n.now) c.args.names.now) run j) c.loop-j.invariant
    (wrote_as _ _ _ _ _ (ap (log_line (map (λ n. n.now) c.args.names.now)) c.run_line-in-loop-j.ensures)
    c.write_line-in-loop-j.ensures)))

pub loop-j-preserved : goal.loop-j-preserved
loop-j-preserved g c =
    let run = c.args.run.now in
    let j : ℕ = c.loop-j.j in
    let front : List ℕ = flat_map (log_line (map (λ n. n.now) c.args.names.now))
    (numbered_lines run run.first.number (suc j)) in
    let next : List ℕ = log_line (map (λ n. n.now) c.args.names.now) (numbered_line run (run.first.number + j + 1)) in
    wrote_both _ _ _ _ front next _ (run_step (map (λ n. n.now) c.args.names.now) run j) c.loop-j.invariant
    (wrote_as _ _ _ _ _ (ap (log_line (map (λ n. n.now) c.args.names.now)) c.run_line-in-loop-j.ensures)
    c.in_ok-write_line-2.ensures)

pub returns : goal.returns
returns g c =
    wrote_as _ _ _ _ _ (run_whole (map (λ n. n.now) c.args.names.now) c.args.run.now c.loop-j.j
    (omega (arith, c.more-j-end.ensures.count, c.loop-j-test.false, c.loop-j.auto.j-end))) c.loop-j.invariant

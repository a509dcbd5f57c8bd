use Rattle.std.proofs.Common.{◌≡◌, ◌-◌, ◌++◌, suc, sym, ap, ◌∙◌, append-nil, arith}
use Rattle.scenario_runs.specs.Worlds.{frames_of_log}
use Rattle.tas_core.specs.Stretches.{lines_in, run_lines}
use Rattle.tas_core.proofs.Newest.{lines_are}
use Rattle.sent_frames.specs.Sending.{of_tick, answers_in}
use Rattle.sent_frames.proofs.Answering.{runs_answer_none, runs_send_none}
use Rattle.sent_frames.proofs.strays.collect_stretch.Goals as goal

pub returns-in-Run-clause-frames : goal.returns-in-Run-clause-frames
returns-in-Run-clause-frames c =
    λ world same.
    let r = c.in-Run.field-0 in
    let old = c.args.sent.now in
    let h = c.args.sender.now.host in
    let none = ap (λ s. of_tick c.args.tick (frames_of_log world h c.args.number (lines_in s))) c.in-Run.is
    ∙ ap (of_tick c.args.tick) (runs_send_none world h c.args.number (run_lines r)
    (lines_are r r.first.number (suc (r.last - r.first.number)))) in
    sym (ap (λ t. old ++ t) none ∙ append-nil old)

pub returns-in-Run-clause-number : goal.returns-in-Run-clause-number
returns-in-Run-clause-number c =
    let r = c.in-Run.field-0 in
    let none : answers_in (lines_in c.args.stretch.now) ≡ 0 =
    ap (λ s. answers_in (lines_in s)) c.in-Run.is
    ∙ runs_answer_none (run_lines r) (lines_are r r.first.number (suc (r.last - r.first.number))) in
    omega (arith, none)

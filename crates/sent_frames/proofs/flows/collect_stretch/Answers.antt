use Rattle.std.proofs.Common.{◌≡◌, ◌++◌, suc, length, sym, ap, ◌∙◌, append-nil, arith}
use Rattle.flow_state.specs.Views.{seen_stretch}
use Rattle.sent_frames.specs.Sending.{of_tick, entry_frames, sent_by}
use Rattle.sent_frames.proofs.Starting.{quiet_frames, quiet_has_none}
use Rattle.flow_state.specs.Stretches.{pace_of}
use Rattle.sent_frames.proofs.Paced.{paced_frames, paced_has_none}
use Rattle.sent_frames.proofs.flows.collect_stretch.Goals as goal

pub returns-in-Quiet-clause-frames : goal.returns-in-Quiet-clause-frames
returns-in-Quiet-clause-frames c =
    let r = c.in-Quiet.field-0 in
    let old = c.args.sent.now in
    let none = ap (λ s. of_tick c.args.tick (entry_frames c.args.origin.now c.args.number (seen_stretch s)))
    c.in-Quiet.is
    ∙ ap (of_tick c.args.tick) (quiet_frames c.args.origin.now c.args.number r.caller r.number r.tick (suc r.more)) in
    sym (ap (λ t. old ++ t) none ∙ append-nil old)

pub returns-in-Quiet-clause-number : goal.returns-in-Quiet-clause-number
returns-in-Quiet-clause-number c =
    let r = c.in-Quiet.field-0 in
    let none : sent_by (seen_stretch c.args.stretch) ≡ 0 =
    ap (λ s. sent_by (seen_stretch s)) c.in-Quiet.is
    ∙ ap length (quiet_has_none r.caller r.number r.tick (suc r.more)) in
    omega (arith, none)

pub returns-in-Paced-clause-frames : goal.returns-in-Paced-clause-frames
returns-in-Paced-clause-frames c =
    let r = c.in-Paced.field-0 in
    let old = c.args.sent.now in
    let none = ap (λ s. of_tick c.args.tick (entry_frames c.args.origin.now c.args.number (seen_stretch s)))
    c.in-Paced.is
    ∙ ap (of_tick c.args.tick)
    (paced_frames c.args.origin.now c.args.number (pace_of r) r.run.number r.run.tick (suc r.more)) in
    sym (ap (λ t. old ++ t) none ∙ append-nil old)

pub returns-in-Paced-clause-number : goal.returns-in-Paced-clause-number
returns-in-Paced-clause-number c =
    let r = c.in-Paced.field-0 in
    let none : sent_by (seen_stretch c.args.stretch) ≡ 0 =
    ap (λ s. sent_by (seen_stretch s)) c.in-Paced.is
    ∙ ap length (paced_has_none (pace_of r) r.run.number r.run.tick (suc r.more)) in
    omega (arith, none)

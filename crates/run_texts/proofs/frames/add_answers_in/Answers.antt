use Rattle.std.proofs.Common.{◌++◌, ◌-◌, List, suc, map, flat_map, sym, ap, ◌∙◌, append-nil}
use Rattle.tas_core.specs.Stretches.{lines_in}
use Rattle.run_texts.specs.Frames.{seen_frame, answer_frames, Sent}
use Rattle.run_texts.proofs.LogRuns.{run_sends_none}
use Rattle.run_texts.proofs.frames.add_answers_in.Goals as goal

pub returns-in-Run : goal.returns-in-Run
returns-in-Run c =
    let run = c.in-Run.field-0 in
    let old = map seen_frame c.args.frames.now.items in
    let none = ap (λ s. flat_map answer_frames (lines_in s)) c.in-Run.is
    ∙ run_sends_none run run.first.number (suc (run.last - run.first.number)) in
    sym (ap (λ (t : List Sent). old ++ t) none ∙ append-nil old)

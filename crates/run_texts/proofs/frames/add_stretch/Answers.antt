use Rattle.std.proofs.Common.{◌++◌, List, suc, map, flat_map, sym, ap, ◌∙◌, append-nil}
use Rattle.flow_state.specs.Views.{seen_stretch}
use Rattle.run_texts.specs.Frames.{seen_frame, entry_frames, Sent}
use Rattle.flow_state.specs.Stretches.{pace_of}
use Rattle.run_texts.proofs.Quiet.{quiet_sends_none}
use Rattle.run_texts.proofs.Paced.{paced_sends_none}
use Rattle.run_texts.proofs.frames.add_stretch.Goals as goal

pub returns-in-Quiet : goal.returns-in-Quiet
returns-in-Quiet c =
    let run = c.in-Quiet.field-0 in
    let old = map seen_frame c.args.frames.now.items in
    let none = ap (λ s. flat_map (entry_frames c.args.tuple) (seen_stretch s)) c.in-Quiet.is
    ∙ quiet_sends_none c.args.tuple run.caller run.number run.tick (suc run.more) in
    sym (ap (λ (t : List Sent). old ++ t) none ∙ append-nil old)

pub returns-in-Paced : goal.returns-in-Paced
returns-in-Paced c =
    let runs = c.in-Paced.field-0 in
    let old = map seen_frame c.args.frames.now.items in
    let none = ap (λ s. flat_map (entry_frames c.args.tuple) (seen_stretch s)) c.in-Paced.is
    ∙ paced_sends_none c.args.tuple (pace_of runs) runs.run.number runs.run.tick (suc runs.more) in
    sym (ap (λ (t : List Sent). old ++ t) none ∙ append-nil old)

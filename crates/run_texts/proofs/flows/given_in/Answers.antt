use Rattle.std.proofs.Common.{suc, sym, ap, ◌∙◌}
use Rattle.tas_model.specs.Outputs.{bytes_read}
use Rattle.flow_state.specs.Views.{seen_stretch}
use Rattle.flow_state.specs.Stretches.{pace_of}
use Rattle.run_texts.proofs.Quiet.{quiet_reads_none}
use Rattle.run_texts.proofs.Paced.{paced_reads_none}
use Rattle.run_texts.proofs.flows.given_in.Goals as goal

pub returns-in-Quiet : goal.returns-in-Quiet
returns-in-Quiet c =
    let run = c.in-Quiet.field-0 in
    sym (ap (λ s. bytes_read (seen_stretch s)) c.in-Quiet.is
    ∙ quiet_reads_none run.caller run.number run.tick (suc run.more))

pub returns-in-Paced : goal.returns-in-Paced
returns-in-Paced c =
    let runs = c.in-Paced.field-0 in
    sym (ap (λ s. bytes_read (seen_stretch s)) c.in-Paced.is
    ∙ paced_reads_none (pace_of runs) runs.run.number runs.run.tick (suc runs.more))

use Rattle.std.proofs.Common.{sym, ap, ◌∙◌}
use Rattle.flow_state.specs.declared.stretch.Stretch.{Stretch}
use Rattle.flow_state.specs.Calls.{reply_bytes}
use Rattle.flow_state.specs.Flow.{last_reply}
use Rattle.flow_state.specs.Arena.{Memory, memory_of}
use Rattle.flow_state.specs.Stretches.{entries_in}
use Rattle.flow_state.proofs.Looking.{last_quiet}
use Rattle.flow_state.proofs.Pacing.{last_paced}
use Rattle.flow_state.proofs.record.last_bytes_of.Goals as goal

pub returns-in-Quiet : goal.returns-in-Quiet
returns-in-Quiet c =
    let memory : Memory = memory_of c.args.arena.now c.args.came.now in
    sym (ap (λ (s : Stretch). reply_bytes (last_reply (entries_in memory s))) c.in-Quiet.is
    ∙ last_quiet c.in-Quiet.field-0)

pub returns-in-Paced : goal.returns-in-Paced
returns-in-Paced c =
    let memory : Memory = memory_of c.args.arena.now c.args.came.now in
    sym (ap (λ (s : Stretch). reply_bytes (last_reply (entries_in memory s))) c.in-Paced.is
    ∙ last_paced c.in-Paced.field-0)

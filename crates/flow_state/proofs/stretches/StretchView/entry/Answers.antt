use Rattle.std.proofs.Common.{◌≡◌, suc, length, arith}
use Rattle.flow_state.specs.Views.{seen_stretch}
use Rattle.flow_state.proofs.Runs.{length_ticks}
use Rattle.flow_state.proofs.stretches.StretchView.entry.Goals as goal

pub returns-else-j-run-clause-past : goal.returns-else-j-run-clause-past
returns-else-j-run-clause-past c =
    let run = c.in-Quiet.run' in
    let count : length (seen_stretch c.args.self.now) ≡ suc run.more =
    rw c.in-Quiet.is (length_ticks run.caller run.number run.tick (suc run.more)) in
    omega (arith, count, c.if-j-run.false)

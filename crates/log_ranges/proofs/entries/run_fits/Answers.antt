use Rattle.std.proofs.Common.{suc, arith}
use Rattle.flow_state.specs.declared.stretch.QuietRun.{QuietRun}
use Rattle.log_ranges.proofs.Runs.{quiet_fit}
use Rattle.log_ranges.proofs.entries.run_fits.Goals as goal

pub returns : goal.returns
returns c =
    let r : QuietRun = c.args.run.now in
    quiet_fit r.caller r.number r.tick (suc r.more) c.caller_fits.ensures (omega (arith, c.requires.number))
    (omega (arith, c.requires.tick))

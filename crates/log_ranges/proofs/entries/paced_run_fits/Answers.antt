use Rattle.std.proofs.Common.{rules, suc, arith}
use Rattle.flow_state.specs.declared.paced.PacedRun.{PacedRun}
use Rattle.flow_state.specs.Stretches.{pace_of}
use Rattle.log_ranges.proofs.Runs.{paced_fit}
use Rattle.log_ranges.proofs.entries.paced_run_fits.Goals as goal

pub returns : goal.returns
returns c =
    let r : PacedRun = c.args.runs.now in
    paced_fit (pace_of r) c.caller_fits.ensures (search rules) (search rules) r.run.number r.run.tick (suc r.more)
    (omega (arith, c.requires.number, c.requires.low_number)) (omega (arith, c.requires.tick, c.requires.low_tick))

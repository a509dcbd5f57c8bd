use Rattle.std.proofs.Common.{rules, ◌-◌, ◌<◌, ◌^◌, suc, subst, sym, arith}
use Rattle.tas_core.specs.declared.stretch.LogRun.{LogRun}
use Rattle.log_ranges.proofs.Runs.{KindFits, numbered_fit}
use Rattle.log_ranges.proofs.lines.log_run_fits.Goals as goal

pub returns-in-Refused : goal.returns-in-Refused
returns-in-Refused c =
    let r : LogRun = c.args.run.now in
    let last : r.last < 2 ^ 64 = search rules in
    numbered_fit r r.first.number (suc (r.last - r.first.number)) (search rules)
    (subst KindFits (sym c.in-Refused.is) (search rules)) c.frame_fits.ensures.flow
    (omega (arith, last, c.frame_fits.ensures.number))

pub returns-in_default : goal.returns-in_default
returns-in_default c =
    let r : LogRun = c.args.run.now in
    let last : r.last < 2 ^ 64 = search rules in
    numbered_fit r r.first.number (suc (r.last - r.first.number)) (search rules)
    (subst KindFits (sym c.in_default.is) tt) c.frame_fits.ensures.flow
    (omega (arith, last, c.frame_fits.ensures.number))

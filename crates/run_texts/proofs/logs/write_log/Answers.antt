use Rattle.std.proofs.Common.{rules, ◌≡◌, ◌≤◌, map, length, slice_get, Some, refl}
use Rattle.std.proofs.lemmas.Option.{slice_get_read}
use Rattle.host_rounds.specs.Lists.{Each}
use Rattle.tas_runs.specs.Report.{log_text}
use Rattle.tas_core.specs.Stretches.{lines_in}
use Rattle.log_ranges.specs.Ranges.{LineFits}
use Rattle.log_ranges.proofs.Lists.{each_more, each_all, each_flat}
use Rattle.run_texts.proofs.Lists.{wrote_more, wrote_whole, stopped_among}
use Rattle.run_texts.proofs.LogRuns.{stretches_are}
use Rattle.run_texts.proofs.logs.write_log.Goals as goal

pub returns-clause-fits : goal.returns-clause-fits
returns-clause-fits g c =
    let log = c.args.log.now in
    let all : length log ≤ c.loop-stretch.stretch-index = search rules in
    each_flat LineFits lines_in log
    (each_all (λ s. Each LineFits (lines_in s)) log c.loop-stretch.stretch-index all c.loop-stretch.invariant.1)

pub returns-clause-writes : goal.returns-clause-writes
returns-clause-writes g c =
    let names = map (λ n. n.now) c.args.names.now in
    let log = c.args.log.now in
    wrote_whole (λ s. log_text names (lines_in s)) log c.loop-stretch.stretch-index _ _ _ _ (stretches_are names log)
    (search rules) c.loop-stretch.invariant.0

pub returns-in_err-write_stretch-clause-writes : goal.returns-in_err-write_stretch-clause-writes
returns-in_err-write_stretch-clause-writes g c =
    let names = map (λ n. n.now) c.args.names.now in
    let log = c.args.log.now in
    let i = c.loop-stretch.stretch-index in
    let here : slice_get log i ≡ Some c.stretch-item.result =
    slice_get_read log (length log) i c.stretch-item.result refl (search rules) c.stretch-item.is in
    stopped_among (λ s. log_text names (lines_in s)) log i c.stretch-item.result _ _ _ _ _ _ (stretches_are names log)
    here (search rules) (search rules) c.loop-stretch.invariant.0 c.write_stretch.ensures

pub loop-stretch-preserved : goal.loop-stretch-preserved
loop-stretch-preserved g c =
    let names = map (λ n. n.now) c.args.names.now in
    let log = c.args.log.now in
    let i = c.loop-stretch.stretch-index in
    let here : slice_get log i ≡ Some c.stretch-item.result =
    slice_get_read log (length log) i c.stretch-item.result refl (search rules) c.stretch-item.is in (
      wrote_more (λ s. log_text names (lines_in s)) log i c.stretch-item.result _ _ _ _ here c.loop-stretch.invariant.0
          c.in_ok-write_stretch.ensures,
      each_more (λ s. Each LineFits (lines_in s)) log i c.stretch-item.result here c.loop-stretch.invariant.1
          c.lines_fit.ensures,
    )

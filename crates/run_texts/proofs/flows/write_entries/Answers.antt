use Rattle.std.proofs.Common.{rules, ◌≤◌, length, map, subst, ap, ◌∙◌}
use Rattle.host_rounds.specs.Lists.{Each}
use Rattle.flow_state.specs.Views.{seen_stretch}
use Rattle.tas_runs.specs.Report.{entries_text}
use Rattle.log_ranges.specs.Ranges.{EntryFits}
use Rattle.log_ranges.proofs.Lists.{each_more, each_all, each_flat}
use Rattle.run_texts.proofs.Lists.{wrote_more, stopped_among, wrote_whole}
use Rattle.run_texts.proofs.Quiet.{joined_text}
use Rattle.run_texts.proofs.flows.write_entries.Goals as goal

pub returns-in_err-write_stretch-clause-writes : goal.returns-in_err-write_stretch-clause-writes
returns-in_err-write_stretch-clause-writes g c =
    let names = map (λ n. n.now) c.args.names.now in
    stopped_among (entries_text names) c.stretches-stretches.result c.loop-i.i (seen_stretch c.get-stretch.result) _ _ _
    _ _ _ (joined_text names c.stretches-stretches.result
    ∙ ap (entries_text names) c.stretches-stretches.ensures) c.get-stretch.ensures.entries (search rules)
    (search rules) c.loop-i.invariant.0 c.write_stretch.ensures

pub loop-i-preserved : goal.loop-i-preserved
loop-i-preserved g c =
    let names = map (λ n. n.now) c.args.names.now in (
      wrote_more (entries_text names) c.stretches-stretches.result c.loop-i.i
          (seen_stretch c.get-stretch.result) _ _ _ _ c.get-stretch.ensures.entries c.loop-i.invariant.0
          c.in_ok-write_stretch.ensures,
      each_more (Each EntryFits) c.stretches-stretches.result c.loop-i.i (seen_stretch c.get-stretch.result)
          c.get-stretch.ensures.entries c.loop-i.invariant.1 c.stretch_fits.ensures,
    )

pub returns-clause-writes : goal.returns-clause-writes
returns-clause-writes g c =
    let names = map (λ n. n.now) c.args.names.now in
    wrote_whole (entries_text names) c.stretches-stretches.result c.loop-i.i _ _ _ _
    (joined_text names c.stretches-stretches.result ∙ ap (entries_text names) c.stretches-stretches.ensures)
    (search rules) c.loop-i.invariant.0

pub returns-clause-fits : goal.returns-clause-fits
returns-clause-fits g c =
    let stretches = c.stretches-stretches.result in
    let all : length stretches ≤ c.loop-i.i = search rules in
    subst (Each EntryFits) c.stretches-stretches.ensures
    (each_flat EntryFits (λ xs. xs) stretches (each_all (Each EntryFits) stretches c.loop-i.i all c.loop-i.invariant.1))

use Rattle.std.proofs.Common.{map, ap, sym, ◌∙◌}
use Rattle.tas_runs.specs.Report.{entries_text}
use Rattle.flow_state.specs.Views.{seen_stretch}
use Rattle.run_texts.proofs.Decades.{run_is}
use Rattle.run_texts.proofs.Writing.{wrote_as}
use Rattle.run_texts.proofs.stretches.write_stretch.Goals as goal

pub returns-in-Quiet : goal.returns-in-Quiet
returns-in-Quiet g c =
    wrote_as _ _ _ _ _
    (run_is (map (λ n. n.now) c.args.names.now) c.in-Quiet.run'
    ∙ ap (λ s. entries_text (map (λ n. n.now) c.args.names.now) (seen_stretch s)) (sym c.in-Quiet.is))
    c.put_lines.ensures

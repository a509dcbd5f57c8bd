use Rattle.std.proofs.Common.{◌-◌, ◌∙◌, suc, length, sym, ap}
use Rattle.tas_core.specs.Stretches.{lines_in}
use Rattle.tas_core.proofs.Runs.{length_lines}
use Rattle.tas_core.proofs.stretch.LogStretch.more.Goals as goal

pub returns-in-Run : goal.returns-in-Run
returns-in-Run c =
    let run = c.in-Run.run' in
    ap suc c.more.ensures.count
    ∙ (sym (length_lines run run.first.number (suc (run.last - run.first.number)))
    ∙ ap (λ s. length (lines_in s)) (sym c.in-Run.is))

use Rattle.std.proofs.Common.{◌≡◌, suc, ◌-◌, length, get_or, List, sym, ◌∙◌, arith}
use Rattle.tas_core.specs.declared.stretch.LogStretch.{LogStretch}
use Rattle.tas_core.specs.declared.stretch.LogStretch.TheVariants.{Run}
use Rattle.tas_core.proofs.Runs.{longer}
use Rattle.tas_core.proofs.stretch.lengthen.Goals as goal

pub returns-clause-made : goal.returns-clause-made
returns-clause-made c is =
    let ss : List LogStretch = c.args.stretches.now.items in
    let one : length ss ≡ suc (c.len-n.result - 1) =
    omega (arith, c.len-n.ensures, c.if-n-eq0.false, c.args.stretches.now.ok) in
    let last : get_or ss (c.len-n.result - 1) c.index.result.now ≡ Run c.in-Run.run' = sym c.index.ensures
    ∙ c.in-Run.is in
    longer ss (c.len-n.result - 1) c.index.result.now c.in-Run.run' c.args.tick c.args.kind c.args.frame one last
    (c.goes_on_by.ensures c.if-not-goes_on_by.false)

use Rattle.std.proofs.Common.{arith}
use Rattle.tas_round.proofs.Flowing.{names_more, names_whole}
use Rattle.tas_round.proofs.report.lent_names.Goals as goal

pub loop-i-preserved : goal.loop-i-preserved
loop-i-preserved c = names_more _ _ c.args.hosts.now c.loop-i.i c.item.result.now c.item.ensures c.loop-i.invariant
    c.in_ok-lend_name.ensures

pub returns : goal.returns
returns c = names_whole _ c.args.hosts.now c.loop-i.i (omega (arith, c.loop-i-test.false, c.len-i-end.ensures))
    c.loop-i.invariant

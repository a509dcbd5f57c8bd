use Rattle.std.proofs.Common.{map, sym, ap, ◌∙◌, arith}
use Rattle.run_texts.specs.Frames.{history_of}
use Rattle.tas_round.proofs.Summing.{passed_over, found_there, none_left}
use Rattle.tas_round.proofs.summary.flows_on.Goals as goal

pub loop-i-preserved : goal.loop-i-preserved
loop-i-preserved c =
    passed_over c.args.name.now c.args.hosts.now c.loop-i.i c.item-host.result.now c.item-host.ensures
    (sym c.is_named.ensures ∙ c.if-is_named.false) ∙ c.loop-i.invariant

pub returns-then-is_named : goal.returns-then-is_named
returns-then-is_named c =
    ap (map history_of) c.as_slice.ensures.histories
    ∙ (found_there c.args.name.now c.args.hosts.now c.loop-i.i c.item-host.result.now c.item-host.ensures
    (sym c.is_named.ensures ∙ c.if-is_named.true) ∙ c.loop-i.invariant)

pub returns : goal.returns
returns c =
    sym (none_left c.args.name.now c.args.hosts.now c.loop-i.i
    (omega (arith, c.loop-i-test.false, c.len-i-end.ensures))) ∙ c.loop-i.invariant

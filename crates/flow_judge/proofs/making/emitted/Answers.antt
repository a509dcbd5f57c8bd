use Rattle.flow_state.specs.declared.call.CallIn.TheVariants as ins
use Rattle.flow_judge.proofs.Steps.{made_by, no_emission}
use Rattle.flow_judge.proofs.making.emitted.Goals as goal

pub returns-clause-made : goal.returns-clause-made
returns-clause-made c =
    let f = c.args.flow.now in
    let a = c.in_ok-answer.ensures in
    let p = c.parts-parts.ensures in
    made_by c.in_ok-answer.answer f c.act.new.self c.args.caller c.args.tick ins.Emit a.exact a.answer
    (no_emission f.params f.entries f.parts c.in_ok-answer.answer p.ranges p.legal p.stands a.serves)

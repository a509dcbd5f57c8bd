use Rattle.link_script.proofs.ByTick.{pushed, stays_by_tick}
use Rattle.link_script.proofs.frames.SentList.push.Goals as goal

pub invariant_of-self-2 : goal.invariant_of-self-2
invariant_of-self-2 c =
    stays_by_tick c.self.inside.frames.items c.deref.result.now c.insert.new.self.items c.args.s _ c.deref.ensures.value
    c.in_ok-insert.ensures.items c.count_until-at.ensures.bound c.count_until-at.ensures.parts c.self.invariant

pub returns-clause-ok : goal.returns-clause-ok
returns-clause-ok c =
    pushed c.args.self.now c.self.inside.frames.items c.deref.result.now c.insert.new.self.items c.args.s _
    c.deref.ensures.value c.self.view_is c.in_ok-insert.ensures.items c.count_until-at.ensures.bound
    c.count_until-at.ensures.parts

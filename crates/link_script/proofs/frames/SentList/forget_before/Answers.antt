use Rattle.std.proofs.Common.{◌∙◌}
use Rattle.link_script.proofs.ByTick.{kept_from}
use Rattle.link_script.proofs.frames.SentList.forget_before.Goals as goal

pub returns : goal.returns
returns c =
    c.drop-drain.ensures.items ∙ (c.drain.ensures.kept
    ∙ kept_from c.args.self.now c.self.inside.frames.items c.deref.result.now c.args.tick c.count_before-count.result
    c.deref.ensures.value c.self.view_is c.count_before-count.ensures.bound c.count_before-count.ensures.parts)

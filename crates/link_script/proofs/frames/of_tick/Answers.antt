use Rattle.std.proofs.lemmas.List.{take_rest}
use Rattle.link_script.proofs.ByTick.{of_tick_is}
use Rattle.link_script.proofs.frames.of_tick.Goals as goal

pub returns : goal.returns
returns c = of_tick_is c.args.frames.now _ c.args.tick _ _
    (take_rest c.args.frames.now c.count_before.result) c.count_before.ensures.bound c.count_until.ensures.bound
    c.count_before.ensures.parts c.count_until.ensures.parts

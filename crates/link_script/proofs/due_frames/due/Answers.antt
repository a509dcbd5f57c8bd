use Rattle.std.proofs.Common.{◌∙◌, ap, filter, rules}
use Rattle.std.specs.List.{flat_map}
use Rattle.link_script.specs.DueFrames.{coming_of}
use Rattle.link_script.proofs.DueOrder.{tied, sorted_by_turn}
use Rattle.link_script.proofs.Coming.{found_alike}
use Rattle.link_script.proofs.due_frames.due.Goals as goal

pub returns : goal.returns
returns c =
    c.of.ensures ∙ sorted_by_turn (flat_map (coming_of c.args.script.now c.args.tick) c.args.emitted.now)
    c.in_ok-frames.frames.items c.sort_by_key.new.self.items
    c.in_ok-sort_by_key.ensures.sorted c.in_ok-sort_by_key.ensures.stable (λ a r q k. search rules)
    (λ z. ap (filter (tied z)) c.in_ok-frames.ensures.frames
    ∙ found_alike c.args.script.now c.args.emitted.now c.args.tick z c.delays.result.now c.delays.ensures
    c.in_ok-frames.ensures.delays)

use Rattle.std.proofs.Common.{ap, ◌∙◌}
use Rattle.flow_lock.specs.Passes.{Seen}
use Rattle.app_reaper.proofs.Walking.{back_pins, same_pins}
use Rattle.app_reaper.proofs.holding.reap_with_baton.Goals as goal

pub abort_all-done-requires-clause-pins : goal.abort_all-done-requires-clause-pins
abort_all-done-requires-clause-pins c =
    let e = c.args.ended in
    let same = ap (λ (s : Seen). s.view.pins) c.give_back.ensures ∙ back_pins e.held e.pass.view in
    same_pins c.args.table.now.slots e.pass.view c.give_back.new.pass.view e.pins.list same c.requires.ended.pins

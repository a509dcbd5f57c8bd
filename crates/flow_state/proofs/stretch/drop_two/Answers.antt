use Rattle.flow_state.proofs.Pacing.{two_off}
use Rattle.flow_state.proofs.stretch.drop_two.Goals as goal

pub returns-clause-items : goal.returns-clause-items
returns-clause-items c =
    two_off c.args.stretches.now.items c.pop.new.self.items c.pop-2.new.self.items c.args.stretches.now.len
    c.pop.new.self.len c.requires c.args.stretches.now.ok.0 c.pop.new.self.ok.0 c.pop.ensures.rest
    c.pop-2.ensures.rest

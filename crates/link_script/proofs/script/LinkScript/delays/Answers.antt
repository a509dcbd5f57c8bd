use Rattle.link_script.proofs.Delays.{as_seen}
use Rattle.link_script.proofs.script.LinkScript.delays.Goals as goal

pub returns : goal.returns
returns c = as_seen c.self.inside.drops.items c.self.view_is c.self.invariant.0

use Rattle.link_script.proofs.Delays.{kept_more}
use Rattle.link_script.proofs.script.LinkScript.add.Goals as goal

pub invariant_of-self-2 : goal.invariant_of-self-2
invariant_of-self-2 c =
    kept_more c.self.inside.drops.items _ c.self.view_is c.self.invariant c.in_ok-take_delay.ensures.ok
    c.longer-self-inside.ensures c.requires c.in_ok-insert.ensures.updates.0 c.in_ok-insert.ensures.entries

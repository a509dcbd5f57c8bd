use Rattle.payload_ring.proofs.Windows.{advanced}
use Rattle.payload_ring.proofs.ring.Ring.advance.Goals as goal

pub returns : goal.returns
returns c = advanced _ _ c.self.inside.len c.args.n _ _ _ c.self.view_is

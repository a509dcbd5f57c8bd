use Rattle.std.proofs.lemmas.List.Elements.{All-set}
use Rattle.host_tests.specs.Hosts.{IsCore}
use Rattle.host_tests.proofs.host.hand_to.Goals as goal

pub returns : goal.returns
returns c =
    All-set (IsCore c.args.shared.now) c.args.workers.now c.args.core c.hand.new.core c.hand.ensures c.requires

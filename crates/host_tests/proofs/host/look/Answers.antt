use Rattle.std.proofs.lemmas.List.Elements.{All-set}
use Rattle.host_tests.specs.Hosts.{IsCore}
use Rattle.host_tests.proofs.host.look.Goals as goal

pub returns : goal.returns
returns c = (
  c.requires.0,
  All-set (IsCore c.args.shared.now) c.args.cores.now.workers.items 0 c.look_by.new.core c.look_by.ensures c.requires.1,
)

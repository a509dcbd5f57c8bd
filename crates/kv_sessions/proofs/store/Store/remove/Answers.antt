use Rattle.std.proofs.Common.{ap, ◌∙◌}
use Rattle.std.specs.FinMap.{remove}
use Rattle.kv_sessions.specs.Stored.{Map}
use Rattle.kv_sessions.proofs.Entries.{removed_is}
use Rattle.kv_sessions.proofs.store.Store.remove.Goals as goal

pub returns : goal.returns
returns c =
    removed_is c.args.key.now c.self.inside.held.entries c.remove.new.self.entries c.remove.ensures.updates.3
    c.remove.ensures.updates.1
    ∙ ap (λ (m : Map). remove m c.args.key.now) c.self.view_is

use Rattle.std.proofs.Common.{ap, ◌∙◌}
use Rattle.std.specs.FinMap.{insert}
use Rattle.kv_sessions.specs.Stored.{Map}
use Rattle.kv_sessions.specs.Shown.{item_of}
use Rattle.kv_sessions.proofs.Entries.{put_is}
use Rattle.kv_sessions.proofs.store.Store.put.Goals as goal

pub returns-clause-put : goal.returns-clause-put
returns-clause-put c =
    put_is c.args.key.items c.args.held c.self.inside.held.entries c.insert.new.self.entries
    c.in_ok-insert.ensures.updates.3 c.in_ok-insert.ensures.updates.1
    ∙ ap (λ (m : Map). insert m c.args.key.items (item_of c.args.held)) c.self.view_is

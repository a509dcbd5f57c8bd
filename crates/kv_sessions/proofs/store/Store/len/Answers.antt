use Rattle.std.proofs.Common.{sym, ap, ◌∙◌}
use Rattle.std.specs.FinMap.{len}
use Rattle.kv_sessions.specs.Stored.{Map}
use Rattle.kv_sessions.proofs.Entries.{len_is}
use Rattle.kv_sessions.proofs.store.Store.len.Goals as goal

pub returns : goal.returns
returns c =
    c.len.ensures.len ∙ sym (len_is c.self.inside.held.entries c.len.ensures.unique)
    ∙ ap (λ (m : Map). len m) c.self.view_is

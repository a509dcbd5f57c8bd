use Rattle.std.proofs.Common.{sym, ap, ◌∙◌}
use Rattle.std.specs.Prelude.{option_map}
use Rattle.std.specs.FinMap.{get}
use Rattle.kv_sessions.specs.Stored.{Map}
use Rattle.kv_sessions.specs.Shown.{item_of}
use Rattle.kv_sessions.proofs.Entries.{get_is}
use Rattle.kv_sessions.proofs.store.Store.get.Goals as goal

pub returns : goal.returns
returns c =
    ap (option_map item_of) c.get.ensures.value ∙ sym (get_is c.self.inside.held.entries c.args.key.now)
    ∙ ap (λ (m : Map). get m c.args.key.now) c.self.view_is

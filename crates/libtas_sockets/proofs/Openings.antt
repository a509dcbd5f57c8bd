-- A flow that was just opened is pinned alone.
use Rattle.std.proofs.Common.{◌≡◌, ap, ◌∙◌, subst}
use Rattle.tas_model.specs.declared.entry.FlowId.{FlowId}
use Rattle.flow_lock.specs.Answers.{IsPinned}
use Rattle.flow_lock.specs.Passes.{Seen, with_baton, without_baton}
use Rattle.flow_lock.specs.declared.view.View.{View}

-- the baton was handed on, the flow pinned, and the baton given back
pub pinned_alone : (id : FlowId) (s t u a b c d : Seen) → t ≡ record s { view = without_baton s.view }
    → b ≡ record a { view = with_baton a.view s.view } → c.table ≡ b.table → IsPinned id b.view c.view
    → d ≡ record c { view = without_baton c.view } → u ≡ record t { view = with_baton t.view c.view }
    → (w : View) × IsPinned id (with_baton a.view s.view) w × (d ≡ record a { view = without_baton w })
    × (u ≡ record s { view = with_baton s.view w })
pinned_alone id s t u a b c d from to table won back handed = (
  c.view,
  subst (λ (x : Seen). IsPinned id x.view c.view) to won,
  back ∙ ap (λ k. record { table = k; view = without_baton c.view }) (table ∙ ap (λ (x : Seen). x.table) to),
  handed ∙ ap (λ (x : Seen). record x { view = with_baton x.view c.view }) from,
)

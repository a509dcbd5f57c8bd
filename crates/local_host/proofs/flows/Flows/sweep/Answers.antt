use Rattle.std.proofs.Common.{List, ap, sym, ◌∙◌}
use Rattle.std.specs.List.{filter, list_any}
use Rattle.host_rounds.specs.Hosts.{Live, is_in_slot}
use Rattle.local_host.specs.Index.{passes_at, is_standing, standing_places}
use Rattle.local_host.proofs.Standing.{known_swept, places_left}
use Rattle.local_host.proofs.flows.Flows.sweep.Goals as goal

pub mark_anew-requires : goal.mark_anew-requires
mark_anew-requires c =
    c.deref-6.ensures.value
    ∙ (places_left c.self.inside.table.flows.items c.self.invariant.standing c.sweep_all.ensures
    (c.drop_filed.ensures ∙ ap (λ (ls : List Live). filter (passes_at is_standing ls)
    c.self.inside.table.standing.items) c.deref-4.ensures.value)
    ∙ ap standing_places (sym c.deref-5.ensures.value))

pub invariant_of-self : goal.invariant_of-self
invariant_of-self c =
    known_swept c.self.invariant c.sweep_all.ensures
    (places_left c.self.inside.table.flows.items c.self.invariant.standing c.sweep_all.ensures
    (c.drop_filed.ensures ∙ ap (λ (ls : List Live). filter (passes_at is_standing ls)
    c.self.inside.table.standing.items) c.deref-4.ensures.value))
    c.mark_anew.ensures.len
    (λ slot low. c.mark_anew.ensures.taken slot low
    ∙ ap (list_any (is_in_slot slot)) c.deref-5.ensures.value)

-- Answers of the proof of host/CoreHost/has_slot.
use Rattle.std.proofs.Common.{◌≡◌, ◌<◌, sym, ap, ◌∙◌, subst}
use Rattle.std.specs.Prelude.{is_some}
use Rattle.flow_lock.specs.Answers.{next_in}
use Rattle.host_rounds.specs.Hosts.{lowest_free}
use Rattle.core_host.specs.Sound.{IsStaffSound}
use Rattle.core_host.specs.declared.host.CoreHost.TheInside.{Inside}
use Rattle.core_host.specs.Views.{Staffed, seen_by, staffed_in}
use Rattle.core_host.proofs.Connected.{slot_free}
use Rattle.core_host.proofs.host.CoreHost.has_slot.Goals as goal

pub returns-then-opened-lt4294967295-clause-free : goal.returns-then-opened-lt4294967295-clause-free
returns-then-opened-lt4294967295-clause-free c =
    let h : Staffed = staffed_in c.self.inside in
    let sound = subst IsStaffSound (sym c.self.view_is) c.requires in
    let below : h.host.slow.pass.view.opened < 4294967295 =
    subst (λ n. n < 4294967295)
    (c.opened.ensures ∙ ap (λ (x : Inside). x.slow.pass.view.opened) c.self-inside.view_is)
    c.if-opened-lt4294967295.true in
    c.is_some.ensures
    ∙ (ap is_some
    (c.next_flow.ensures.next ∙ ap (λ (x : Inside). next_in x.slow.pass.view.marks) c.self-inside.view_is)
    ∙ (slot_free h.host sound.host sound.counted below
    ∙ ap (λ (x : Staffed). is_some (lowest_free (seen_by x))) c.self.view_is))

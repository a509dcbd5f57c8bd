-- Answers of the proof of resting/is_at_rest.
use Rattle.std.proofs.Common.{◌≡◌, ◌+◌, List, length, refl, sym, subst, ap, ◌∙◌, arith}
use Rattle.std.proofs.lemmas.List.{with_items_is}
use Rattle.std.specs.List.{list_all}
use Rattle.std.specs.Vec.{with_items}
use Rattle.host_rounds.specs.Hosts.{is_over}
use Rattle.host_rounds.specs.Lists.{Each}
use Rattle.core_host.specs.Sound.{IsStaffSound}
use Rattle.core_host.specs.Views.{Staffed, seen_by}
use Rattle.shared_world.specs.Looking.{AreLookedAt}
use Rattle.shared_world.specs.Sites.{sites_in}
use Rattle.shared_world.proofs.Looked.{len_looked, sites_looked, playable_sound}
use Rattle.shared_world.proofs.Rested.{rests_by, goes_by, ready_looked}
use Rattle.shared_world.proofs.resting.is_at_rest.Goals as goal

pub are_closed-requires : goal.are_closed-requires
are_closed-requires c =
    let w = c.args.w.now in
    subst (λ (hs : List Staffed). Each IsStaffSound hs) (sym c.deref_mut.ensures.value)
    (playable_sound (c.args.tick + 1) w.hosts.items w.scripts.items (c.requires.2).playable)

pub returns-then-not-is_quiet-clause-rest : goal.returns-then-not-is_quiet-clause-rest
returns-then-not-is_quiet-clause-rest c s cores ready =
    goes_by s c.args.tick cores c.args.w.now ready (sym c.is_quiet.ensures ∙ c.if-not-is_quiet.true)

pub returns-clause-rest : goal.returns-clause-rest
returns-clause-rest c s cores ready =
    rests_by s c.args.tick cores c.args.w.now c.are_closed.result ready
    (sym c.is_quiet.ensures ∙ c.if-not-is_quiet.false)
    (c.are_closed.ensures.closed
    ∙ ap (list_all (λ (h : Staffed). list_all is_over (seen_by h).flows)) c.deref_mut.ensures.value)

pub returns-clause-same : goal.returns-clause-same
returns-clause-same c =
    let w = c.args.w.now in
    let hosts = c.are_closed.new.hosts in
    let len : length hosts ≡ w.hosts.len =
    omega (
      arith,
      len_looked c.deref_mut.result.now hosts c.are_closed.ensures.looked,
      c.deref_mut.ensures.len,
    ) in
    ap (λ (hs : List Staffed). sites_in hs w.scripts.items) (with_items_is w.hosts hosts len)
    ∙ (sites_looked c.deref_mut.result.now hosts w.scripts.items c.are_closed.ensures.looked
    ∙ ap (λ (hs : List Staffed). sites_in hs w.scripts.items) c.deref_mut.ensures.value)

pub returns-clause-ready : goal.returns-clause-ready
returns-clause-ready c s cores ready =
    let w = c.args.w.now in
    let hosts = c.are_closed.new.hosts in
    let len : length hosts ≡ w.hosts.len =
    omega (
      arith,
      len_looked c.deref_mut.result.now hosts c.are_closed.ensures.looked,
      c.deref_mut.ensures.len,
    ) in
    ready_looked s (c.args.tick + 1) cores w
    (record { hosts = with_items w.hosts hosts; scripts = w.scripts; traffic = w.traffic }) refl refl
    (subst (AreLookedAt w.hosts.items) (sym (with_items_is w.hosts hosts len))
    (subst (λ (hs : List Staffed). AreLookedAt hs hosts) c.deref_mut.ensures.value c.are_closed.ensures.looked))
    ready

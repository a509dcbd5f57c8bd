-- Answers of the proof of starting/new_host.
use Rattle.std.proofs.Common.{◌≡◌, ◌<◌, ◌≤◌, length, slice_get, Some, IfOk, sym, subst, ap, ◌∙◌, arith}
use Rattle.scenario_text.specs.declared.scenario.HostLine.{HostLine}
use Rattle.shared_world.specs.Sites.{IsNew}
use Rattle.shared_world.proofs.Started.{host_in_range, is_new_ok, numbers_fit}
use Rattle.shared_world.proofs.starting.new_host.Goals as goal

pub new-requires-clause-number : goal.new-requires-clause-number
new-requires-clause-number g c =
    let few : length c.args.s.now.hosts ≤ 8 = c.requires.ranges.count.1 in
    let below : c.args.number < length c.args.s.now.hosts = c.requires.number in
    omega (arith, few, below)

pub new-requires-clause-ranges : goal.new-requires-clause-ranges
new-requires-clause-ranges g c =
    (host_in_range c.args.s.now c.args.number c.item-line.result.now c.requires.ranges c.item-line.ensures).params

pub new-requires-clause-apps : goal.new-requires-clause-apps
new-requires-clause-apps g c =
    let s = c.args.s.now in
    let line = c.item-line.result.now in
    numbers_fit s line c.args.scripts.now c.as_slice.result.now c.requires.ranges
    (host_in_range s c.args.number line c.requires.ranges c.item-line.ensures)
    (c.requires.scripts line c.item-line.ensures) (c.as_slice.ensures.value ∙ c.in_ok-apps.ensures)

pub returns : goal.returns
returns g c =
    λ line e.
    let s = c.args.s.now in
    let own = c.item-line.result.now in
    let there : slice_get s.hosts c.args.number ≡ Some own = c.item-line.ensures in
    let same : own ≡ line = cc (there, e) in
    subst (λ (l : HostLine). IfOk c.new.result (λ h. IsNew s c.args.cores l h)) same
    (is_new_ok s c.args.cores own c.args.scripts.now c.as_slice.result.now c.new.result c.requires.ranges
    (host_in_range s c.args.number own c.requires.ranges there) (c.requires.scripts own there)
    (c.as_slice.ensures.value ∙ c.in_ok-apps.ensures) c.new.ensures.seen c.new.ensures.sound c.new.ensures.staff
    c.new.ensures.clear c.new.ensures.unasked c.new.ensures.time c.new.ensures.checks c.new.ensures.filed)

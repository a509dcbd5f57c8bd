-- Answers of the proof of hosts/play_phases.
use Rattle.std.proofs.Common.{◌≡◌, ◌∙◌, length}
use Rattle.core_phase.specs.Lanes.{MayPlay, CanPlay, HasPlayed, Works}
use Rattle.core_phase.proofs.Numbers.{every, of_every}
use Rattle.core_phase.proofs.Cutting.{all_can, all_ready, all_phases, all_idle, zip_length}
use Rattle.core_phase.proofs.hosts.play_phases.Goals as goal

pub phase-requires : goal.phase-requires
phase-requires g c =
    let vs = c.args.lanes.now.items in
    let ls = c.lend_parts.new.lanes.items in
    of_every CanPlay ls
    (all_can c.args.hosts.now c.lend_parts.new.hosts vs ls c.requires.idle (every MayPlay vs c.requires.may)
    c.lend_parts.ensures.lent)

pub collect_parts-requires : goal.collect_parts-requires
collect_parts-requires g c =
    let vs = c.args.lanes.now.items in
    let ls = c.lend_parts.new.lanes.items in
    let ms = c.phase.new.jobs.items in
    all_ready c.args.hosts.now c.lend_parts.new.hosts vs ls ms c.lend_parts.ensures.len c.requires.idle
    c.lend_parts.ensures.lent c.phase.ensures.made (every Works ms (c.lanes_failed.ensures c.if-lanes_failed.false))

pub returns-clause-idle : goal.returns-clause-idle
returns-clause-idle g c =
    let vs = c.args.lanes.now.items in
    let ls = c.lend_parts.new.lanes.items in
    let ms = c.phase.new.jobs.items in
    let ws = c.collect_parts.new.lanes.items in
    let len : length ws ≡ length vs =
    c.collect_parts.ensures.len ∙ (zip_length HasPlayed ls ms c.phase.ensures.made ∙ c.lend_parts.ensures.len) in
    all_idle c.args.hosts.now c.lend_parts.new.hosts c.collect_parts.new.hosts vs ls ms ws len c.requires.idle
    c.lend_parts.ensures.lent c.phase.ensures.made (every Works ms (c.lanes_failed.ensures c.if-lanes_failed.false))
    c.collect_parts.ensures.learned

pub returns-clause-phases : goal.returns-clause-phases
returns-clause-phases g c =
    let vs = c.args.lanes.now.items in
    let ls = c.lend_parts.new.lanes.items in
    let ms = c.phase.new.jobs.items in
    all_phases c.args.hosts.now c.lend_parts.new.hosts c.collect_parts.new.hosts vs ls ms
    c.collect_parts.new.lanes.items
    c.requires.idle c.lend_parts.ensures.lent c.phase.ensures.made
    (every Works ms (c.lanes_failed.ensures c.if-lanes_failed.false)) c.collect_parts.ensures.learned

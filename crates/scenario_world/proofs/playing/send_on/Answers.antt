use Rattle.std.proofs.Common.{◌≡◌, ◌≤◌, ◌||◌, nat_lt, length, sym, subst, ap, ◌∙◌, arith}
use Rattle.std.proofs.lemmas.List.{with_items_is}
use Rattle.std.specs.List.{list_any}
use Rattle.scenario_runs.specs.Worlds.{is_under_way}
use Rattle.sent_frames.specs.Sending.{of_tick, AreUpTo}
use Rattle.scenario_world.specs.Playing.{AreCountedBefore}
use Rattle.scenario_world.proofs.NextTick.{few_hosts, to_count, kept_up_to, next_world}
use Rattle.scenario_world.proofs.playing.send_on.Goals as goal

pub collect_all-requires-clause-hosts : goal.collect_all-requires-clause-hosts
collect_all-requires-clause-hosts c =
    let few : length c.args.p.now.hosts.items ≤ 8 =
    few_hosts c.args.s.now c.args.tick c.args.p.now.hosts.items c.args.p.now.traffic (c.requires.ranges.count).1
    c.requires.played in
    omega (arith, few, ap length c.deref.ensures.value)

pub collect_all-requires-clause-counted : goal.collect_all-requires-clause-counted
collect_all-requires-clause-counted c =
    let t = c.args.tick in
    let p = c.args.p.now in
    subst (λ hs. AreCountedBefore t hs c.deref_mut.result.now) (sym c.deref.ensures.value)
    (subst (λ cs. AreCountedBefore t p.hosts.items cs) (sym c.deref_mut.ensures.value)
    (to_count c.args.s.now t p.hosts.items p.traffic c.requires.played))

pub collect_all-requires-clause-last : goal.collect_all-requires-clause-last
collect_all-requires-clause-last c =
    kept_up_to c.args.s.now c.args.tick c.args.p.now.hosts.items c.args.p.now.traffic c.requires.played

pub returns-clause-world : goal.returns-clause-world
returns-clause-world c =
    let s = c.args.s.now in
    let t = c.args.tick in
    let p = c.args.p.now in
    let counts = c.collect_all.new.counts in
    let counts_len : length counts ≡ p.traffic.counts.len = omega arith in
    let sent = c.note_last.ensures.sent in
    next_world s t p.hosts.items p.hosts.items c.deref.result.now p.traffic c.note_last.new.self counts
    c.requires.played (sym c.deref.ensures.value) (sym c.deref.ensures.value)
    (ap (λ v. v.items) c.note_last.ensures.counts ∙ with_items_is p.traffic.counts counts counts_len)
    (ap (λ v. v.items) c.note_last.ensures.addresses) c.in_ok-collect_all.ensures.counted
    (λ world same. sent ∙ c.in_ok-collect_all.ensures.frames world (c.deref-2.ensures.value ∙ same))
    (subst (AreUpTo t) (sym sent) c.in_ok-collect_all.ensures.last)
    (λ n. c.note_last.ensures.last n
    ∙ ap (λ fs. nat_lt n p.traffic.last || list_any (is_under_way s.link n) (of_tick t fs)) (sym sent))

-- Answers of the proof of ticks/send_on.
use Rattle.std.proofs.Common.{◌≡◌, ◌≤◌, ◌<◌, ◌^◌, ◌++◌, ◌||◌, ℕ, nat_lt, List, length, refl, sym, subst, ap, ◌∙◌, arith}
use Rattle.std.proofs.lemmas.List.{with_items_is}
use Rattle.std.specs.List.{list_any}
use Rattle.core_host.specs.Sound.{IsStaffSound}
use Rattle.core_host.specs.Views.{Staffed, seen_by}
use Rattle.host_rounds.specs.Lists.{Each}
use Rattle.scenario_runs.specs.Applications.{Script}
use Rattle.scenario_runs.specs.Worlds.{World, frames_of_hosts, is_under_way}
use Rattle.sent_frames.specs.Sending.{addresses_of, of_tick, AreUpTo}
use Rattle.sent_frames.specs.declared.counts.SentCounts.{SentCounts}
use Rattle.scenario_world.specs.Playing.{AreCounted, AreCountedBefore}
use Rattle.scenario_world.proofs.NextTick.{to_count, kept_up_to, next_world}
use Rattle.shared_world.specs.Looking.{AreLookedAt, AreSilentBut}
use Rattle.shared_world.specs.Sites.{sites_in, world_of}
use Rattle.shared_world.proofs.Looked.{playable_len, playable_sound, sites_looked}
use Rattle.shared_world.proofs.SentOn.{few_addresses, few_flows, few_played, next_ready}
use Rattle.shared_world.proofs.ticks.send_on.Goals as goal

pub collect_all-requires-clause-hosts : goal.collect_all-requires-clause-hosts
collect_all-requires-clause-hosts c =
    let few : length c.args.w.now.hosts.items ≤ 8 =
    few_played c.args.s.now c.args.tick c.requires.played.0 c.args.w.now (c.requires.ranges.count).1
    c.requires.played.1 in
    omega (arith, few, ap length c.deref_mut.ensures.value)

pub collect_all-requires-clause-addresses : goal.collect_all-requires-clause-addresses
collect_all-requires-clause-addresses c =
    let few : length c.args.w.now.traffic.addresses.items ≤ 8 =
    few_addresses c.args.s.now c.args.tick c.requires.played.0 c.args.w.now (c.requires.ranges.count).1
    c.requires.played.1 in
    omega (arith, few, ap length c.deref.ensures.value)

pub collect_all-requires-clause-sound : goal.collect_all-requires-clause-sound
collect_all-requires-clause-sound c =
    subst (Each IsStaffSound) (sym c.deref_mut.ensures.value)
    (playable_sound _ c.args.w.now.hosts.items c.args.w.now.scripts.items c.requires.played.1.playable)

pub collect_all-requires-clause-silent : goal.collect_all-requires-clause-silent
collect_all-requires-clause-silent c =
    subst (AreSilentBut c.args.tick) (sym c.deref_mut.ensures.value) c.requires.played.1.silent

pub collect_all-requires-clause-few : goal.collect_all-requires-clause-few
collect_all-requires-clause-few c =
    subst (Each (λ (h : Staffed). length (seen_by h).flows < 2 ^ 32)) (sym c.deref_mut.ensures.value)
    (few_flows _ c.args.w.now.hosts.items c.args.w.now.scripts.items c.requires.played.1.playable
    c.requires.played.1.few)

pub collect_all-requires-clause-counted : goal.collect_all-requires-clause-counted
collect_all-requires-clause-counted c =
    let t = c.args.tick in
    let w = c.args.w.now in
    let xs = w.scripts.items in (
      xs,
      playable_len _ w.hosts.items xs c.requires.played.1.playable ∙ ap length (sym c.deref_mut.ensures.value),
      subst (λ (hs : List Staffed). AreCountedBefore t (sites_in hs xs) c.deref_mut-2.result.now)
          (sym c.deref_mut.ensures.value)
          (subst (λ (cs : List SentCounts). AreCountedBefore t (world_of w) cs) (sym c.deref_mut-2.ensures.value)
          (to_count c.args.s.now t (world_of w) w.traffic c.requires.played.1.played)),
    )

pub collect_all-requires-clause-last : goal.collect_all-requires-clause-last
collect_all-requires-clause-last c =
    kept_up_to c.args.s.now c.args.tick (world_of c.args.w.now) c.args.w.now.traffic c.requires.played.1.played

pub returns-clause-same : goal.returns-clause-same
returns-clause-same c =
    let w = c.args.w.now in
    let hosts = c.collect_all.new.hosts in
    let looked = subst (λ (hs : List Staffed). AreLookedAt hs hosts) c.deref_mut.ensures.value
    c.in_ok-collect_all.ensures.looked in
    let len : length hosts ≡ w.hosts.len = omega arith in
    sites_looked w.hosts.items _ w.scripts.items
    (subst (AreLookedAt w.hosts.items) (sym (with_items_is w.hosts hosts len)) looked)

pub returns-clause-ready : goal.returns-clause-ready
returns-clause-ready c =
    λ cores played.
    let s = c.args.s.now in
    let t = c.args.tick in
    let w = c.args.w.now in
    let xs = w.scripts.items in
    let hosts = c.collect_all.new.hosts in
    let counts = c.collect_all.new.counts in
    let sent = c.note_last.ensures.sent in
    let same = c.deref_mut.ensures.value in
    let looked = subst (λ (hs : List Staffed). AreLookedAt hs hosts) same c.in_ok-collect_all.ensures.looked in
    let len : length hosts ≡ w.hosts.len = omega arith in
    let counts_len : length counts ≡ w.traffic.counts.len = omega arith in
    let all = playable_len _ w.hosts.items xs played.playable ∙ ap length (sym same) in
    next_ready s t cores w _ played (subst (AreLookedAt w.hosts.items) (sym (with_items_is w.hosts hosts len)) looked)
    refl
    (next_world s t (world_of w) (world_of w) (world_of w) w.traffic c.note_last.new.self counts played.played refl refl
    (ap (λ v. v.items) c.note_last.ensures.counts ∙ with_items_is w.traffic.counts counts counts_len)
    (ap (λ v. v.items) c.note_last.ensures.addresses)
    (subst (λ (hs : List Staffed). AreCounted (sites_in hs xs) counts) same
    (c.in_ok-collect_all.ensures.counted xs all))
    (λ world is.
    sent
    ∙ (c.in_ok-collect_all.ensures.frames world xs (c.deref.ensures.value ∙ is) all
    ∙ ap (λ (hs : List Staffed). w.traffic.sent ++ of_tick t (frames_of_hosts world 0 (sites_in hs xs))) same))
    (subst (AreUpTo t) (sym sent) c.in_ok-collect_all.ensures.last)
    (λ n. c.note_last.ensures.last n
    ∙ ap (λ fs. nat_lt n w.traffic.last || list_any (is_under_way s.link n) (of_tick t fs)) (sym sent)))

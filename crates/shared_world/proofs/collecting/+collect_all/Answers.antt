-- Answers of the proof of collecting/+collect_all.
use Rattle.std.proofs.Common.{◌≡◌, ◌+◌, ◌<◌, ◌^◌, ◌++◌, ◌∷◌, List, length, sym, subst, ap, ◌∙◌, arith, rules, OnOk}
use Rattle.host_rounds.specs.Lists.{Each}
use Rattle.sent_frames.specs.Sending.{of_tick}
use Rattle.scenario_runs.specs.Worlds.{frames_of_hosts}
use Rattle.scenario_world.specs.Playing.{AreCounted}
use Rattle.core_host.specs.Sound.{IsStaffSound}
use Rattle.core_host.specs.Views.{Staffed, seen_by}
use Rattle.shared_world.specs.Looking.{AreSilentBut}
use Rattle.shared_world.specs.Sites.{sites_in}
use Rattle.shared_world.proofs.CollectedHosts.{AreToCount, first_to_count, all_counted, all_sent}
use Rattle.shared_world.proofs.collecting.+collect_all.Goals as goal

pub collect_all-requires : goal.collect_all-requires
collect_all-requires t c =
    let e = c.in-Some.ensures.cases in
    let f = c.in-Some-split_first_mut.ensures.cases in
    let hosts : c.args.number + 1 + length c.in-Some.rest.now < 2 ^ 32 =
    omega (arith, c.requires.hosts, ap length e.0) in
    let sound = subst (Each IsStaffSound) e.0 c.requires.sound in
    let silent = subst (AreSilentBut c.args.tick) e.0 c.requires.silent in
    let few = subst (Each (λ (h : Staffed). length (seen_by h).flows < 2 ^ 32)) e.0 c.requires.few in
    let counted = first_to_count c.args.tick c.in-Some.host.now c.in-Some.rest.now c.in-Some-split_first_mut.own.now
    c.in-Some-split_first_mut.others.now
    (subst (AreToCount c.args.tick (c.in-Some.host.now ∷ c.in-Some.rest.now)) f.0
    (subst (λ (hs : List Staffed). AreToCount c.args.tick hs c.args.counts.now) e.0 c.requires.counted)) in (
      search rules,
      (
        hosts,
        (
          c.requires.addresses,
          (sound.1, (silent.1, (few.1, (counted.1, c.in_ok-collect_host.ensures.last)))),
        ),
      ),
    )

pub returns-clause-frames : goal.returns-clause-frames
returns-clause-frames t c world scripts same len =
    let e = c.in-Some.ensures.cases in
    subst
    (λ (hs : List Staffed). OnOk c.collect_all.result (c.collect_all.new.sent
    ≡ c.args.sent.now ++ of_tick c.args.tick (frames_of_hosts world c.args.number (sites_in hs scripts))))
    (sym e.0)
    (all_sent c.collect_all.result c.args.tick c.args.number world c.in-Some.host.now c.in-Some.rest.now
    c.args.sent.now c.collect_host.new.sent c.collect_all.new.sent (c.in_ok-collect_host.ensures.frames world same)
    (λ xs long. c.collect_all.ensures.frames world xs same long) scripts (len ∙ ap length e.0))

pub returns-clause-counted : goal.returns-clause-counted
returns-clause-counted t c scripts len =
    let e = c.in-Some.ensures.cases in
    subst
    (λ (hs : List Staffed). OnOk c.collect_all.result (AreCounted (sites_in hs scripts)
    (c.collect_host.new.counts ∷ c.collect_all.new.counts)))
    (sym e.0)
    (all_counted c.collect_all.result c.in-Some.host.now c.in-Some.rest.now c.collect_host.new.counts
    c.collect_all.new.counts c.in_ok-collect_host.ensures.counted c.collect_all.ensures.counted scripts
    (len ∙ ap length e.0))

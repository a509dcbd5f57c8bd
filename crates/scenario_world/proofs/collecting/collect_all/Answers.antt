use Rattle.std.proofs.Common.{◌≡◌, ◌++◌, ◌<◌, ◌+◌, length, set, take, drop, Some, slice_get, refl, sym, subst, ap, ◌∙◌}
use Rattle.std.proofs.Common.{arith}
use Rattle.std.proofs.Common.{append-nil, length-set}
use Rattle.std.proofs.lemmas.List.{take_more_set, drop-set-lt}
use Rattle.std.proofs.lemmas.Option.{slice_get_read}
use Rattle.host_rounds.specs.Hosts.{Host}
use Rattle.sent_frames.specs.Sending.{of_tick}
use Rattle.scenario_world.specs.Playing.{IsCounted, AreCountedBefore}
use Rattle.scenario_world.proofs.Lists.{taken_more}
use Rattle.scenario_world.proofs.WorldTicks.{host_frames}
use Rattle.scenario_world.proofs.Counted.{before_len, before_there, counted_more, hosts_more}
use Rattle.scenario_world.proofs.collecting.collect_all.Goals as goal

pub loop-number-init : goal.loop-number-init
loop-number-init c = record {
  len = before_len c.args.tick c.args.hosts.now c.args.counts.now c.requires.counted;
  done = tt;
  left = c.requires.counted;
  frames = λ world same. sym (append-nil c.args.sent.now);
  last = c.requires.last;
}

pub loop-number-preserved : goal.loop-number-preserved
loop-number-preserved c =
    let t = c.args.tick in
    let hosts = c.args.hosts.now in
    let counts = c.loop-number.counts in
    let i = c.loop-number.number in
    let site = c.index-hosts-number.result in
    let was = c.index-counts-number.result in
    let next = c.collect_host.new.counts in
    let inside : i < length hosts = omega arith in
    let within : i < length counts = omega (arith, c.loop-number.invariant.len) in
    let here : slice_get hosts i ≡ Some site =
    slice_get_read hosts (length hosts) i site refl inside c.index-hosts-number.is in
    let there : slice_get counts i ≡ Some was =
    slice_get_read counts (length counts) i was refl within c.index-counts-number.is in
    record {
      len = length-set counts i next ∙ c.loop-number.invariant.len;
      done = counted_more (take i hosts) (take (i + 1) hosts) (take i counts)
          (take (i + 1) (set counts i next)) site next
          c.loop-number.invariant.done
          (subst (λ (h : Host). IsCounted h next) c.host.ensures c.in_ok-collect_host.ensures.counted)
          (taken_more hosts i site here) (take_more_set counts i next within);
      left = subst (λ cs. AreCountedBefore t (drop (i + 1) hosts) cs)
          (sym (drop-set-lt (i + 1) counts i next (omega arith)))
          (before_there t hosts counts i site was here there c.loop-number.invariant.left).1;
      frames = λ world same. hosts_more world t hosts i site c.args.sent.now c.loop-number.sent c.collect_host.new.sent
          here
          (c.loop-number.invariant.frames world same)
          (c.in_ok-collect_host.ensures.frames world same
          ∙ ap (λ (h : Host). c.loop-number.sent ++ of_tick t (host_frames world i h)) c.host.ensures);
      last = c.in_ok-collect_host.ensures.last;
    }

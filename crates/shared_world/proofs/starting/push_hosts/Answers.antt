-- Answers of the proof of starting/push_hosts.
use Rattle.std.proofs.Common.{◌≡◌, ◌≤◌, ◌<◌, ℕ, List, length, take, slice_get, Some, refl, sym, subst, ap, ◌∙◌, arith}
use Rattle.std.proofs.lemmas.List.{take_all}
use Rattle.std.proofs.lemmas.Option.{slice_get_read}
use Rattle.scenario_runs.specs.Applications.{Script}
use Rattle.scenario_text.specs.declared.scenario.HostLine.{HostLine}
use Rattle.scenario_world.proofs.Lists.{taken_more}
use Rattle.shared_world.specs.Sites.{AreNew}
use Rattle.shared_world.proofs.Started.{item_there, new_len, new_more, scripts_len, scripts_there}
use Rattle.shared_world.proofs.starting.push_hosts.Goals as goal

pub bounds-scripts-number : goal.bounds-scripts-number
bounds-scripts-number g c =
    let s = c.args.s.now in
    let below : c.loop-number.number < length s.hosts =
    subst (λ (n : ℕ). c.loop-number.number < n) c.len-number-end.ensures c.loop-number-test.true in
    let len : length c.args.scripts.now ≡ length s.hosts = ap length c.requires.scripts ∙ scripts_len s s.hosts in
    omega (arith, below, len)

pub new_host-requires-clause-scripts : goal.new_host-requires-clause-scripts
new_host-requires-clause-scripts g c =
    λ line e.
    let s = c.args.s.now in
    let xs = c.args.scripts.now in
    let i = c.loop-number.number in
    let below : i < length s.hosts =
    subst (λ (n : ℕ). i < n) c.len-number-end.ensures c.loop-number-test.true in
    let len : length xs ≡ length s.hosts = ap length c.requires.scripts ∙ scripts_len s s.hosts in
    let inside : i < length xs = omega (arith, below, len) in
    let own = c.index-scripts-number.result in
    let there : slice_get xs i ≡ Some own =
    slice_get_read xs (length xs) i own refl inside c.index-scripts-number.is in
    scripts_there s s.hosts i line own e
    (subst (λ (ys : List (List Script)). slice_get ys i ≡ Some own) c.requires.scripts there)

pub push_reserved-requires : goal.push_reserved-requires
push_reserved-requires g c =
    let below : c.loop-number.number < length c.args.s.now.hosts =
    subst (λ (n : ℕ). c.loop-number.number < n) c.len-number-end.ensures c.loop-number-test.true in
    let len = c.loop-number.invariant.len in
    let same = c.loop-number.invariant.room in
    let room = c.requires.room in
    omega (arith, below, len, same, room)

pub loop-number-preserved : goal.loop-number-preserved
loop-number-preserved g c =
    let s = c.args.s.now in
    let i = c.loop-number.number in
    let below : i < length s.hosts =
    subst (λ (n : ℕ). i < n) c.len-number-end.ensures c.loop-number-test.true in
    let one = item_there s.hosts i below in
    record {
      new = new_more s c.args.cores (take i s.hosts) _ c.loop-number.hosts.items c.push_reserved.new.self.items one.0
          c.in_ok-host.host c.loop-number.invariant.new (c.in_ok-host.ensures one.0 one.1)
          (taken_more s.hosts i one.0 one.1) c.push_reserved.ensures.items;
      len = let now = c.loop-number.invariant.len in let more = c.push_reserved.ensures.len in omega arith;
      room = c.push_reserved.ensures.capacity ∙ c.loop-number.invariant.room;
    }

pub returns : goal.returns
returns g c =
    let s = c.args.s.now in
    let i = c.loop-number.number in
    let past : length s.hosts ≤ i = subst (λ (n : ℕ). n ≤ i) c.len-number-end.ensures c.loop-number-test.false in
    subst (λ (ls : List HostLine). AreNew s c.args.cores ls c.loop-number.hosts.items) (take_all i s.hosts past)
    c.loop-number.invariant.new

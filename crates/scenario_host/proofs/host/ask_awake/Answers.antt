use Rattle.std.proofs.Common.{◌≡◌, ◌+◌, ◌∙◌, ℕ, suc, List, Some, slice_get, get_or, drop, set}
use Rattle.std.proofs.Common.{refl, sym, subst, ap, arith}
use Rattle.scenario_runs.specs.Worlds.{starts_of, address_in}
use Rattle.scenario_host.specs.Resting.{scripts_in, seen}
use Rattle.scenario_host.specs.Sound.{IsSound}
use Rattle.scenario_host.specs.Turns.{site_with}
use Rattle.scenario_host.proofs.Walking.{get_at}
use Rattle.scenario_host.proofs.Rests.{Turning, turning_start, turning_on, next_awake, next_fit, drop_end, turned}
use Rattle.scenario_host.proofs.host.ask_awake.Goals as goal

pub loop-k-init : goal.loop-k-init
loop-k-init c = record {
  walk = (
    0,
    turning_start (starts_of c.args.starts.now.params) (address_in c.args.s.now.hosts) c.args.tick c.args.scripts.now
        c.args.host.now c.requires.sound c.requires.kept c.requires.left,
  );
  asleep = refl;
  awake = refl;
  passed = refl;
  turns = refl;
}

pub index_mut-requires : goal.index_mut-requires
index_mut-requires c =
    let scripts = c.args.scripts.now in
    let awake = scripts.awake.items in
    let k = c.loop-k.k in
    let place = c.index-place.result.now in
    let at : slice_get awake k ≡ Some place =
    get_at awake k place (omega (arith, c.len-k-end.ensures, c.loop-k.auto.k-end, c.loop-k-test.true))
    ∙ (ap (λ v. Some (get_or v.items k place)) (sym c.loop-k.invariant.awake) ∙ ap Some (sym c.index-place.ensures)) in
    let next =
    next_awake (starts_of c.args.starts.now.params) (address_in c.args.s.now.hosts) c.args.tick scripts.passed
    scripts.turns c.loop-k.invariant.walk.0 k place scripts.asleep.items
    (site_with c.args.host.now (scripts_in scripts)) awake c.loop-k.host c.loop-k.scripts.items.items c.requires.left at
    c.loop-k.invariant.walk.1 in
    omega (arith, next.below)

pub ask_one-requires-clause-fit : goal.ask_one-requires-clause-fit
ask_one-requires-clause-fit c =
    let scripts = c.args.scripts.now in
    let awake = scripts.awake.items in
    let k = c.loop-k.k in
    let place = c.index-place.result.now in
    let at : slice_get awake k ≡ Some place =
    get_at awake k place (omega (arith, c.len-k-end.ensures, c.loop-k.auto.k-end, c.loop-k-test.true))
    ∙ (ap (λ v. Some (get_or v.items k place)) (sym c.loop-k.invariant.awake) ∙ ap Some (sym c.index-place.ensures)) in
    let next =
    next_awake (starts_of c.args.starts.now.params) (address_in c.args.s.now.hosts) c.args.tick scripts.passed
    scripts.turns c.loop-k.invariant.walk.0 k place scripts.asleep.items
    (site_with c.args.host.now (scripts_in scripts)) awake c.loop-k.host c.loop-k.scripts.items.items c.requires.left at
    c.loop-k.invariant.walk.1 in
    let here : slice_get c.loop-k.scripts.items.items place ≡ Some c.index_mut.result.now =
    get_at c.loop-k.scripts.items.items place c.index_mut.result.now next.below
    ∙ ap Some (sym c.index_mut.ensures.value) in
    next_fit (starts_of c.args.starts.now.params) (address_in c.args.s.now.hosts) c.args.tick scripts.passed
    scripts.turns place scripts.asleep.items (site_with c.args.host.now (scripts_in scripts)) (drop (suc k) awake)
    c.loop-k.host c.loop-k.scripts.items.items c.index_mut.result.now next here

pub loop-k-preserved : goal.loop-k-preserved
loop-k-preserved c =
    let scripts = c.args.scripts.now in
    let awake = scripts.awake.items in
    let k = c.loop-k.k in
    let place = c.index-place.result.now in
    let at : slice_get awake k ≡ Some place =
    get_at awake k place (omega (arith, c.len-k-end.ensures, c.loop-k.auto.k-end, c.loop-k-test.true))
    ∙ (ap (λ v. Some (get_or v.items k place)) (sym c.loop-k.invariant.awake) ∙ ap Some (sym c.index-place.ensures)) in
    let next =
    next_awake (starts_of c.args.starts.now.params) (address_in c.args.s.now.hosts) c.args.tick scripts.passed
    scripts.turns c.loop-k.invariant.walk.0 k place scripts.asleep.items
    (site_with c.args.host.now (scripts_in scripts)) awake c.loop-k.host c.loop-k.scripts.items.items c.requires.left at
    c.loop-k.invariant.walk.1 in
    let here : slice_get c.loop-k.scripts.items.items place ≡ Some c.index_mut.result.now =
    get_at c.loop-k.scripts.items.items place c.index_mut.result.now next.below
    ∙ ap Some (sym c.index_mut.ensures.value) in
    let one_more : suc k ≡ k + 1 = omega arith in
    let starts = starts_of c.args.starts.now.params in
    let address = address_in c.args.s.now.hosts in
    let start = site_with c.args.host.now (scripts_in scripts) in
    let items = c.loop-k.scripts.items.items in
    record {
      walk = (
        suc place,
        subst (λ (n : ℕ). Turning starts address c.args.tick scripts.passed scripts.turns (suc place)
            scripts.asleep.items start (drop n awake) c.ask_one.new.host (set items place c.ask_one.new.script))
            one_more
            (turning_on starts address c.args.tick scripts.passed scripts.turns place scripts.asleep.items start
            (drop (suc k) awake) c.loop-k.host c.ask_one.new.host items c.index_mut.result.now c.ask_one.new.script
            next.walk next.mark here c.in_ok-one_rests.ensures),
      );
      asleep = c.loop-k.invariant.asleep;
      awake = c.loop-k.invariant.awake;
      passed = c.loop-k.invariant.passed;
      turns = c.loop-k.invariant.turns;
    }

pub returns-clause-made : goal.returns-clause-made
returns-clause-made c =
    let scripts = c.args.scripts.now in
    let items = c.loop-k.scripts.items.items in
    let awake = scripts.awake.items in
    let end =
    turned (starts_of c.args.starts.now.params) (address_in c.args.s.now.hosts) c.args.tick scripts.passed
    scripts.turns c.loop-k.invariant.walk.0 scripts.asleep.items (site_with c.args.host.now (scripts_in scripts))
    c.loop-k.host items c.requires.sound c.requires.left
    (subst (λ (left : List ℕ). Turning (starts_of c.args.starts.now.params) (address_in c.args.s.now.hosts)
    c.args.tick scripts.passed scripts.turns c.loop-k.invariant.walk.0 scripts.asleep.items
    (site_with c.args.host.now (scripts_in scripts)) left c.loop-k.host items)
    (drop_end awake c.loop-k.k (omega (arith, c.len-k-end.ensures, c.loop-k.auto.k-end, c.loop-k-test.false)))
    c.loop-k.invariant.walk.1) in
    ap (λ (n : ℕ). site_with c.loop-k.host (seen (n + 1) c.loop-k.scripts.asleep.items items)) c.loop-k.invariant.passed
    ∙ (ap (λ v. site_with c.loop-k.host (seen (scripts.passed + 1) v.items items)) c.loop-k.invariant.asleep
    ∙ end.made)

pub returns-clause-sound : goal.returns-clause-sound
returns-clause-sound c =
    let scripts = c.args.scripts.now in
    let items = c.loop-k.scripts.items.items in
    let awake = scripts.awake.items in
    let end =
    turned (starts_of c.args.starts.now.params) (address_in c.args.s.now.hosts) c.args.tick scripts.passed
    scripts.turns c.loop-k.invariant.walk.0 scripts.asleep.items (site_with c.args.host.now (scripts_in scripts))
    c.loop-k.host items c.requires.sound c.requires.left
    (subst (λ (left : List ℕ). Turning (starts_of c.args.starts.now.params) (address_in c.args.s.now.hosts)
    c.args.tick scripts.passed scripts.turns c.loop-k.invariant.walk.0 scripts.asleep.items
    (site_with c.args.host.now (scripts_in scripts)) left c.loop-k.host items)
    (drop_end awake c.loop-k.k (omega (arith, c.len-k-end.ensures, c.loop-k.auto.k-end, c.loop-k-test.false)))
    c.loop-k.invariant.walk.1) in
    subst (λ (n : ℕ). IsSound (site_with c.loop-k.host (seen (n + 1) c.loop-k.scripts.asleep.items items)))
    (sym c.loop-k.invariant.passed)
    (subst (λ v. IsSound (site_with c.loop-k.host (seen (scripts.passed + 1) v.items items)))
    (sym c.loop-k.invariant.asleep) end.sound)

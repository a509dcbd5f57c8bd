-- Answers of the proof of stepping/go_on_all.
use Rattle.std.proofs.Common.{◌≡◌, ◌+◌, ◌<◌, ℕ, suc, get_or, set, refl, subst, length, arith}
use Rattle.shared_world.proofs.Stepped.{GoneTo, at_place, gone_len, next_begun, more_gone, all_gone}
use Rattle.shared_world.proofs.stepping.go_on_all.Goals as goal

pub loop-k-init : goal.loop-k-init
loop-k-init g c = record {
  gone = (refl, refl, c.requires);
  same = gone_len c.args.s.now c.args.tick 0 c.args.scripts.now c.args.scripts.now c.args.hosts.now c.args.hosts.now
      (refl, refl, c.requires);
}

pub go_on-requires : goal.go_on-requires
go_on-requires g c =
    let xs = c.loop-k.scripts in
    let ks = c.loop-k.hosts in
    let n = c.loop-k.k in
    let same : length xs ≡ length ks = c.loop-k.invariant.same in
    next_begun c.args.s.now c.args.tick n c.args.scripts.now xs c.args.hosts.now ks
    (get_or xs n c.index-scripts-k.result) (get_or ks n c.index-hosts-k.result) c.loop-k.invariant.gone
    (at_place xs n c.index-scripts-k.result (omega (arith, c.loop-k.auto.scripts, c.loop-k-test.true)))
    (at_place ks n c.index-hosts-k.result (omega (arith, same, c.loop-k.auto.scripts, c.loop-k-test.true)))

pub loop-k-preserved : goal.loop-k-preserved
loop-k-preserved g c =
    let xs = c.loop-k.scripts in
    let ks = c.loop-k.hosts in
    let n = c.loop-k.k in
    let same : length xs ≡ length ks = c.loop-k.invariant.same in
    let next : suc n ≡ n + 1 = omega arith in
    let gone = subst (λ (k : ℕ). GoneTo c.args.s.now c.args.tick k c.args.scripts.now (set xs n c.go_on.new.self)
    c.args.hosts.now (set ks n c.go_on.new.host)) next
    (more_gone c.args.s.now c.args.tick n c.args.scripts.now xs c.args.hosts.now ks
    (get_or xs n c.index-scripts-k.result) c.go_on.new.self (get_or ks n c.index-hosts-k.result) c.go_on.new.host
    c.loop-k.invariant.gone
    (at_place xs n c.index-scripts-k.result (omega (arith, c.loop-k.auto.scripts, c.loop-k-test.true)))
    (at_place ks n c.index-hosts-k.result (omega (arith, same, c.loop-k.auto.scripts, c.loop-k-test.true)))
    c.in_ok-go_on.ensures) in
    record {
      gone = gone;
      same = gone_len c.args.s.now c.args.tick (n + 1) c.args.scripts.now (set xs n c.go_on.new.self) c.args.hosts.now
          (set ks n c.go_on.new.host) gone;
    }

pub returns : goal.returns
returns g c =
    all_gone c.args.s.now c.args.tick c.loop-k.k c.args.scripts.now c.loop-k.scripts c.args.hosts.now c.loop-k.hosts
    c.loop-k.invariant.gone (omega (arith, c.loop-k.auto.scripts, c.loop-k-test.false))

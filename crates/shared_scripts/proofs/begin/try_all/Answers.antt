-- Answers of the proof of begin/try_all.
use Rattle.std.proofs.Common.{◌≡◌, Some, List, length, take, slice_get, refl, sym, subst}
use Rattle.std.proofs.lemmas.List.{take_all}
use Rattle.std.proofs.lemmas.Option.{slice_get_read}
use Rattle.scenario_runs.specs.Applications.{Script}
use Rattle.shared_scripts.proofs.Looping.{once_in, one_more, below_it}
use Rattle.shared_scripts.proofs.Trying.{AreSetBy, none_set, set_itself, set_more, sets_may, sets_tries, tried_more}
use Rattle.shared_scripts.proofs.begin.try_all.Goals as goal

pub loop-script-init : goal.loop-script-init
loop-script-init c = record {
  tries = set_itself c.args.host.now c.requires.sound;
  set = none_set c.args.tick c.args.host.now.host.books c.args.host.now.host.slow.check_sums c.args.host.now.lanes
      c.requires.none c.requires.sound.resting;
}

pub loop-script-preserved : goal.loop-script-preserved
loop-script-preserved c =
    let xs = c.args.scripts.now in
    let i = c.loop-script.script-index in
    let x = c.script-item.result in
    let here : slice_get xs i ≡ Some x =
    slice_get_read xs (length xs) i x refl c.loop-script-test.true c.script-item.is in
    let sound = c.loop-script.invariant.tries.sound in
    record {
      tries = tried_more x.number _ c.args.host.now c.loop-script.host c.try_one.new.host c.loop-script.invariant.tries
          c.in_ok-try_one.ensures (λ id call f g is. c.tries_are_set.ensures.trying x.number id call f g is)
          c.tries_are_set.ensures.both;
      set = subst (λ (ys : List Script). AreSetBy c.args.tick ys c.try_one.new.host) (sym (one_more xs i x here))
          (set_more c.args.tick (take i xs) x c.loop-script.host c.try_one.new.host sound
          (once_in c.loop-script.host sound) (below_it xs i x c.requires.numbers here) c.loop-script.invariant.set
          c.in_ok-try_one.ensures);
    }

pub returns-clause-set : goal.returns-clause-set
returns-clause-set c =
    let all : take c.loop-script.script-index c.args.scripts.now ≡ c.args.scripts.now =
    take_all c.loop-script.script-index c.args.scripts.now c.loop-script-test.false in
    sets_tries c.args.tick c.args.scripts.now c.loop-script.host
    (subst (λ (ys : List Script). AreSetBy c.args.tick ys c.loop-script.host) all c.loop-script.invariant.set)

pub returns-clause-may : goal.returns-clause-may
returns-clause-may c =
    sets_may c.args.tick (take c.loop-script.script-index c.args.scripts.now) c.loop-script.host
    c.loop-script.invariant.set

-- Answers of the proof of hearing/take_answers.
use Rattle.std.proofs.Common.{◌≡◌, Some, length, slice_get, refl}
use Rattle.std.proofs.lemmas.Option.{slice_get_read}
use Rattle.scenario_runs.specs.Applications.{Script}
use Rattle.shared_scripts.specs.Answers.{answer_for}
use Rattle.shared_scripts.proofs.Looping.{each_all, answered_more, others_stand}
use Rattle.shared_scripts.proofs.Trying.{set_itself}
use Rattle.shared_scripts.proofs.hearing.take_answers.Goals as goal

pub loop-script-init : goal.loop-script-init
loop-script-init c = record {
  taken = c.in_ok-answers.ensures.items;
  set = set_itself c.args.host.now c.requires.sound;
  rest = each_all
      (λ (x : Script). answer_for x.number c.args.host.now.lanes ≡ answer_for x.number c.args.host.now.lanes)
      (λ x. refl)
      c.args.scripts.now;
}

pub loop-script-preserved : goal.loop-script-preserved
loop-script-preserved c =
    let xs = c.args.scripts.now in
    let i = c.loop-script.script-index in
    let x = c.script-item.result in
    let here : slice_get xs i ≡ Some x =
    slice_get_read xs (length xs) i x refl c.loop-script-test.true c.script-item.is in
    record {
      taken = answered_more c.args.host.now.lanes c.loop-script.host c.take_answer.new.host xs i x
          c.in_ok-take_answer.field-0 here c.in_ok-take_answer.ensures c.loop-script.invariant.rest
          c.loop-script.answers.items c.push.new.self.items c.in_ok-push.ensures.items c.loop-script.invariant.taken;
      set = c.tries_are_set.ensures.both c.args.host.now c.loop-script.host c.take_answer.new.host
          c.loop-script.invariant.set c.in_ok-take_answer.ensures.set;
      rest = others_stand c.args.host.now.lanes c.loop-script.host c.take_answer.new.host xs i x
          c.in_ok-take_answer.field-0 here c.in_ok-take_answer.ensures c.loop-script.invariant.rest c.requires.numbers;
    }

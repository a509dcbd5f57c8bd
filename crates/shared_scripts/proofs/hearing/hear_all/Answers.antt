-- Answers of the proof of hearing/hear_all.
use Rattle.std.proofs.Common.{◌≡◌, ◌+◌, Option, Some, slice_get, get_or, set, sym, subst, ap, ◌∙◌, arith}
use Rattle.std.proofs.lemmas.List.{with_items_is}
use Rattle.flow_state.specs.declared.call.Answer.{Answer}
use Rattle.scenario_runs.specs.Applications.{Script}
use Rattle.scenario_host.proofs.Walking.{get_at}
use Rattle.shared_scripts.specs.Answers.{goes_by, told_at}
use Rattle.shared_scripts.proofs.Places.{HeardTo, heard_more, heard_all, may_hear}
use Rattle.shared_scripts.proofs.hearing.hear_all.Goals.{in-Some, in_default}
use Rattle.shared_scripts.proofs.hearing.hear_all.Goals as goal

pub go_on_by-requires : goal.go_on_by-requires
go_on_by-requires c =
    let script : Script = get_or c.loop-k.script-items c.loop-k.k c.script-item.result in
    may_hear c.loop-k.k c.args.answers.now c.args.scripts.now.items c.loop-k.script-items script c.in-Some.told
    c.loop-k.invariant
    (get_at c.loop-k.script-items c.loop-k.k c.script-item.result
    (omega (arith, c.loop-k.auto.script-items, c.loop-k-test.true)))
    (sym c.answer_at.ensures ∙ c.in-Some.is)

pub loop-k-preserved : goal.loop-k-preserved
loop-k-preserved c =
    let k = c.loop-k.k in
    let os = c.args.answers.now in
    let start = c.args.scripts.now.items in
    let ss = c.loop-k.script-items in
    let script : Script = get_or ss k c.script-item.result in
    let here : slice_get ss k ≡ Some script =
    get_at ss k c.script-item.result (omega (arith, c.loop-k.auto.script-items, c.loop-k-test.true)) in
    let more : HeardTo (k + 1) os start (set ss k (goes_by (told_at (slice_get os k)) script)) =
    heard_more k os start ss script c.loop-k.invariant here in
    elim c.match-answer_at.branch [
      | in-Some w ↦
          subst (HeardTo (k + 1) os start)
          (ap (λ (o : Option Answer). set ss k (goes_by o script)) (sym c.answer_at.ensures ∙ w.in-Some.is)
          ∙ (ap (set ss k) (sym w.go_on_by.ensures) ∙ sym w.script-items-is)) more
      | in_default w ↦
          subst (HeardTo (k + 1) os start)
          (ap (λ (o : Option Answer). set ss k (goes_by o script)) (sym c.answer_at.ensures ∙ w.in_default.is)
          ∙ sym w.script-items-is) more
    ]

pub returns : goal.returns
returns c =
    with_items_is c.args.scripts.now c.loop-k.script-items (omega (arith, c.loop-k.auto.script-items))
    ∙ heard_all c.loop-k.k c.args.answers.now c.args.scripts.now.items c.loop-k.script-items c.loop-k.invariant
    (omega (arith, c.loop-k.auto.script-items, c.loop-k-test.false))

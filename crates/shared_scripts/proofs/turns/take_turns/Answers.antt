-- Answers of the proof of turns/take_turns.
use Rattle.std.proofs.Common.{◌≡◌, Bool, Some, slice_get, get_or, sym, subst, ap, ◌∙◌, arith}
use Rattle.std.specs.Prelude.{Option}
use Rattle.std.specs.Option.{is_some}
use Rattle.std.proofs.lemmas.List.{with_items_is}
use Rattle.flow_state.specs.declared.call.Answer.{Answer}
use Rattle.scenario_runs.specs.Applications.{Script}
use Rattle.scenario_host.proofs.Walking.{get_at}
use Rattle.shared_scripts.specs.Answers.{told_at}
use Rattle.shared_scripts.specs.Turns.{HaveHadTurns, HasHadTurn}
use Rattle.shared_scripts.proofs.Places.{turns_more, turns_all}
use Rattle.shared_scripts.proofs.turns.take_turns.Goals as goal

pub loop-k-preserved : goal.loop-k-preserved
loop-k-preserved g c =
    let k = c.loop-k.k in
    let s = c.args.s.now in
    let p = c.args.starts.now.params in
    let t = c.args.tick in
    let os = c.args.answers.now in
    let h = c.loop-k.host in
    let mid = c.take_one.new.host in
    let xs = c.loop-k.script-items in
    let x : Script = get_or xs k c.script-item.result in
    let y = c.take_one.new.script in
    let here : slice_get xs k ≡ Some x =
    get_at xs k c.script-item.result (omega (arith, c.loop-k.auto.script-items, c.loop-k-test.true)) in
    let answered : c.is_some-answered.result ≡ is_some (told_at (slice_get os k)) =
    c.is_some-answered.ensures ∙ ap (λ (o : Option Answer). is_some o) c.answer_at.ensures in
    let had : HasHadTurn (is_some (told_at (slice_get os k))) s p t h mid x y =
    subst (λ (b : Bool). HasHadTurn b s p t h mid x y) answered c.in_ok-take_one.ensures in
    turns_more s p t os c.args.host.now c.args.scripts.now.items k h mid xs x y c.loop-k.invariant here had

pub returns : goal.returns
returns g c =
    subst (HaveHadTurns c.args.s.now c.args.starts.now.params c.args.tick c.args.answers.now c.args.host.now
    c.loop-k.host c.args.scripts.now.items)
    (sym (with_items_is c.args.scripts.now c.loop-k.script-items (omega (arith, c.loop-k.auto.script-items))))
    (turns_all c.args.s.now c.args.starts.now.params c.args.tick c.args.answers.now c.args.host.now
    c.args.scripts.now.items c.loop-k.k c.loop-k.host c.loop-k.script-items c.loop-k.invariant
    (omega (arith, c.loop-k.auto.script-items, c.loop-k-test.false)))

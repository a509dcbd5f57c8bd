-- Answers of the proof of going/go_on_all.
use Rattle.std.proofs.Common.{◌≡◌, List, length, sym, ap, subst, ◌∙◌}
use Rattle.std.specs.Prelude.{Option}
use Rattle.flow_state.specs.declared.call.Answer.{Answer}
use Rattle.host_rounds.specs.Lists.{Each}
use Rattle.scenario_runs.specs.Applications.{Script}
use Rattle.tas_model.specs.declared.entry.HostParams.{HostParams}
use Rattle.core_host.specs.Emission.{AreTriesSet}
use Rattle.core_host.specs.Serving.{IsServed}
use Rattle.core_host.specs.Views.{seen_by}
use Rattle.shared_scripts.specs.Answers.{answer_to, answers_in, heard_by}
use Rattle.shared_scripts.specs.Going.{IsReadyFor, numbers_of}
use Rattle.shared_scripts.specs.Playing.{RunsOn}
use Rattle.shared_scripts.specs.Turns.{HaveHadTurns}
use Rattle.shared_scripts.proofs.Begins.{ok_made}
use Rattle.shared_scripts.proofs.Gone.{heard_count, sound_served, served_listens, served_ready, has_gone_on}
use Rattle.shared_scripts.proofs.going.go_on_all.Goals as goal

pub take_answers-requires-clause-runs : goal.take_answers-requires-clause-runs
take_answers-requires-clause-runs g c = (
  c.args.tick,
  subst (Each (RunsOn c.args.tick c.args.host.now)) (sym c.as_slice.ensures.value) c.requires.runs,
)

pub take_turns-requires-clause-sound : goal.take_turns-requires-clause-sound
take_turns-requires-clause-sound g c =
    let xs = c.args.scripts.now.items in
    let played = c.args.host.now in
    let told = c.forget_tries.new.self in
    let served = c.serve.new.host in
    let set : AreTriesSet played told =
    c.tries_are_set.ensures.both played c.take_answers.new.host told c.in_ok-answers.ensures.set
    c.forget_tries.ensures.set in
    let serves : IsServed (numbers_of (seen_by played).params) c.args.tick told served =
    subst (λ (p : HostParams). IsServed (numbers_of p) c.args.tick told served) c.params.ensures
    c.in_ok-serve.ensures in
    sound_served c.args.s.now c.args.tick xs played told served c.requires set c.forget_tries.ensures.none serves

pub take_turns-requires-clause-listens : goal.take_turns-requires-clause-listens
take_turns-requires-clause-listens g c =
    let xs = c.args.scripts.now.items in
    let played = c.args.host.now in
    let told = c.forget_tries.new.self in
    let served = c.serve.new.host in
    let set : AreTriesSet played told =
    c.tries_are_set.ensures.both played c.take_answers.new.host told c.in_ok-answers.ensures.set
    c.forget_tries.ensures.set in
    let serves : IsServed (numbers_of (seen_by played).params) c.args.tick told served =
    subst (λ (p : HostParams). IsServed (numbers_of p) c.args.tick told served) c.params.ensures
    c.in_ok-serve.ensures in
    served_listens c.args.s.now c.args.tick xs played told served c.requires set c.forget_tries.ensures.none serves

pub take_turns-requires-clause-count : goal.take_turns-requires-clause-count
take_turns-requires-clause-count g c =
    let xs = c.args.scripts.now.items in
    let played = c.args.host.now in
    let answers : c.in_ok-answers.answers.items ≡ answers_in played.lanes xs =
    c.in_ok-answers.ensures.answers ∙ ap (λ (ys : List Script). answers_in played.lanes ys) c.as_slice.ensures.value in
    let heard : c.hear_all.new.scripts.items ≡ heard_by (answers_in played.lanes xs) xs =
    c.hear_all.ensures
    ∙ ap (λ (os : List (Option Answer)). heard_by os xs) (c.as_slice-2.ensures.value ∙ answers) in
    ap (λ (os : List (Option Answer)). length os) (c.as_slice-3.ensures.value ∙ answers)
    ∙ (heard_count (answer_to played.lanes) xs ∙ sym (ap (λ (ys : List Script). length ys) heard))

pub take_turns-requires-clause-ready : goal.take_turns-requires-clause-ready
take_turns-requires-clause-ready g c =
    let xs = c.args.scripts.now.items in
    let played = c.args.host.now in
    let told = c.forget_tries.new.self in
    let served = c.serve.new.host in
    let set : AreTriesSet played told =
    c.tries_are_set.ensures.both played c.take_answers.new.host told c.in_ok-answers.ensures.set
    c.forget_tries.ensures.set in
    let serves : IsServed (numbers_of (seen_by played).params) c.args.tick told served =
    subst (λ (p : HostParams). IsServed (numbers_of p) c.args.tick told served) c.params.ensures
    c.in_ok-serve.ensures in
    let answers : c.in_ok-answers.answers.items ≡ answers_in played.lanes xs =
    c.in_ok-answers.ensures.answers ∙ ap (λ (ys : List Script). answers_in played.lanes ys) c.as_slice.ensures.value in
    let heard : c.hear_all.new.scripts.items ≡ heard_by (answers_in played.lanes xs) xs =
    c.hear_all.ensures
    ∙ ap (λ (os : List (Option Answer)). heard_by os xs) (c.as_slice-2.ensures.value ∙ answers) in
    subst (λ (ys : List Script). IsReadyFor c.args.tick served ys) (sym heard)
    (served_ready c.args.s.now c.args.tick xs played told served c.requires set c.forget_tries.ensures.none serves)

pub returns : goal.returns
returns g c =
    let xs = c.args.scripts.now.items in
    let played = c.args.host.now in
    let told = c.forget_tries.new.self in
    let served = c.serve.new.host in
    let set : AreTriesSet played told =
    c.tries_are_set.ensures.both played c.take_answers.new.host told c.in_ok-answers.ensures.set
    c.forget_tries.ensures.set in
    let serves : IsServed (numbers_of (seen_by played).params) c.args.tick told served =
    subst (λ (p : HostParams). IsServed (numbers_of p) c.args.tick told served) c.params.ensures
    c.in_ok-serve.ensures in
    let answers : c.in_ok-answers.answers.items ≡ answers_in played.lanes xs =
    c.in_ok-answers.ensures.answers ∙ ap (λ (ys : List Script). answers_in played.lanes ys) c.as_slice.ensures.value in
    let heard : c.hear_all.new.scripts.items ≡ heard_by (answers_in played.lanes xs) xs =
    c.hear_all.ensures
    ∙ ap (λ (os : List (Option Answer)). heard_by os xs) (c.as_slice-2.ensures.value ∙ answers) in
    let asked = c.take_turns.new.host in
    let next = c.take_turns.new.scripts.items in
    let q = (seen_by played).params in
    let one =
    subst (λ (p : HostParams). HaveHadTurns c.args.s.now p c.args.tick c.as_slice-3.result.now served asked
    c.hear_all.new.scripts.items next) c.params.ensures c.in_ok-take_turns.ensures in
    let two =
    subst (λ (os : List (Option Answer)). HaveHadTurns c.args.s.now q c.args.tick os served asked
    c.hear_all.new.scripts.items next) (c.as_slice-3.ensures.value ∙ answers) one in
    let had =
    subst (λ (ys : List Script). HaveHadTurns c.args.s.now q c.args.tick (answers_in played.lanes xs) served asked ys
    next) heard two in
    ok_made c.kick_all.result
    (λ kicks.
    has_gone_on c.args.s.now c.args.tick xs played told served c.requires set c.forget_tries.ensures.none serves next
    asked c.kick_all.new.self had kicks) c.kick_all.ensures.kicked

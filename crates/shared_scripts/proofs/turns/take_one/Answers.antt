-- Answers of the proof of turns/take_one.
use Rattle.std.proofs.Common.{◌≡◌, Bool, true, false, OnOk, List, sym, subst}
use Rattle.scenario_host.specs.Turns.{turn_of}
use Rattle.scenario_runs.specs.Applications.{turn, is_killed_at}
use Rattle.scenario_runs.specs.Worlds.{starts_of, address_in}
use Rattle.scenario_text.specs.declared.scenario.HostLine.{HostLine}
use Rattle.core_host.specs.Asked.{IsAskedOf, IsAskedLess}
use Rattle.core_host.specs.Views.{seen_by}
use Rattle.shared_scripts.specs.Turns.{HasHadTurn}
use Rattle.shared_scripts.proofs.Begins.{ok_three, ok_later}
use Rattle.shared_scripts.proofs.Rows.{runs_killed, runs_living, fit_for, one_turn}
use Rattle.shared_scripts.proofs.turns.take_one.Goals as goal

pub take_turn-requires-clause-killed : goal.take_turn-requires-clause-killed
take_turn-requires-clause-killed g c =
    λ killed. runs_killed c.args.tick c.args.host.now c.args.script.now c.requires.ready.runs.0 killed

pub take_turn-requires-clause-lives : goal.take_turn-requires-clause-lives
take_turn-requires-clause-lives g c =
    λ lives. runs_living c.args.tick c.args.host.now c.args.script.now c.requires.ready.runs.0 lives

pub take_turn-requires-clause-fit : goal.take_turn-requires-clause-fit
take_turn-requires-clause-fit g c =
    fit_for c.args.tick c.args.host.now c.args.script.now c.requires.ready.steps.0 c.requires.ready.own.0
    c.requires.ready.runs.0

pub returns : goal.returns
returns g c =
    let x = c.args.script.now in
    let y = c.take_turn.new.self in
    let before = c.args.host.now in
    let after = c.take_turn.new.host in
    let p = c.args.starts.now.params in
    let made =
    subst (λ (hs : List HostLine). OnOk c.take_turn.result (turn_of (seen_by after) y
    ≡ turn (starts_of p) (address_in hs) c.args.tick (turn_of (seen_by before) x))) c.as_slice.ensures
    c.take_turn.ensures.made in
    subst (λ (b : Bool). OnOk c.take_turn.result (HasHadTurn b c.args.s.now p c.args.tick before after x y))
    (sym c.if-answered.false)
    (ok_three c.take_turn.result
    (λ is kept lost. one_turn c.args.s.now p c.args.tick before after x y c.requires.ready.runs.0 is kept lost) made
    (ok_later (is_killed_at c.args.tick x.kill ≡ false) (IsAskedOf before after) c.take_turn.result
    c.take_turn.ensures.kept)
    (ok_later (is_killed_at c.args.tick x.kill ≡ true) (IsAskedLess x.number before after) c.take_turn.result
    c.take_turn.ensures.lost))

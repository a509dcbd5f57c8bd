use Rattle.std.proofs.Common.{◌≡◌, [], ◌∷◌, inl, ap, ◌∙◌, subst, sym}
use Rattle.flow_lock.specs.Passes.{Seen, with_turns}
use Rattle.flow_lock.specs.Steps.{HasAll}
use Rattle.app_reaper.specs.Reaping.{IsEnded}
use Rattle.libtas_sockets.specs.Ending.{IsLeftIdle}
use Rattle.socket_tests.specs.Going.{turns_of}
use Rattle.socket_tests.proofs.Resting.{has_turn, has_all, second_turned, rests, alone_again}
use Rattle.socket_tests.proofs.alone.at_rest.Goals as goal

pub end-left-requires : goal.end-left-requires
end-left-requires c =
    let h = c.requires.app in record { pass = (h.table, inl (has_turn c.args.app.pass.view 1 [] h.turns)) }

pub learn-requires : goal.learn-requires
learn-requires c =
    let h = c.requires.slow in
    let e = c.collect.ensures.slow in
    let v = c.args.slow.now.view in
    let w = c.end-left.result.pass.view in
    let idle : IsLeftIdle c.args.app c.end-left.result = c.end-left.ensures.held in
    let second : turns_of w ≡ 1 ∷ [] = ap (λ (s : Seen). turns_of s.view) idle.2 ∙ c.requires.app.turns in
    let all : HasAll (with_turns v w) = has_all v w h.turns second h.made in (
      ap (λ (s : Seen). s.table) e ∙ h.table,
      ap (λ (s : Seen). s.view.baton) e ∙ h.baton,
      subst HasAll (sym (ap (λ (s : Seen). s.view) e)) all,
    )

pub returns-clause-slow : goal.returns-clause-slow
returns-clause-slow c =
    let h = c.requires.slow in
    let e = c.collect.ensures.slow in
    let o = c.learn.ensures.order in
    let alone = alone_again c.collect.new.slow.view c.learn.new.slow.view o.0 o.1
    (ap (λ (s : Seen). s.view.baton) e ∙ h.baton) (ap (λ (s : Seen). s.view.held) e ∙ h.held) in
    (c.learn.ensures.table ∙ (ap (λ (s : Seen). s.table) e ∙ h.table), alone.0, alone.1)

pub returns-clause-left : goal.returns-clause-left
returns-clause-left c =
    let idle : IsLeftIdle c.args.app c.end-left.result = c.end-left.ensures.held in
    let turned = second_turned c.args.table.now c.args.app.pass c.requires.app in
    let ended : IsEnded c.args.table.now c.end-left.result = c.end-left.ensures.ended turned in
    rests c.args.table.now c.args.app c.end-left.result c.collect.new.pass idle ended c.requires.app
    c.collect.ensures.pass

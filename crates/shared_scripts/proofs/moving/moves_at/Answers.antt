-- Answers of the proof of moving/moves_at.
use Rattle.std.proofs.Common.{◌<◌, All, map, filter, List, ap, sym, subst, ◌∙◌}
use Rattle.frame_steering.specs.declared.handing.GroupMove.{GroupMove}
use Rattle.local_host.specs.declared.steer.GroupMove as local
use Rattle.scenario_host.specs.GroupMoves.{is_move_of}
use Rattle.shared_scripts.specs.Begun.{handed_move}
use Rattle.shared_scripts.proofs.Begins.{moves_handed, moves_below}
use Rattle.shared_scripts.proofs.Looping.{if_ok_made}
use Rattle.shared_scripts.proofs.moving.moves_at.Goals as goal

pub returns-clause-moves : goal.returns-clause-moves
returns-clause-moves c =
    if_ok_made c.handed_moves.result
    (λ handed is.
    is
    ∙ (ap (λ (ms : List local.GroupMove). map handed_move ms)
    (c.as_slice.ensures.value ∙ c.in_ok-moves.ensures.moves)
    ∙ moves_handed (filter (is_move_of c.args.name.now c.args.tick) c.args.lines.now))) c.handed_moves.ensures

pub returns-clause-below : goal.returns-clause-below
returns-clause-below c =
    if_ok_made c.handed_moves.result
    (λ handed is.
    subst (λ (ms : List GroupMove). All (λ (m : GroupMove). m.group < 64) ms) (sym is)
    (moves_below c.as_slice.result.now
    (subst (λ (ms : List local.GroupMove). All (λ (m : local.GroupMove). m.group < 64) ms)
    (sym c.as_slice.ensures.value) c.in_ok-moves.ensures.below))) c.handed_moves.ensures

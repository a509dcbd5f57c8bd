use Rattle.std.proofs.Common.{◌≡◌, ◌<◌, All, map, filter, take}
use Rattle.local_host.specs.declared.steer.GroupMove.{GroupMove}
use Rattle.scenario_host.specs.GroupMoves.{is_move_of, group_move}
use Rattle.scenario_host.proofs.moves.moves_at.Given as goal

-- those of the lines so far
abbrev pub invariant-loop-line : goal.invariant-loop-line
invariant-loop-line l = record {
  made : l.moves.items ≡ map group_move (filter (is_move_of l.name l.tick) (take l.line-index l.lines));
  below : All (λ (m : GroupMove). m.group < 64) l.moves.items;
}

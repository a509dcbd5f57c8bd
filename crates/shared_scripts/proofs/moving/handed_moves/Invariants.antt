-- Measures or invariants of moving/handed_moves.
use Rattle.std.proofs.Common.{◌≡◌, map, take}
use Rattle.shared_scripts.specs.Begun.{handed_move}
use Rattle.shared_scripts.proofs.moving.handed_moves.Given as goal

-- the first moves
abbrev pub invariant-loop-m : goal.invariant-loop-m
invariant-loop-m l = l.handed.items ≡ map handed_move (take l.m-index l.moves)

use Rattle.std.proofs.Common.{◌≡◌, ℕ, ◌+◌, ◌*◌, ◌≤◌, ◌++◌, length}
use Rattle.std.specs.Prelude.{IfSome}
use Rattle.ladder_picture.specs.declared.rungs.Rung.{Rung}
use Rattle.ladder_picture.specs.Rungs.{rungs_from, rungs_of}
use Rattle.ladder_picture.proofs.rungs.rungs_of.Given as goal

abbrev pub invariant-rungs : goal.invariant-rungs
invariant-rungs l = record {
  rest : (most : ℕ) × (length l.ours + length l.theirs ≤ most)
      × (l.rungs.items ++ rungs_from most l.last l.ours l.theirs ≡ rungs_of l.left l.right);
  high : IfSome l.last (λ (r : Rung). r.y ≤ 104 + 54 * length l.rungs.items);
}

abbrev pub decreases-rungs : goal.decreases-rungs
decreases-rungs l = length l.ours + length l.theirs

-- Frames that move from a core's list to the worker's.
use Rattle.std.proofs.Common.{◌≡◌, ◌≤◌, List, ◌++◌, length}
use Rattle.app_reaper.specs.Lists.{Roomy}
use Rattle.core_worker.specs.declared.frames.PassedFrame.{PassedFrame}

-- what has moved and what is left is all, and there is room for what is left
pub record Moving (before now : Roomy PassedFrame) (all left : List PassedFrame) : Type 0 where
  pub list : now.list ++ left ≡ before.list ++ all
  pub room : length left ≤ now.spare

-- How the frames of a tick go to the lanes of a host's cores.
use Rattle.std.specs.Prelude.{◌≡◌, ℕ, suc, ◌<◌, ◌≤◌, List, [], ◌∷◌, All}
use Rattle.std.specs.List.{AllZip}
use Rattle.steering.specs.Tables.{Table}
use Rattle.frame_steering.specs.Handing.{AreHandedOut}
use Rattle.frame_steering.specs.Giving.{given_to}
use Rattle.frame_steering.specs.declared.handing.GroupMove.{GroupMove}
use Rattle.core_worker.specs.Handing.{IsGroupFor}
use Rattle.core_worker.specs.declared.frames.Frame.{Frame}
use Rattle.core_phase.specs.declared.lane.Lane.{Lane}
use Rattle.core_phase.specs.declared.lane.Lane.TheVariants as lanes

-- the frame is one of this group of flows
abbrev pub IsInGroup : Frame → (group : ℕ) → Type 0
IsInGroup f group = IsGroupFor f.packet group

-- The lanes from this one on: the first are those of so many cores, in the order of their numbers, each with the frames
-- that were handed to its core, and the others are applications'. `handed` has the core of each frame.
abbrev pub AreDealt : (cores : ℕ) → (handed : List ℕ) → List Frame → (core : ℕ) → List Lane → Type 0
AreDealt cores handed frames core [] = cores ≤ core
AreDealt cores handed frames core (lanes.Core l ∷ ls) =
    (core < cores) × (l.worker.core ≡ core) × (l.worker.frames ≡ given_to core handed frames)
    × AreDealt cores handed frames (suc core) ls
AreDealt cores handed frames core (lanes.App l ∷ ls) =
    (cores ≤ core) × AreDealt cores handed frames (suc core) ls

-- Each frame went to the core that the steering named for its group then, while groups moved: that is what `hand_out`
-- of `frame_steering` ensures of its answer.
pub record AreHandedOver (cores : ℕ) (tables : List Table) (moves : List GroupMove) (frames : List Frame)
    (now : List Table) (ls : List Lane) : Type 0 where
  pub groups : List ℕ
  pub handed : List ℕ
  pub grouped : AllZip IsInGroup frames groups
  pub steered : AreHandedOut cores tables moves groups handed now
  pub below : All (λ core. core < cores) handed
  pub dealt : AreDealt cores handed frames 0 ls

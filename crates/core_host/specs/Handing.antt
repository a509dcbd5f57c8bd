-- The frames of a tick, handed to the cores of a host.
use Rattle.std.specs.Prelude.{◌≡◌, ℕ, suc, List, [], ◌∷◌, ◌++◌, map, ⊤}
use Rattle.core_worker.specs.Workers.{with_frames}
use Rattle.core_worker.specs.declared.frames.Frame.{Frame}
use Rattle.core_phase.specs.declared.lane.Lane.{Lane}
use Rattle.core_phase.specs.declared.lane.Lane.TheVariants as lanes
use Rattle.frame_steering.specs.Giving.{given_to}
use Rattle.frame_steering.specs.declared.handing.GroupMove.{GroupMove}
use Rattle.phase_orders.specs.Handing.{AreHandedOver}
use Rattle.host_rounds.specs.Lists.{Each}
use Rattle.core_host.specs.Sound.{IsStaffSound}
use Rattle.core_host.specs.Views.{Staffed}
use Rattle.core_host.specs.declared.handing.Coming.{Coming}

-- ----- frames
abbrev pub coming : Coming → Frame
coming f = record { id = f.id; packet = f.packet.now }

abbrev pub comings : List Coming → List Frame
comings fs = map coming fs

-- ----- lanes
abbrev pub IsCore : Lane → Type 0
IsCore (lanes.Core l) = ⊤
IsCore (lanes.App l) = ⊥

-- a core with these frames behind those that it has
abbrev pub with_more : List Frame → Lane → Lane
with_more fs (lanes.Core l) = lanes.Core (record l { worker = with_frames (l.worker.frames ++ fs) l.worker })
with_more fs (lanes.App l) = lanes.App l

abbrev pub with_frame : Frame → Lane → Lane
with_frame f = with_more (f ∷ [])

-- the lanes from this core on, each with the frames that are for its core; `handed` has the core of each
abbrev pub dealt_from : (core : ℕ) → (handed : List ℕ) → List Frame → List Lane → List Lane
dealt_from k handed fs [] = []
dealt_from k handed fs (l ∷ ls) = with_more (given_to k handed fs) l ∷ dealt_from (suc k) handed fs ls

-- a core passed no frame on, and wrote no line
abbrev pub IsEmpty : Lane → Type 0
IsEmpty (lanes.Core l) = (l.worker.exceptions ≡ []) × (l.worker.deferred ≡ []) × (l.worker.log ≡ [])
IsEmpty (lanes.App l) = ⊤

-- ----- a host
-- The frames were handed over, each core having left none before, and nothing else changed that a run sees.
pub record IsHandedOut (moves : List GroupMove) (frames : List Frame) (before after : Staffed) : Type 0 where
  pub handed : AreHandedOver before.cores before.steer.tables moves frames after.steer.tables after.lanes
  pub lanes : (handed : List ℕ) × (after.lanes ≡ dealt_from 0 handed frames before.lanes)
  pub sound : IsStaffSound after
  pub same : after ≡ record before { steer = after.steer; lanes = after.lanes }
  pub empty : Each IsEmpty after.lanes

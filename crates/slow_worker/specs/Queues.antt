-- The frames that cores passed on, one after the other.
use Rattle.std.specs.Prelude.{◌≡◌, ℕ, ◌-◌, Bool, List, [], ◌∷◌, ◌++◌, length, ◌⊎◌}
use Rattle.flow_state.specs.Flow.{Flow}
use Rattle.core_worker.specs.Workers as cores
use Rattle.core_worker.specs.declared.frames.PassedFrame.{PassedFrame}
use Rattle.core_worker.specs.declared.frames.Passed.TheVariants as passed
use Rattle.slow_handshake.specs.Numbers.{FirstNumbers}
use Rattle.slow_worker.specs.Kicking.{Kicking}
use Rattle.slow_worker.specs.Workers.{Worker, Sight, Setting, setting_of, sight_of, waiting}
use Rattle.slow_worker.specs.Serving.{IsServed, IsUnserved}
use Rattle.slow_worker.specs.declared.clock.Clock.{Clock}
use Rattle.slow_worker.specs.declared.served.Served.{Served}
use Rattle.slow_worker.specs.declared.served.Served.TheVariants as served

-- ----- what cores passed on is collected
-- The frames and lines of a core stand behind the worker's own, and the core has none left.
pub record IsCollected (c d : cores.Worker) (v w : Worker) : Type 0 where
  pub exceptions : w.exceptions.list ≡ v.exceptions.list ++ c.exceptions
  pub deferred : w.deferred.list ≡ v.deferred.list ++ c.deferred
  pub log : w.log ≡ v.log ++ c.log
  pub core : d ≡ record c { exceptions = []; deferred = []; log = [] }
  pub rest : w ≡ record v { exceptions = w.exceptions; deferred = w.deferred; log = w.log }

-- all lists are as they were
pub record IsUncollected (c d : cores.Worker) (v w : Worker) : Type 0 where
  pub exceptions : w.exceptions.list ≡ v.exceptions.list
  pub deferred : w.deferred.list ≡ v.deferred.list
  pub core : d ≡ c
  pub rest : w ≡ record v { exceptions = w.exceptions; deferred = w.deferred }

-- ----- frames are served
-- a frame that found the record busy waits on
abbrev pub kept_of : PassedFrame → Served → List PassedFrame
kept_of f (served.Busy x) = record { frame = f.frame; passed = passed.Busy x } ∷ []
kept_of f a = []

-- the frame was handled, with this answer
abbrev pub IsOneServed : Setting → PassedFrame → Sight → Sight → Served → Type 0
IsOneServed at f = IsServed at f.frame.id f.frame.packet

-- These frames were handled, each once and one after the other; those that wait on are kept.
abbrev pub AreServed : Setting → List PassedFrame → Sight → Sight → (kept : List PassedFrame) → Type 0
AreServed at [] s n kept = (n ≡ s) × (kept ≡ [])
AreServed at (f ∷ fs) s n kept =
    (m : Sight) × (a : Served) × (more : List PassedFrame)
    × IsOneServed at f s m a × AreServed at fs m n more × (kept ≡ kept_of f a ++ more)

-- what no frame changes
pub record Standing : Type 0 where
  pub filed : List Flow
  pub check_sums : Bool
  pub time : Clock
  pub kickers : Kicking

abbrev pub standing_of : Worker → Standing
standing_of w =
    record { filed = w.filed; check_sums = w.check_sums; time = w.time; kickers = w.kickers }

abbrev pub IsSame : Worker → Worker → Type 0
IsSame v w = standing_of w ≡ standing_of v

-- All frames that waited were handled. Those that wait on are the deferred ones now.
pub record IsAllServed (ns : FirstNumbers) (c : cores.Common) (tick : ℕ) (v w : Worker) : Type 0 where
  pub served : AreServed (setting_of ns c tick v) (waiting v) (sight_of v) (sight_of w) w.deferred.list
  pub none : w.exceptions.list ≡ []
  pub same : IsSame v w

-- Memory was wanting before a frame was looked at, or while it was handled.
abbrev pub IsStopped : Setting → (left : List PassedFrame) → Sight → Sight → Type 0
IsStopped at left s n =
    (n ≡ s)
    ⊎ ((f : PassedFrame) × (rest : List PassedFrame) × (left ≡ f ∷ rest) × IsUnserved at f.frame.packet s n)

-- Some frames were handled. All others wait still, and those behind them that were kept.
pub record IsPartServed (ns : FirstNumbers) (c : cores.Common) (tick : ℕ) (v w : Worker) : Type 0 where
  pub done : List PassedFrame
  pub left : List PassedFrame
  pub kept : List PassedFrame
  pub all : waiting v ≡ done ++ left
  pub before : Sight
  pub served : AreServed (setting_of ns c tick v) done (sight_of v) before kept
  pub stopped : IsStopped (setting_of ns c tick v) left before (sight_of w)
  pub still : waiting w ≡ left ++ kept
  pub same : IsSame v w

-- ----- the first frame
pub record IsFirstServed (ns : FirstNumbers) (c : cores.Common) (tick : ℕ) (v n : Worker) : Type 0 where
  pub first : PassedFrame
  pub rest : List PassedFrame
  pub waits : waiting v ≡ first ∷ rest
  pub answer : Served
  pub served : IsOneServed (setting_of ns c tick v) first (sight_of v) (sight_of n) answer
  pub after : waiting n ≡ rest ++ kept_of first answer
  pub fewer : length n.exceptions.list ≡ length v.exceptions.list - 1
  pub same : IsSame v n

pub record IsFirstLeft (ns : FirstNumbers) (c : cores.Common) (tick : ℕ) (v n : Worker) : Type 0 where
  pub stopped : IsStopped (setting_of ns c tick v) (waiting v) (sight_of v) (sight_of n)
  pub still : waiting n ≡ waiting v
  pub same : IsSame v n

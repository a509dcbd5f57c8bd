-- The cores of a host that was just put together.
use Rattle.std.specs.Prelude.{◌≡◌, ℕ, suc, List, [], ◌∷◌, length, map, Some, slice_get, ⊤}
use Rattle.atomic_table.specs.Seated.{TableId}
use Rattle.context_queue.specs.Notes.{Place, Sender}
use Rattle.flow_lock.specs.Callers.{IsGuest}
use Rattle.flow_lock.specs.Passes.{new_turn}
use Rattle.host_rounds.specs.Lists.{Each}
use Rattle.steering.specs.Tables.{Sight}
use Rattle.core_worker.specs.Workers.{Worker, new_worker}
use Rattle.slow_worker.specs.Kicking.{Kicking}

-- how many notes each queue of a host holds
abbrev pub queue_room : ℕ
queue_room = 1024

abbrev pub HasRoom : Place → Type 0
HasRoom q = q.room ≡ queue_room

-- the workers have the numbers of their cores one after the other
abbrev pub AreNumbered : (first : ℕ) → List Worker → Type 0
AreNumbered first [] = ⊤
AreNumbered first (w ∷ ws) = (w.core ≡ first) × AreNumbered (suc first) ws

-- each has one turn, by these names one after the other
abbrev pub AreTurned : (first : ℕ) → List Worker → Type 0
AreTurned first [] = ⊤
AreTurned first (w ∷ ws) = (w.pass.view.turns ≡ new_turn first ∷ []) × AreTurned (suc first) ws

-- The worker looks at checksums. It has no frames and no lines, knows no flow, and tells no application.
abbrev pub IsNew : (host : ℕ) → Worker → Type 0
IsNew host w = w ≡ new_worker host w.core w.pass [] w.kicks

-- ----- while cores are added
abbrev pub IsGuestOf : TableId → Worker → Type 0
IsGuestOf t w = IsGuest t w.pass

-- it takes kicks from the queue of its core
abbrev pub TakesFrom : List Place → Worker → Type 0
TakesFrom kicks w = (place : Place) × (slice_get kicks w.core ≡ Some place) × (place.line ≡ w.kicks.line)

-- its queue has one sender
abbrev pub HasOneSender : Worker → Type 0
HasOneSender w = w.kicks.senders ≡ 1

-- So many cores of this table, on a host by its place in the scenario, each with its queue of kicks and its worker.
pub record AreCores (host : ℕ) (t : TableId) (count : ℕ) (kicks : List Place) (ws : List Worker) : Type 0 where
  pub queues : length kicks ≡ count
  pub workers : length ws ≡ count
  pub rooms : Each HasRoom kicks
  pub numbers : AreNumbered 0 ws
  pub new : Each (IsNew host) ws
  pub free : Each (IsGuestOf t) ws
  pub turns : AreTurned 1 ws
  pub own : Each (TakesFrom kicks) ws
  pub sole : Each HasOneSender ws

-- ----- who posts to them
-- the first sender of a queue, which has posted nothing
abbrev pub first_sender : Place → Sender
first_sender q = record { line = q.line; number = 0; posts = [] }

-- the first sender of each of these queues, with a pass to the steering that has seen so much
abbrev pub kicking_on : Sight → (kicks : List Place) → Kicking
kicking_on steer kicks = record { steer = steer; senders = map first_sender kicks }

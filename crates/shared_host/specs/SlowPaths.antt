-- The slow path of a host that was just put together.
use Rattle.std.specs.Prelude.{◌≡◌, ℕ, ◌+◌, ◌-◌, true, [], ◌∷◌, ◌++◌}
use Rattle.atomic_table.specs.Seated.{TableId}
use Rattle.tas_model.specs.declared.entry.HostParams.{HostParams}
use Rattle.flow_index.specs.Changes.{writing}
use Rattle.flow_lock.specs.Passes.{Seen, first, left}
use Rattle.flow_lock.specs.declared.view.View.{View}
use Rattle.slow_handshake.specs.Openings.{no_openings}
use Rattle.core_worker.specs.declared.senders.AppSender.{AppSender}
use Rattle.slow_worker.specs.Workers.{Worker, sight_of, first_sight, waiting}
use Rattle.slow_worker.specs.declared.clock.Clock.TheVariants.{New}

-- what the slow path sees of a new table, after so many passes were split off
abbrev pub split_view : (slots passes : ℕ) → View
split_view slots passes = record (first slots) { parts = 4097 - passes; made = 1 + passes }

abbrev pub split_pass : TableId → (passes : ℕ) → Seen
split_pass t passes = record { table = t; view = split_view t.slots passes }

-- No flow is open or was filed, no port listens, no frame waits, and no time has passed. So many passes were split off,
-- and so many readers of the index are still to be made.
pub record IsNewSlow (params : HostParams) (t : TableId) (passes readers : ℕ) (w : Worker) : Type 0 where
  pub sight : sight_of w ≡ first_sight (no_openings params) (split_pass t passes) (writing [] [] readers)
  pub filed : w.filed ≡ []
  pub waiting : waiting w ≡ []
  pub check_sums : w.check_sums ≡ true
  pub time : w.time ≡ New

-- one pass was split off
abbrev pub with_split : Seen → Seen
with_split s = record s { view = left s.view }

-- it has one sender more
abbrev pub with_slow_sender : AppSender → Worker → Worker
with_slow_sender s w = record w { senders = w.senders ++ s ∷ [] }

-- an application was added: it has a pass that was split off, and the worker a sender for it
abbrev pub with_app : AppSender → Worker → Worker
with_app s w = record w { pass = with_split w.pass; senders = w.senders ++ s ∷ [] }

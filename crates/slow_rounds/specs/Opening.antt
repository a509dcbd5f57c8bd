-- A flow that an application opens alone, and a socket that changes hands.
use Rattle.std.specs.Prelude.{◌≡◌, ℕ, cond}
use Rattle.tas_num.specs.declared.seq.Seq.{Seq}
use Rattle.tas_model.specs.declared.entry.Caller.TheVariants.{App}
use Rattle.tas_model.specs.declared.entry.FlowId.{FlowId}
use Rattle.tas_model.specs.declared.entry.FourTuple.{FourTuple}
use Rattle.host_rounds.specs.Hosts.{Holder}
use Rattle.flow_lock.specs.Orders.{same_flow}
use Rattle.libtas_sockets.specs.Connecting.{IsOpened, first_history, opener}
use Rattle.slow_worker.specs.Workers.{Worker}
use Rattle.host_books.specs.Books.{Book}

-- The next flow was opened for a connect of this application, with these ends and this first number. A port and a
-- number may have been given, and the flow may be known now.
pub record IsOpening (tuple : FourTuple) (iss : Seq) (tick app : ℕ) (id : FlowId) (v w : Worker) : Type 0 where
  pub opened : IsOpened id (first_history tuple v.path.params (App app) tick iss) (opener v.pass v.pins)
      (opener w.pass w.pins)
  pub path : w.path ≡ record (v.path) { ports = w.path.ports; next_iss = w.path.next_iss }
  pub rest : w ≡ record v { path = w.path; pass = w.pass; pins = w.pins; flows = w.flows; index = w.index }

-- the flow has this holder, and each other flow its own
abbrev pub reheld_as : FlowId → Holder → Book → Holder
reheld_as id x b = cond (same_flow b.id id) x b.holder

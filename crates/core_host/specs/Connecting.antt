-- An application connects alone.
use Rattle.std.specs.Prelude.{◌≡◌, ℕ, ◌+◌, ◌^◌, true, false, length, nat_lt, None, Some, IsSome}
use Rattle.tas_num.specs.declared.seq.Seq.{Seq}
use Rattle.tas_model.specs.declared.entry.Call.TheVariants as calls
use Rattle.tas_model.specs.declared.entry.Caller.TheVariants as callers
use Rattle.tas_model.specs.declared.entry.FlowId.{FlowId}
use Rattle.tas_model.specs.declared.entry.FourTuple.{FourTuple}
use Rattle.flow_lock.specs.Answers.{next_in}
use Rattle.host_rounds.specs.Hosts as hosts
use Rattle.host_rounds.specs.Hosts.{Host, Starts, first_port, ports_given, lowest_free, next_start, first_entry}
use Rattle.host_rounds.specs.Hosts.{opened_in}
use Rattle.host_rounds.specs.declared.opening.Start.{Start}
use Rattle.libtas_sockets.specs.Apps.{Application, IsSocket, socket_on}
use Rattle.libtas_sockets.specs.Connecting.{first_history, numbers_given, opener}
use Rattle.libtas_sockets.specs.Opening.{IsOpenedAlone}
use Rattle.slow_worker.specs.Workers.{Worker}
use Rattle.core_host.specs.Asking.{IsAsked}
use Rattle.core_host.specs.Views.{Staffed, seen_by}
use Rattle.local_host.specs.declared.host.Connecting.{Connecting}
use Rattle.local_host.specs.declared.host.Connecting.TheVariants.{Opened, NoSlot, NoPort}

-- ----- in a run
-- The answer is the connect's, and so is what it left: the slot is looked at first, and then the port.
abbrev pub IsConnecting : Starts → (tick app raddr rport : ℕ) → (before after : Staffed) → Connecting → Type 0
IsConnecting starts t app raddr rport before after NoSlot = (lowest_free (seen_by before) ≡ None) × (after ≡ before)
IsConnecting starts t app raddr rport before after NoPort =
    IsSome (lowest_free (seen_by before))
    × (nat_lt (first_port + ports_given (seen_by before)) (2 ^ 16) ≡ false)
    × (after ≡ before)
IsConnecting starts t app raddr rport before after (Opened place) =
    let port : ℕ = first_port + ports_given (seen_by before) in
    let tuple : FourTuple =
    record { laddr = (seen_by before).params.addr; lport = port; raddr = raddr; rport = rport } in
    let start : Start = next_start starts (seen_by before) tuple in
    (slot : ℕ) × (lowest_free (seen_by before) ≡ Some slot) × (nat_lt port (2 ^ 16) ≡ true)
    × (place ≡ length (seen_by before).flows)
    × IsAsked app (λ (host : Host). opened_in host slot tuple start.scale (hosts.Application app)
    (first_entry (callers.App app) t (calls.Connect start.number))) before after

-- ----- of the workers
-- a slot is free, and none of the application's sockets is on it
abbrev pub IsSlotFree : Worker → Application → Type 0
IsSlotFree w a =
    (id : FlowId) × (next_in w.pass.view.marks ≡ Some id) × (¬ IsSocket a (socket_on id))

-- A flow was opened and pinned alone, and a port and a first number were given.
pub record HasOpened (tuple : FourTuple) (iss : Seq) (tick : ℕ) (id : FlowId) (a b : Application) (v w : Worker)
    : Type 0 where
  pub opened : IsOpenedAlone id (first_history tuple v.path.params (callers.App a.number) tick iss) a b
      (opener v.pass v.pins) (opener w.pass w.pins)
  pub path : w.path ≡ numbers_given v.path
  pub rest : w ≡ record v { path = w.path; pass = w.pass; pins = w.pins }

-- What the workers of a host, and its applications, may do next.
use Rattle.std.specs.Prelude.{◌≡◌, ℕ, true, false, List, [], Some, All}
use Rattle.host_rounds.specs.Lists.{Each}
use Rattle.flow_lock.specs.Callers.{IsTurned}
use Rattle.flow_lock.specs.Steps.{HasTurn}
use Rattle.context_queue.specs.Notes.{Place}
use Rattle.core_worker.specs.Telling.{queue_of}
use Rattle.core_worker.specs.Workers as cores
use Rattle.slow_worker.specs.Kicking.{CanKick}
use Rattle.slow_worker.specs.Clocks.{HasRisen}
use Rattle.slow_worker.specs.Workers as slow
use Rattle.libtas_sockets.specs.Apps.{Application, IsSocket}
use Rattle.libtas_sockets.specs.declared.socket.Socket.{Socket}
use Rattle.host_tests.specs.declared.hosts.Client.{Client}
use Rattle.host_tests.specs.declared.hosts.Clients.{Clients}
use Rattle.host_tests.specs.declared.hosts.Cores.{Cores}
use Rattle.host_tests.specs.declared.hosts.Host.{Host}

-- ----- cores
abbrev pub IsCore : cores.Common → cores.Worker → Type 0
IsCore c w = cores.IsFree c w × cores.HasQueue c w × cores.HasSenders c w

-- so each of them is, as it comes from where they were made
abbrev pub AreEach : cores.Common → List cores.Worker → Type 0
AreEach c ws = Each (cores.IsFree c) ws × Each (cores.HasQueue c) ws × Each (cores.HasSenders c) ws

-- all of a host may have a turn
pub record AreWorking (c : cores.Common) (ws : List cores.Worker) : Type 0 where
  pub each : All (IsCore c) ws

-- all of a host, with a pass to its steering
abbrev pub AreCores : cores.Common → Cores → Type 0
AreCores c x = (x.steer.place ≡ c.steering) × All (IsCore c) x.workers.items

-- ----- the slow path
-- the one tick of the slow path in these tests
abbrev pub the_tick : ℕ
the_tick = 1

-- it may have a turn in that tick, as often as it wants
pub record IsSlow (c : cores.Common) (w : slow.Worker) : Type 0 where
  pub sound : slow.IsSound c.table (slow.sight_of w)
  pub risen : HasRisen the_tick w.time
  pub senders : slow.HasSenders c w
  pub kickers : CanKick c w.kickers

-- it may have a turn in some tick
pub record MayTurn (c : cores.Common) (tick : ℕ) (w : slow.Worker) : Type 0 where
  pub sound : slow.IsSound c.table (slow.sight_of w)
  pub risen : HasRisen tick w.time
  pub senders : slow.HasSenders c w
  pub kickers : CanKick c w.kickers

-- no application was added, and two may be
pub record IsFresh (c : cores.Common) (w : slow.Worker) : Type 0 where
  pub slow : IsSlow c w
  pub turn : HasTurn w.pass.view
  pub baton : w.pass.view.baton ≡ true
  pub parts : w.pass.view.parts ≡ 4095
  pub queues : c.queues ≡ []

-- ----- applications
-- it has a turn, and the queue with its number
abbrev pub IsApp : cores.Common → (number : ℕ) → Application → Type 0
IsApp c number a =
    IsTurned c.table a.pass × ((q : Place) × (queue_of number c.queues ≡ Some q) × (a.notes.line ≡ q.line))

-- it has these two sockets
abbrev pub IsClient : cores.Common → (number : ℕ) → Application → Socket × Socket → Type 0
IsClient c number a sockets = IsApp c number a × IsSocket a sockets.0 × IsSocket a sockets.1

-- it is application 0, and a task of it reads from this socket
abbrev pub IsReading : cores.Common → Socket → Application → Type 0
IsReading c s a = IsApp c 0 a × IsSocket a s

-- so it has, of its own
abbrev pub IsTalking : cores.Common → (number : ℕ) → Client → Type 0
IsTalking c number x = IsClient c number x.app x.sockets

-- both are so
abbrev pub AreApps : cores.Common → Clients → Type 0
AreApps c x = IsApp c 0 x.first.app × IsApp c 1 x.second.app

abbrev pub AreTalking : cores.Common → Clients → Type 0
AreTalking c x = IsTalking c 0 x.first × IsTalking c 1 x.second

-- what was a socket still is one
abbrev pub KeepsSockets : Application → Application → Type 0
KeepsSockets a b = (s : Socket) → IsSocket a s → IsSocket b s

-- ----- a host
-- the slow path and all cores may have their turns
abbrev pub AreReady : cores.Common → slow.Worker → Cores → Type 0
AreReady c w x = IsSlow c w × AreCores c x

-- and both applications are there
abbrev pub IsHost : cores.Common → Host → Type 0
IsHost c h = AreReady c h.slow h.cores × AreApps c h.clients

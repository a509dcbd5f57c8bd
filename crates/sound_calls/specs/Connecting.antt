-- A flow that was opened for an application that connects.
use Rattle.std.specs.Prelude.{◌≡◌, ℕ, ◌+◌, true, false, List, [], ◌∷◌, ◌++◌, length, slice_set}
use mathlib.Core.Option as O
use lib.ListN.{get_elem?}
use Rattle.tas_num.specs.declared.seq.Seq.{Seq}
use Rattle.tas_model.specs.declared.entry.Caller.TheVariants as callers
use Rattle.tas_model.specs.declared.entry.FlowId.{FlowId}
use Rattle.host_rounds.specs.Hosts as hosts
use Rattle.flow_lock.specs.Orders.{at_slot, pins_at}
use Rattle.flow_lock.specs.Steps.{IsAlone, mark}
use Rattle.flow_lock.specs.Words.{flag, mark_of}
use Rattle.flow_lock.specs.declared.view.History.{History}
use Rattle.flow_lock.specs.declared.view.View.{View}
use Rattle.flow_lock.specs.declared.word.Word.{Word}
use Rattle.slow_worker.specs.Opening.{IsIndexed}
use Rattle.slow_worker.specs.Workers.{Worker}
use Rattle.libtas_sockets.specs.Apps.{Application}
use Rattle.libtas_sockets.specs.Connecting.{first_history, next_tuple, numbers_given, opener}
use Rattle.libtas_sockets.specs.Opening.{IsOpenedAlone}
use Rattle.sound_hosts.specs.Hosts.{CoreHost}
use Rattle.sound_hosts.specs.Opening.{new_book}

-- the history that this application's connect begins
abbrev pub begun_history : (app raddr rport tick : ℕ) → CoreHost → History
begun_history app raddr rport tick h =
    first_history (next_tuple h.slow.path raddr rport) h.slow.path.params (callers.App app) tick h.slow.path.next_iss

-- What the slow path's view knows after the barrier: the flow has its history, its slot's mark that a flow stands
-- there, and its word two pins more, of the slow path and of the application; the words have the marks, and none is
-- busy.
pub record IsOpenedIn (id : FlowId) (k : History) (v w : View) : Type 0 where
  pub alone : IsAlone w
  pub slow : w.slow ≡ v.slow
  pub base : w.base ≡ record { flow = id; history = k } ∷ v.base
  pub marks : w.marks ≡ slice_set v.marks id.slot (mark id.generation true false)
  pub wide : length w.words ≡ length v.words
  pub told : (i : ℕ) (x : Word) → get_elem? w.words i ≡ O.some x → get_elem? w.marks i ≡ O.some (mark_of x)
  pub idle : (i : ℕ) (x : Word) → get_elem? w.words i ≡ O.some x → flag x.busy ≡ 0
  pub pins : (i : ℕ) → pins_at w.words i ≡ pins_at v.words i + (at_slot i id + at_slot i id)

-- And what its worker has: a port and a first number were given, the pin is among its own, and the flow is known and
-- shown.
pub record IsOpenedBy (id : FlowId) (k : History) (v w : Worker) : Type 0 where
  pub view : IsOpenedIn id k v.pass.view w.pass.view
  pub path : w.path ≡ numbers_given v.path
  pub pins : w.pins ≡ v.pins ++ id ∷ []
  pub flows : w.flows ≡ v.flows ++ record { tuple = k.tuple; id = id } ∷ []
  pub indexed : IsIndexed k.tuple id v.index w.index
  pub rest : w ≡ record v { path = w.path; pass = w.pass; pins = w.pins; flows = w.flows; index = w.index }

-- The application has a socket of it, and no turn.
pub record HasConnected (id : FlowId) (a b : Application) : Type 0 where
  pub number : b.number ≡ a.number
  pub own : b.pass.table ≡ a.pass.table
  pub turns : b.pass.view.turns ≡ []
  pub begun : b.begun ≡ a.begun
  pub sockets : b.sockets ≡ a.sockets ++ id ∷ []

-- What a connect from the next port did where nobody had a turn, with this first number: a port and a first number were
-- given, and the flow is known and shown.
pub record HasConnectedAlone (id : FlowId) (raddr rport : ℕ) (iss : Seq) (tick : ℕ) (a b : Application) (v w : Worker)
    : Type 0 where
  pub opened : IsOpenedAlone id
      (first_history (next_tuple v.path raddr rport) v.path.params (callers.App a.number) tick iss) a b
      (opener v.pass v.pins) (opener w.pass w.pins)
  pub path : w.path ≡ numbers_given v.path
  pub flows : w.flows ≡ v.flows ++ record { tuple = next_tuple v.path raddr rport; id = id } ∷ []
  pub indexed : IsIndexed (next_tuple v.path raddr rport) id v.index w.index
  pub rest : w ≡ record v { path = w.path; pass = w.pass; pins = w.pins; flows = w.flows; index = w.index }

abbrev pub after_connecting : FlowId → (front : List Application) → Application → (back : List Application) → Worker
    → CoreHost → CoreHost
after_connecting id front b back w h = record h {
  slow = w;
  apps = front ++ b ∷ back;
  books = h.books ++ new_book id (hosts.Application b.number) ∷ [];
}

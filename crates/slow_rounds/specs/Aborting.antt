-- Flows that the slow path aborts.
use Rattle.std.specs.Prelude.{ℕ, cond, [], List}
use Rattle.tas_model.specs.declared.entry.Call.TheVariants as calls
use Rattle.tas_model.specs.declared.entry.Caller.TheVariants.{Slow}
use Rattle.tas_model.specs.declared.entry.FlowId.{FlowId}
use Rattle.host_rounds.specs.Hosts.{Live, GivenUp, with_call}
use Rattle.flow_lock.specs.Passes.{Seen}
use Rattle.libtas_sockets.specs.Apps.{Application}
use Rattle.sound_hosts.specs.Hosts.{CoreHost, is_holder}
use Rattle.sound_hosts.specs.Leaving.{books_left}
use Rattle.slow_rounds.specs.SoFar.{is_in}

-- one of these flows has an Abort by the slow path
abbrev pub aborted_in : List FlowId → (tick : ℕ) → Live → Live
aborted_in fs t l = cond (is_in fs l.flow.id) (with_call l Slow t calls.Abort []) l

-- one that the application has, has it, and is nobody's then
abbrev pub given_up_by : (app tick : ℕ) → Live → Live
given_up_by app t l = cond (is_holder app l.holder) (record (with_call l Slow t calls.Abort []) { holder = GivenUp }) l

-- The host whose slow path has this pass, and of which the application gave up its sockets.
abbrev pub left_alone : Application → Seen → CoreHost → CoreHost
left_alone a n h = record h {
  slow = record (h.slow) { pass = n };
  books = books_left a.number a.sockets h.books;
}

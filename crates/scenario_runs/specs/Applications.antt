-- What an application of a scenario asks of its host: one call in a tick, as the step says that is under way.
use Rattle.std.specs.Prelude.{ℕ, ◌+◌, ◌-◌, ◌%◌, ◌==◌, ◌&&◌, not, Bool, true, false, List, [], ◌∷◌, ◌++◌, length, take}
use Rattle.std.specs.Prelude.{drop, map, filter, min, nat_lt, ◌^◌, position, bytes_eq}
use Rattle.std.specs.Prelude.{Option, Some, None, if◌then◌else◌}
use Rattle.std.specs.List.{list_any, range_with_len}
use Rattle.tas_model.specs.declared.entry.FourTuple.{FourTuple}
use Rattle.tas_model.specs.declared.entry.Caller.TheVariants.{Slow, App}
use Rattle.tas_model.specs.declared.entry.Call.{Call}
use Rattle.tas_model.specs.declared.entry.Call.TheVariants as calls
use Rattle.tas_model.specs.declared.entry.Reply.{Reply}
use Rattle.tas_model.specs.declared.entry.Reply.TheVariants as replies
use Rattle.host_rounds.specs.declared.opening.Start.{Start}
use Rattle.host_rounds.specs.declared.log.LogEvent.TheVariants as events
use Rattle.host_rounds.specs.Hosts.{Live, Host, Holder, Waiting, Application, GivenUp, Listener, Starts, next_start}
use Rattle.host_rounds.specs.Hosts.{is_over, with_call, logged, at_flow, lowest_free}
use Rattle.host_rounds.specs.Hosts.{first_entry, opened_in, is_listened, is_ready, first_port, ports_given, answer_of}
use Rattle.scenario_text.specs.declared.scenario.Step.{Step}
use Rattle.scenario_text.specs.declared.scenario.Step.TheVariants as steps

-- ----- an application
-- What a name of its script stands for: a listener by its port, or the socket of a flow by its opening number.
pub data Bound : Type 0 where
  AListener : (port : ℕ) → Bound
  ASocket : (flow : ℕ) → Bound

pub record Script : Type 0 where
  pub number : ℕ  -- among all applications of the scenario, from 0 on
  pub kill : Option ℕ  -- the tick in which it is killed
  pub left : List Step  -- the steps that are not over; the first is under way
  pub done : ℕ  -- how much of that one is done: ticks waited, bytes taken or received
  pub begun : Bool  -- its connect was made
  pub names : List (List ℕ × Bound)

-- A host and one of its applications.
pub record Turn : Type 0 where
  pub host : Host
  pub script : Script

abbrev pub has_ended : Script → Bool
has_ended s = elim s.left [ [] ↦ true | step ∷ rest ↦ false ]

-- ----- names
abbrev pub bound_in : List (List ℕ × Bound) → (name : List ℕ) → Option Bound
bound_in [] name = None
bound_in (b ∷ bs) name = elim (bytes_eq b.0 name) [ true ↦ Some b.1 | false ↦ bound_in bs name ]

abbrev pub port_of : Option Bound → Option ℕ
port_of (Some (AListener port)) = Some port
port_of _ = None

abbrev pub flow_of : Option Bound → Option ℕ
flow_of (Some (ASocket n)) = Some n
flow_of _ = None

abbrev pub bind : (name : List ℕ) → Bound → Script → Script
bind name b s = record s { names = s.names ++ (name, b) ∷ [] }

abbrev pub unbind : (name : List ℕ) → Script → Script
unbind name s = record s { names = filter (λ (b : List ℕ × Bound). not (bytes_eq b.0 name)) s.names }

-- ----- steps
abbrev pub stepped : Script → Script
stepped s = record s { left = drop 1 s.left; done = 0; begun = false }

-- the step is over where the test says so, and else so much of it is done
abbrev pub done_or : (over : Bool) → (done : ℕ) → Script → Script
done_or over done s = if over then stepped s else record s { done = done }

-- the application makes this call on the flow
abbrev pub called : (flow : ℕ) → (tick : ℕ) → Call → (offer : List ℕ) → Turn → Turn
called n t call offer x =
    record x { host = at_flow n (λ (l : Live). with_call l (App x.script.number) t call offer) x.host }

-- it has the socket of the flow, or gave it up
abbrev pub holds : (flow : ℕ) → Holder → Turn → Turn
holds n holder x = record x { host = at_flow n (λ (l : Live). record l { holder = holder }) x.host }

abbrev pub on_script : (Script → Script) → Turn → Turn
on_script f x = record x { script = f x.script }

-- ----- listen, accept
abbrev pub listens_where : (taken : Bool) → (tick : ℕ) → (name : List ℕ) → (port : ℕ) → Turn → Turn
listens_where true t name port x =
    on_script stepped (record x { host = logged x.host t (events.Listen x.script.number port false) })
listens_where false t name port x =
    on_script (λ (s : Script). stepped (bind name (AListener port) s)) (record x {
      host = record (logged x.host t (events.Listen x.script.number port true)) {
        listeners = x.host.listeners ++ (record { port = port; app = x.script.number }) ∷ [];
      };
    })

-- refused where another listener has the port
abbrev pub listens : (tick : ℕ) → (name : List ℕ) → (port : ℕ) → Turn → Turn
listens t name port x = listens_where (is_listened port x.host) t name port x

abbrev pub accepts_one : (ready : Option ℕ) → (tick : ℕ) → (socket : List ℕ) → (port : ℕ) → Turn → Turn
accepts_one None t socket port x = record x { host = logged x.host t (events.AcceptNotYet x.script.number port) }
accepts_one (Some n) t socket port x =
    on_script (λ (s : Script). stepped (bind socket (ASocket n) s)) (holds n (Application x.script.number)
    (called n t calls.Accept [] x))

-- of those the one that was opened first
abbrev pub accepts : (port : Option ℕ) → (tick : ℕ) → (socket : List ℕ) → Turn → Turn
accepts None t socket x = on_script stepped x
accepts (Some port) t socket x = accepts_one (position (is_ready port) x.host.flows) t socket port x

-- ----- connect
abbrev pub refused : (no_port : Bool) → (tick raddr rport : ℕ) → Turn → Turn
refused no_port t raddr rport x =
    on_script stepped (record x { host = logged x.host t (events.ConnectRefused x.script.number raddr rport no_port) })

abbrev pub opens : Starts → (slot tick : ℕ) → (socket : List ℕ) → FourTuple → Turn → Turn
opens starts slot t socket tuple x =
    let start : Start = next_start starts x.host tuple in
    record {
      host =
          opened_in x.host slot tuple start.scale (Application x.script.number)
          (first_entry (App x.script.number) t (calls.Connect start.number));
      script = record (bind socket (ASocket (length x.host.flows)) x.script) { begun = true };
    }

abbrev pub opens_where : (left : Bool) → Starts → (slot port tick : ℕ) → (socket : List ℕ)
    → (raddr rport : ℕ) → Turn → Turn
opens_where true starts slot port t socket raddr rport x =
    opens starts slot t socket (record { laddr = x.host.params.addr; lport = port; raddr = raddr; rport = rport }) x
opens_where false starts slot port t socket raddr rport x = refused true t raddr rport x

-- The slot is looked at first, and then the port.
abbrev pub connects : Starts → (free : Option ℕ) → (tick : ℕ) → (socket : List ℕ) → (raddr rport : ℕ) → Turn → Turn
connects starts None t socket raddr rport x = refused false t raddr rport x
connects starts (Some slot) t socket raddr rport x =
    let port : ℕ = first_port + ports_given x.host in
    opens_where (nat_lt port (2 ^ 16)) starts slot port t socket raddr rport x

abbrev pub is_not_yet : Reply → Bool
is_not_yet replies.NotYet = true
is_not_yet _ = false

-- a call whose step stays while the answer is NotYet
abbrev pub waits_for : (flow : ℕ) → (tick : ℕ) → Call → Turn → Turn
waits_for n t call x =
    let after : Turn = called n t call [] x in
    on_script (λ (s : Script). if is_not_yet (answer_of n after.host) then s else stepped s) after

-- ----- send, recv
-- At most so many bytes are offered or asked in one call.
abbrev pub most : ℕ
most = 65536

-- Send goes on with the rest until all is taken, or another answer comes than bytes or NotYet.
abbrev pub sent_on : Reply → (all : ℕ) → Script → Script
sent_on (replies.Took bytes) all s = done_or (s.done + length bytes == all) (s.done + length bytes) s
sent_on replies.NotYet all s = s
sent_on _ all s = stepped s

abbrev pub sends : (flow : ℕ) → (tick : ℕ) → (bytes : List ℕ) → Turn → Turn
sends n t bytes x =
    let offer : List ℕ = take most (drop x.script.done bytes) in
    let after : Turn = called n t (calls.Send (length offer)) offer x in
    on_script (sent_on (answer_of n after.host) (length bytes)) after

-- Recv goes on until so many bytes came, or another answer than bytes or NotYet.
abbrev pub received_on : Reply → (all : Option ℕ) → Script → Script
received_on (replies.Got bytes update) None s = s
received_on (replies.Got bytes update) (Some all) s = done_or (s.done + length bytes == all) (s.done + length bytes) s
received_on replies.NotYet all s = s
received_on _ all s = stepped s

abbrev pub asks_for : (all : Option ℕ) → (done : ℕ) → ℕ
asks_for None done = most
asks_for (Some all) done = min most (all - done)

abbrev pub receives : (flow : ℕ) → (tick : ℕ) → (all : Option ℕ) → Turn → Turn
receives n t all x =
    let after : Turn = called n t (calls.Recv (asks_for all x.script.done)) [] x in
    on_script (received_on (answer_of n after.host) all) after

-- the bytes of `fill`: the k-th is k mod 251
abbrev pub filling : (count : ℕ) → List ℕ
filling count = map (λ (k : ℕ). k % 251) (range_with_len 0 count)

-- ----- shut, close, abort
-- one call, after which the step is over
abbrev pub once : (flow : ℕ) → (tick : ℕ) → Call → Turn → Turn
once n t call x = on_script stepped (called n t call [] x)

-- and the socket is given up
abbrev pub ends : (flow : ℕ) → (tick : ℕ) → Call → (socket : List ℕ) → Turn → Turn
ends n t call socket x = on_script (λ (s : Script). stepped (unbind socket s)) (holds n GivenUp (called n t call [] x))

-- ----- one step
-- A step on a name without a socket is over in one tick without a call.
abbrev pub on_flow : Option ℕ → ((flow : ℕ) → Turn → Turn) → Turn → Turn
on_flow None act x = on_script stepped x
on_flow (Some n) act x = act n x

abbrev pub on_socket : (socket : List ℕ) → ((flow : ℕ) → Turn → Turn) → Turn → Turn
on_socket socket act x = on_flow (flow_of (bound_in x.script.names socket)) act x

-- Connect opens the flow, and asks Ready from the next tick on until the answer is another than NotYet.
abbrev pub connects_on : Starts → (begun : Bool) → (tick : ℕ) → (socket : List ℕ) → (raddr rport : ℕ) → Turn → Turn
connects_on starts false t socket raddr rport x = connects starts (lowest_free x.host) t socket raddr rport x
connects_on starts true t socket raddr rport x = on_socket socket (λ (n : ℕ). waits_for n t calls.Ready) x

-- `address` tells the address of a host by its name.
abbrev pub step_of : Starts → (address : List ℕ → ℕ) → (tick : ℕ) → Step → Turn → Turn
step_of starts address t (steps.Listen name port) x = listens t name port x
step_of starts address t (steps.Accept socket listener) x =
    accepts (port_of (bound_in x.script.names listener)) t socket x
step_of starts address t (steps.Connect socket host port) x =
    connects_on starts x.script.begun t socket (address host) port x
step_of starts address t (steps.Send socket text) x = on_socket socket (λ (n : ℕ). sends n t text) x
step_of starts address t (steps.Fill socket count) x = on_socket socket (λ (n : ℕ). sends n t (filling count)) x
step_of starts address t (steps.Recv socket count) x = on_socket socket (λ (n : ℕ). receives n t (Some count)) x
step_of starts address t (steps.Drain socket) x = on_socket socket (λ (n : ℕ). receives n t None) x
step_of starts address t (steps.Shut socket) x = on_socket socket (λ (n : ℕ). once n t calls.Shut) x
step_of starts address t (steps.Close socket) x = on_socket socket (λ (n : ℕ). ends n t calls.Close socket) x
step_of starts address t (steps.Abort socket) x = on_socket socket (λ (n : ℕ). ends n t calls.Abort socket) x
step_of starts address t (steps.Wait ticks) x =
    on_script (λ (s : Script). done_or (s.done + 1 == ticks) (s.done + 1) s) x

-- ----- a kill
abbrev pub has_listener : (app port : ℕ) → Host → Bool
has_listener app port host = list_any (λ (l : Listener). l.app == app && l.port == port) host.listeners

-- The kill concerns the flows of the application's sockets, and those that wait at its listeners and are not closed.
abbrev pub is_concerned : (app : ℕ) → Host → Live → Bool
is_concerned app host l =
    elim l.holder [
      | Application other ↦ other == app
      | Waiting ↦ not (is_over l) && has_listener app l.flow.tuple.lport host
      | GivenUp ↦ false
    ]

abbrev pub let_go : Holder → Holder
let_go (Application app) = GivenUp
let_go holder = holder

abbrev pub aborted_where : (concerned : Bool) → (tick : ℕ) → Live → Live
aborted_where true t l = record (with_call l Slow t calls.Abort []) { holder = let_go l.holder }
aborted_where false t l = l

-- Each of these flows has one Abort by the slow path, and its listeners go. The script has ended.
abbrev pub killed : (tick : ℕ) → Turn → Turn
killed t x =
    record {
      host = record x.host {
        listeners = filter (λ (l : Listener). not (l.app == x.script.number)) x.host.listeners;
        flows = map (λ (l : Live). aborted_where (is_concerned x.script.number x.host l) t l) x.host.flows;
      };
      script = record x.script { left = []; names = [] };
    }

-- ----- a tick
abbrev pub is_killed_at : (tick : ℕ) → Option ℕ → Bool
is_killed_at t None = false
is_killed_at t (Some at) = at == t

abbrev pub goes_on : Starts → (address : List ℕ → ℕ) → (tick : ℕ) → List Step → Turn → Turn
goes_on starts address t [] x = x
goes_on starts address t (step ∷ rest) x = step_of starts address t step x

abbrev pub turn_where : (killed_now : Bool) → Starts → (address : List ℕ → ℕ) → (tick : ℕ) → Turn → Turn
turn_where true starts address t x = killed t x
turn_where false starts address t x = goes_on starts address t x.script.left x

-- What the application asks in this tick: it is killed, or makes the call of its step; one that has ended asks nothing.
abbrev pub turn : Starts → (address : List ℕ → ℕ) → (tick : ℕ) → Turn → Turn
turn starts address t x = turn_where (is_killed_at t x.script.kill) starts address t x

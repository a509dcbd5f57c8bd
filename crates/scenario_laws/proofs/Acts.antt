-- What the turn of an application that is not killed does to its host and its names: at most one act.
use Rattle.std.proofs.Common.{◌≡◌, ℕ, ◌+◌, ◌==◌, ◌^◌, not, Bool, true, false, List, [], ◌∷◌, ◌++◌, length, filter}
use Rattle.std.proofs.Common.{position, nat_lt, bytes_eq, Option, Some, None, if◌then◌else◌, refl}
use Rattle.tas_model.specs.declared.entry.FourTuple.{FourTuple}
use Rattle.tas_model.specs.declared.entry.Caller.TheVariants.{App}
use Rattle.tas_model.specs.declared.entry.Call.{Call}
use Rattle.tas_model.specs.declared.entry.Call.TheVariants as calls
use Rattle.tas_model.specs.declared.entry.Reply.{Reply}
use Rattle.tas_model.specs.declared.entry.Reply.TheVariants as replies
use Rattle.host_rounds.specs.declared.opening.Start.{Start}
use Rattle.host_rounds.specs.declared.log.LogEvent.{LogEvent}
use Rattle.host_rounds.specs.declared.log.LogEvent.TheVariants as events
use Rattle.host_rounds.specs.Hosts.{Live, Host, Application, GivenUp, Starts, next_start, with_call, logged, at_flow}
use Rattle.host_rounds.specs.Hosts.{is_listened, is_ready, lowest_free, first_port, ports_given, first_entry, opened_in}
use Rattle.scenario_text.specs.declared.scenario.Step.{Step}
use Rattle.scenario_text.specs.declared.scenario.Step.TheVariants as steps
use Rattle.scenario_runs.specs.Applications.{Bound, AListener, ASocket, Script, Turn, stepped, done_or, listens_where}
use Rattle.scenario_runs.specs.Applications.{accepts_one, accepts, opens_where, connects, sent_on, received_on, sends}
use Rattle.scenario_runs.specs.Applications.{receives, filling, on_flow, on_socket, connects_on, step_of, bound_in}
use Rattle.scenario_runs.specs.Applications.{flow_of, port_of}

pub data Act : Type 0 where
  Rests : Act
  Calls : (flow : ℕ) → Call → (offer : List ℕ) → Act
  Accepts : (flow : ℕ) → Act
  Connects : (slot : ℕ) → FourTuple → Act
  GivesUp : (flow : ℕ) → Call → Act
  Notes : LogEvent → Act
  Listens : (port : ℕ) → Act

-- what the act of the application with this number leaves of the host
abbrev pub leaves : Starts → (tick number : ℕ) → Host → Act → Host
leaves starts t n host Rests = host
leaves starts t n host (Calls k call offer) = at_flow k (λ (l : Live). with_call l (App n) t call offer) host
leaves starts t n host (Accepts k) =
    at_flow k (λ (l : Live). record l { holder = Application n })
    (at_flow k (λ (l : Live). with_call l (App n) t calls.Accept []) host)
leaves starts t n host (Connects slot tuple) =
    let start : Start = next_start starts host tuple in
    opened_in host slot tuple start.scale (Application n) (first_entry (App n) t (calls.Connect start.number))
leaves starts t n host (GivesUp k call) =
    at_flow k (λ (l : Live). record l { holder = GivenUp })
    (at_flow k (λ (l : Live). with_call l (App n) t call []) host)
leaves starts t n host (Notes event) = logged host t event
leaves starts t n host (Listens port) =
    record (logged host t (events.Listen n port true)) {
      listeners = host.listeners ++ (record { port = port; app = n }) ∷ [];
    }

-- calls that leave the socket with its application
abbrev pub IsPlainCall : Call → Type 0
IsPlainCall calls.Ready = Unit {0}
IsPlainCall (calls.Send offered) = Unit {0}
IsPlainCall (calls.Recv most) = Unit {0}
IsPlainCall calls.Shut = Unit {0}
IsPlainCall _ = ⊥

-- and those that end it
abbrev pub IsLastCall : Call → Type 0
IsLastCall calls.Close = Unit {0}
IsLastCall calls.Abort = Unit {0}
IsLastCall _ = ⊥

-- A connect is refused for want of a port where all were given.
abbrev pub MayNote : Host → LogEvent → Type 0
MayNote host (events.Listen app port ok) = Unit {0}
MayNote host (events.AcceptNotYet app port) = Unit {0}
MayNote host (events.ConnectRefused app raddr rport true) = nat_lt (first_port + ports_given host) (2 ^ 16) ≡ false
MayNote host (events.ConnectRefused app raddr rport false) = Unit {0}
MayNote host _ = ⊥

abbrev pub MayAct : Step → Host → Act → Type 0
MayAct step host Rests = Unit {0}
MayAct step host (Calls k call offer) = IsPlainCall call
MayAct step host (Accepts k) = (port : ℕ) × (position (is_ready port) host.flows ≡ Some k)
MayAct step host (Connects slot tuple) =
    (tuple.lport ≡ first_port + ports_given host) × (nat_lt (first_port + ports_given host) (2 ^ 16) ≡ true)
MayAct step host (GivesUp k call) = IsLastCall call
MayAct step host (Notes event) = MayNote host event
MayAct step host (Listens port) = (name : List ℕ) × (step ≡ steps.Listen name port)

-- A line tells of a call of the application with this number.
abbrev pub IsLineOf : (number : ℕ) → LogEvent → Type 0
IsLineOf n (events.Listen app port ok) = app ≡ n
IsLineOf n (events.AcceptNotYet app port) = app ≡ n
IsLineOf n (events.ConnectRefused app raddr rport no_port) = app ≡ n
IsLineOf n _ = ⊥

abbrev pub NotesOwn : (number : ℕ) → Act → Type 0
NotesOwn n (Notes event) = IsLineOf n event
NotesOwn n _ = Unit {0}

-- ----- names
abbrev pub Names : Type 0
Names = List (List ℕ × Bound)

-- one of the names stands for the socket of the flow
abbrev pub IsNamed : Names → (flow : ℕ) → Type 0
IsNamed names k = (name : List ℕ) × (flow_of (bound_in names name) ≡ Some k)

-- which names the act leaves
abbrev pub MayName : Turn → Act → (after : Names) → Type 0
MayName x Rests after = after ≡ x.script.names
MayName x (Calls k call offer) after = (after ≡ x.script.names) × IsNamed x.script.names k
MayName x (Accepts k) after = (name : List ℕ) × (after ≡ x.script.names ++ (name, ASocket k) ∷ [])
MayName x (Connects slot tuple) after =
    (name : List ℕ) × (after ≡ x.script.names ++ (name, ASocket (length x.host.flows)) ∷ [])
MayName x (GivesUp k call) after =
    (name : List ℕ)
    × (flow_of (bound_in x.script.names name) ≡ Some k)
    × (after ≡ filter (λ (b : List ℕ × Bound). not (bytes_eq b.0 name)) x.script.names)
MayName x (Notes event) after = after ≡ x.script.names
MayName x (Listens port) after = (name : List ℕ) × (after ≡ x.script.names ++ (name, AListener port) ∷ [])

done_names : (over : Bool) (n : ℕ) (s : Script) → (done_or over n s).names ≡ s.names
done_names true n s = refl
done_names false n s = refl

waits_names : (b : Bool) (s : Script) → (if b then s else stepped s).names ≡ s.names
waits_names true s = refl
waits_names false s = refl

sent_names : (reply : Reply) (all : ℕ) (s : Script) → (sent_on reply all s).names ≡ s.names
sent_names (replies.Took bytes) all s = done_names (s.done + length bytes == all) (s.done + length bytes) s
sent_names replies.NotYet all s = refl
sent_names reply all s = refl

received_names : (reply : Reply) (all : Option ℕ) (s : Script) → (received_on reply all s).names ≡ s.names
received_names (replies.Got bytes update) None s = refl
received_names (replies.Got bytes update) (Some all) s =
    done_names (s.done + length bytes == all) (s.done + length bytes) s
received_names replies.NotYet all s = refl
received_names reply all s = refl

-- ----- one step
-- The step of a turn leaves this host, and these names.
pub record Acted (starts : Starts) (t : ℕ) (step : Step) (x y : Turn) : Type 0 where
  pub act : Act
  pub may : MayAct step x.host act
  pub left : y.host ≡ leaves starts t x.script.number x.host act
  pub named : MayName x act y.script.names
  pub own : NotesOwn x.script.number act

rests : (starts : Starts) (t : ℕ) (step : Step) (x y : Turn) → y.host ≡ x.host → y.script.names ≡ x.script.names
    → Acted starts t step x y
rests starts t step x y host names = record { act = Rests; may = tt; left = host; named = names; own = tt }

listens_acts : (starts : Starts) (taken : Bool) (t : ℕ) (name : List ℕ) (port : ℕ) (x : Turn)
    → Acted starts t (steps.Listen name port) x (listens_where taken t name port x)
listens_acts starts true t name port x =
    record { act = Notes (events.Listen x.script.number port false); may = tt; left = refl; named = refl; own = refl }
listens_acts starts false t name port x =
    record { act = Listens port; may = (name, refl); left = refl; named = (name, refl); own = tt }

one_acts : (starts : Starts) (ready : Option ℕ) (t : ℕ) (step : Step) (socket : List ℕ) (port : ℕ) (x : Turn)
    → position (is_ready port) x.host.flows ≡ ready
    → Acted starts t step x (accepts_one ready t socket port x)
one_acts starts None t step socket port x at =
    record { act = Notes (events.AcceptNotYet x.script.number port); may = tt; left = refl; named = refl; own = refl }
one_acts starts (Some k) t step socket port x at =
    record { act = Accepts k; may = (port, at); left = refl; named = (socket, refl); own = tt }

accepts_acts : (starts : Starts) (port : Option ℕ) (t : ℕ) (step : Step) (socket : List ℕ) (x : Turn)
    → Acted starts t step x (accepts port t socket x)
accepts_acts starts None t step socket x = rests starts t step x _ refl refl
accepts_acts starts (Some port) t step socket x =
    one_acts starts (position (is_ready port) x.host.flows) t step socket port x refl

where_acts : (starts : Starts) (left : Bool) (slot t : ℕ) (step : Step) (socket : List ℕ) (raddr rport : ℕ) (x : Turn)
    → nat_lt (first_port + ports_given x.host) (2 ^ 16) ≡ left
    → Acted starts t step x
    (opens_where left starts slot (first_port + ports_given x.host) t socket raddr rport x)
where_acts starts true slot t step socket raddr rport x left =
    record { act = Connects slot _; may = (refl, left); left = refl; named = (socket, refl); own = tt }
where_acts starts false slot t step socket raddr rport x left =
    record {
      act = Notes (events.ConnectRefused x.script.number raddr rport true);
      may = left;
      left = refl;
      named = refl;
      own = refl;
    }

connects_acts : (starts : Starts) (free : Option ℕ) (t : ℕ) (step : Step) (socket : List ℕ) (raddr rport : ℕ)
    (x : Turn) → Acted starts t step x (connects starts free t socket raddr rport x)
connects_acts starts None t step socket raddr rport x =
    record {
      act = Notes (events.ConnectRefused x.script.number raddr rport false);
      may = tt;
      left = refl;
      named = refl;
      own = refl;
    }
connects_acts starts (Some slot) t step socket raddr rport x =
    where_acts starts (nat_lt (first_port + ports_given x.host) (2 ^ 16)) slot t step socket raddr rport x refl

flow_acts : (starts : Starts) (t : ℕ) (step : Step) (o : Option ℕ) (does : ℕ → Turn → Turn) (x : Turn)
    → ((k : ℕ) → o ≡ Some k → Acted starts t step x (does k x)) → Acted starts t step x (on_flow o does x)
flow_acts starts t step None does x each = rests starts t step x _ refl refl
flow_acts starts t step (Some k) does x each = each k refl

socket_acts : (starts : Starts) (t : ℕ) (step : Step) (socket : List ℕ) (does : ℕ → Turn → Turn) (x : Turn)
    → ((k : ℕ) → flow_of (bound_in x.script.names socket) ≡ Some k → Acted starts t step x (does k x))
    → Acted starts t step x (on_socket socket does x)
socket_acts starts t step socket does x each =
    flow_acts starts t step (flow_of (bound_in x.script.names socket)) does x each

connects_on_acts : (starts : Starts) (begun : Bool) (t : ℕ) (step : Step) (socket : List ℕ) (raddr rport : ℕ)
    (x : Turn) → Acted starts t step x (connects_on starts begun t socket raddr rport x)
connects_on_acts starts false t step socket raddr rport x =
    connects_acts starts (lowest_free x.host) t step socket raddr rport x
connects_on_acts starts true t step socket raddr rport x =
    socket_acts starts t step socket _ x (λ k at. record {
      act = Calls k calls.Ready [];
      may = tt;
      left = refl;
      named = (waits_names _ x.script, (socket, at));
      own = tt;
    })

sends_acts : (starts : Starts) (t : ℕ) (step : Step) (socket bytes : List ℕ) (x : Turn)
    → Acted starts t step x (on_socket socket (λ (k : ℕ). sends k t bytes) x)
sends_acts starts t step socket bytes x = socket_acts starts t step socket _ x (λ k at. record {
  act = Calls k (calls.Send _) _;
  may = tt;
  left = refl;
  named = (sent_names _ (length bytes) x.script, (socket, at));
  own = tt;
})

receives_acts : (starts : Starts) (t : ℕ) (step : Step) (socket : List ℕ) (all : Option ℕ) (x : Turn)
    → Acted starts t step x (on_socket socket (λ (k : ℕ). receives k t all) x)
receives_acts starts t step socket all x = socket_acts starts t step socket _ x (λ k at. record {
  act = Calls k (calls.Recv _) [];
  may = tt;
  left = refl;
  named = (received_names _ all x.script, (socket, at));
  own = tt;
})

pub step_acts : (starts : Starts) (address : List ℕ → ℕ) (t : ℕ) (step : Step) (x : Turn)
    → Acted starts t step x (step_of starts address t step x)
step_acts starts address t (steps.Listen name port) x = listens_acts starts (is_listened port x.host) t name port x
step_acts starts address t (steps.Accept socket listener) x =
    accepts_acts starts (port_of (bound_in x.script.names listener)) t _ socket x
step_acts starts address t (steps.Connect socket host port) x =
    connects_on_acts starts x.script.begun t _ socket (address host) port x
step_acts starts address t (steps.Send socket text) x = sends_acts starts t _ socket text x
step_acts starts address t (steps.Fill socket count) x = sends_acts starts t _ socket (filling count) x
step_acts starts address t (steps.Recv socket count) x = receives_acts starts t _ socket (Some count) x
step_acts starts address t (steps.Drain socket) x = receives_acts starts t _ socket None x
step_acts starts address t (steps.Shut socket) x =
    socket_acts starts t _ socket _ x (λ k at. record {
      act = Calls k calls.Shut [];
      may = tt;
      left = refl;
      named = (refl, (socket, at));
      own = tt;
    })
step_acts starts address t (steps.Close socket) x =
    socket_acts starts t _ socket _ x (λ k at. record {
      act = GivesUp k calls.Close;
      may = tt;
      left = refl;
      named = (socket, at, refl);
      own = tt;
    })
step_acts starts address t (steps.Abort socket) x =
    socket_acts starts t _ socket _ x (λ k at. record {
      act = GivesUp k calls.Abort;
      may = tt;
      left = refl;
      named = (socket, at, refl);
      own = tt;
    })
step_acts starts address t (steps.Wait ticks) x =
    rests starts t _ x _ refl (done_names (x.script.done + 1 == ticks) (x.script.done + 1) x.script)

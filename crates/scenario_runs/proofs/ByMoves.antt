-- Whatever an application of a scenario asks is a row of moves.
use Rattle.std.proofs.Common.{◌≡◌, ℕ, ◌+◌, ◌==◌, ◌&&◌, not, Bool, true, false, List, [], ◌∷◌, ◌++◌, length}
use Rattle.std.proofs.Common.{map, filter, position, slice_get, nat_lt, ◌^◌, Option, Some, None, IfSome, refl, sym}
use Rattle.std.proofs.Common.{subst, ap, ◌∙◌, true≢false, arith, length-append, append_assoc}
use Rattle.std.specs.List.{find}
use Rattle.std.proofs.lemmas.List.Quantifiers.{position-Some}
use Rattle.std.proofs.lemmas.Option.{get_or_from_slice_get}
use Rattle.tas_model.specs.declared.entry.HostParams.{HostParams}
use Rattle.tas_model.specs.declared.entry.Caller.TheVariants.{Slow, App}
use Rattle.tas_model.specs.declared.entry.Call.{Call}
use Rattle.tas_model.specs.declared.entry.Call.TheVariants as calls
use Rattle.tas_model.specs.LegalHistory.{shown}
use Rattle.host_rounds.specs.declared.log.LogEvent.TheVariants as events
use Rattle.host_rounds.specs.Lists.{change_at}
use Rattle.host_rounds.specs.Hosts.{Live, Host, Application, GivenUp, Listener, Starts, endpoint}
use Rattle.host_rounds.specs.Hosts.{is_running, with_call, lowest_free}
use Rattle.host_rounds.specs.Hosts.{is_listened, is_ready, first_port, ports_given}
use Rattle.host_rounds.specs.Scripts.{Site}
use Rattle.host_rounds.specs.Moves.{Calls, Opens, Notes, Holds, Listens, MayCall, MayMove}
use Rattle.host_rounds.specs.Moves.{AreByMoves}
use Rattle.host_rounds.proofs.Steps.{accept_steps, ready_steps, send_steps, shut_steps, close_steps, abort_steps}
use Rattle.host_rounds.proofs.Steps.{recv_steps}
use Rattle.host_rounds.proofs.Rows.{Row, none, joined, with_flows}
use Rattle.scenario_text.specs.declared.scenario.Scenario.{Scenario}
use Rattle.scenario_text.specs.declared.scenario.Step.{Step}
use Rattle.scenario_text.specs.declared.scenario.Step.TheVariants as steps
use Rattle.scenario_runs.specs.Applications.{Script, Turn, called, listens_where}
use Rattle.scenario_runs.specs.Applications.{accepts_one, accepts}
use Rattle.scenario_runs.specs.Applications.{opens_where, connects, waits_for}
use Rattle.scenario_runs.specs.Applications.{sends, receives, once, ends, on_flow, on_socket}
use Rattle.scenario_runs.specs.Applications.{connects_on, step_of, is_concerned, let_go, aborted_where, killed}
use Rattle.scenario_runs.specs.Applications.{is_killed_at, goes_on, turn_where, bound_in, flow_of, port_of}
use Rattle.scenario_runs.specs.Worlds.{starts_of, address_in, asked_of, scripts_of}

-- ----- a call
-- a call that is always a step, of whatever stands there
may_there : (host : Host) (n : ℕ) (by : ℕ) (call : Call) (offer : List ℕ) → ((l : Live) → MayCall l (App by) call offer)
    → MayMove host (Calls n (App by) call offer)
may_there host n by call offer each = by_flow (slice_get host.flows n) where
  by_flow : (o : Option Live) → IfSome o (λ l. MayCall l (App by) call offer)
  by_flow None = tt
  by_flow (Some l) = each l

ready_may : (k : ℕ) (l : Live) → MayCall l (App k) calls.Ready []
ready_may k l = record { kind = tt; offers = tt; steps = λ u. ready_steps (endpoint l) u (shown (endpoint l) []) }

send_may : (k : ℕ) (offer : List ℕ) (l : Live) → MayCall l (App k) (calls.Send (length offer)) offer
send_may k offer l = record { kind = tt; offers = refl; steps = λ u. send_steps (endpoint l) u offer }

recv_may : (k n : ℕ) (l : Live) → MayCall l (App k) (calls.Recv n) []
recv_may k n l = record { kind = tt; offers = tt; steps = λ u. recv_steps (endpoint l) u n (shown (endpoint l) []) }

shut_may : (k : ℕ) (l : Live) → MayCall l (App k) calls.Shut []
shut_may k l = record { kind = tt; offers = tt; steps = λ u. shut_steps (endpoint l) u (shown (endpoint l) []) }

close_may : (k : ℕ) (l : Live) → MayCall l (App k) calls.Close []
close_may k l = record { kind = tt; offers = tt; steps = λ u. close_steps (endpoint l) u (shown (endpoint l) []) }

abort_may : (k : ℕ) (l : Live) → MayCall l (App k) calls.Abort []
abort_may k l = record { kind = tt; offers = tt; steps = λ u. abort_steps (endpoint l) u (shown (endpoint l) []) }

slow_abort_may : (l : Live) → MayCall l Slow calls.Abort []
slow_abort_may l = record { kind = tt; offers = tt; steps = λ u. abort_steps (endpoint l) u (shown (endpoint l) []) }

-- what a turn leaves of the host is a row
abbrev Moves : Starts → ℕ → Turn → Turn → Type 0
Moves starts t x y = Row starts t x.host y.host

called_row : (starts : Starts) (n t : ℕ) (call : Call) (offer : List ℕ) (x : Turn)
    → ((l : Live) → MayCall l (App x.script.number) call offer) → Moves starts t x (called n t call offer x)
called_row starts n t call offer x each =
    (Calls n (App x.script.number) call offer ∷ [], (may_there x.host n x.script.number call offer each, refl))

-- ----- listen, accept
listens_row : (starts : Starts) (taken : Bool) (t : ℕ) (name : List ℕ) (port : ℕ) (x : Turn)
    → Moves starts t x (listens_where taken t name port x)
listens_row starts true t name port x = (Notes (events.Listen x.script.number port false) ∷ [], (tt, refl))
listens_row starts false t name port x = (
  Notes (events.Listen x.script.number port true)
      ∷ Listens (x.host.listeners ++ (record { port = port; app = x.script.number }) ∷ []) ∷ [],
  (tt, (tt, refl)),
)

ready_there : (port : ℕ) (ls : List Live) (n : ℕ) (found : Option Live) → position (is_ready port) ls ≡ Some n
    → slice_get ls n ≡ found → IfSome found (λ l. is_ready port l ≡ true)
ready_there port ls n None at here = tt
ready_there port ls n (Some l) at here =
    subst (λ (m : Live). is_ready port m ≡ true) (get_or_from_slice_get ls n l l here)
    (position-Some (is_ready port) ls n l at).1

and_right : (a b : Bool) → (a && b) ≡ true → b ≡ true
and_right true b h = h
and_right false b h = absurd (true≢false (sym h))

accept_may : (k port : ℕ) (l : Live) → is_ready port l ≡ true → MayCall l (App k) calls.Accept []
accept_may k port l ready = record {
  kind = tt;
  offers = tt;
  steps = λ u. accept_steps (endpoint l) u (shown (endpoint l) []) (and_right _ (is_running l) ready);
}

accept_there : (k port : ℕ) (found : Option Live) → IfSome found (λ l. is_ready port l ≡ true)
    → IfSome found (λ l. MayCall l (App k) calls.Accept [])
accept_there k port None ready = tt
accept_there k port (Some l) ready = accept_may k port l ready

accepts_one_row : (starts : Starts) (ready : Option ℕ) (t : ℕ) (socket : List ℕ) (port : ℕ) (x : Turn)
    → position (is_ready port) x.host.flows ≡ ready → Moves starts t x (accepts_one ready t socket port x)
accepts_one_row starts None t socket port x at = (Notes (events.AcceptNotYet x.script.number port) ∷ [], (tt, refl))
accepts_one_row starts (Some n) t socket port x at =
    let may : MayMove x.host (Calls n (App x.script.number) calls.Accept []) =
    accept_there x.script.number port (slice_get x.host.flows n)
    (ready_there port x.host.flows n (slice_get x.host.flows n) at refl) in
    (Calls n (App x.script.number) calls.Accept [] ∷ Holds n (Application x.script.number) ∷ [], (may, (tt, refl)))

accepts_row : (starts : Starts) (port : Option ℕ) (t : ℕ) (socket : List ℕ) (x : Turn)
    → Moves starts t x (accepts port t socket x)
accepts_row starts None t socket x = none starts t x.host
accepts_row starts (Some port) t socket x =
    accepts_one_row starts (position (is_ready port) x.host.flows) t socket port x refl

-- ----- connect
where_row : (starts : Starts) (left : Bool) (slot port t : ℕ) (socket : List ℕ) (raddr rport : ℕ) (x : Turn)
    → lowest_free x.host ≡ Some slot
    → Moves starts t x (opens_where left starts slot port t socket raddr rport x)
where_row starts true slot port t socket raddr rport x free = (Opens slot _ x.script.number ∷ [], (free, refl))
where_row starts false slot port t socket raddr rport x free =
    (Notes (events.ConnectRefused x.script.number raddr rport true) ∷ [], (tt, refl))

connects_row : (starts : Starts) (o : Option ℕ) (t : ℕ) (socket : List ℕ) (raddr rport : ℕ) (x : Turn)
    → lowest_free x.host ≡ o
    → Moves starts t x (connects starts o t socket raddr rport x)
connects_row starts None t socket raddr rport x free =
    (Notes (events.ConnectRefused x.script.number raddr rport false) ∷ [], (tt, refl))
connects_row starts (Some slot) t socket raddr rport x free =
    where_row starts (nat_lt (first_port + ports_given x.host) (2 ^ 16)) slot
    (first_port + ports_given x.host) t socket raddr rport x free

-- ----- calls of a socket
waits_row : (starts : Starts) (n t : ℕ) (x : Turn) → Moves starts t x (waits_for n t calls.Ready x)
waits_row starts n t x = called_row starts n t calls.Ready [] x (ready_may x.script.number)

sends_row : (starts : Starts) (n t : ℕ) (bytes : List ℕ) (x : Turn) → Moves starts t x (sends n t bytes x)
sends_row starts n t bytes x = called_row starts n t (calls.Send _) _ x (send_may x.script.number _)

receives_row : (starts : Starts) (n t : ℕ) (all : Option ℕ) (x : Turn) → Moves starts t x (receives n t all x)
receives_row starts n t all x = called_row starts n t (calls.Recv _) [] x (recv_may x.script.number _)

once_row : (starts : Starts) (n t : ℕ) (x : Turn) → Moves starts t x (once n t calls.Shut x)
once_row starts n t x = called_row starts n t calls.Shut [] x (shut_may x.script.number)

ends_row : (starts : Starts) (n t : ℕ) (call : Call) (socket : List ℕ) (x : Turn)
    → ((l : Live) → MayCall l (App x.script.number) call []) → Moves starts t x (ends n t call socket x)
ends_row starts n t call socket x each = (
  Calls n (App x.script.number) call [] ∷ Holds n GivenUp ∷ [],
  (may_there x.host n x.script.number call [] each, (tt, refl)),
)

flow_row : (starts : Starts) (t : ℕ) (o : Option ℕ) (act : ℕ → Turn → Turn) (x : Turn)
    → ((n : ℕ) → Moves starts t x (act n x)) → Moves starts t x (on_flow o act x)
flow_row starts t None act x each = none starts t x.host
flow_row starts t (Some n) act x each = each n

socket_row : (starts : Starts) (t : ℕ) (socket : List ℕ) (act : ℕ → Turn → Turn) (x : Turn)
    → ((n : ℕ) → Moves starts t x (act n x)) → Moves starts t x (on_socket socket act x)
socket_row starts t socket act x each = flow_row starts t (flow_of (bound_in x.script.names socket)) act x each

-- ----- one step
connects_on_row : (starts : Starts) (begun : Bool) (t : ℕ) (socket : List ℕ) (raddr rport : ℕ) (x : Turn)
    → Moves starts t x (connects_on starts begun t socket raddr rport x)
connects_on_row starts false t socket raddr rport x =
    connects_row starts (lowest_free x.host) t socket raddr rport x refl
connects_on_row starts true t socket raddr rport x =
    socket_row starts t socket (λ (n : ℕ). waits_for n t calls.Ready) x (λ n. waits_row starts n t x)

step_row : (starts : Starts) (address : List ℕ → ℕ) (t : ℕ) (step : Step) (x : Turn)
    → Moves starts t x (step_of starts address t step x)
step_row starts address t (steps.Listen name port) x = listens_row starts (is_listened port x.host) t name port x
step_row starts address t (steps.Accept socket listener) x =
    accepts_row starts (port_of (bound_in x.script.names listener)) t socket x
step_row starts address t (steps.Connect socket host port) x =
    connects_on_row starts x.script.begun t socket (address host) port x
step_row starts address t (steps.Send socket text) x = socket_row starts t socket _ x (λ n. sends_row starts n t _ x)
step_row starts address t (steps.Fill socket count) x =
    socket_row starts t socket _ x (λ n. sends_row starts n t _ x)
step_row starts address t (steps.Recv socket count) x =
    socket_row starts t socket _ x (λ n. receives_row starts n t (Some count) x)
step_row starts address t (steps.Drain socket) x =
    socket_row starts t socket _ x (λ n. receives_row starts n t None x)
step_row starts address t (steps.Shut socket) x = socket_row starts t socket _ x (λ n. once_row starts n t x)
step_row starts address t (steps.Close socket) x =
    socket_row starts t socket _ x (λ n. ends_row starts n t calls.Close socket x (close_may x.script.number))
step_row starts address t (steps.Abort socket) x =
    socket_row starts t socket _ x (λ n. ends_row starts n t calls.Abort socket x (abort_may x.script.number))
step_row starts address t (steps.Wait ticks) x = none starts t x.host

-- ----- a kill
get_past : {X : Type 0} (pre : List X) (x : X) (xs : List X) → slice_get (pre ++ x ∷ xs) (length pre) ≡ Some x
get_past [] x xs = refl
get_past (p ∷ pre) x xs = get_past pre x xs

change_past : {X : Type 0} (f : X → X) (pre : List X) (x : X) (xs : List X)
    → change_at (length pre) f (pre ++ x ∷ xs) ≡ pre ++ f x ∷ xs
change_past f [] x xs = refl
change_past {X} f (p ∷ pre) x xs = ap (λ (zs : List X). p ∷ zs) (change_past f pre x xs)

length_push : {X : Type 0} (n : ℕ) (pre : List X) (x : X) → n ≡ length pre → n + 1 ≡ length (pre ++ x ∷ [])
length_push n pre x h = grind (arith, length-append pre (x ∷ []), h)

-- one flow of the kill
abbrev aborted : ℕ → Live → Live
aborted t l = aborted_where true t l

abort_row : (starts : Starts) (t n : ℕ) (host : Host) (pre : List Live) (l : Live) (ls : List Live) → n ≡ length pre
    → Row starts t (with_flows host (pre ++ l ∷ ls)) (with_flows host (pre ++ aborted t l ∷ ls))
abort_row starts t n host pre l ls h =
    let m : Live = with_call l Slow t calls.Abort [] in
    let here : slice_get (pre ++ l ∷ ls) n ≡ Some l = rw h (get_past pre l ls) in
    let may : MayMove (with_flows host (pre ++ l ∷ ls)) (Calls n Slow calls.Abort []) = rw here (slow_abort_may l) in
    let one : change_at n (λ (k : Live). with_call k Slow t calls.Abort []) (pre ++ l ∷ ls) ≡ pre ++ m ∷ ls =
    rw h (change_past (λ (k : Live). with_call k Slow t calls.Abort []) pre l ls) in
    let two : change_at n (λ (k : Live). record k { holder = let_go l.holder }) (pre ++ m ∷ ls) ≡ pre
    ++ aborted t l ∷ ls =
    rw h (change_past (λ (k : Live). record k { holder = let_go l.holder }) pre m ls) in
    let both : change_at n (λ (k : Live). record k { holder = let_go l.holder })
    (change_at n (λ (k : Live). with_call k Slow t calls.Abort []) (pre ++ l ∷ ls)) ≡ pre ++ aborted t l ∷ ls =
    ap (change_at n (λ (k : Live). record k { holder = let_go l.holder })) one ∙ two in
    (Calls n Slow calls.Abort [] ∷ Holds n (let_go l.holder) ∷ [], (may, (tt, ap (with_flows host) both)))

where_aborted : (starts : Starts) (b : Bool) (t n : ℕ) (host : Host) (pre : List Live) (l : Live) (ls : List Live)
    → n ≡ length pre
    → Row starts t (with_flows host (pre ++ l ∷ ls)) (with_flows host (pre ++ aborted_where b t l ∷ ls))
where_aborted starts true t n host pre l ls h = abort_row starts t n host pre l ls h
where_aborted starts false t n host pre l ls h = none starts t (with_flows host (pre ++ l ∷ ls))

flows_aborted : (starts : Starts) (test : Live → Bool) (t n : ℕ) (host : Host) (pre ls : List Live) → n ≡ length pre
    → Row starts t (with_flows host (pre ++ ls))
    (with_flows host (pre ++ map (λ (l : Live). aborted_where (test l) t l) ls))
flows_aborted starts test t n host pre [] h = none starts t (with_flows host (pre ++ []))
flows_aborted starts test t n host pre (l ∷ ls) h =
    let m : Live = aborted_where (test l) t l in
    let rest : List Live = map (λ (k : Live). aborted_where (test k) t k) ls in
    let one : Row starts t (with_flows host (pre ++ l ∷ ls)) (with_flows host (pre ++ m ∷ ls)) =
    where_aborted starts (test l) t n host pre l ls h in
    let next : Row starts t (with_flows host ((pre ++ m ∷ []) ++ ls)) (with_flows host ((pre ++ m ∷ []) ++ rest)) =
    flows_aborted starts test t (n + 1) host (pre ++ m ∷ []) ls (length_push n pre m h) in
    let moved_on : Row starts t (with_flows host (pre ++ m ∷ ls)) (with_flows host (pre ++ m ∷ rest)) =
    subst (λ (zs : List Live). Row starts t (with_flows host zs) (with_flows host (pre ++ m ∷ rest)))
    (append_assoc pre (m ∷ []) ls)
    (subst (λ (zs : List Live). Row starts t (with_flows host ((pre ++ m ∷ []) ++ ls)) (with_flows host zs))
    (append_assoc pre (m ∷ []) rest) next) in
    joined starts t (with_flows host (pre ++ l ∷ ls)) (with_flows host (pre ++ m ∷ ls))
    (with_flows host (pre ++ m ∷ rest)) one.0 one.1 moved_on

killed_row : (starts : Starts) (t : ℕ) (x : Turn) → Moves starts t x (killed t x)
killed_row starts t x =
    let gone : List Listener = filter (λ (l : Listener). not (l.app == x.script.number)) x.host.listeners in
    let rest : Row starts t (record x.host { listeners = gone }) (killed t x).host =
    flows_aborted starts (is_concerned x.script.number x.host) t 0
    (record x.host { listeners = gone }) [] x.host.flows refl in
    (Listens gone ∷ rest.0, (tt, rest.1))

-- ----- a tick
goes_on_row : (starts : Starts) (address : List ℕ → ℕ) (t : ℕ) (left : List Step) (x : Turn)
    → Moves starts t x (goes_on starts address t left x)
goes_on_row starts address t [] x = none starts t x.host
goes_on_row starts address t (step ∷ rest) x = step_row starts address t step x

turn_row : (starts : Starts) (b : Bool) (address : List ℕ → ℕ) (t : ℕ) (x : Turn)
    → Moves starts t x (turn_where b starts address t x)
turn_row starts true address t x = killed_row starts t x
turn_row starts false address t x = goes_on_row starts address t x.script.left x

asked_row : (starts : Starts) (address : List ℕ → ℕ) (t : ℕ) (found : Option Script) (site : Site (List Script))
    → Row starts t site.host (asked_of starts address t found site).host
asked_row starts address t None site = none starts t site.host
asked_row starts address t (Some s) site =
    turn_row starts (is_killed_at t s.kill) address t (record { host = site.host; script = s })

pub scenarios_by_moves : (s : Scenario) (params : HostParams) → AreByMoves (scripts_of s params)
scenarios_by_moves s params t site k each =
    asked_row (starts_of params) (address_in s.hosts) t (find (λ (x : Script). x.number == k) site.scripts) site

-- A turn of an application leads its script from a step to the next, or leaves it there.
use Rattle.std.proofs.Common.{◌≡◌, ℕ, ◌+◌, ◌≤◌, ◌==◌, Bool, true, false, List, [], ◌∷◌, length, drop, position, nat_lt}
use Rattle.std.proofs.Common.{◌^◌, Option, Some, None, refl, sym, ◌∙◌, true≢false, arith}
use Rattle.tas_model.specs.declared.entry.Call.{Call}
use Rattle.tas_model.specs.declared.entry.Call.TheVariants as calls
use Rattle.tas_model.specs.declared.entry.Reply.{Reply}
use Rattle.tas_model.specs.declared.entry.Reply.TheVariants as replies
use Rattle.tas_model.proofs.Tests.{on_cond}
use Rattle.host_rounds.specs.Hosts.{Starts, is_listened, is_ready, lowest_free, first_port, ports_given, answer_of}
use Rattle.scenario_text.specs.declared.scenario.Step.{Step}
use Rattle.scenario_text.specs.declared.scenario.Step.TheVariants as steps
use Rattle.scenario_runs.specs.Applications.{Script, Turn, stepped, done_or, called, listens_where, accepts_one}
use Rattle.scenario_runs.specs.Applications.{accepts, opens_where, connects, waits_for, is_not_yet, sent_on}
use Rattle.scenario_runs.specs.Applications.{received_on, on_flow, on_socket, connects_on, step_of, is_killed_at}
use Rattle.scenario_runs.specs.Applications.{goes_on, turn_where, turn, bound_in, flow_of, port_of}
use Rattle.scenario_laws.specs.Turns.{GoesOn}

-- one step at most is over
record Goes (s m : Script) : Type 0 where
  number : m.number ≡ s.number
  kill : m.kill ≡ s.kill
  steps : (over : ℕ) × (over ≤ 1) × (m.left ≡ drop over s.left)

stays : (s : Script) → Goes s s
stays s = record { number = refl; kill = refl; steps = (0, omega arith, refl) }

over : (s : Script) → Goes s (stepped s)
over s = record { number = refl; kill = refl; steps = (1, omega arith, refl) }

done_goes : (b : Bool) (n : ℕ) (s : Script) → Goes s (done_or b n s)
done_goes true n s = over s
done_goes false n s = record { number = refl; kill = refl; steps = (0, omega arith, refl) }

abbrev GoesIn : Turn → Turn → Type 0
GoesIn x y = Goes x.script y.script

listens_goes : (taken : Bool) (t : ℕ) (name : List ℕ) (port : ℕ) (x : Turn)
    → GoesIn x (listens_where taken t name port x)
listens_goes true t name port x = over x.script
listens_goes false t name port x = record { number = refl; kill = refl; steps = (1, omega arith, refl) }

one_goes : (ready : Option ℕ) (t : ℕ) (socket : List ℕ) (port : ℕ) (x : Turn)
    → GoesIn x (accepts_one ready t socket port x)
one_goes None t socket port x = stays x.script
one_goes (Some n) t socket port x = record { number = refl; kill = refl; steps = (1, omega arith, refl) }

accepts_goes : (port : Option ℕ) (t : ℕ) (socket : List ℕ) (x : Turn) → GoesIn x (accepts port t socket x)
accepts_goes None t socket x = over x.script
accepts_goes (Some port) t socket x = one_goes (position (is_ready port) x.host.flows) t socket port x

where_goes : (left : Bool) (starts : Starts) (slot port t : ℕ) (socket : List ℕ) (raddr rport : ℕ) (x : Turn)
    → GoesIn x (opens_where left starts slot port t socket raddr rport x)
where_goes true starts slot port t socket raddr rport x =
    record { number = refl; kill = refl; steps = (0, omega arith, refl) }
where_goes false starts slot port t socket raddr rport x = over x.script

connects_goes : (starts : Starts) (free : Option ℕ) (t : ℕ) (socket : List ℕ) (raddr rport : ℕ) (x : Turn)
    → GoesIn x (connects starts free t socket raddr rport x)
connects_goes starts None t socket raddr rport x = over x.script
connects_goes starts (Some slot) t socket raddr rport x =
    where_goes (nat_lt (first_port + ports_given x.host) (2 ^ 16)) starts slot (first_port + ports_given x.host)
    t socket raddr rport x

waits_goes : (n t : ℕ) (call : Call) (x : Turn) → GoesIn x (waits_for n t call x)
waits_goes n t call x =
    on_cond (Goes x.script) (is_not_yet (answer_of n (called n t call [] x).host)) _ _
    (λ h. stays x.script) (λ h. over x.script)

sent_goes : (reply : Reply) (all : ℕ) (s : Script) → Goes s (sent_on reply all s)
sent_goes (replies.Took bytes) all s = done_goes (s.done + length bytes == all) (s.done + length bytes) s
sent_goes replies.NotYet all s = stays s
sent_goes reply all s = over s

received_goes : (reply : Reply) (all : Option ℕ) (s : Script) → Goes s (received_on reply all s)
received_goes (replies.Got bytes update) None s = stays s
received_goes (replies.Got bytes update) (Some all) s =
    done_goes (s.done + length bytes == all) (s.done + length bytes) s
received_goes replies.NotYet all s = stays s
received_goes reply all s = over s

flow_goes : (o : Option ℕ) (act : ℕ → Turn → Turn) (x : Turn) → ((n : ℕ) → GoesIn x (act n x))
    → GoesIn x (on_flow o act x)
flow_goes None act x each = over x.script
flow_goes (Some n) act x each = each n

socket_goes : (socket : List ℕ) (act : ℕ → Turn → Turn) (x : Turn) → ((n : ℕ) → GoesIn x (act n x))
    → GoesIn x (on_socket socket act x)
socket_goes socket act x each = flow_goes (flow_of (bound_in x.script.names socket)) act x each

connects_on_goes : (starts : Starts) (begun : Bool) (t : ℕ) (socket : List ℕ) (raddr rport : ℕ) (x : Turn)
    → GoesIn x (connects_on starts begun t socket raddr rport x)
connects_on_goes starts false t socket raddr rport x =
    connects_goes starts (lowest_free x.host) t socket raddr rport x
connects_on_goes starts true t socket raddr rport x = socket_goes socket _ x (λ n. waits_goes n t calls.Ready x)

step_goes : (starts : Starts) (address : List ℕ → ℕ) (t : ℕ) (step : Step) (x : Turn)
    → GoesIn x (step_of starts address t step x)
step_goes starts address t (steps.Listen name port) x = listens_goes (is_listened port x.host) t name port x
step_goes starts address t (steps.Accept socket listener) x =
    accepts_goes (port_of (bound_in x.script.names listener)) t socket x
step_goes starts address t (steps.Connect socket host port) x =
    connects_on_goes starts x.script.begun t socket (address host) port x
step_goes starts address t (steps.Send socket text) x =
    socket_goes socket _ x (λ n. sent_goes _ (length text) x.script)
step_goes starts address t (steps.Fill socket count) x = socket_goes socket _ x (λ n. sent_goes _ _ x.script)
step_goes starts address t (steps.Recv socket count) x =
    socket_goes socket _ x (λ n. received_goes _ (Some count) x.script)
step_goes starts address t (steps.Drain socket) x = socket_goes socket _ x (λ n. received_goes _ None x.script)
step_goes starts address t (steps.Shut socket) x = socket_goes socket _ x (λ n. over x.script)
step_goes starts address t (steps.Close socket) x =
    socket_goes socket _ x (λ n. record { number = refl; kill = refl; steps = (1, omega arith, refl) })
step_goes starts address t (steps.Abort socket) x =
    socket_goes socket _ x (λ n. record { number = refl; kill = refl; steps = (1, omega arith, refl) })
step_goes starts address t (steps.Wait ticks) x = done_goes (x.script.done + 1 == ticks) (x.script.done + 1) x.script

left_goes : (starts : Starts) (address : List ℕ → ℕ) (t : ℕ) (left : List Step) (x : Turn)
    → GoesIn x (goes_on starts address t left x)
left_goes starts address t [] x = stays x.script
left_goes starts address t (step ∷ rest) x = step_goes starts address t step x

where_turned : (starts : Starts) (address : List ℕ → ℕ) (b : Bool) (t : ℕ) (x : Turn)
    → is_killed_at t x.script.kill ≡ b → GoesOn t x.script (turn_where b starts address t x).script
where_turned starts address true t x h = record {
  number = refl;
  kill = refl;
  killed = λ g. refl;
  steps = λ g. absurd (true≢false (sym h ∙ g));
}
where_turned starts address false t x h =
    let goes : Goes x.script (goes_on starts address t x.script.left x).script =
    left_goes starts address t x.script.left x in
    record {
      number = goes.number;
      kill = goes.kill;
      killed = λ g. absurd (true≢false (sym g ∙ h));
      steps = λ g. goes.steps;
    }

pub turn_goes : (starts : Starts) (address : List ℕ → ℕ) (t : ℕ) (x : Turn)
    → GoesOn t x.script (turn starts address t x).script
turn_goes starts address t x = where_turned starts address (is_killed_at t x.script.kill) t x refl

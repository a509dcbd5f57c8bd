-- A step of a script, from what its calls made of the host and of the script.
use Rattle.std.proofs.Common.{◌≡◌, ℕ, List, [], position, Option, Some, sym, ap, ◌∙◌}
use Rattle.tas_model.specs.declared.entry.Caller.TheVariants.{App}
use Rattle.tas_model.specs.declared.entry.Call.{Call}
use Rattle.tas_model.specs.declared.entry.Call.TheVariants as calls
use Rattle.host_rounds.specs.Hosts.{Starts, Live, Host, Holder, Application, GivenUp, at_flow, with_call, is_ready}
use Rattle.scenario_runs.specs.Applications.{ASocket, Script, bind, unbind, stepped, bound_in, port_of, accepts}
use Rattle.scenario_runs.specs.Applications.{Turn, accepts_one, once, ends, sends, filling, flow_of, on_socket, step_of}
use Rattle.scenario_text.specs.declared.scenario.Step.{Step}
use Rattle.scenario_text.specs.declared.scenario.Step.TheVariants as steps
use Rattle.scenario_host.specs.Turns.{turn_of}
use Rattle.scenario_host.proofs.Answering.{same_turn}
use Rattle.scenario_host.proofs.Sockets.{on_found}

abbrev held : Holder → Live → Live
held holder l = record l { holder = holder }

pub once_by : (place t : ℕ) (call : Call) (before after : Host) (s y : Script) (app : ℕ) → app ≡ s.number
    → after ≡ at_flow place (λ (l : Live). with_call l (App app) t call []) before → y ≡ stepped s
    → turn_of after y ≡ once place t call (turn_of before s)
once_by place t call before after s y app same made goes =
    same_turn after _ y (stepped s)
    (made ∙ ap (λ (k : ℕ). at_flow place (λ (l : Live). with_call l (App k) t call []) before) same) goes

pub ends_by : (place t : ℕ) (call : Call) (socket : List ℕ) (before mid after : Host) (s u y : Script) (app : ℕ)
    → app ≡ s.number → mid ≡ at_flow place (λ (l : Live). with_call l (App app) t call []) before
    → after ≡ at_flow place (held GivenUp) mid → u ≡ unbind socket s → y ≡ stepped u
    → turn_of after y ≡ ends place t call socket (turn_of before s)
ends_by place t call socket before mid after s u y app same made given gone goes =
    same_turn after _ y (stepped (unbind socket s))
    (given
    ∙ ap (at_flow place (held GivenUp))
    (made ∙ ap (λ (k : ℕ). at_flow place (λ (l : Live). with_call l (App k) t call []) before) same))
    (goes ∙ ap stepped gone)

pub accepts_by : (listener : List ℕ) (port place t : ℕ) (socket : List ℕ) (before mid after : Host) (s b y : Script)
    (app : ℕ) → app ≡ s.number → port_of (bound_in s.names listener) ≡ Some port
    → position (is_ready port) before.flows ≡ Some place
    → mid ≡ at_flow place (λ (l : Live). with_call l (App app) t calls.Accept []) before
    → after ≡ at_flow place (held (Application app)) mid → b ≡ bind socket (ASocket place) s → y ≡ stepped b
    → turn_of after y ≡ accepts (port_of (bound_in s.names listener)) t socket (turn_of before s)
accepts_by listener port place t socket before mid after s b y app same named ready made given bound goes =
    let hosts : ℕ → Host = λ k. at_flow place (held (Application k))
    (at_flow place (λ (l : Live). with_call l (App k) t calls.Accept []) before) in
    same_turn after (hosts s.number) y (stepped (bind socket (ASocket place) s))
    (given ∙ (ap (at_flow place (held (Application app))) made ∙ ap hosts same)) (goes ∙ ap stepped bound)
    ∙ (ap (λ (o : Option ℕ). accepts_one o t socket port (turn_of before s)) (sym ready)
    ∙ ap (λ (o : Option ℕ). accepts o t socket (turn_of before s)) (sym named))

-- ----- bytes that are sent, over plain variables, as the definitions of a step unfold far
pub sent_found : (t : ℕ) (socket bytes : List ℕ) (x y : Turn) (place : ℕ)
    → flow_of (bound_in x.script.names socket) ≡ Some place → y ≡ sends place t bytes x
    → y ≡ on_socket socket (λ (n : ℕ). sends n t bytes) x
sent_found t socket bytes x y place found made = made ∙ on_found socket (λ (n : ℕ). sends n t bytes) x place found

pub send_step : (starts : Starts) (address : List ℕ → ℕ) (t : ℕ) (step : Step) (socket text name bytes : List ℕ)
    (x y : Turn) → step ≡ steps.Send socket text → name ≡ socket → bytes ≡ text
    → y ≡ on_socket name (λ (n : ℕ). sends n t bytes) x → y ≡ step_of starts address t step x
send_step starts address t step socket text name bytes x y is named same made =
    made
    ∙ (ap (λ (s : List ℕ). on_socket s (λ (n : ℕ). sends n t bytes) x) named
    ∙ (ap (λ (b : List ℕ). on_socket socket (λ (n : ℕ). sends n t b) x) same
    ∙ ap (λ (s : Step). step_of starts address t s x) (sym is)))

pub fill_step : (starts : Starts) (address : List ℕ → ℕ) (t : ℕ) (step : Step) (socket name : List ℕ) (count : ℕ)
    (x y : Turn) → step ≡ steps.Fill socket count → name ≡ socket
    → y ≡ on_socket name (λ (n : ℕ). sends n t (filling count)) x → y ≡ step_of starts address t step x
fill_step starts address t step socket name count x y is named made =
    made
    ∙ (ap (λ (s : List ℕ). on_socket s (λ (n : ℕ). sends n t (filling count)) x) named
    ∙ ap (λ (s : Step). step_of starts address t s x) (sym is))

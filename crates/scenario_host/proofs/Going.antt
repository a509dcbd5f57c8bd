-- A turn keeps its host's flows, and leaves its script fit for them.
use Rattle.std.proofs.Common.{◌≡◌, ◌≤◌, ◌<◌, ◌+◌, ◌^◌, ◌==◌, ℕ, Bool, true, false, List, [], ◌∷◌, length, take}
use Rattle.std.proofs.Common.{drop}
use Rattle.std.proofs.Common.{map, position, subst, length-append, nat_lt, Option, Some, None, refl}
use Rattle.std.proofs.Common.{sym, ap, arith, length-take, length-drop}
use Rattle.std.proofs.lemmas.List.{length-map}
use Rattle.std.proofs.lemmas.List.Quantifiers.{position-Some}
use Rattle.tas_model.specs.declared.entry.Caller.TheVariants.{App}
use Rattle.tas_model.specs.declared.entry.FourTuple.{FourTuple}
use Rattle.tas_model.specs.declared.entry.Entry.{Entry}
use Rattle.tas_model.specs.declared.entry.Reply.{Reply}
use Rattle.tas_model.specs.declared.entry.Call.{Call}
use Rattle.tas_model.specs.declared.entry.Call.TheVariants as calls
use Rattle.tas_model.proofs.Tests.{on_cond}
use Rattle.host_rounds.specs.declared.opening.Start.{Start}
use Rattle.host_rounds.specs.Hosts.{Live, Host, Holder, Application, GivenUp, Starts, answer_of}
use Rattle.host_rounds.specs.Hosts.{is_ready}
use Rattle.host_rounds.specs.Hosts.{is_listened, lowest_free, first_port, ports_given, new_flow, first_entry}
use Rattle.host_rounds.specs.Hosts.{next_start}
use Rattle.scenario_text.specs.declared.scenario.Step.{Step}
use Rattle.scenario_text.specs.declared.scenario.Step.TheVariants as steps
use Rattle.scenario_runs.specs.Applications.{AListener, ASocket, Script, Turn, bind, unbind, stepped, called}
use Rattle.scenario_runs.specs.Applications.{holds}
use Rattle.scenario_runs.specs.Applications.{listens_where, accepts, accepts_one}
use Rattle.scenario_runs.specs.Applications.{opens}
use Rattle.scenario_runs.specs.Applications.{opens_where, connects, connects_on, waits_for, is_not_yet, sends}
use Rattle.scenario_runs.specs.Applications.{sent_on}
use Rattle.scenario_runs.specs.Applications.{receives, received_on, asks_for, most, filling, once, ends, on_flow}
use Rattle.scenario_runs.specs.Applications.{on_socket}
use Rattle.scenario_runs.specs.Applications.{step_of, done_or, killed, aborted_where, is_concerned, goes_on}
use Rattle.scenario_runs.specs.Applications.{turn_where}
use Rattle.scenario_runs.specs.Applications.{turn, is_killed_at, flow_of, port_of, bound_in}
use Rattle.scenario_host.specs.Answers.{IsWithin}
use Rattle.scenario_host.specs.Sound.{IsPart, IsPartOfFirst, IsFit}
use Rattle.scenario_host.specs.Turns.{turn_of}
use Rattle.scenario_host.proofs.Lasting.{Lasts, lasts_same, lasts_both, lasts_at, lasts_opened}
use Rattle.scenario_host.proofs.Fit.{fit_more, fit_bound, fit_unbound, fit_stepped, StaysFit, stays_done}
use Rattle.scenario_host.proofs.Fit.{stays_sent}
use Rattle.scenario_host.proofs.Fit.{stays_received, IsUnderWay, IsUnderWayTo}
use Rattle.scenario_host.proofs.Offers.{length-filling}
use Rattle.scenario_host.proofs.Replies.{sent_few, got_few, given_bytes}

-- The host lasts, and the script is still that of this application, and fit.
pub record Goes (before after : Turn) : Type 0 where
  pub host : Lasts before.host after.host
  pub number : after.script.number ≡ before.script.number
  pub fit : IsFit (length after.host.flows) after.script

abbrev IsFine : Turn → Type 0
IsFine x = IsFit (length x.host.flows) x.script

-- the script was fit for the flows that there were before
fine_after : (x : Turn) (host : Host) → Lasts x.host host → IsFine x → IsFit (length host.flows) x.script
fine_after x host lasts fine = fit_more (length x.host.flows) (length host.flows) x.script lasts.grown fine

goes_with : (x : Turn) (host : Host) (s : Script) → Lasts x.host host → s.number ≡ x.script.number
    → IsFit (length host.flows) s → Goes x (turn_of host s)
goes_with x host s lasts same fit = record { host = lasts; number = same; fit = fit }

-- the host does something, and the step is over
goes_stepped : (x : Turn) (host : Host) → Lasts x.host host → IsFine x → Goes x (turn_of host (stepped x.script))
goes_stepped x host lasts fine =
    goes_with x host (stepped x.script) lasts refl
    (fit_stepped (length host.flows) x.script (fine_after x host lasts fine))

-- or stays
goes_waiting : (x : Turn) (host : Host) → Lasts x.host host → IsFine x → Goes x (turn_of host x.script)
goes_waiting x host lasts fine = goes_with x host x.script lasts refl (fine_after x host lasts fine)

-- a change of other things than flows
lasts_flowless : (before after : Host) → after.params ≡ before.params → after.flows ≡ before.flows → Lasts before after
lasts_flowless before after params flows = record { params = params; grown = omega (arith, ap length flows) }

-- ----- listen, accept
listens_goes : (taken : Bool) (t : ℕ) (name : List ℕ) (port : ℕ) (x : Turn) → IsFine x
    → Goes x (listens_where taken t name port x)
listens_goes true t name port x fine = goes_stepped x _ (lasts_flowless x.host _ refl refl) fine
listens_goes false t name port x fine =
    goes_with x _ (stepped (bind name (AListener port) x.script)) (lasts_flowless x.host _ refl refl) refl
    (fit_stepped (length x.host.flows) (bind name (AListener port) x.script)
    (fit_bound (length x.host.flows) name (AListener port) x.script tt fine))

called_lasts : (n t : ℕ) (call : Call) (offer : List ℕ) (x : Turn) → Lasts x.host (called n t call offer x).host
called_lasts n t call offer x = lasts_at _ n x.host

held_lasts : (n t : ℕ) (call : Call) (holder : Holder) (x : Turn)
    → Lasts x.host (holds n holder (called n t call [] x)).host
held_lasts n t call holder x =
    lasts_both x.host (called n t call [] x).host _ (called_lasts n t call [] x)
    (lasts_at (λ (l : Live). record l { holder = holder }) n (called n t call [] x).host)

accepts_goes : (ready : Option ℕ) (t : ℕ) (socket : List ℕ) (port : ℕ) (x : Turn)
    → position (is_ready port) x.host.flows ≡ ready → IsFine x → Goes x (accepts_one ready t socket port x)
accepts_goes None t socket port x is fine = goes_waiting x _ (lasts_flowless x.host _ refl refl) fine
accepts_goes (Some n) t socket port x is fine =
    let lasts = held_lasts n t calls.Accept (Application x.script.number) x in
    let host : Host = (holds n (Application x.script.number) (called n t calls.Accept [] x)).host in
    let there : n < length x.host.flows = at x.host.flows is in
    goes_with x host (stepped (bind socket (ASocket n) x.script)) lasts refl
    (fit_stepped (length host.flows) (bind socket (ASocket n) x.script)
    (fit_bound (length host.flows) socket (ASocket n) x.script (omega (arith, there, lasts.grown))
    (fine_after x host lasts fine)))
  where
    at : (ls : List Live) → position (is_ready port) ls ≡ Some n → n < length ls
    at [] found = absurd (cc (found))
    at (l ∷ ls) found = (position-Some (is_ready port) (l ∷ ls) n l found).0

accept_goes : (port : Option ℕ) (t : ℕ) (socket : List ℕ) (x : Turn) → IsFine x → Goes x (accepts port t socket x)
accept_goes None t socket x fine = goes_stepped x x.host (lasts_same x.host) fine
accept_goes (Some port) t socket x fine =
    accepts_goes (position (is_ready port) x.host.flows) t socket port x refl fine

-- ----- connect
opens_goes : (left : Bool) (starts : Starts) (slot port t : ℕ) (socket : List ℕ) (raddr rport : ℕ) (x : Turn)
    → IsFine x → Goes x (opens_where left starts slot port t socket raddr rport x)
opens_goes false starts slot port t socket raddr rport x fine =
    goes_stepped x _ (lasts_flowless x.host _ refl refl) fine
opens_goes true starts slot port t socket raddr rport x fine =
    let tuple : FourTuple = record { laddr = x.host.params.addr; lport = port; raddr = raddr; rport = rport } in
    let start : Start = next_start starts x.host tuple in
    let first : Entry =
    first_entry (App x.script.number) t (calls.Connect start.number) in
    let after : Turn = opens starts slot t socket tuple x in
    let lasts : Lasts x.host after.host =
    lasts_opened x.host slot tuple start.scale (Application x.script.number) first in
    let bound : IsFit (length after.host.flows) (bind socket (ASocket (length x.host.flows)) x.script) =
    fit_bound (length after.host.flows) socket (ASocket (length x.host.flows)) x.script
    (omega (
      arith,
      length-append x.host.flows (new_flow x.host slot tuple start.scale (Application x.script.number) first ∷
          []),
    ))
    (fine_after x after.host lasts fine) in
    goes_with x after.host after.script lasts refl
    (record { steps = bound.steps; part = bound.part; names = bound.names })

connects_goes : (starts : Starts) (free : Option ℕ) (t : ℕ) (socket : List ℕ) (raddr rport : ℕ) (x : Turn) → IsFine x
    → Goes x (connects starts free t socket raddr rport x)
connects_goes starts None t socket raddr rport x fine = goes_stepped x _ (lasts_flowless x.host _ refl refl) fine
connects_goes starts (Some slot) t socket raddr rport x fine =
    opens_goes (nat_lt (first_port + ports_given x.host) (2 ^ 16)) starts slot (first_port + ports_given x.host) t
    socket raddr rport x fine

-- ----- calls on a socket
waits_goes : (n t : ℕ) (call : Call) (x : Turn) → IsFine x → Goes x (waits_for n t call x)
waits_goes n t call x fine =
    let after : Turn = called n t call [] x in
    let lasts : Lasts x.host after.host = called_lasts n t call [] x in
    on_cond (λ (s : Script). Goes x (turn_of after.host s)) (is_not_yet (answer_of n after.host)) x.script
    (stepped x.script) (λ t. goes_waiting x after.host lasts fine) (λ f. goes_stepped x after.host lasts fine)

-- the script goes on by an answer
goes_by : (x : Turn) (host : Host) (s : Script) → Lasts x.host host → StaysFit (length host.flows) x.script s
    → Goes x (turn_of host s)
goes_by x host s lasts stays = record { host = lasts; number = stays.number; fit = stays.fit }

sends_goes : (n t : ℕ) (bytes : List ℕ) (x : Turn) → IsUnderWay (length bytes) x.script
    → x.script.done < length bytes → IsFine x → Goes x (sends n t bytes x)
sends_goes n t bytes x under part fine =
    let offer : List ℕ = take most (drop x.script.done bytes) in
    let after : Turn = called n t (calls.Send (length offer)) offer x in
    let lasts : Lasts x.host after.host = called_lasts n t (calls.Send (length offer)) offer x in
    let few = (sent_few (App x.script.number) t (length offer) offer n x.host).few in
    let reply : Reply = answer_of n after.host in
    goes_by x after.host (sent_on reply (length bytes) x.script) lasts
    (stays_sent reply (length after.host.flows) (length bytes) x.script under
    (omega (arith, few, length-take most (drop x.script.done bytes), length-drop x.script.done bytes, part))
    (fine_after x after.host lasts fine))

asked_within : (all : Option ℕ) (done len : ℕ) → IsWithin all done → len ≤ asks_for all done → IsWithin all (done + len)
asked_within None done len within few = tt
asked_within (Some all) done len within few = omega (arith, within, few)

receives_goes : (n t : ℕ) (all : Option ℕ) (x : Turn) → IsUnderWayTo all x.script → IsWithin all x.script.done
    → IsFine x → Goes x (receives n t all x)
receives_goes n t all x under within fine =
    let asked : ℕ = asks_for all x.script.done in
    let after : Turn = called n t (calls.Recv asked) [] x in
    let lasts : Lasts x.host after.host = called_lasts n t (calls.Recv asked) [] x in
    let few = (got_few (App x.script.number) t asked n x.host).few in
    let reply : Reply = answer_of n after.host in
    goes_by x after.host (received_on reply all x.script) lasts
    (stays_received reply (length after.host.flows) all x.script under
    (asked_within all x.script.done (length (given_bytes reply)) within few)
    (fine_after x after.host lasts fine))

once_goes : (n t : ℕ) (call : Call) (x : Turn) → IsFine x → Goes x (once n t call x)
once_goes n t call x fine = goes_stepped x (called n t call [] x).host (called_lasts n t call [] x) fine

ends_goes : (n t : ℕ) (call : Call) (socket : List ℕ) (x : Turn) → IsFine x → Goes x (ends n t call socket x)
ends_goes n t call socket x fine =
    let lasts = held_lasts n t call GivenUp x in
    let host : Host = (holds n GivenUp (called n t call [] x)).host in
    goes_with x host (stepped (unbind socket x.script)) lasts refl
    (fit_stepped (length host.flows) (unbind socket x.script)
    (fit_unbound (length host.flows) socket x.script (fine_after x host lasts fine)))

flow_goes : (o : Option ℕ) (act : ℕ → Turn → Turn) (x : Turn) → IsFine x → ((n : ℕ) → Goes x (act n x))
    → Goes x (on_flow o act x)
flow_goes None act x fine acts = goes_stepped x x.host (lasts_same x.host) fine
flow_goes (Some n) act x fine acts = acts n

socket_goes : (socket : List ℕ) (act : ℕ → Turn → Turn) (x : Turn) → IsFine x → ((n : ℕ) → Goes x (act n x))
    → Goes x (on_socket socket act x)
socket_goes socket act x fine acts = flow_goes (flow_of (bound_in x.script.names socket)) act x fine acts

connecting_goes : (starts : Starts) (begun : Bool) (t : ℕ) (socket : List ℕ) (raddr rport : ℕ) (x : Turn) → IsFine x
    → Goes x (connects_on starts begun t socket raddr rport x)
connecting_goes starts false t socket raddr rport x fine =
    connects_goes starts (lowest_free x.host) t socket raddr rport x fine
connecting_goes starts true t socket raddr rport x fine =
    socket_goes socket (λ (n : ℕ). waits_for n t calls.Ready) x fine (λ n. waits_goes n t calls.Ready x fine)

-- ----- one step
part_under_way : (all : ℕ) (step : Step) (rest : List Step) (s : Script) → s.left ≡ step ∷ rest
    → ((done : ℕ) → done < all → IsPart step done) → IsUnderWay all s
part_under_way all step rest s left part = record {
  goes_on = λ done below. subst (λ (steps : List Step). IsPartOfFirst steps done) (sym left) (part done below);
}

step_goes : (starts : Starts) (address : List ℕ → ℕ) (t : ℕ) (step : Step) (rest : List Step) (x : Turn)
    → x.script.left ≡ step ∷ rest → IsPart step x.script.done → IsFine x → Goes x (step_of starts address t step x)
step_goes starts address t (steps.Listen name port) rest x left part fine =
    listens_goes (is_listened port x.host) t name port x fine
step_goes starts address t (steps.Accept socket listener) rest x left part fine =
    accept_goes (port_of (bound_in x.script.names listener)) t socket x fine
step_goes starts address t (steps.Connect socket host port) rest x left part fine =
    connecting_goes starts x.script.begun t socket (address host) port x fine
step_goes starts address t (steps.Send socket text) rest x left part fine =
    socket_goes socket (λ (n : ℕ). sends n t text) x fine
    (λ n. sends_goes n t text x (part_under_way (length text) (steps.Send socket text) rest x.script left (λ d b. b))
    part fine)
step_goes starts address t (steps.Fill socket count) rest x left part fine =
    let all : length (filling count) ≡ count = length-filling count in
    socket_goes socket (λ (n : ℕ). sends n t (filling count)) x fine
    (λ n. sends_goes n t (filling count) x
    (part_under_way (length (filling count)) (steps.Fill socket count) rest x.script left
    (λ d b. omega (arith, b, all)))
    (omega (arith, part, all)) fine)
step_goes starts address t (steps.Recv socket count) rest x left part fine =
    socket_goes socket (λ (n : ℕ). receives n t (Some count)) x fine
    (λ n. receives_goes n t (Some count) x
    (part_under_way count (steps.Recv socket count) rest x.script left (λ d b. b)) (omega (arith, part)) fine)
step_goes starts address t (steps.Drain socket) rest x left part fine =
    socket_goes socket (λ (n : ℕ). receives n t None) x fine (λ n. receives_goes n t None x tt tt fine)
step_goes starts address t (steps.Shut socket) rest x left part fine =
    socket_goes socket (λ (n : ℕ). once n t calls.Shut) x fine (λ n. once_goes n t calls.Shut x fine)
step_goes starts address t (steps.Close socket) rest x left part fine =
    socket_goes socket (λ (n : ℕ). ends n t calls.Close socket) x fine (λ n. ends_goes n t calls.Close socket x fine)
step_goes starts address t (steps.Abort socket) rest x left part fine =
    socket_goes socket (λ (n : ℕ). ends n t calls.Abort socket) x fine (λ n. ends_goes n t calls.Abort socket x fine)
step_goes starts address t (steps.Wait ticks) rest x left part fine =
    goes_by x x.host (done_or (x.script.done + 1 == ticks) (x.script.done + 1) x.script) (lasts_same x.host)
    (stays_done (length x.host.flows) ticks (x.script.done + 1) x.script
    (part_under_way ticks (steps.Wait ticks) rest x.script left (λ d b. b)) (omega (arith, part)) fine)

-- ----- a turn
killed_goes : (t : ℕ) (x : Turn) → Goes x (killed t x)
killed_goes t x =
    let act : Live → Live = λ (l : Live). aborted_where (is_concerned x.script.number x.host l) t l in
    goes_with x (killed t x).host (killed t x).script
    (lasts_flowless_map x.host (killed t x).host act refl refl) refl (record { steps = tt; part = tt; names = tt })
  where
    lasts_flowless_map : (before after : Host) (f : Live → Live) → after.params ≡ before.params
        → after.flows ≡ map f before.flows → Lasts before after
    lasts_flowless_map before after f params flows = record {
      params = params;
      grown = omega (arith, ap length flows, length-map before.flows f);
    }

goes_on_goes : (starts : Starts) (address : List ℕ → ℕ) (t : ℕ) (left : List Step) (x : Turn)
    → x.script.left ≡ left → IsFine x → Goes x (goes_on starts address t left x)
goes_on_goes starts address t [] x is fine = goes_waiting x x.host (lasts_same x.host) fine
goes_on_goes starts address t (step ∷ rest) x is fine =
    step_goes starts address t step rest x is
    (subst (λ (left : List Step). IsPartOfFirst left x.script.done) is fine.part) fine

turn_where_goes : (killed_now : Bool) (starts : Starts) (address : List ℕ → ℕ) (t : ℕ) (x : Turn) → IsFine x
    → Goes x (turn_where killed_now starts address t x)
turn_where_goes true starts address t x fine = killed_goes t x
turn_where_goes false starts address t x fine = goes_on_goes starts address t x.script.left x refl fine

pub turn_goes : (starts : Starts) (address : List ℕ → ℕ) (t : ℕ) (x : Turn) → IsFit (length x.host.flows) x.script
    → Goes x (turn starts address t x)
turn_goes starts address t x fine = turn_where_goes (is_killed_at t x.script.kill) starts address t x fine

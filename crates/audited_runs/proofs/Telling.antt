-- What is known of each host in a run: its flows have its address and its parameters, and each frame that its flows and
-- its log name is one of a host of the run; one that opened a flow is of the host at the flow's other end.
use Rattle.std.proofs.Common.{◌≡◌, ℕ, ◌+◌, ◌≤◌, ◌<◌, ◌^◌, ◌&&◌, ◌==◌, Bool, true, false, cond, List, [], ◌∷◌, ◌++◌}
use Rattle.std.proofs.Common.{map, fold, filter, Option, Some, None, refl, sym, subst, ap}
use Rattle.std.proofs.Common.{eq-eqb}
use Rattle.std.specs.Prelude.{slice_get, position, nat_lt}
use Rattle.std.specs.List.{find}
use Rattle.tas_model.specs.declared.entry.FourTuple.{FourTuple}
use Rattle.tas_model.specs.declared.entry.FrameId.{FrameId}
use Rattle.tas_model.specs.declared.entry.HostParams.{HostParams}
use Rattle.tas_model.specs.declared.entry.Seg.{Seg}
use Rattle.tas_model.specs.declared.entry.Entry.{Entry}
use Rattle.tas_model.specs.declared.entry.Caller.{Caller}
use Rattle.tas_model.specs.declared.entry.Caller.TheVariants.{Slow, App}
use Rattle.tas_model.specs.declared.entry.Call.{Call}
use Rattle.tas_model.specs.declared.entry.Call.TheVariants as calls
use Rattle.tas_model.specs.NextSegment.{Going, going}
use Rattle.tas_model.proofs.Tests.{on_cond}
use Rattle.host_rounds.specs.declared.log.LogLine.{LogLine}
use Rattle.host_rounds.specs.declared.log.LogEvent.{LogEvent}
use Rattle.host_rounds.specs.declared.log.LogEvent.TheVariants as events
use Rattle.host_rounds.specs.Lists.{Each}
use Rattle.host_rounds.specs.Hosts.{Live, Host, Holder, Application, GivenUp, endpoint, is_over}
use Rattle.host_rounds.specs.Hosts.{with_call, logged, is_known, is_indexed_as, is_listening, is_full, lowest_free}
use Rattle.host_rounds.specs.Hosts.{at_flow, is_listened, is_ready, first_port, ports_given, opened_in}
use Rattle.host_rounds.specs.Upkeep.{swept, all_swept, controlled, timed, timed_unless, emits, emits_where}
use Rattle.host_rounds.specs.Deliveries.{Packet, Damaged, Segment, Arrival, same_frame, received, opens}
use Rattle.host_rounds.specs.Deliveries.{opened_by_syn, met_no_flow, arrived, delivered_packet}
use Rattle.host_rounds.specs.Scripts.{Site, Scripts}
use Rattle.host_rounds.specs.Rounds.{Action, Timer, Frame, Ask, Emission, Deed, done_by, does, on_host, Due}
use Rattle.host_rounds.specs.Rounds.{timers_from, due_actions, OfFrame, is_by, actions_of, Round}
use Rattle.host_rounds.proofs.AllLegal.{each_map, each_first, each_at, each_push}
use Rattle.host_rounds.proofs.Lists.{each_append}
use Rattle.host_rounds.proofs.Flows.{on_control}
use Rattle.scenario_text.specs.declared.scenario.Scenario.{Scenario}
use Rattle.scenario_text.specs.declared.scenario.Step.{Step}
use Rattle.scenario_text.specs.declared.scenario.Step.TheVariants as steps
use Rattle.scenario_runs.specs.Applications.{Script, Turn, called, holds, listens_where, accepts_one}
use Rattle.scenario_runs.specs.Applications.{accepts, opens_where, connects, connects_on, waits_for, sends, receives}
use Rattle.scenario_runs.specs.Applications.{filling, on_flow, on_socket, once, ends, step_of, bound_in, flow_of}
use Rattle.scenario_runs.specs.Applications.{port_of, is_concerned, aborted_where, is_killed_at, goes_on}
use Rattle.scenario_runs.specs.Applications.{turn_where}
use Rattle.scenario_runs.specs.Worlds.{starts_of, address_in, scripts_of, asked_of}

same_self : (f : FrameId) → same_frame f f ≡ true
same_self f =
    rw (eq-eqb f.host f.host refl, eq-eqb f.flow f.flow refl, eq-eqb f.number f.number refl, eq-eqb f.copy f.copy refl)
    refl

-- each address is one of 32 bits
abbrev pub AreLow : (List ℕ → ℕ) → Type 0
AreLow address = (name : List ℕ) → address name < 2 ^ 32

-- `addrs` are the addresses of all hosts.
module _ (addrs : List ℕ) where
  -- The host that sent the frame has this address.
  pub record IsOf (frame : FrameId) (src : ℕ) : Type 0 where
    pub host : slice_get addrs frame.host ≡ Some src
    pub low : src < 2 ^ 32
    pub copy : frame.copy ≤ 1

  -- Some host sent it.
  abbrev pub IsSome : FrameId → Type 0
  IsSome frame = (src : ℕ) × IsOf frame src

  abbrev pub CallTold : FourTuple → Call → Type 0
  CallTold tuple (calls.Passive frame iss seg) = IsOf frame tuple.raddr
  CallTold tuple (calls.Rx frame seg) = IsSome frame
  CallTold tuple _ = Unit {0}

  abbrev pub EventTold : LogEvent → (own : ℕ) → Type 0
  EventTold (events.Stray frame tuple seg answer) own = IsOf frame tuple.raddr × (tuple.laddr ≡ own)
  EventTold (events.Dropped frame backlog) own = IsSome frame
  EventTold (events.Refused frame rule) own = IsSome frame
  EventTold _ own = Unit {0}

  abbrev pub PacketTold : (src own : ℕ) → Packet → Type 0
  PacketTold src own (Damaged rule) = Unit {0}
  PacketTold src own (Segment tuple seg) = (tuple.raddr ≡ src) × (tuple.laddr ≡ own)

  -- The frame comes from some host to the one of this address.
  pub record Comes (own : ℕ) (x : Arrival) : Type 0 where
    pub src : ℕ
    pub frame : IsOf x.frame src
    pub packet : PacketTold src own x.packet

  -- `p` are the host's parameters.
  module _ (p : HostParams) where
    pub record LiveTold (l : Live) : Type 0 where
      pub params : l.flow.params ≡ p
      pub own : l.flow.tuple.laddr ≡ p.addr
      pub far : l.flow.tuple.raddr < 2 ^ 32
      pub calls : Each (λ (x : Entry). CallTold l.flow.tuple x.call) l.flow.entries

    abbrev pub LineTold : LogLine → Type 0
    LineTold l = EventTold l.event p.addr

    pub record HostTold (host : Host) : Type 0 where
      pub params : host.params ≡ p
      pub flows : Each LiveTold host.flows
      pub lines : Each LineTold host.log

    -- ----- one flow
    call_told : (by : Caller) (t : ℕ) (call : Call) (offer : List ℕ) (l : Live) → CallTold l.flow.tuple call
        → LiveTold l → LiveTold (with_call l by t call offer)
    call_told by t call offer l here told = record {
      params = told.params;
      own = told.own;
      far = told.far;
      calls = each_push (λ (x : Entry). CallTold l.flow.tuple x.call) l.flow.entries _ told.calls here;
    }

    swept_told : (l : Live) → LiveTold l → LiveTold (swept l)
    swept_told l told =
        on_cond LiveTold (is_over l) _ _
        (λ t. record { params = told.params; own = told.own; far = told.far; calls = told.calls }) (λ f. told)

    controlled_told : (by : Caller) (t : ℕ) (l : Live) → LiveTold l → LiveTold (controlled by t l)
    controlled_told by t l told =
        on_control LiveTold _ by t l (λ h. call_told by t calls.Control [] l tt told) (λ h. told)

    timed_told : (by : Caller) (t : ℕ) (l : Live) → LiveTold l → LiveTold (timed by t l)
    timed_told by t l told = by_over (is_over l) where
      by_over : (b : Bool) → LiveTold (timed_unless b by t l)
      by_over true = told
      by_over false = controlled_told by t (with_call l by t calls.Tick []) (call_told by t calls.Tick [] l tt told)

    emits_told : (by : Caller) (t : ℕ) (l : Live) → LiveTold l → LiveTold (emits by t l)
    emits_told by t l told = by_going (going (endpoint l)) where
      by_going : (o : Option Going) → LiveTold (emits_where o by t l)
      by_going None = told
      by_going (Some g) = call_told by t calls.Emit [] l tt told

    held_told : (holder : Holder) (l : Live) → LiveTold l → LiveTold (record l { holder = holder })
    held_told holder l told = record { params = told.params; own = told.own; far = told.far; calls = told.calls }

    -- ----- a host
    flows_told : (host : Host) (ls : List Live) → HostTold host → Each LiveTold ls
        → HostTold (record host { flows = ls })
    flows_told host ls h all = record { params = h.params; flows = all; lines = h.lines }

    line_told : (t : ℕ) (host : Host) (event : LogEvent) → EventTold event p.addr → HostTold host
        → HostTold (logged host t event)
    line_told t host event told h =
        record { params = h.params; flows = h.flows; lines = each_push LineTold host.log _ h.lines told }

    at_told : (host : Host) (n : ℕ) (f : Live → Live) → ((l : Live) → LiveTold l → LiveTold (f l)) → HostTold host
        → HostTold (at_flow n f host)
    at_told host n f each h = flows_told host _ h (each_at LiveTold n f each host.flows h.flows)

    -- a flow more, with the host's parameters
    opened_told : (host : Host) (slot : ℕ) (tuple : FourTuple) (holder : Holder) (x : Entry) → tuple.laddr ≡ p.addr
        → tuple.raddr < 2 ^ 32 → CallTold tuple x.call → HostTold host
        → HostTold (opened_in host slot tuple None holder x)
    opened_told host slot tuple holder x own far here h =
        flows_told host _ h
        (each_push LiveTold host.flows _ h.flows
        (record { params = h.params; own = own; far = far; calls = (here, tt) }))

    -- ----- frames
    syn_told : (full : Bool) (free : Option ℕ) (number : ℕ) (t : ℕ) (host : Host) (frame : FrameId)
        (tuple : FourTuple) (seg : Seg) → IsOf frame tuple.raddr → tuple.laddr ≡ p.addr → HostTold host
        → HostTold (opened_by_syn full free (record { number = record { 0 = number }; scale = None })
        t host frame tuple seg)
    syn_told true free number t host frame tuple seg of own h = line_told t host _ (tuple.raddr, of) h
    syn_told false None number t host frame tuple seg of own h = line_told t host _ (tuple.raddr, of) h
    syn_told false (Some slot) number t host frame tuple seg of own h = opened_told host slot tuple _ _ own of.low of h

    no_flow_told : (opening listening : Bool) (number : ℕ) (t : ℕ) (host : Host) (frame : FrameId)
        (tuple : FourTuple) (seg : Seg) → IsOf frame tuple.raddr → tuple.laddr ≡ p.addr → HostTold host
        → HostTold (met_no_flow opening listening (record { number = record { 0 = number }; scale = None })
        t host frame tuple seg)
    no_flow_told true listening number t host frame tuple seg of own h =
        syn_told (is_full host tuple.lport) (lowest_free host) number t host frame tuple seg of own h
    no_flow_told false listening number t host frame tuple seg of own h =
        line_told t host _ (of, own) h

    arrived_told : (known : Bool) (by : Caller) (number : ℕ) (t : ℕ) (host : Host) (frame : FrameId)
        (tuple : FourTuple) (seg : Seg) → IsOf frame tuple.raddr → tuple.laddr ≡ p.addr → HostTold host
        → HostTold (arrived known (received by t frame seg) (record { number = record { 0 = number }; scale = None })
        t host frame tuple seg)
    arrived_told true by number t host frame tuple seg of own h =
        flows_told host _ h (each_first LiveTold (is_indexed_as tuple) (received by t frame seg)
        (λ l told. call_told by t (calls.Rx frame seg) [] l (tuple.raddr, of) told) host.flows h.flows)
    arrived_told false by number t host frame tuple seg of own h =
        no_flow_told (is_listening host tuple.lport && opens seg)
        (is_listening host tuple.lport) number t host frame tuple seg of own h

    packet_told : (by : Caller) (q : HostParams) (t : ℕ) (host : Host) (frame : FrameId) (packet : Packet) (src : ℕ)
        → IsOf frame src → PacketTold src p.addr packet → HostTold host
        → HostTold (delivered_packet (received by) (starts_of q) t host frame packet)
    packet_told by q t host frame (Damaged rule) src of told h = line_told t host _ (src, of) h
    packet_told by q t host frame (Segment tuple seg) src of told h =
        arrived_told (is_known host tuple) by _ t host frame tuple seg
        (subst (IsOf frame) (sym told.0) of) told.1 h

    -- ----- applications
    abbrev Told : Turn → Type 0
    Told x = HostTold x.host

    -- calls that name no frame
    abbrev NamesNone : Call → Type 0
    NamesNone call = (tuple : FourTuple) → CallTold tuple call

    called_told : (n t : ℕ) (call : Call) (offer : List ℕ) (x : Turn) → NamesNone call → Told x
        → Told (called n t call offer x)
    called_told n t call offer x none h =
        at_told x.host n _ (λ l told. call_told (App x.script.number) t call offer l (none l.flow.tuple) told) h

    holds_told : (n : ℕ) (holder : Holder) (x : Turn) → Told x → Told (holds n holder x)
    holds_told n holder x h = at_told x.host n _ (held_told holder) h

    listens_told : (taken : Bool) (t : ℕ) (name : List ℕ) (port : ℕ) (x : Turn) → Told x
        → Told (listens_where taken t name port x)
    listens_told true t name port x h = line_told t x.host _ tt h
    listens_told false t name port x h =
        let logged_too = line_told t x.host (events.Listen x.script.number port true) tt h in
        record { params = logged_too.params; flows = logged_too.flows; lines = logged_too.lines }

    accepts_one_told : (ready : Option ℕ) (t : ℕ) (socket : List ℕ) (port : ℕ) (x : Turn) → Told x
        → Told (accepts_one ready t socket port x)
    accepts_one_told None t socket port x h = line_told t x.host _ tt h
    accepts_one_told (Some n) t socket port x h =
        holds_told n (Application x.script.number) (called n t calls.Accept [] x)
        (called_told n t calls.Accept [] x (λ tuple. tt) h)

    accepts_told : (port : Option ℕ) (t : ℕ) (socket : List ℕ) (x : Turn) → Told x → Told (accepts port t socket x)
    accepts_told None t socket x h = h
    accepts_told (Some port) t socket x h =
        accepts_one_told (position (is_ready port) x.host.flows) t socket port x h

    opens_told : (left : Bool) (q : HostParams) (slot port t : ℕ) (socket : List ℕ) (raddr rport : ℕ) (x : Turn)
        → raddr < 2 ^ 32 → Told x → Told (opens_where left (starts_of q) slot port t socket raddr rport x)
    opens_told true q slot port t socket raddr rport x far h =
        opened_told x.host slot _ _ _ (ap (λ (r : HostParams). r.addr) h.params) far tt h
    opens_told false q slot port t socket raddr rport x far h = line_told t x.host _ tt h

    connects_told : (q : HostParams) (free : Option ℕ) (t : ℕ) (socket : List ℕ) (raddr rport : ℕ) (x : Turn)
        → raddr < 2 ^ 32 → Told x → Told (connects (starts_of q) free t socket raddr rport x)
    connects_told q None t socket raddr rport x far h = line_told t x.host _ tt h
    connects_told q (Some slot) t socket raddr rport x far h =
        opens_told (nat_lt (first_port + ports_given x.host) (2 ^ 16)) q slot (first_port + ports_given x.host) t
        socket raddr rport x far h

    on_flow_told : (o : Option ℕ) (act : (flow : ℕ) → Turn → Turn) (x : Turn) → ((n : ℕ) → Told (act n x)) → Told x
        → Told (on_flow o act x)
    on_flow_told None act x each h = h
    on_flow_told (Some n) act x each h = each n

    connects_on_told : (q : HostParams) (begun : Bool) (t : ℕ) (socket : List ℕ) (raddr rport : ℕ) (x : Turn)
        → raddr < 2 ^ 32 → Told x → Told (connects_on (starts_of q) begun t socket raddr rport x)
    connects_on_told q false t socket raddr rport x far h =
        connects_told q (lowest_free x.host) t socket raddr rport x far h
    connects_on_told q true t socket raddr rport x far h =
        on_flow_told (flow_of (bound_in x.script.names socket)) (λ (n : ℕ). waits_for n t calls.Ready) x
        (λ n. called_told n t calls.Ready [] x (λ tuple. tt) h) h

    sends_told : (t : ℕ) (bytes : List ℕ) (socket : List ℕ) (x : Turn) → Told x
        → Told (on_socket socket (λ (n : ℕ). sends n t bytes) x)
    sends_told t bytes socket x h =
        on_flow_told (flow_of (bound_in x.script.names socket)) (λ (n : ℕ). sends n t bytes) x
        (λ n. called_told n t _ _ x (λ tuple. tt) h) h

    receives_told : (t : ℕ) (all : Option ℕ) (socket : List ℕ) (x : Turn) → Told x
        → Told (on_socket socket (λ (n : ℕ). receives n t all) x)
    receives_told t all socket x h =
        on_flow_told (flow_of (bound_in x.script.names socket)) (λ (n : ℕ). receives n t all) x
        (λ n. called_told n t _ [] x (λ tuple. tt) h) h

    ends_told : (t : ℕ) (call : Call) (socket : List ℕ) (x : Turn) → NamesNone call → Told x
        → Told (on_socket socket (λ (n : ℕ). ends n t call socket) x)
    ends_told t call socket x none h =
        on_flow_told (flow_of (bound_in x.script.names socket)) (λ (n : ℕ). ends n t call socket) x
        (λ n. holds_told n GivenUp (called n t call [] x) (called_told n t call [] x none h)) h

    step_told : (q : HostParams) (address : List ℕ → ℕ) (t : ℕ) (step : Step) (x : Turn) → AreLow address → Told x
        → Told (step_of (starts_of q) address t step x)
    step_told q address t (steps.Listen name port) x low h = listens_told (is_listened port x.host) t name port x h
    step_told q address t (steps.Accept socket listener) x low h =
        accepts_told (port_of (bound_in x.script.names listener)) t socket x h
    step_told q address t (steps.Connect socket host port) x low h =
        connects_on_told q x.script.begun t socket (address host) port x (low host) h
    step_told q address t (steps.Send socket text) x low h = sends_told t text socket x h
    step_told q address t (steps.Fill socket count) x low h = sends_told t (filling count) socket x h
    step_told q address t (steps.Recv socket count) x low h = receives_told t (Some count) socket x h
    step_told q address t (steps.Drain socket) x low h = receives_told t None socket x h
    step_told q address t (steps.Shut socket) x low h =
        on_flow_told (flow_of (bound_in x.script.names socket)) (λ (n : ℕ). once n t calls.Shut) x
        (λ n. called_told n t calls.Shut [] x (λ tuple. tt) h) h
    step_told q address t (steps.Close socket) x low h = ends_told t calls.Close socket x (λ tuple. tt) h
    step_told q address t (steps.Abort socket) x low h = ends_told t calls.Abort socket x (λ tuple. tt) h
    step_told q address t (steps.Wait ticks) x low h = h

    goes_told : (q : HostParams) (address : List ℕ → ℕ) (t : ℕ) (left : List Step) (x : Turn) → AreLow address → Told x
        → Told (goes_on (starts_of q) address t left x)
    goes_told q address t [] x low h = h
    goes_told q address t (step ∷ rest) x low h = step_told q address t step x low h

    aborted_told : (concerned : Bool) (t : ℕ) (l : Live) → LiveTold l → LiveTold (aborted_where concerned t l)
    aborted_told true t l told =
        let called_too = call_told Slow t calls.Abort [] l tt told in
        record { params = called_too.params; own = called_too.own; far = called_too.far; calls = called_too.calls }
    aborted_told false t l told = told

    turn_told : (b : Bool) (q : HostParams) (address : List ℕ → ℕ) (t : ℕ) (x : Turn) → AreLow address → Told x
        → Told (turn_where b (starts_of q) address t x)
    turn_told true q address t x low h = record {
      params = h.params;
      flows =
          each_map LiveTold _ (λ l told. aborted_told (is_concerned x.script.number x.host l) t l told) x.host.flows
          h.flows;
      lines = h.lines;
    }
    turn_told false q address t x low h = goes_told q address t x.script.left x low h

    abbrev At : Type 0
    At = Site (List Script)

    asked_told : (q : HostParams) (address : List ℕ → ℕ) (t : ℕ) (o : Option Script) (site : At) → AreLow address
        → HostTold site.host
        → HostTold (asked_of (starts_of q) address t o site).host
    asked_told q address t None site low h = h
    asked_told q address t (Some s) site low h =
        turn_told (is_killed_at t s.kill) q address t (record { host = site.host; script = s }) low h

    -- ----- what is due
    abbrev Fit : Action ℕ → Type 0
    Fit (Frame x) = Comes p.addr x
    Fit _ = Unit {0}

    timers_fit : (n : ℕ) (ls : List Live) → Each Fit (timers_from n ls)
    timers_fit n [] = tt
    timers_fit n (l ∷ ls) = (tt, timers_fit (n + 1) ls)

    frames_fit : (frames : List Arrival) → Each (Comes p.addr) frames → Each Fit (map Frame frames)
    frames_fit [] all = tt
    frames_fit (x ∷ xs) all = (all.0, frames_fit xs all.1)

    asks_fit : (asks : List ℕ) → Each Fit (map Ask asks)
    asks_fit [] = tt
    asks_fit (a ∷ asks) = (tt, asks_fit asks)

    due_fit : (ls : List Live) (due : Due ℕ) → Each (Comes p.addr) due.frames → Each Fit (due_actions ls due)
    due_fit ls due all =
        each_append Fit (timers_from 0 ls) (map Frame due.frames ++ map Ask due.asks) (timers_fit 0 ls)
        (each_append Fit (map Frame due.frames) (map Ask due.asks) (frames_fit due.frames all) (asks_fit due.asks))

    each_filter : (test : Action ℕ → Bool) (xs : List (Action ℕ)) → Each Fit xs → Each Fit (filter test xs)
    each_filter test [] all = tt
    each_filter test (x ∷ xs) all = by_test (test x) (each_filter test xs all.1) where
      by_test : (b : Bool) → Each Fit (filter test xs) → Each Fit (cond b (x ∷ filter test xs) (filter test xs))
      by_test true rest = (all.0, rest)
      by_test false rest = rest

    -- what each frame's part of an order has, the order has
    order_fit : (scripts : Scripts (List Script) ℕ) (xs : List (Action ℕ))
        → ((f : FrameId) → Each Fit (filter (is_by scripts (OfFrame f)) xs)) → Each Fit xs
    order_fit scripts [] all = tt
    order_fit scripts (x ∷ xs) all =
        (first x all, order_fit scripts xs (λ f. rest (is_by scripts (OfFrame f) x) f (all f))) where
          first : (x : Action ℕ) → ((f : FrameId) → Each Fit (filter (is_by scripts (OfFrame f)) (x ∷ xs))) → Fit x
          first (Frame y) all =
              let others : List (Action ℕ) = filter (is_by scripts (OfFrame y.frame)) xs in
              (subst (λ (b : Bool). Each Fit (cond b (Frame y ∷ others) others)) (same_self y.frame) (all y.frame)).0
          first _ all = tt

          rest : (b : Bool) (f : FrameId)
              → Each Fit (cond b (x ∷ filter (is_by scripts (OfFrame f)) xs) (filter (is_by scripts (OfFrame f)) xs))
              → Each Fit (filter (is_by scripts (OfFrame f)) xs)
          rest true f all = all.1
          rest false f all = all

    -- ----- ticks
    done_told : (s : Scenario) (q : HostParams) (t : ℕ) (site : At) (by : Caller) (action : Action ℕ)
        → AreLow (address_in s.hosts) → Fit action → HostTold site.host
        → HostTold (done_by (scripts_of s q) t site by action).host
    done_told s q t site by (Timer n) low fit h = at_told site.host n (timed by t) (timed_told by t) h
    done_told s q t site by (Frame x) low fit h =
        packet_told by q t site.host x.frame x.packet fit.src fit.frame fit.packet h
    done_told s q t site by (Ask k) low fit h =
        asked_told q (address_in s.hosts) t (find (λ (x : Script). x.number == k) site.scripts) site low h
    done_told s q t site by (Emission n) low fit h = at_told site.host n (emits by t) (emits_told by t) h

    all_told : (s : Scenario) (q : HostParams) (t : ℕ) (site : At) (order : List (Deed ℕ))
        → AreLow (address_in s.hosts) → Each Fit (actions_of order) → HostTold site.host
        → HostTold (fold (does (scripts_of s q) t) site order).host
    all_told s q t site [] low fit h = h
    all_told s q t site (m ∷ order) low fit h =
        all_told s q t (does (scripts_of s q) t site m) order low fit.1 (done_told s q t site m.by m.action low fit.0 h)

    pub round_told : (s : Scenario) (q : HostParams) (t : ℕ) (due : Due ℕ) (before after : At)
        → AreLow (address_in s.hosts) → Round (scripts_of s q) t due before after
        → Each (Comes p.addr) due.frames → HostTold before.host
        → HostTold after.host
    round_told s q t due before after low round fit h =
        let start : HostTold (all_swept before.host) =
        flows_told before.host _ h (each_map LiveTold swept swept_told before.host.flows h.flows) in
        let order : Each Fit (actions_of round.order) =
        order_fit (scripts_of s q) (actions_of round.order)
        (λ f. subst (λ (xs : List (Action ℕ)). Each Fit xs) (sym (round.due_each (OfFrame f)))
        (each_filter (is_by (scripts_of s q) (OfFrame f)) (due_actions before.host.flows due)
        (due_fit before.host.flows due fit))) in
        subst (λ (x : At). HostTold x.host) round.made
        (all_told s q t (on_host all_swept before) round.order low order start)

-- In every run of a scenario whose grammar is kept the connects of a host get its ports in order.
use Rattle.std.proofs.Common.{◌≡◌, ℕ, zero, suc, ◌+◌, ◌≤◌, ◌<◌, ◌==◌, ◌||◌, Bool, true, false, List, []}
use Rattle.std.proofs.Common.{◌∷◌, ◌++◌, length, drop, map, Some, if◌then◌else◌, bytes_eq}
use Rattle.std.proofs.Common.{nat_lt, ◌^◌, refl, sym, subst, ap, ◌∙◌, true≢false, arith, tests}
use Rattle.std.specs.List.{list_any}
use Rattle.std.proofs.lemmas.List.Folds.{list_any-append}
use Rattle.tas_model.specs.declared.entry.HostParams.{HostParams}
use Rattle.tas_model.specs.declared.entry.Caller.TheVariants.{Slow, App}
use Rattle.tas_model.specs.declared.entry.Call.{Call}
use Rattle.tas_model.specs.declared.entry.Call.TheVariants as calls
use Rattle.host_rounds.specs.declared.log.LogLine.{LogLine}
use Rattle.host_rounds.specs.declared.log.LogEvent.{LogEvent}
use Rattle.host_rounds.specs.declared.log.LogEvent.TheVariants as events
use Rattle.host_rounds.specs.Lists.{Each, change_at}
use Rattle.host_rounds.specs.Logs.{RunLog, HostRun, Flow}
use Rattle.host_rounds.specs.Hosts.{Live, Host, Holder, Application, GivenUp, Listener, Starts, with_call, logged}
use Rattle.host_rounds.specs.Hosts.{is_listening, first_port, ports_given, flows_of}
use Rattle.host_rounds.proofs.AllLegal.{each_first, each_push}
use Rattle.scenario_text.specs.declared.scenario.Step.{Step}
use Rattle.scenario_text.specs.declared.scenario.Step.TheVariants as steps
use Rattle.scenario_text.specs.declared.scenario.Scenario.{Scenario}
use Rattle.scenario_text.specs.declared.scenario.HostLine.{HostLine}
use Rattle.scenario_text.specs.declared.scenario.AppLine.{AppLine}
use Rattle.scenario_text.specs.declared.scenario.KillLine.{KillLine}
use Rattle.scenario_ranges.specs.Ranges.{IsStepInRange, IsHostInRange, IsInRange}
use Rattle.scenario_runs.specs.Applications.{Script, Turn, is_concerned, aborted_where, killed, is_killed_at}
use Rattle.scenario_runs.specs.Applications.{goes_on, turn_where}
use Rattle.scenario_runs.specs.Applications.{opens_where, connects, refused}
use Rattle.scenario_runs.specs.Worlds.{starts_of, address_in, scripts_on, kill_tick}
use Rattle.scenario_runs.specs.Runs.{Run}
use Rattle.scenario_laws.specs.Ports.{begins_by_connect, connect_ports, ports_from, all_ports, is_port_wanting}
use Rattle.scenario_laws.specs.Ports.{had_no_port}
use Rattle.scenario_laws.specs.Turns.{turn_on, GoesOn}
use Rattle.scenario_laws.proofs.Goes.{turn_goes}
use Rattle.scenario_laws.proofs.Acts.{Act, Rests, Calls, Accepts, Connects, GivesUp, Notes, Listens, leaves}
use Rattle.scenario_laws.proofs.Acts.{IsPlainCall}
use Rattle.scenario_laws.proofs.Acts.{IsLastCall, MayNote, MayAct, step_acts}
use Rattle.scenario_laws.proofs.Sockets.{each_filter}
use Rattle.scenario_laws.proofs.Deeds.{found_has, At, IsFrameLine, Keeps}
use Rattle.scenario_laws.proofs.AllKept.{Stays, leads_by, each_host}
use Rattle.scenario_laws.proofs.AllPorts.{AllAlike, BegunAlike, called_alike, alike, all_worked_alike, at_alike}
use Rattle.scenario_laws.proofs.AllPorts.{map_alike, IsAtListener, ports_of, FlowsRight, ports_alike, right_alike}
use Rattle.scenario_laws.proofs.AllPorts.{connect_right, syn_right, ports_grow}

-- ----- one host
abbrev IsBelow : Listener → Type 0
IsBelow l = l.port < first_port

-- Nobody listens on a port of connects, connects have theirs in order, and one was refused for want of a port only
-- where all were given.
record HostRight (host : Host) : Type 0 where
  fixed : host.params.fixed ≡ false
  listens : Each IsBelow host.listeners
  flows : FlowsRight host.flows
  log : had_no_port host.log ≡ true → length (ports_of host.flows) ≡ all_ports

flows_right : (host : Host) (ms : List Live) → AllAlike host.flows ms → HostRight host
    → HostRight (record host { flows = ms })
flows_right host ms all right = record {
  fixed = right.fixed;
  listens = right.listens;
  flows = right_alike host.flows ms all right.flows;
  log = λ h. ap (λ (ns : List ℕ). length ns) (ports_alike host.flows ms all) ∙ right.log h;
}

line_right : (host : Host) (t : ℕ) (event : LogEvent)
    → (is_port_wanting event ≡ true → length (ports_of host.flows) ≡ all_ports) → HostRight host
    → HostRight (logged host t event)
line_right host t event wanting right = record {
  fixed = right.fixed;
  listens = right.listens;
  flows = right.flows;
  log = λ h. either (had_no_port host.log) (is_port_wanting event) right.log wanting
      (sym (list_any-append (λ (line : LogLine). is_port_wanting line.event) host.log _) ∙ h);
} where
  either : (a b : Bool) → (a ≡ true → length (ports_of host.flows) ≡ all_ports)
      → (b ≡ true → length (ports_of host.flows) ≡ all_ports) → (a || (b || false)) ≡ true
      → length (ports_of host.flows) ≡ all_ports
  either true b f g h = f refl
  either false true f g h = g refl
  either false false f g h = absurd (true≢false (sym h))

-- one flow more
flow_right : (host : Host) (l : Live) → FlowsRight (host.flows ++ l ∷ []) → HostRight host
    → HostRight (record host { flows = host.flows ++ l ∷ [] })
flow_right host l flows right =
    let grows : length (ports_of host.flows) ≤ length (ports_of (host.flows ++ l ∷ [])) = ports_grow host.flows l in
    let most : length (ports_of (host.flows ++ l ∷ [])) ≤ all_ports = flows.most in
    record {
      fixed = right.fixed;
      listens = right.listens;
      flows = flows;
      log = λ h. (let before : length (ports_of host.flows) ≡ all_ports = right.log h in omega arith);
    }

listeners_right : (host : Host) (ls : List Listener) → Each IsBelow ls → HostRight host
    → HostRight (record host { listeners = ls })
listeners_right host ls below right = record {
  fixed = right.fixed;
  listens = below;
  flows = right.flows;
  log = right.log;
}

-- ----- acts
pub plain_call : (call : Call) → IsPlainCall call → (l : Live) (n t : ℕ) (offer : List ℕ)
    → BegunAlike l (with_call l (App n) t call offer)
plain_call (calls.Connect iss) kind l n t offer = absurd kind
plain_call call kind l n t offer = called_alike l (App n) t call offer refl

pub last_call : (call : Call) → IsLastCall call → (l : Live) (n t : ℕ) → BegunAlike l (with_call l (App n) t call [])
last_call (calls.Connect iss) kind l n t = absurd kind
last_call call kind l n t = called_alike l (App n) t call [] refl

pub held_alike : (holder : Holder) (l : Live) → BegunAlike l (record l { holder = holder })
held_alike holder l = record { tuple = refl; connect = refl }

pub all_both : (ls ms ns : List Live) → AllAlike ls ms → AllAlike ms ns → AllAlike ls ns
all_both [] [] [] a b = tt
all_both [] [] (n ∷ ns) a b = absurd b
all_both [] (m ∷ ms) ns a b = absurd a
all_both (l ∷ ls) [] ns a b = absurd a
all_both (l ∷ ls) (m ∷ ms) [] a b = absurd b
all_both (l ∷ ls) (m ∷ ms) (n ∷ ns) a b = (
  record { tuple = b.0.tuple ∙ a.0.tuple; connect = b.0.connect ∙ a.0.connect },
  all_both ls ms ns a.1 b.1,
)

-- a call, after which the socket changes hands
passed_right : (host : Host) (k : ℕ) (f g : Live → Live) → ((l : Live) → BegunAlike l (f l))
    → ((l : Live) → BegunAlike l (g l)) → HostRight host
    → HostRight (record host { flows = change_at k g (change_at k f host.flows) })
passed_right host k f g one two right =
    flows_right host (change_at k g (change_at k f host.flows))
    (all_both host.flows (change_at k f host.flows) _ (at_alike k f one host.flows)
    (at_alike k g two (change_at k f host.flows))) right

note_wants : (host : Host) (event : LogEvent) → MayNote host event → HostRight host → is_port_wanting event ≡ true
    → length (ports_of host.flows) ≡ all_ports
note_wants host (events.Listen app port ok) may right h = absurd (true≢false (sym h))
note_wants host (events.AcceptNotYet app port) may right h = absurd (true≢false (sym h))
note_wants host (events.ConnectRefused app raddr rport true) may right h =
    let most : length (ports_of host.flows) ≤ all_ports = right.flows.most in
    let given : ports_given host ≡ length (ports_of host.flows) = right.flows.given in
    let none_left : 65536 ≤ first_port + ports_given host = grind (arith, tests, may) in
    omega arith
note_wants host (events.ConnectRefused app raddr rport false) may right h = absurd (true≢false (sym h))
note_wants host (events.Stray frame tuple seg answer) may right h = absurd may
note_wants host (events.Dropped frame backlog) may right h = absurd may
note_wants host (events.Refused frame number) may right h = absurd may

listen_below : (step : Step) (name : List ℕ) (port : ℕ) → step ≡ steps.Listen name port → IsStepInRange step
    → port < first_port
listen_below step name port same range =
    let here : IsStepInRange (steps.Listen name port) = subst IsStepInRange same range in
    let most : port ≤ 49151 = here.1 in omega arith

act_right : (starts : Starts) (t n : ℕ) (step : Step) (host : Host) (act : Act) → MayAct step host act
    → IsStepInRange step → HostRight host → HostRight (leaves starts t n host act)
act_right starts t n step host Rests may range right = right
act_right starts t n step host (Calls k call offer) may range right =
    flows_right host _ (at_alike k (λ (l : Live). with_call l (App n) t call offer)
    (λ l. plain_call call may l n t offer) host.flows) right
act_right starts t n step host (Accepts k) may range right =
    passed_right host k _ _ (λ l. called_alike l (App n) t calls.Accept [] refl) (held_alike (Application n)) right
act_right starts t n step host (Connects slot tuple) may range right =
    flow_right host _ (connect_right host.flows _ right.flows refl may.0 may.1) right
act_right starts t n step host (GivesUp k call) may range right =
    passed_right host k _ _ (λ l. last_call call may l n t) (held_alike GivenUp) right
act_right starts t n step host (Notes event) may range right =
    line_right host t event (note_wants host event may right) right
act_right starts t n step host (Listens port) may range right =
    listeners_right (logged host t (events.Listen n port true)) _
    (each_push IsBelow host.listeners _ right.listens (listen_below step may.0 port may.1 range))
    (line_right host t (events.Listen n port true) (λ h. absurd (true≢false (sym h))) right)

-- ----- a kill
pub aborted_alike : (concerned : Bool) (t : ℕ) (l : Live) → BegunAlike l (aborted_where concerned t l)
aborted_alike true t l =
    let called : BegunAlike l (with_call l Slow t calls.Abort []) = called_alike l Slow t calls.Abort [] refl in
    record { tuple = refl; connect = called.connect }
aborted_alike false t l = alike l

killed_right : (t : ℕ) (x : Turn) → HostRight x.host → HostRight (killed t x).host
killed_right t x right =
    listeners_right (record x.host {
      flows = map (λ (l : Live). aborted_where (is_concerned x.script.number x.host l) t l) x.host.flows;
    }) _ (each_filter IsBelow _ x.host.listeners right.listens)
    (flows_right x.host _ (map_alike _ (λ l. aborted_alike (is_concerned x.script.number x.host l) t l) x.host.flows)
    right)

-- ----- a turn
abbrev AllInRange : Script → Type 0
AllInRange b = Each IsStepInRange b.left

turn_right : (s : Scenario) (p : HostParams) (t : ℕ) (host : Host) (x : Script) → AllInRange x → HostRight host
    → HostRight (turn_on s p t host x).host
turn_right s p t host x range right = by_kill (is_killed_at t x.kill) where
  here : Turn
  here = record { host = host; script = x }

  by_left : (left : List Step) → Each IsStepInRange left
      → HostRight (goes_on (starts_of p) (address_in s.hosts) t left here).host
  by_left [] each = right
  by_left (step ∷ rest) each =
      let acted = step_acts (starts_of p) (address_in s.hosts) t step here in
      subst HostRight (sym acted.left) (act_right (starts_of p) t x.number step host acted.act acted.may each.0 right)

  by_kill : (b : Bool) → HostRight (turn_where b (starts_of p) (address_in s.hosts) t here).host
  by_kill true = killed_right t here right
  by_kill false = by_left x.left range

each_drop : (over : ℕ) (left : List Step) → Each IsStepInRange left → Each IsStepInRange (drop over left)
each_drop zero left each = each
each_drop (suc over) [] each = tt
each_drop (suc over) (step ∷ left) each = each_drop over left each.1

turn_in_range : (s : Scenario) (p : HostParams) (t : ℕ) (host : Host) (x : Script) → AllInRange x
    → AllInRange (turn_on s p t host x).script
turn_in_range s p t host x range = by_kill (is_killed_at t x.kill) refl where
  goes : GoesOn t x (turn_on s p t host x).script
  goes = turn_goes (starts_of p) (address_in s.hosts) t (record { host = host; script = x })

  by_kill : (b : Bool) → is_killed_at t x.kill ≡ b → AllInRange (turn_on s p t host x).script
  by_kill true h = subst (λ (left : List Step). Each IsStepInRange left) (sym (goes.killed h)) tt
  by_kill false h =
      let steps = goes.steps h in
      subst (λ (left : List Step). Each IsStepInRange left) (sym steps.2) (each_drop steps.0 x.left range)

-- ----- a host and its scripts
record SiteRight (site : At) : Type 0 where
  host : HostRight site.host
  scripts : Each AllInRange site.scripts

listened_below : (port : ℕ) (ls : List Listener) → Each IsBelow ls
    → list_any (λ (l : Listener). l.port == port) ls ≡ true → port < first_port
listened_below port [] each h = absurd (true≢false (sym h))
listened_below port (l ∷ ls) each h =
    by_port (l.port == port) refl h (λ later. listened_below port ls each.1 later)
  where
    by_port : (b : Bool) → (l.port == port) ≡ b → (b || list_any (λ (l : Listener). l.port == port) ls) ≡ true
        → (list_any (λ (l : Listener). l.port == port) ls ≡ true → port < first_port) → port < first_port
    by_port true e g rest = let below : l.port < first_port = each.0 in grind (arith, tests, e)
    by_port false e g rest = rest g

listening_below : (host : Host) (port : ℕ) → HostRight host → is_listening host port ≡ true → port < first_port
listening_below host port right h = listened_below port host.listeners right.listens
    (subst (λ (b : Bool). (b || list_any (λ (l : Listener). l.port == port) host.listeners) ≡ true) right.fixed h)

not_wanting : (event : LogEvent) → IsFrameLine event → is_port_wanting event ≡ false
not_wanting (events.ConnectRefused app raddr rport no_port) kind = absurd kind
not_wanting event kind = refl

ports_keep : (s : Scenario) (p : HostParams) (t : ℕ) → Keeps s p t SiteRight
ports_keep s p t = record {
  flows = λ site ms worked right. record {
    host = flows_right site.host ms (all_worked_alike t site.host.flows ms worked) right.host;
    scripts = right.scripts;
  };
  line = λ site event kind right. record {
    host = line_right site.host t event (λ h. absurd (true≢false (sym h ∙ not_wanting event kind))) right.host;
    scripts = right.scripts;
  };
  syn = λ site slot start frame tuple seg listening right. record {
    host = flow_right site.host _ (syn_right site.host.flows _ right.host.flows refl
        (listening_below site.host tuple.lport right.host listening)) right.host;
    scripts = right.scripts;
  };
  turn = λ site k x found rise right. (
      let range : AllInRange x =
      found_has AllInRange (λ (b : Script). b.number == k) site.scripts x found right.scripts in
      record {
        host = turn_right s p t site.host x range right.host;
        scripts = each_first AllInRange _ _ (λ b each. turn_in_range s p t site.host x range) site.scripts
            right.scripts;
      });
}

-- ----- a run
scripts_in_range : (kills : List KillLine) (host : List ℕ) (n : ℕ) (apps : List AppLine)
    → Each (λ (app : AppLine). Each IsStepInRange app.steps) apps → Each AllInRange (scripts_on kills host n apps)
scripts_in_range kills host n [] each = tt
scripts_in_range kills host n (app ∷ apps) each =
    by_host (bytes_eq app.host host) (scripts_in_range kills host (n + 1) apps each.1)
  where
    by_host : (b : Bool) → Each AllInRange (scripts_on kills host (n + 1) apps)
        → Each AllInRange ((if b
        then (record {
          number = n;
          kill = kill_tick kills app;
          left = app.steps;
          done = 0;
          begun = false;
          names = [];
        }) ∷ []
        else [])
        ++ scripts_on kills host (n + 1) apps)
    by_host true rest = (each.0, rest)
    by_host false rest = rest

abbrev Right : HostLine → ℕ → At → Type 0
Right l t site = SiteRight site

start_right : (s : Scenario) (lines : List HostLine) → IsInRange s → Each IsHostInRange lines
    → Each (λ (l : HostLine). SiteRight (record {
      host = record { params = l.params; listeners = []; log = []; flows = [] };
      scripts = scripts_on s.kills l.name 0 s.apps;
    })) lines
start_right s [] range each = tt
start_right s (l ∷ ls) range each = (
  record {
    host = record {
      fixed = each.0.listens;
      listens = tt;
      flows = record { ports = refl; most = omega arith; given = refl; low = tt };
      log = λ h. absurd (true≢false (sym h));
    };
    scripts = scripts_in_range s.kills l.name 0 s.apps range.steps;
  },
  start_right s ls range each.1,
)

ports_stay : (s : Scenario) → IsInRange s → Stays s Right
ports_stay s range = record {
  start = start_right s s.hosts range range.hosts;
  leads = leads_by s Right (λ l p t. ports_keep s p t) (λ l t b a goes before after. after);
}

abbrev InOrder : HostRun → Type 0
InOrder h = connect_ports h.flows ≡ ports_from first_port (length (connect_ports h.flows))

pub ports_in_order : (s : Scenario) (log : RunLog) → IsInRange s → Run s log → Each InOrder log.hosts
ports_in_order s log range run =
    each_host s log Right (λ ticks h. InOrder h) run (ports_stay s range) (λ t l site right. right.host.flows.ports)

pub ports_most : (s : Scenario) (log : RunLog) → IsInRange s → Run s log
    → Each (λ (h : HostRun). length (connect_ports h.flows) ≤ all_ports) log.hosts
ports_most s log range run =
    each_host s log Right (λ ticks h. length (connect_ports h.flows) ≤ all_ports) run (ports_stay s range)
    (λ t l site right. right.host.flows.most)

pub ports_wanting : (s : Scenario) (log : RunLog) → IsInRange s → Run s log
    → Each (λ (h : HostRun). had_no_port h.log ≡ true → length (connect_ports h.flows) ≡ all_ports) log.hosts
ports_wanting s log range run =
    each_host s log Right (λ ticks h. had_no_port h.log ≡ true → length (connect_ports h.flows) ≡ all_ports) run
    (ports_stay s range) (λ t l site right. right.host.log)

low_flows : (ls : List Live) → Each IsAtListener ls
    → Each (λ (f : Flow). begins_by_connect f.entries ≡ false → f.tuple.lport < first_port) (flows_of ls)
low_flows [] each = tt
low_flows (l ∷ ls) each = (each.0, low_flows ls each.1)

pub ports_of_listeners : (s : Scenario) (log : RunLog) → IsInRange s → Run s log
    → Each (λ (h : HostRun). Each (λ (f : Flow). begins_by_connect f.entries ≡ false → f.tuple.lport < first_port)
    h.flows) log.hosts
ports_of_listeners s log range run =
    each_host s log Right
    (λ ticks h. Each (λ (f : Flow). begins_by_connect f.entries ≡ false → f.tuple.lport < first_port) h.flows) run
    (ports_stay s range) (λ t l site right. low_flows site.host.flows right.host.flows.low)

-- ----- no port left
where_none : (left : Bool) (starts : Starts) (slot port t : ℕ) (socket : List ℕ) (raddr rport : ℕ) (x : Turn)
    → left ≡ false → opens_where left starts slot port t socket raddr rport x ≡ refused true t raddr rport x
where_none true starts slot port t socket raddr rport x h = absurd (true≢false h)
where_none false starts slot port t socket raddr rport x h = refl

pub none_left_refused : (starts : Starts) (slot t : ℕ) (socket : List ℕ) (raddr rport : ℕ) (x : Turn)
    → ports_given x.host ≡ all_ports
    → connects starts (Some slot) t socket raddr rport x ≡ refused true t raddr rport x
none_left_refused starts slot t socket raddr rport x h =
    let past : 65536 ≤ first_port + ports_given x.host = omega arith in
    where_none (nat_lt (first_port + ports_given x.host) (2 ^ 16)) starts slot (first_port + ports_given x.host) t
    socket raddr rport x (grind (arith, tests, past))

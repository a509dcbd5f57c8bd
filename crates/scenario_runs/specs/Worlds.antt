-- Several hosts, their applications and the link between them: how a world begins, and which frames come to a host
-- in a tick.
use Rattle.std.specs.Prelude.{ℕ, ◌+◌, ◌*◌, ◌-◌, ◌%◌, ◌^◌, ◌==◌, ◌&&◌, not, Bool, true, false, List, [], ◌∷◌, ◌++◌}
use Rattle.std.specs.Prelude.{length, map, filter, position, nat_lt, bytes_eq, Option, Some, None, unwrap_or}
use Rattle.std.specs.Prelude.{if◌then◌else◌}
use Rattle.std.specs.List.{list_any, list_all, find}
use Rattle.tas_model.specs.declared.entry.HostParams.{HostParams}
use Rattle.tas_model.specs.declared.entry.FourTuple.{FourTuple}
use Rattle.tas_model.specs.declared.entry.Head.{Head}
use Rattle.tas_model.specs.declared.entry.Seg.{Seg}
use Rattle.tas_model.specs.declared.entry.Entry.{Entry}
use Rattle.tas_model.specs.Segments.{bare}
use Rattle.tas_model.specs.Outputs.{segments_in}
use Rattle.segment_fields.specs.Canon.{canon}
use Rattle.host_rounds.specs.declared.log.LogLine.{LogLine}
use Rattle.host_rounds.specs.declared.log.LogEvent.{LogEvent}
use Rattle.host_rounds.specs.declared.log.LogEvent.TheVariants as events
use Rattle.host_rounds.specs.Lists.{change_first}
use Rattle.host_rounds.specs.Hosts.{Live, Starts, is_over}
use Rattle.host_rounds.specs.Deliveries.{Arrival, Packet}
use Rattle.host_rounds.specs.Deliveries.{Damaged as damaged, Segment as segment}
use Rattle.host_rounds.specs.Scripts.{Scripts, Site}
use Rattle.host_rounds.specs.Rounds.{Due}
use Rattle.tas_runs.specs.Records.{Content, Damaged, Remote, Local, due_content}
use Rattle.tas_runs.specs.SentFrames.{sent_fields}
use Rattle.link_script.specs.declared.frames.Sent.{Sent}
use Rattle.link_script.specs.LinkLines.{LinkLines}
use Rattle.link_script.specs.DueFrames.{act_on, delay_by, is_lost, due}
use Rattle.scenario_text.specs.declared.scenario.Scenario.{Scenario}
use Rattle.scenario_text.specs.declared.scenario.HostLine.{HostLine}
use Rattle.scenario_text.specs.declared.scenario.AppLine.{AppLine}
use Rattle.scenario_text.specs.declared.scenario.KillLine.{KillLine}
use Rattle.scenario_runs.specs.Applications.{Script, Turn, has_ended, turn}

-- ----- a world
abbrev pub World : Type 0
World = List (Site (List Script))

-- the tick in which the application is killed
abbrev pub is_kill_of : AppLine → KillLine → Bool
is_kill_of app k = bytes_eq k.host app.host && bytes_eq k.app app.name

abbrev pub kill_tick : List KillLine → AppLine → Option ℕ
kill_tick [] app = None
kill_tick (k ∷ ks) app = elim (is_kill_of app k) [ true ↦ Some k.at | false ↦ kill_tick ks app ]

-- the applications of a host, in their order; the first of all these lines has this number
abbrev pub scripts_on : List KillLine → (host : List ℕ) → (number : ℕ) → List AppLine → List Script
scripts_on kills host n [] = []
scripts_on kills host n (app ∷ apps) =
    (if bytes_eq app.host host
    then (record { number = n; kill = kill_tick kills app; left = app.steps; done = 0; begun = false; names = [] }) ∷ []
    else [])
    ++ scripts_on kills host (n + 1) apps

abbrev pub site_of : Scenario → HostLine → Site (List Script)
site_of s h =
    record {
      host = record { params = h.params; listeners = []; log = []; flows = [] };
      scripts = scripts_on s.kills h.name 0 s.apps;
    }

-- A run begins without flows, listeners and lines.
abbrev pub at_start : Scenario → World
at_start s = map (site_of s) s.hosts

-- ----- scripts
abbrev pub address_in : List HostLine → (name : List ℕ) → ℕ
address_in [] name = 0
address_in (h ∷ hs) name = elim (bytes_eq h.name name) [ true ↦ h.params.addr | false ↦ address_in hs name ]

-- The first numbers of a host's flows are 64,000 apart, from its own on, and their scale is the host's.
abbrev pub starts_of : HostParams → Starts
starts_of params tuple k n = record { number = record { 0 = (params.iss + 64000 * n) % 2 ^ 32 }; scale = None }

abbrev pub with_turn : Turn → List Script → Site (List Script)
with_turn x scripts =
    record {
      host = x.host;
      scripts = change_first
          (λ (s : Script). s.number == x.script.number) (λ (s : Script). x.script) scripts;
    }

abbrev pub asked_of : Starts → (address : List ℕ → ℕ) → (tick : ℕ) → Option Script → Site (List Script)
    → Site (List Script)
asked_of starts address t None site = site
asked_of starts address t (Some s) site =
    with_turn (turn starts address t (record { host = site.host; script = s })) site.scripts

-- The scripts of a host's applications; an application is asked by its number.
abbrev pub scripts_of : Scenario → HostParams → Scripts (List Script) ℕ
scripts_of s params =
    record {
      starts = starts_of params;
      agent = λ (k : ℕ). k;
      asked = λ (t : ℕ) (site : Site (List Script)) (k : ℕ).
          asked_of (starts_of params) (address_in s.hosts) t (find (λ (x : Script). x.number == k) site.scripts) site;
    }

-- ----- what was sent
-- the number of the host with this address
abbrev pub host_at : World → (addr : ℕ) → ℕ
host_at world addr =
    unwrap_or (position (λ (site : Site (List Script)). site.host.params.addr == addr) world) (length world)

-- The segments of one entry are frames of its flow, the first of them with this number; the segments of all its
-- entries are numbered on.
abbrev pub frames_of_segments : (host flow number tick to : ℕ) → FourTuple → List Seg → List Sent
frames_of_segments host flow n t to tuple [] = []
frames_of_segments host flow n t to tuple (seg ∷ segs) =
    (record {
      id = record { host = host; flow = flow; number = n; copy = 0 };
      tick = t;
      to = to;
      packet = canon (sent_fields tuple seg);
    })
    ∷ frames_of_segments host flow (n + 1) t to tuple segs

abbrev pub frames_of_entries : (host flow number to : ℕ) → FourTuple → List Entry → List Sent
frames_of_entries host flow n to tuple [] = []
frames_of_entries host flow n to tuple (x ∷ xs) =
    frames_of_segments host flow n x.tick to tuple (segments_in x.reply)
    ++ frames_of_entries host flow (n + length (segments_in x.reply)) to tuple xs

-- flow by flow, the first of these with this opening number
abbrev pub frames_of_flows : World → (host flow : ℕ) → List Live → List Sent
frames_of_flows world host n [] = []
frames_of_flows world host n (l ∷ ls) =
    frames_of_entries host n 0 (host_at world l.flow.tuple.raddr) l.flow.tuple l.flow.entries
    ++ frames_of_flows world host (n + 1) ls

-- a frame of no flow has the highest number as its flow
abbrev pub no_flow : ℕ
no_flow = 2 ^ 32 - 1

-- the answer that a line of the log shows, where it is one
abbrev pub answer_on : LogEvent → Option (FourTuple × Head)
answer_on (events.Stray frame tuple seg (Some head)) = Some (tuple, head)
answer_on _ = None

abbrev pub frames_of_answer : World → (host number tick : ℕ) → Option (FourTuple × Head) → List Sent
frames_of_answer world host n t None = []
frames_of_answer world host n t (Some a) =
    frames_of_segments host no_flow n t (host_at world a.0.raddr) a.0 (bare a.1 ∷ [])

-- The answers to segments of no flow are the host's own frames; one that was not answered takes no number.
abbrev pub frames_of_log : World → (host number : ℕ) → List LogLine → List Sent
frames_of_log world host n [] = []
frames_of_log world host n (l ∷ ls) =
    frames_of_answer world host n l.tick (answer_on l.event)
    ++ frames_of_log world host (n + length (frames_of_answer world host n l.tick (answer_on l.event))) ls

abbrev pub frames_of_hosts : World → (host : ℕ) → World → List Sent
frames_of_hosts world h [] = []
frames_of_hosts world h (site ∷ sites) =
    (frames_of_flows world h 0 site.host.flows ++ frames_of_log world h 0 site.host.log)
    ++ frames_of_hosts world (h + 1) sites

-- All that was sent so far.
abbrev pub sent_in : World → List Sent
sent_in world = frames_of_hosts world 0 world

-- ----- what comes
abbrev pub packet_by : Content → Packet
packet_by (Damaged rule) = damaged rule
packet_by (Remote tuple seg) = segment tuple seg
packet_by (Local tuple seg) = segment tuple seg

-- A frame is read with its checksums by the host that it comes to.
abbrev pub arrival : Sent → Arrival
arrival f = record { frame = f.id; packet = packet_by (due_content false f.packet) }

-- The frames that come to a host in a tick, of those that were sent before it.
abbrev pub arrivals_at : LinkLines → List Sent → (tick host : ℕ) → List Arrival
arrivals_at lines sent t host = map arrival (filter (λ (f : Sent). f.to == host) (due lines sent t))

-- What is due on a host: these frames, and one call of each of its applications.
abbrev pub due_at : Scenario → World → (tick host : ℕ) → List Script → Due ℕ
due_at s world t host scripts =
    record { frames = arrivals_at s.link (sent_in world) t host; asks = map (λ (x : Script). x.number) scripts }

-- ----- the end
-- the frame comes in a later tick
abbrev pub is_under_way : LinkLines → (tick : ℕ) → Sent → Bool
is_under_way lines t f = not (is_lost lines f.id) && nat_lt t (f.tick + 1 + delay_by (act_on lines f.id))

abbrev pub all_ended : World → Bool
all_ended world = list_all (λ (site : Site (List Script)). list_all has_ended site.scripts) world

abbrev pub all_closed : World → Bool
all_closed world = list_all (λ (site : Site (List Script)). list_all is_over site.host.flows) world

-- After the tick all scripts have ended, every flow is closed, and no frame is on the link.
abbrev pub is_at_rest : Scenario → (tick : ℕ) → World → Bool
is_at_rest s t world = all_ended world && all_closed world && not (list_any (is_under_way s.link t) (sent_in world))

-- The one text of a scenario.
use Rattle.std.specs.Prelude.{ℕ, ◌/◌, ◌%◌, Bool, true, false, List, [], ◌∷◌, ◌++◌, codes, decimal, Option, Some, None}
use Rattle.std.specs.Prelude.{slice_get}
use Rattle.std.specs.List.{flat_map}
use Rattle.tas_model.specs.declared.entry.HostParams.{HostParams}
use Rattle.link_script.specs.declared.script.Target.{Target}
use Rattle.link_script.specs.declared.script.DropEach.{DropEach}
use Rattle.link_script.specs.declared.script.LinkAct.{LinkAct}
use Rattle.link_script.specs.declared.script.LinkAct.TheVariants as acts
use Rattle.scenario_text.specs.declared.scenario.HostLine.{HostLine}
use Rattle.scenario_text.specs.declared.scenario.AppLine.{AppLine}
use Rattle.scenario_text.specs.declared.scenario.MoveLine.{MoveLine}
use Rattle.scenario_text.specs.declared.scenario.KillLine.{KillLine}
use Rattle.scenario_text.specs.declared.scenario.Scenario.{Scenario}
use Rattle.scenario_text.specs.declared.scenario.Step.{Step}
use Rattle.scenario_text.specs.declared.scenario.Step.TheVariants as steps

-- a line of words, with a space between two
abbrev pub line_of : (word : List ℕ) → (words : List (List ℕ)) → List ℕ
line_of word words = word ++ (flat_map (λ (w : List ℕ). 32 ∷ w) words ++ 10 ∷ [])

abbrev pub address_text : (addr : ℕ) → List ℕ
address_text addr = decimal (addr / 16777216)
    ++ (46 ∷ decimal (addr / 65536 % 256) ++ (46 ∷ decimal (addr / 256 % 256) ++ (46 ∷ decimal (addr % 256))))

-- a shift stands only where one was given
abbrev pub scale_words : Option ℕ → List (List ℕ)
scale_words None = []
scale_words (Some shift) = codes "scale" ∷ decimal shift ∷ []

-- a host with all its options, in this order
abbrev pub params_words : HostParams → List (List ℕ)
params_words p = codes "iss" ∷ decimal p.iss ∷ codes "ring" ∷ decimal p.ring ∷ codes "mss" ∷ decimal p.mss ∷ codes "rto"
    ∷ decimal p.rto ∷ codes "slots" ∷ decimal p.slots ∷ codes "backlog" ∷ decimal p.backlog ∷ scale_words p.scale

abbrev pub host_text : HostLine → List ℕ
host_text h = line_of (codes "host") (h.name ∷ address_text h.params.addr ∷ params_words h.params)

abbrev pub step_text : Step → List ℕ
step_text (steps.Listen name port) = line_of (codes "listen") (name ∷ decimal port ∷ [])
step_text (steps.Accept name listener) = line_of (codes "accept") (name ∷ listener ∷ [])
step_text (steps.Connect name host port) = line_of (codes "connect") (name ∷ host ∷ decimal port ∷ [])
step_text (steps.Send name text) = line_of (codes "send") (name ∷ text ∷ [])
step_text (steps.Fill name count) = line_of (codes "fill") (name ∷ decimal count ∷ [])
step_text (steps.Recv name count) = line_of (codes "recv") (name ∷ decimal count ∷ [])
step_text (steps.Drain name) = line_of (codes "drain") (name ∷ [])
step_text (steps.Shut name) = line_of (codes "shut") (name ∷ [])
step_text (steps.Close name) = line_of (codes "close") (name ∷ [])
step_text (steps.Abort name) = line_of (codes "abort") (name ∷ [])
step_text (steps.Wait ticks) = line_of (codes "wait") (decimal ticks ∷ [])

abbrev pub app_text : AppLine → List ℕ
app_text a = line_of (codes "app") (a.host ∷ a.name ∷ []) ++ flat_map step_text a.steps

-- the name of the host of a number
abbrev pub name_in : Option HostLine → List ℕ
name_in None = []
name_in (Some h) = h.name

abbrev pub name_at : List HostLine → (host : ℕ) → List ℕ
name_at hosts host = name_in (slice_get hosts host)

abbrev pub act_line : (host flow number : List ℕ) → LinkAct → List ℕ
act_line host flow number acts.Drop = line_of (codes "drop") (host ∷ flow ∷ number ∷ [])
act_line host flow number acts.Dup = line_of (codes "dup") (host ∷ flow ∷ number ∷ [])
act_line host flow number (acts.Delay ticks) = line_of (codes "delay") (host ∷ flow ∷ number ∷ decimal ticks ∷ [])
act_line host flow number (acts.Corrupt place) = line_of (codes "corrupt") (host ∷ flow ∷ number ∷ decimal place ∷ [])

abbrev pub act_text : List HostLine → Target × LinkAct → List ℕ
act_text hosts line = act_line (name_at hosts line.0.host) (decimal line.0.flow) (decimal line.0.number) line.1

abbrev pub each_text : List HostLine → DropEach → List ℕ
each_text hosts line = line_of (codes "dropeach") (name_at hosts line.host ∷ decimal line.k ∷ [])

abbrev pub move_text : MoveLine → List ℕ
move_text m = line_of (codes "move") (m.host ∷ decimal m.group ∷ decimal m.core ∷ codes "at" ∷ decimal m.at ∷ [])

abbrev pub holding_words : Bool → List (List ℕ)
holding_words true = codes "holding" ∷ []
holding_words false = []

abbrev pub kill_text : KillLine → List ℕ
kill_text k = line_of (codes "kill") (k.host ∷ k.app ∷ codes "at" ∷ decimal k.at ∷ holding_words k.holding)

-- `limit`, the hosts, the applications with their steps, lines on frames by host, flow and number, and `dropeach`,
-- `move` and `kill` lines in their order
abbrev pub canonical : Scenario → List ℕ
canonical s =
    line_of (codes "limit") (decimal s.limit ∷ []) ++ flat_map host_text s.hosts ++ flat_map app_text s.apps
    ++ flat_map (act_text s.hosts) s.link.acts
    ++ flat_map (each_text s.hosts) s.link.drops ++ flat_map move_text s.moves ++ flat_map kill_text s.kills

-- A scenario as far as its lines were read: the kinds of refusal from 6 to 8, and what a line adds.
use Rattle.std.specs.Prelude.{◌≡◌, ℕ, ◌*◌, ◌^◌, Bool, true, false, not, ◌&&◌, ◌||◌, ◌==◌, nat_le, nat_lt, List, []}
use Rattle.std.specs.Prelude.{◌∷◌, ◌++◌, length, Option, Some, None, is_some, unwrap_or, bytes_eq, position}
use Rattle.std.specs.Prelude.{if◌then◌else◌}
use Rattle.std.specs.List.{list_any}
use Rattle.std.specs.declared.cmp.Ordering.{Ordering}
use Rattle.std.specs.Ordering.{nat_cmp, ordering_then}
use Rattle.std.specs.Cmp.Lexicographic.{slice_cmp}
use Rattle.std.specs.BTreeMap.{BTreeMap, get_by}
use Rattle.std.specs.BTreeSet.{BTreeSet, contains}
use Rattle.std.specs.declared.vec.Vec.{Vec}
use Rattle.std.specs.declared.alloc.Global.{Global}
use Rattle.link_script.specs.LinkLines.{LinkLines, line_on, drop_each_of, with_act, with_drop_each, no_lines}
use Rattle.scenario_text.specs.declared.scenario.HostLine.{HostLine}
use Rattle.scenario_text.specs.declared.scenario.AppLine.{AppLine}
use Rattle.scenario_text.specs.declared.scenario.KillLine.{KillLine}
use Rattle.scenario_text.specs.declared.scenario.Step.{Step}
use Rattle.scenario_text.specs.declared.scenario.Step.TheVariants as steps
use Rattle.scenario_text.specs.declared.draft.Draft.{Draft}
use Rattle.scenario_text.specs.declared.names.Names.{Names}
use Rattle.scenario_text.specs.declared.statement.Given.{Given}
use Rattle.scenario_text.specs.declared.statement.Role.{Role}
use Rattle.scenario_text.specs.declared.statement.Role.TheVariants.{Listener, Socket}
use Rattle.scenario_text.specs.declared.statement.Statement.{Statement}
use Rattle.scenario_text.specs.declared.statement.Statement.TheVariants as says

abbrev pub no_draft : Draft
no_draft = record { limit = None; hosts = []; apps = []; link = no_lines; moves = []; kills = [] }

-- ----- names
-- the number of the host of a name
abbrev pub host_of : List HostLine → (name : List ℕ) → Option ℕ
host_of hosts name = position (λ (h : HostLine). bytes_eq h.name name) hosts

abbrev pub has_host : List HostLine → (name : List ℕ) → Bool
has_host hosts name = is_some (host_of hosts name)

abbrev pub has_address : List HostLine → (addr : ℕ) → Bool
has_address hosts addr = list_any (λ (h : HostLine). h.params.addr == addr) hosts

abbrev pub has_app : List AppLine → (host name : List ℕ) → Bool
has_app apps host name = list_any (λ (a : AppLine). bytes_eq a.host host && bytes_eq a.name name) apps

abbrev pub has_kill : List KillLine → (host app : List ℕ) → Bool
has_kill kills host app = list_any (λ (k : KillLine). bytes_eq k.host host && bytes_eq k.app app) kills

-- the listener or socket that a step brings, and what it is
abbrev pub brings : Step → Option (List ℕ × Role)
brings (steps.Listen name port) = Some (name, Listener)
brings (steps.Accept name listener) = Some (name, Socket)
brings (steps.Connect name host port) = Some (name, Socket)
brings _ = None

-- what a name is that one step brings, or several
abbrev pub role_by : Option (List ℕ × Role) → (name : List ℕ) → Option Role
role_by None name = None
role_by (Some brought) name = if bytes_eq brought.0 name then Some brought.1 else None

abbrev pub or_else : {A : Type 0} → Option A → Option A → Option A
or_else (Some a) other = Some a
or_else None other = other

abbrev pub role_of : List Step → (name : List ℕ) → Option Role
role_of [] name = None
role_of (step ∷ steps) name = or_else (role_by (brings step) name) (role_of steps name)

abbrev pub is_listener : Option Role → Bool
is_listener (Some Listener) = true
is_listener _ = false

abbrev pub is_socket : Option Role → Bool
is_socket (Some Socket) = true
is_socket _ = false

-- the steps of the last application
abbrev pub last_steps : List AppLine → List Step
last_steps [] = []
last_steps (app ∷ []) = app.steps
last_steps (app ∷ other ∷ apps) = last_steps (other ∷ apps)

abbrev pub is_nil : {A : Type 0} → List A → Bool
is_nil [] = true
is_nil (x ∷ xs) = false

-- ----- kind 6: an unknown name, another word, or a step before any application
-- a step that names a listener, a host or a socket that does not stand
abbrev pub is_lost_step : List HostLine → List Step → Step → Bool
is_lost_step hosts before (steps.Listen name port) = false
is_lost_step hosts before (steps.Accept name listener) = not (is_listener (role_of before listener))
is_lost_step hosts before (steps.Connect name host port) = not (has_host hosts host)
is_lost_step hosts before (steps.Send name text) = not (is_socket (role_of before name))
is_lost_step hosts before (steps.Fill name count) = not (is_socket (role_of before name))
is_lost_step hosts before (steps.Recv name count) = not (is_socket (role_of before name))
is_lost_step hosts before (steps.Drain name) = not (is_socket (role_of before name))
is_lost_step hosts before (steps.Shut name) = not (is_socket (role_of before name))
is_lost_step hosts before (steps.Close name) = not (is_socket (role_of before name))
is_lost_step hosts before (steps.Abort name) = not (is_socket (role_of before name))
is_lost_step hosts before (steps.Wait ticks) = false

abbrev pub is_unknown : Draft → Statement → Bool
is_unknown d (says.Limit ticks) = false
is_unknown d (says.Host name addr given) = given.unknown
is_unknown d (says.App host name) = not (has_host d.hosts host)
is_unknown d (says.Do step) = is_nil d.apps || is_lost_step d.hosts (last_steps d.apps) step
is_unknown d (says.OnFrame host flow number act) = not (has_host d.hosts host)
is_unknown d (says.DropEach host k) = not (has_host d.hosts host)
is_unknown d (says.Move line worded) = not worded || not (has_host d.hosts line.host)
is_unknown d (says.Kill line worded) = not worded || not (has_app d.apps line.host line.app)

-- ----- kind 7: a repetition
-- a step that brings a name which its application has
abbrev pub brings_again : List Step → Option (List ℕ × Role) → Bool
brings_again before None = false
brings_again before (Some brought) = is_some (role_of before brought.0)

-- a second line on one frame, or a second `dropeach` of a host
abbrev pub is_second : LinkLines → Option ℕ → (flow number : ℕ) → Bool
is_second link None flow number = false
is_second link (Some host) flow number = is_some (line_on link (record { host = host; flow = flow; number = number }))

abbrev pub is_second_each : LinkLines → Option ℕ → Bool
is_second_each link None = false
is_second_each link (Some host) = is_some (drop_each_of link.drops host)

abbrev pub repeats : Draft → Statement → Bool
repeats d (says.Limit ticks) = is_some d.limit
repeats d (says.Host name addr given) = given.repeated || has_host d.hosts name || has_address d.hosts addr
repeats d (says.App host name) = has_app d.apps host name
repeats d (says.Do step) = brings_again (last_steps d.apps) (brings step)
repeats d (says.OnFrame host flow number act) = is_second d.link (host_of d.hosts host) flow number
repeats d (says.DropEach host k) = is_second_each d.link (host_of d.hosts host)
repeats d (says.Move line worded) = false
repeats d (says.Kill line worded) = has_kill d.kills line.host line.app

-- ----- kind 8: above a limit
-- A ring has 256 units of the window's shift at least, and the rings of all slots of a host have 67,108,864 bytes at
-- most in each direction.
abbrev pub is_large : Given → Bool
is_large given =
    nat_lt (unwrap_or given.ring 16384) (256 * 2 ^ unwrap_or given.scale 0)
    || nat_lt 67108864 (unwrap_or given.slots 1024 * unwrap_or given.ring 16384)

abbrev pub is_full : Draft → Statement → Bool
is_full d (says.Host name addr given) = nat_le 8 (length d.hosts) || is_large given
is_full d (says.App host name) = nat_le 2048 (length d.apps)
is_full d (says.Do step) = nat_le 1000 (length (last_steps d.apps))
is_full d _ = false

-- the refusal of a line that is of a form, of the lowest kind
abbrev pub judged : Draft → Statement → Option ℕ
judged d statement = if is_unknown d statement then Some 6 else if repeats d statement then Some 7
    else if is_full d statement then Some 8 else None

-- ----- what a line adds
-- a host with the options that its line gives, and with those that stand else
abbrev pub host_with : (name : List ℕ) → (addr : ℕ) → Given → HostLine
host_with name addr given = record {
  name = name;
  params = record {
    addr = addr;
    iss = unwrap_or given.iss 0;
    ring = unwrap_or given.ring 16384;
    mss = unwrap_or given.mss 1460;
    rto = unwrap_or given.rto 20;
    slots = unwrap_or given.slots 1024;
    backlog = unwrap_or given.backlog 16;
    fixed = false;
    scale = given.scale;
  };
}

-- a step is the last application's
abbrev pub with_step : List AppLine → Step → List AppLine
with_step [] step = []
with_step (app ∷ []) step = (record app { steps = app.steps ++ step ∷ [] }) ∷ []
with_step (app ∷ other ∷ apps) step = app ∷ with_step (other ∷ apps) step

abbrev pub with_line : Draft → Statement → Draft
with_line d (says.Limit ticks) = record d { limit = Some ticks }
with_line d (says.Host name addr given) = record d { hosts = d.hosts ++ host_with name addr given ∷ [] }
with_line d (says.App host name) = record d { apps = d.apps ++ (record { host = host; name = name; steps = [] }) ∷ [] }
with_line d (says.Do step) = record d { apps = with_step d.apps step }
with_line d (says.OnFrame host flow number act) =
    record d {
      link = with_act d.link (record {
        host = unwrap_or (host_of d.hosts host) 0;
        flow = flow;
        number = number;
      }) act;
    }
with_line d (says.DropEach host k) = record d { link = with_drop_each d.link (unwrap_or (host_of d.hosts host) 0) k }
with_line d (says.Move line worded) = record d { moves = d.moves ++ line ∷ [] }
with_line d (says.Kill line worded) = record d { kills = d.kills ++ line ∷ [] }

-- ----- how names are found
-- The map has what each name of an application is.
abbrev pub AreRoles : BTreeMap (Vec ℕ Global) Role → List Step → Type 0
AreRoles roles before = (name : List ℕ) → get_by (λ k. slice_cmp nat_cmp name k.items) roles ≡ role_of before name

-- the order of the names of applications: by their hosts' names
abbrev pub name_cmp : Vec ℕ Global × Vec ℕ Global → Vec ℕ Global × Vec ℕ Global → Ordering
name_cmp a b = ordering_then (slice_cmp nat_cmp a.0.items b.0.items) (slice_cmp nat_cmp a.1.items b.1.items)

-- The set has the names of applications that pass a test, and no others.
abbrev pub HaveNames : BTreeSet (Vec ℕ Global × Vec ℕ Global) → ((host name : List ℕ) → Bool) → Type 0
HaveNames names test = (q : Vec ℕ Global × Vec ℕ Global) → contains name_cmp names q ≡ test q.0.items q.1.items

-- The names are those that were read.
pub record AreNames (names : Names) (d : Draft) : Type 0 where
  pub roles : AreRoles names.roles (last_steps d.apps)
  pub apps : HaveNames names.apps (has_app d.apps)
  pub kills : HaveNames names.kills (has_kill d.kills)

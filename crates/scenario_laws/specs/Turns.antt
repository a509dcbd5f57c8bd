-- What becomes of the scripts of a host in a tick.
use Rattle.std.specs.Prelude.{◌≡◌, ℕ, ◌≤◌, ◌==◌, Bool, true, false, List, [], ◌∷◌, ◌++◌, drop, map, fold, ⊤}
use Rattle.std.specs.List.{list_any}
use Rattle.tas_model.specs.declared.entry.HostParams.{HostParams}
use Rattle.tas_model.specs.declared.entry.Caller.{Caller}
use Rattle.host_rounds.specs.Hosts.{Host}
use Rattle.host_rounds.specs.Upkeep.{all_swept}
use Rattle.host_rounds.specs.Scripts.{Site}
use Rattle.host_rounds.specs.Rounds.{Action, Ask, Deed, does, Round}
use Rattle.scenario_text.specs.declared.scenario.Scenario.{Scenario}
use Rattle.scenario_runs.specs.Applications.{Script, Turn, is_killed_at, turn}
use Rattle.scenario_runs.specs.Worlds.{starts_of, address_in, scripts_of}
use Rattle.scenario_laws.specs.Ticks.{HostTick}

-- Script by script, in their order; none comes or goes.
abbrev pub OfEachScript : (Script → Script → Type 0) → (before after : List Script) → Type 0
OfEachScript Fact [] [] = ⊤
OfEachScript Fact (b ∷ bs) (a ∷ az) = Fact b a × OfEachScript Fact bs az
OfEachScript Fact _ _ = ⊥

-- ----- one turn
abbrev pub is_ask : (number : ℕ) → Action ℕ → Bool
is_ask n (Ask k) = n == k
is_ask n _ = false

-- the deed is a turn of the application with this number
abbrev pub is_turn_of : (number : ℕ) → Deed ℕ → Bool
is_turn_of n deed = is_ask n deed.action

-- Among these deeds there is one turn of the application with this number: those before it and those behind it are
-- none.
pub record OneTurn (number : ℕ) (deeds : List (Deed ℕ)) : Type 0 where
  pub earlier : List (Deed ℕ)
  pub by : Caller
  pub later : List (Deed ℕ)
  pub all : deeds ≡ earlier ++ (record { by = by; action = Ask number }) ∷ later
  pub none_earlier : list_any (is_turn_of number) earlier ≡ false
  pub none_later : list_any (is_turn_of number) later ≡ false

-- What these deeds of a tick leave of a host and its scripts.
abbrev pub reached : Scenario → HostParams → (tick : ℕ) → Site (List Script) → List (Deed ℕ) → Site (List Script)
reached s params t site deeds = fold (does (scripts_of s params) t) site deeds

-- What a turn leaves of the script and of its host.
abbrev pub turn_on : Scenario → HostParams → (tick : ℕ) → Host → Script → Turn
turn_on s params t host script =
    turn (starts_of params) (address_in s.hosts) t (record { host = host; script = script })

-- Among the deeds, which begin with this site, the script has one turn: on its own host as the deeds before that turn
-- left it. The turn makes of the script what it is after the tick, and of the host what the deeds behind it find.
pub record HadTurn (s : Scenario) (params : HostParams) (t : ℕ) (site : Site (List Script)) (deeds : List (Deed ℕ))
    (before after : Script) : Type 0 where
  pub one : OneTurn before.number deeds
  pub script : after ≡ (turn_on s params t (reached s params t site one.earlier).host before).script
  pub host :
      (reached s params t site (one.earlier ++ (record { by = one.by; action = Ask before.number }) ∷ [])).host
      ≡ (turn_on s params t (reached s params t site one.earlier).host before).host

-- ----- the turns of a tick
-- A right order of the tick: the frames that come are due in it, and a turn of each application.
abbrev pub IsOrdered : Scenario → HostTick → Type 0
IsOrdered s x =
    Round (scripts_of s x.before.params) x.tick
    (record { frames = x.frames; asks = map (λ (y : Script). y.number) x.scripts_before })
    (record { host = x.before; scripts = x.scripts_before }) (record { host = x.after; scripts = x.scripts_after })

-- the host and its scripts when the deeds of the tick begin: its closed flows are given up
abbrev pub at_first : HostTick → Site (List Script)
at_first x = record { host = all_swept x.before; scripts = x.scripts_before }

-- There is a right order of the tick in which each script has one turn.
abbrev pub HadTurns : Scenario → HostTick → Type 0
HadTurns s x =
    (ordered : IsOrdered s x)
    × OfEachScript (HadTurn s x.before.params x.tick (at_first x) ordered.order) x.scripts_before x.scripts_after

-- Where the application is killed in the tick, no step is left; else one step of its script is over at most. It keeps
-- its number and the tick in which it is killed.
pub record GoesOn (t : ℕ) (before after : Script) : Type 0 where
  pub number : after.number ≡ before.number
  pub kill : after.kill ≡ before.kill
  pub killed : is_killed_at t before.kill ≡ true → after.left ≡ []
  pub steps : is_killed_at t before.kill ≡ false → (over : ℕ) × (over ≤ 1) × (after.left ≡ drop over before.left)

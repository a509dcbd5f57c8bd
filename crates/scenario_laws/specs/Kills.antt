-- What a kill leaves of an application and of its flows.
use Rattle.std.specs.Prelude.{◌≡◌, ℕ, ◌≤◌, ◌<◌, Bool, true, false, List, [], ◌∷◌, length, slice_get, bytes_eq}
use Rattle.std.specs.Prelude.{Some, ⊤}
use Rattle.tas_model.specs.declared.entry.Entry.{Entry}
use Rattle.tas_model.specs.declared.entry.Caller.{Caller}
use Rattle.tas_model.specs.declared.entry.Caller.TheVariants.{Slow, App}
use Rattle.tas_model.specs.declared.entry.Call.{Call}
use Rattle.tas_model.specs.declared.entry.Call.TheVariants as calls
use Rattle.host_rounds.specs.Lists.{Each}
use Rattle.host_rounds.specs.Logs.{Flow}
use Rattle.host_rounds.specs.Hosts.{Live, Host, is_over, is_held}
use Rattle.scenario_text.specs.declared.scenario.Scenario.{Scenario}
use Rattle.scenario_text.specs.declared.scenario.AppLine.{AppLine}
use Rattle.scenario_runs.specs.Applications.{is_killed_at, is_concerned}
use Rattle.scenario_runs.specs.Worlds.{kill_tick}
use Rattle.scenario_laws.specs.Ticks.{HostTick}
use Rattle.scenario_laws.specs.Turns.{OfEachScript, IsOrdered, at_first, reached, HadTurn}

-- The application with this number, counted from 0, is killed in this tick by a line of the scenario.
pub record IsKilled (s : Scenario) (number at : ℕ) : Type 0 where
  pub app : AppLine
  pub line : slice_get s.apps number ≡ Some app
  pub kill : kill_tick s.kills app ≡ Some at

-- Each of these entries that is a call of the application is of an earlier tick.
abbrev pub CalledBefore : (number at : ℕ) → List Entry → Type 0
CalledBefore number at xs = Each (λ (x : Entry). x.caller ≡ App number → x.tick < at) xs

-- So it is, and it is an application of the host with this name.
pub record IsKilledOn (s : Scenario) (name : List ℕ) (number at : ℕ) : Type 0 where
  pub killed : IsKilled s number at
  pub host : bytes_eq killed.app.host name ≡ true

abbrev pub HasKill : Scenario → (name : List ℕ) → (at : ℕ) → Type 0
HasKill s name at = (number : ℕ) × IsKilledOn s name number at

-- ----- flows of a killed application
abbrev pub is_abort_by_slow : Caller → Call → Bool
is_abort_by_slow Slow calls.Abort = true
is_abort_by_slow _ _ = false

-- the ticks of the Aborts that the slow path made, one for each
abbrev pub abort_ticks : List Entry → List ℕ
abort_ticks [] = []
abort_ticks (x ∷ xs) =
    elim (is_abort_by_slow x.caller x.call) [ true ↦ x.tick ∷ abort_ticks xs | false ↦ abort_ticks xs ]

-- The slow path aborts a flow once at most, and then in the tick of a kill of an application of its host.
pub record AbortsByKill (s : Scenario) (name : List ℕ) (f : Flow) : Type 0 where
  pub once : length (abort_ticks f.entries) ≤ 1
  pub kills : Each (HasKill s name) (abort_ticks f.entries)

-- The slow path made one Abort, in this tick and never else; the flow is closed, and no application holds it.
pub record IsAborted (t : ℕ) (l : Live) : Type 0 where
  pub aborts : abort_ticks l.flow.entries ≡ t ∷ []
  pub over : is_over l ≡ true
  pub held : is_held l ≡ false

-- The flows that a kill finds on this host, and what they are after the tick: those that it concerns were aborted in
-- it. What stands behind them was opened later in the tick.
abbrev pub AreAborted : (number tick : ℕ) → Host → (found after : List Live) → Type 0
AreAborted n t host [] after = ⊤
AreAborted n t host (l ∷ ls) [] = ⊥
AreAborted n t host (l ∷ ls) (m ∷ ms) =
    (is_concerned n host l ≡ true → IsAborted t m) × AreAborted n t host ls ms

-- There is a right order of the tick in which each script has one turn; and where the turn is the kill, those flows are
-- aborted that it concerns when it comes.
abbrev pub HadKills : Scenario → HostTick → Type 0
HadKills s x =
    (ordered : IsOrdered s x)
    × OfEachScript
    (λ before after.
    (had : HadTurn s x.before.params x.tick (at_first x) ordered.order before after)
    × (is_killed_at x.tick before.kill ≡ true
    → AreAborted before.number x.tick (reached s x.before.params x.tick (at_first x) had.one.earlier).host
    (reached s x.before.params x.tick (at_first x) had.one.earlier).host.flows x.after.flows))
    x.scripts_before x.scripts_after

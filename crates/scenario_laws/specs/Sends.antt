-- What the Sends of a script take.
use Rattle.std.specs.Prelude.{◌≡◌, ◌≢◌, ℕ, ◌+◌, false, List, [], ◌∷◌, ◌++◌, length, take, drop, Option, Some, None}
use Rattle.tas_model.specs.declared.entry.Reply.TheVariants as replies
use Rattle.host_rounds.specs.Hosts.{Host, answer_of}
use Rattle.host_rounds.specs.Rounds.{Ask}
use Rattle.scenario_text.specs.declared.scenario.Scenario.{Scenario}
use Rattle.scenario_text.specs.declared.scenario.Step.{Step}
use Rattle.scenario_text.specs.declared.scenario.Step.TheVariants as steps
use Rattle.scenario_runs.specs.Applications.{Script, flow_of, bound_in, filling, is_killed_at}
use Rattle.scenario_laws.specs.Ticks.{HostTick}
use Rattle.scenario_laws.specs.Turns.{OfEachScript, IsOrdered, at_first, reached, HadTurn}

-- The step under way sends a text: on which socket, and which.
abbrev pub sending : List Step → Option (List ℕ × List ℕ)
sending (steps.Send socket text ∷ rest) = Some (socket, text)
sending (steps.Fill socket count ∷ rest) = Some (socket, filling count)
sending _ = None

-- The bytes are the next ones of the text, behind those that were taken before; the step is over where they are the
-- last, and else goes on behind them.
pub record TakesNext (text : List ℕ) (before : Script) (took : List ℕ) (after : Script) : Type 0 where
  pub bytes : took ≡ take (length took) (drop before.done text)
  pub all : before.done + length took ≡ length text → after.left ≡ drop 1 before.left
  pub left : before.done + length took ≢ length text → after.left ≡ before.left
  pub rest : before.done + length took ≢ length text → after.done ≡ before.done + length took

-- So are those that its Send took, where the turn left this host: an application that is not killed in the tick.
abbrev pub TookNext : (tick : ℕ) → Host → (before after : Script) → Type 0
TookNext t host before after =
    (socket text took : List ℕ) (flow : ℕ) → is_killed_at t before.kill ≡ false
    → sending before.left ≡ Some (socket, text) → flow_of (bound_in before.names socket) ≡ Some flow
    → answer_of flow host ≡ replies.Took took → TakesNext text before took after

-- There is a right order of the tick in which each script has one turn, and what its Send took are its next bytes.
abbrev pub HadSends : Scenario → HostTick → Type 0
HadSends s x =
    (ordered : IsOrdered s x)
    × OfEachScript
    (λ before after.
    (had : HadTurn s x.before.params x.tick (at_first x) ordered.order before after)
    × TookNext x.tick
    (reached s x.before.params x.tick (at_first x)
    (had.one.earlier ++ (record { by = had.one.by; action = Ask before.number }) ∷ [])).host before after)
    x.scripts_before x.scripts_after

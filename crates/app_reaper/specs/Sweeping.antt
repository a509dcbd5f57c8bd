-- What became of a flow that was swept.
use Rattle.std.specs.Prelude.{◌≡◌, true, List, [], ◌∷◌, ◌++◌, IsSome, ⊤}
use mathlib.Core.Option as O
use lib.ListN.{get_elem?}
use Rattle.tas_model.specs.declared.entry.FlowId.{FlowId}
use Rattle.flow_state.specs.Flow.{Flow}
use Rattle.flow_state.specs.Released.{released_parts}
use Rattle.flow_lock.specs.Answers.{IsFreed, IsHeldBack}
use Rattle.flow_lock.specs.Claims.{HasPin}
use Rattle.flow_lock.specs.Steps.{condemned, mark}
use Rattle.flow_lock.specs.Passes.{Seen}
use Rattle.flow_lock.specs.declared.view.View.{View}
use Rattle.app_reaper.specs.OneCall.{IsOwn}
use Rattle.app_reaper.specs.declared.sweeping.Swept.{Swept}
use Rattle.app_reaper.specs.declared.sweeping.Swept.TheVariants.{Freed, Pinned}

-- the pin is given up with the slot, or is kept
abbrev pub KeepsPin : FlowId → Swept → Type 0
KeepsPin id Freed = ⊤
KeepsPin id (Pinned n pin) = pin ≡ id

-- A record that has given back the memory that its flow has no use for any more, where that is closed.
abbrev pub IsReleased : Flow → Type 0
IsReleased r = IsSome r.parts.reason → r.parts ≡ released_parts r.parts

-- the filed list grew by exactly the flow's own record, and that is a released one; or it stayed
abbrev pub IsFiling : FlowId → View → (before after : List Flow) → Swept → Type 0
IsFiling id v before after Freed = (r : Flow) × IsOwn id v r × IsReleased r × (after ≡ before ++ r ∷ [])
IsFiling id v before after (Pinned n pin) = after ≡ before

-- the flow was doomed, and then freed, or held back by so many pins
abbrev pub IsSweep : FlowId → (before after : View) → Swept → Type 0
IsSweep id v w Freed = IsFreed id (condemned id v) w
IsSweep id v w (Pinned n pin) = IsHeldBack id (condemned id v) w n

-- a flow that wasn't freed stays doomed, with the slow path's pin
abbrev pub StaysDoomed : FlowId → Seen → Swept → Type 0
StaysDoomed id s Freed = ⊤
StaysDoomed id s (Pinned n pin) =
    HasPin s.view id × (get_elem? s.view.marks id.slot ≡ O.some (mark id.generation true true))

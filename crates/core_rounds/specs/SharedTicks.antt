-- A tick of a host whose cores and applications share its flows: what they do side by side is one order of deeds, and
-- all else is done by the slow path and the applications, one after the other.
use Rattle.std.specs.Prelude.{◌≡◌, ℕ, ◌<◌, ◌++◌, List, map, filter, fold}
use Rattle.host_rounds.specs.Lists.{Each}
use Rattle.host_rounds.specs.Hosts.{Host}
use Rattle.host_rounds.specs.Deliveries.{Arrival}
use Rattle.host_rounds.specs.Scripts.{Site, Scripts}
use Rattle.host_rounds.specs.Rounds.{Action, Frame, Ask, Emission, Deed, does, on_host, Due, Agent, is_by}
use Rattle.host_rounds.specs.Rounds.{actions_of}
use Rattle.host_rounds.specs.Cores.{IsWorkerOf}
use Rattle.host_rounds.specs.SerialOrder.{slow_phase, ask_phase, emit_phase}
use Rattle.core_rounds.specs.CoreTicks.{rest_phase}

-- ----- what is done side by side
-- What is asked of a host in a tick, but the time that passes.
abbrev pub asked_of_host : {A : Type 0} → List Arrival → List A → List (Action A)
asked_of_host frames asks = map Frame frames ++ map Ask asks

-- Of each agent, what is due of it was done beside the others or is left, in its own order.
abbrev pub AreDone : {S A : Type 0} → Scripts S A → Due A → List (Deed A) → (rest : List Arrival) → (later : List A)
    → Type 0
AreDone scripts due order rest later =
    (a : Agent)
    → filter (is_by scripts a) (actions_of order ++ asked_of_host rest later)
    ≡ filter (is_by scripts a) (asked_of_host due.frames due.asks)

-- It is a segment that the slow path sends, or one of so many cores.
pub record IsSending {A : Type 0} (cores : ℕ) (deed : Deed A) : Type 0 where
  pub worker : IsWorkerOf cores deed.by
  pub flow : ℕ
  pub sends : deed.action ≡ Emission flow

-- ----- a tick
-- The frames that were left, in their order, by the slow path; and then what was left to ask, by the applications.
abbrev pub alone_phase : {S A : Type 0} → Scripts S A → (tick : ℕ) → Site S → (rest : List Arrival) → (later : List A)
    → Site S
alone_phase scripts t site rest later =
    ask_phase scripts t (on_host (λ (host : Host). rest_phase scripts t host rest) site) later

-- The slow path gives up closed flows and lets time pass. Then cores take frames and send, and applications ask, side
-- by side: what they leave is what one order of their deeds leaves. The slow path takes the frames that are left, and
-- the applications ask what is left. Then cores send side by side again, and the slow path sends what may still go. The
-- host has so many cores, numbered from 0 on, and one at least.
pub record IsSharedTick {S A : Type 0} (scripts : Scripts S A) (cores t : ℕ) (due : Due A) (before after : Site S)
    : Type 0 where
  pub some : 0 < cores
  pub order : List (Deed A)
  pub workers : Each (λ (deed : Deed A). IsWorkerOf cores deed.by) order
  pub rest : List Arrival
  pub later : List A
  pub done : AreDone scripts due order rest later
  pub middle : Site S
  pub beside : fold (does scripts t) (on_host (slow_phase t) before) order ≡ middle
  pub asked : Site S
  pub alone : alone_phase scripts t middle rest later ≡ asked
  pub sent : List (Deed A)
  pub sending : Each (IsSending cores) sent
  pub made : on_host (emit_phase t) (fold (does scripts t) asked sent) ≡ after

-- A tick in which the slow path takes all frames, and the applications ask after them.
abbrev pub tick_without_cores : {S A : Type 0} → Scripts S A → (tick : ℕ) → Due A → Site S → Site S
tick_without_cores scripts t due before =
    on_host (emit_phase t) (alone_phase scripts t (on_host (slow_phase t) before) due.frames due.asks)

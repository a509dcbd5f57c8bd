-- Which ticks of a host are right: all that is due is done once, each agent's actions in its own order, and what
-- different agents do in any order between them.
use Rattle.std.specs.Prelude.{◌≡◌, ℕ, ◌+◌, ◌==◌, Bool, false, List, [], ◌∷◌, ◌++◌, map, filter, fold, None, ⊤}
use Rattle.tas_model.specs.declared.entry.FrameId.{FrameId}
use Rattle.tas_model.specs.declared.entry.Caller.{Caller}
use Rattle.tas_model.specs.declared.entry.Caller.TheVariants.{Slow, Core, App}
use Rattle.tas_model.specs.NextSegment.{going}
use Rattle.host_rounds.specs.Lists.{Each}
use Rattle.host_rounds.specs.Hosts.{Live, Host, endpoint, at_flow}
use Rattle.host_rounds.specs.Upkeep.{all_swept, timed, emits}
use Rattle.host_rounds.specs.Deliveries.{Arrival, same_frame, received, delivered}
use Rattle.host_rounds.specs.Scripts.{Site, Scripts}

-- ----- actions
-- What is done in a tick: the timer of a flow, a frame that comes, one thing that an application asks, and a segment
-- that a flow sends. A flow is named by its opening number.
pub data Action (A : Type 0) : Type 0 where
  Timer : (flow : ℕ) → Action A
  Frame : Arrival → Action A
  Ask : A → Action A
  Emission : (flow : ℕ) → Action A

-- An action and the worker that does it. What an application asks is entered in its own name, whichever worker serves
-- it.
pub record Deed (A : Type 0) : Type 0 where
  pub by : Caller
  pub action : Action A

abbrev pub on_host : {S : Type 0} → (Host → Host) → Site S → Site S
on_host f site = record site { host = f site.host }

-- What an action leaves. One that has nothing to do when its turn comes leaves all as it is: the timer of a flow that
-- was closed before in the tick, say.
abbrev pub done_by : {S A : Type 0} → Scripts S A → (tick : ℕ) → Site S → Caller → Action A → Site S
done_by scripts t site by (Timer n) = on_host (at_flow n (timed by t)) site
done_by scripts t site by (Frame x) = on_host (λ (host : Host). delivered (received by) scripts.starts t host x) site
done_by scripts t site by (Ask a) = scripts.asked t site a
done_by scripts t site by (Emission n) = on_host (at_flow n (emits by t)) site

abbrev pub does : {S A : Type 0} → Scripts S A → (tick : ℕ) → Site S → Deed A → Site S
does scripts t site deed = done_by scripts t site deed.by deed.action

-- ----- what is due
-- In a tick: the frames that come to the host, and what its applications ask.
pub record Due (A : Type 0) : Type 0 where
  pub frames : List Arrival
  pub asks : List A

-- a timer for each flow that was opened before the tick, the first of them with this number
abbrev pub timers_from : {A : Type 0} → (flow : ℕ) → List Live → List (Action A)
timers_from n [] = []
timers_from n (l ∷ ls) = Timer n ∷ timers_from (n + 1) ls

-- All of a tick but the emissions.
abbrev pub due_actions : {A : Type 0} → List Live → Due A → List (Action A)
due_actions flows due = timers_from 0 flows ++ (map Frame due.frames ++ map Ask due.asks)

-- ----- orders
-- Who acts: the timer of a flow, a frame, and an application or whoever else asks.
pub data Agent : Type 0 where
  OfFlow : (flow : ℕ) → Agent
  OfFrame : FrameId → Agent
  OfScript : (number : ℕ) → Agent

abbrev pub is_by : {S A : Type 0} → Scripts S A → Agent → Action A → Bool
is_by scripts (OfFlow n) (Timer m) = n == m
is_by scripts (OfFrame frame) (Frame x) = same_frame frame x.frame
is_by scripts (OfScript n) (Ask a) = n == scripts.agent a
is_by scripts _ _ = false

abbrev pub actions_of : {A : Type 0} → List (Deed A) → List (Action A)
actions_of {A} order = map (λ (deed : Deed A). deed.action) order

-- the slow path or a core, by whatever number
abbrev pub IsWorker : Caller → Type 0
IsWorker Slow = ⊤
IsWorker (Core k) = ⊤
IsWorker (App k) = ⊥

-- nothing may go
abbrev pub IsQuiet : Live → Type 0
IsQuiet l = going (endpoint l) ≡ None

-- One tick. Closed flows are given up first. Then there is an order of deeds in which each agent does what is due of
-- it, in its own order and once, with emissions anywhere between; each deed finds what the deeds before it left. After
-- the tick nothing may go.
pub record Round {S A : Type 0} (scripts : Scripts S A) (t : ℕ) (due : Due A) (before after : Site S) : Type 0 where
  pub order : List (Deed A)
  pub due_each : (a : Agent)
      → filter (is_by scripts a) (actions_of order) ≡ filter (is_by scripts a) (due_actions before.host.flows due)
  pub workers : Each (λ (deed : Deed A). IsWorker deed.by) order
  pub made : fold (does scripts t) (on_host all_swept before) order ≡ after
  pub quiet : Each IsQuiet after.host.flows

-- The ticks from t on, where all that is due is known before.
abbrev pub Rounds : {S A : Type 0} → Scripts S A → (t : ℕ) → List (Due A) → (before after : Site S) → Type 0
Rounds scripts t [] before after = before ≡ after
Rounds {S} scripts t (due ∷ dues) before after =
    (next : Site S) × Round scripts t due before next × Rounds scripts (t + 1) dues next after

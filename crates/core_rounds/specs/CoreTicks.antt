-- A tick of a host with cores: what cores take and applications ask side by side, and all else by the slow path and the
-- applications in their order.
use Rattle.std.specs.Prelude.{◌≡◌, ℕ, ◌<◌, ◌==◌, ◌++◌, Bool, List, map, filter, fold}
use Rattle.tas_model.specs.declared.entry.FrameId.{FrameId}
use Rattle.tas_model.specs.declared.entry.Caller.TheVariants.{Slow, Core}
use Rattle.host_rounds.specs.Lists.{Each}
use Rattle.host_rounds.specs.Hosts.{Host, Starts}
use Rattle.host_rounds.specs.Deliveries.{Arrival, same_frame, received, delivered}
use Rattle.host_rounds.specs.Scripts.{Site, Scripts}
use Rattle.host_rounds.specs.Rounds.{Due, on_host}
use Rattle.host_rounds.specs.SerialOrder.{slow_phase, ask_phase, emit_phase}

-- ----- what cores take
-- A frame, and the core that takes it.
pub record Taken : Type 0 where
  pub core : ℕ
  pub arrival : Arrival

-- each was taken by one of so many cores
abbrev pub AreOfCores : (cores : ℕ) → List Taken → Type 0
AreOfCores cores order = Each (λ (x : Taken). x.core < cores) order

-- What is left when cores took these frames, one after the other.
abbrev pub taken_by_cores : Starts → (tick : ℕ) → Host → List Taken → Host
taken_by_cores starts t host order =
    fold (λ (h : Host) (x : Taken). delivered (received (Core x.core)) starts t h x.arrival) host order

abbrev pub is_frame : FrameId → Arrival → Bool
is_frame frame x = same_frame frame x.frame

-- Each frame that came was taken by a core or is left, as often as it came.
abbrev pub AreShared : (frames : List Arrival) → List Taken → (rest : List Arrival) → Type 0
AreShared frames order rest =
    (frame : FrameId)
    → filter (is_frame frame) (map (λ (x : Taken). x.arrival) order ++ rest) ≡ filter (is_frame frame) frames

-- What cores did side by side is what one order of the frames that they took leaves. The starts of new flows
-- don't matter, since no core opens one.
pub record IsCoresPhase (t : ℕ) (before : Host) (frames rest : List Arrival) (after : Host) : Type 0 where
  pub order : List Taken
  pub shared : AreShared frames order rest
  pub made : (starts : Starts) → taken_by_cores starts t before order ≡ after

-- ----- a tick
-- What was asked beside the cores, and what is asked after them: for each who asks, together what is due of it, in its
-- order.
abbrev pub AreTried : {S A : Type 0} → Scripts S A → (asks tried later : List A) → Type 0
AreTried {S} {A} scripts asks tried later =
    (n : ℕ) → filter (λ (a : A). n == scripts.agent a) (tried ++ later) ≡ filter (λ (a : A). n == scripts.agent a) asks

-- The frames that cores left, in their order, by the slow path.
abbrev pub rest_phase : {S A : Type 0} → Scripts S A → (tick : ℕ) → Host → List Arrival → Host
rest_phase scripts t host rest = fold (delivered (received Slow) scripts.starts t) host rest

-- What was asked beside the cores, as if after all their frames, and then the frames that they left.
abbrev pub tried_and_rest : {S A : Type 0} → Scripts S A → (tick : ℕ) → Site S → (tried : List A) → List Arrival
    → Site S
tried_and_rest scripts t site tried rest =
    on_host (λ (host : Host). rest_phase scripts t host rest) (ask_phase scripts t site tried)

-- The slow path gives up closed flows and lets time pass; cores take frames and applications ask side by side; the slow
-- path takes the other frames; the applications ask the rest in their order; and all that may go is sent. The host has
-- so many cores, numbered from 0 on, and one at least, which sends.
pub record IsCoresTick {S A : Type 0} (scripts : Scripts S A) (cores t : ℕ) (due : Due A) (before after : Site S)
    : Type 0 where
  pub some : 0 < cores
  pub rest : List Arrival
  pub middle : Host
  pub phase : IsCoresPhase t (slow_phase t before.host) due.frames rest middle
  pub below : AreOfCores cores phase.order
  pub tried : List A
  pub later : List A
  pub asked : AreTried scripts due.asks tried later
  pub made : on_host (emit_phase t) (ask_phase scripts t
      (tried_and_rest scripts t (record { host = middle; scripts = before.scripts }) tried rest) later) ≡ after

-- A tick of a host in serial order: first the timers, then the frames, then the applications, and then what may go.
use Rattle.std.specs.Prelude.{ℕ, ◌+◌, List, [], ◌∷◌, map, fold}
use Rattle.tas_model.specs.declared.entry.Caller.TheVariants.{Slow}
use Rattle.host_rounds.specs.Hosts.{Host}
use Rattle.host_rounds.specs.Upkeep.{all_swept, timed, quieted}
use Rattle.host_rounds.specs.Deliveries.{Arrival, received_serially, delivered}
use Rattle.host_rounds.specs.Scripts.{Site, Scripts}
use Rattle.host_rounds.specs.Rounds.{Due, on_host}

-- The slow path: closed flows are given up, and time passes for the others.
abbrev pub slow_phase : (tick : ℕ) → Host → Host
slow_phase t host = record host { flows = map (timed Slow t) (all_swept host).flows }

-- The frames that come, in their order, each taken by the core or by the slow path.
abbrev pub frame_phase : {S A : Type 0} → Scripts S A → (tick : ℕ) → Host → List Arrival → Host
frame_phase scripts t host frames = fold (delivered received_serially scripts.starts t) host frames

-- What the applications ask, in its order.
abbrev pub ask_phase : {S A : Type 0} → Scripts S A → (tick : ℕ) → Site S → List A → Site S
ask_phase scripts t site asks = fold (scripts.asked t) site asks

-- All that may go, flow by flow.
abbrev pub emit_phase : (tick : ℕ) → Host → Host
emit_phase t host = record host { flows = map (quieted t) host.flows }

-- One tick.
unfoldable pub serial_tick : {S A : Type 0} → Scripts S A → (tick : ℕ) → Site S → Due A → Site S
serial_tick scripts t site due =
    let before : Site _ = on_host (λ (host : Host). frame_phase scripts t (slow_phase t host) due.frames) site in
    on_host (emit_phase t) (ask_phase scripts t before due.asks)

-- the ticks from this one on
unfoldable pub serial_ticks : {S A : Type 0} → Scripts S A → (tick : ℕ) → Site S → List (Due A) → Site S
serial_ticks scripts t site [] = site
serial_ticks scripts t site (due ∷ dues) = serial_ticks scripts (t + 1) (serial_tick scripts t site due) dues

-- Where all frames were steered to so many cores, so many took them.
use Rattle.std.proofs.Common.{ℕ, ◌<◌, All, List, [], ◌∷◌, Some, ◌≡◌, slice_get, get_or, subst}
use Rattle.std.proofs.lemmas.List.Elements.{All-head, All-tail, All-get_or}
use Rattle.std.proofs.lemmas.Option.{slice_get_within, get_or_from_slice_get}
use Rattle.host_rounds.specs.Hosts.{Host}
use Rattle.host_rounds.specs.Deliveries.{Arrival}
use Rattle.core_rounds.specs.CoreTicks.{Taken, AreOfCores, IsCoresPhase}
use Rattle.local_host.specs.Handing.{IsSteered, AreSteered, IsSteeredPhase}

below_at : (count : ℕ) (cores : List ℕ) (i k : ℕ) → All (λ (core : ℕ). core < count) cores
    → slice_get cores i ≡ Some k → k < count
below_at count cores i k low here =
    subst (λ (core : ℕ). core < count) (get_or_from_slice_get cores i k k here)
    (All-get_or (λ (core : ℕ). core < count) cores i k (slice_get_within cores i k here) low)

steered_below : (count : ℕ) (cores : List ℕ) (frames : List Arrival) (order : List Taken)
    → All (λ (core : ℕ). core < count) cores → AreSteered cores frames order → AreOfCores count order
steered_below count cores frames [] low each = tt
steered_below count cores frames (x ∷ xs) low each =
    let here : IsSteered cores frames x = All-head (IsSteered cores frames) x xs each in (
      below_at count cores here.place x.core low here.core,
      steered_below count cores frames xs low (All-tail (IsSteered cores frames) x xs each),
    )

-- the cores' phase of a tick of a host with so many cores
abbrev pub PhaseOf : (cores t : ℕ) → (before : Host) → (frames rest : List Arrival) → (after : Host) → Type 0
PhaseOf cores t before frames rest after =
    (phase : IsCoresPhase t before frames rest after) × AreOfCores cores phase.order

pub phase_of : (count t : ℕ) (before : Host) (cores : List ℕ) (frames rest : List Arrival) (after : Host)
    → All (λ (core : ℕ). core < count) cores → IsSteeredPhase t before cores frames rest after
    → PhaseOf count t before frames rest after
phase_of count t before cores frames rest after low steered =
    (steered.phase, steered_below count cores frames steered.phase.order low steered.steered)

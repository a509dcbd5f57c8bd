-- Frames that are due in a tick bear different names: for the law due_frames_are_distinct.
use Rattle.std.proofs.Common.{◌≡◌, ℕ, ◌+◌, ◌≤◌, Bool, true, false, cond, List, [], ◌∷◌, count_by, refl}
use Rattle.std.proofs.Common.{subst, arith}
use Rattle.std.proofs.lemmas.List.Recursion.{is_count_by}
use Rattle.tas_model.specs.declared.entry.FrameId.{FrameId}
use Rattle.tas_model.specs.Segments.{one_if}
use Rattle.host_rounds.specs.Deliveries.{Arrival, same_frame}
use Rattle.host_rounds.specs.Places.{coming}
use Rattle.core_rounds.specs.CoreTicks.{is_frame}
use Rattle.core_rounds.specs.Shares.{AreDistinct}
use Rattle.link_script.specs.LinkLines.{LinkLines}
use Rattle.scenario_runs.specs.Worlds.{World, arrivals_at, sent_in}
use Rattle.scenario_laws.proofs.OneName as names
use Rattle.due_frames.specs.Few.{AreFew}

few_again : (world : World) → AreFew world → names.AreFew world
few_again [] few = tt
few_again (site ∷ sites) few = (few.0.few, few_again sites few.1)

one_more : (b : Bool) (n : ℕ) → one_if b + n ≡ cond b (1 + n) n
one_more true n = refl
one_more false n = omega arith

-- how often a frame comes, as a count
coming_is : (frame : FrameId) (xs : List Arrival) → coming frame xs ≡ count_by (is_frame frame) xs
coming_is frame xs =
    is_count_by (coming frame) (is_frame frame) refl
    (λ x ys. one_more (same_frame frame x.frame) (coming frame ys)) xs

pub due_distinct : (lines : LinkLines) (world : World) (t h : ℕ) → AreFew world
    → AreDistinct (arrivals_at lines (sent_in world) t h)
due_distinct lines world t h few frame =
    subst (λ (n : ℕ). n ≤ 1) (coming_is frame (arrivals_at lines (sent_in world) t h))
    (names.comes_once frame lines world t h (few_again world few))

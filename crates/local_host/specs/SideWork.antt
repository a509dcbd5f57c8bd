-- What cores and applications do side by side: cores take frames, and applications try calls on flows that no core has.
use Rattle.std.specs.Prelude.{◌≡◌, ℕ, List, Option}
use Rattle.host_rounds.specs.Hosts.{Host, Live}
use Rattle.host_rounds.specs.Deliveries.{Arrival}
use Rattle.local_host.specs.declared.attempts.Attempt.{Attempt}
use Rattle.local_host.specs.Handing.{TookFrames, IsSteeredPhase}
use Rattle.local_host.specs.Trying.{AreAnswered, AreMade}

-- Cores took frames of these flows and left others, and then the attempts were made that have an answer.
pub record IsSideWork (t : ℕ) (before : List Live) (cores : List ℕ) (frames rest : List Arrival)
    (given attempts : List (Option Attempt)) (after : List Live) : Type 0 where
  pub middle : List Live
  pub took : TookFrames t before cores frames rest middle
  pub same : AreAnswered given attempts
  pub made : AreMade t attempts middle after

-- The same of a host.
pub record IsSidePhase (t : ℕ) (before : Host) (cores : List ℕ) (frames rest : List Arrival)
    (given attempts : List (Option Attempt)) (after : Host) : Type 0 where
  pub middle : Host
  pub phase : IsSteeredPhase t before cores frames rest middle
  pub same : AreAnswered given attempts
  pub made : AreMade t attempts middle.flows after.flows
  pub others : record middle { flows = after.flows } ≡ after

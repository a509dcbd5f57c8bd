-- Hosts whose records are looked at, between two ticks, for the frames that flows sent and for whether they are closed.
use Rattle.std.specs.Prelude.{◌≡◌, ℕ, false, List, []}
use Rattle.std.specs.List.{AllZip}
use Rattle.tas_model.specs.declared.entry.Entry.{Entry}
use Rattle.tas_model.specs.declared.entry.FourTuple.{FourTuple}
use Rattle.host_rounds.specs.Hosts.{Host, Live}
use Rattle.host_rounds.specs.Lists.{Each}
use Rattle.scenario_runs.specs.Worlds.{frames_of_entries}
use Rattle.sent_frames.specs.Sending.{of_tick, sent_by, sent_before}
use Rattle.core_host.specs.Ending.{AreFiled}
use Rattle.core_host.specs.Serving.{KeepsTime}
use Rattle.core_host.specs.Sound.{IsStaffSound}
use Rattle.core_host.specs.Steps.{IsStep}
use Rattle.core_host.specs.Views.{Staffed, seen_by}

-- ----- looking
-- The host was looked at: it is as it was for whoever sees it from outside.
pub record IsLookedAt (before after : Staffed) : Type 0 where
  pub step : IsStep (λ (host : Host). host) before after
  pub still : KeepsTime before after
  pub filed : AreFiled before.host → AreFiled after.host

abbrev pub AreLookedAt : (before after : List Staffed) → Type 0
AreLookedAt before after = AllZip IsLookedAt before after

-- ----- flows that need no look
-- the history has no segment that was sent in the tick
pub record IsSilentIn (t : ℕ) (entries : List Entry) : Type 0 where
  pub counted : sent_before t entries ≡ sent_by entries
  pub frames : (host flow to : ℕ) (tuple : FourTuple)
      → of_tick t (frames_of_entries host flow 0 to tuple entries) ≡ []

-- no flow that the index hasn't sent anything in the tick
abbrev pub IsSilentBut : (tick : ℕ) → List Live → Type 0
IsSilentBut t flows = Each (λ (l : Live). l.indexed ≡ false → IsSilentIn t l.flow.entries) flows

abbrev pub AreSilentBut : (tick : ℕ) → List Staffed → Type 0
AreSilentBut t hosts = Each (λ (h : Staffed). IsSilentBut t (seen_by h).flows) hosts

abbrev pub AreStaffSound : List Staffed → Type 0
AreStaffSound hosts = Each IsStaffSound hosts

-- Flows that sleep through ticks of which nothing comes: their records get these once the flow wakes.
use Rattle.std.specs.Prelude.{◌≡◌, ℕ, ◌+◌, ◌^◌, ◌<◌, ◌≤◌, ◌==◌, ◌&&◌, not, Bool, true, false}
use Rattle.tas_model.specs.Endpoint.{Endpoint}
use Rattle.tas_model.specs.ApplicationCalls.{Column, Opening, Over, Running, column}
use Rattle.tas_model.specs.NextSegment.{waiting}
use Rattle.tas_model.specs.Timers.{is_armed, patience}
use Rattle.tas_model.specs.LegalHistory.{replay}
use Rattle.flow_state.specs.Flow.{ticked_on}
use Rattle.host_rounds.specs.Logs.{Flow}
use Rattle.local_host.specs.declared.sleep.Sleep.{Sleep}

-- ----- which flows may sleep
-- Nothing is left to send until something comes or is asked. It takes the facts that it reads and not the endpoint, so
-- that another fact's change leaves it as it is.
abbrev pub is_still_by : Column → (nxt left : ℕ) → (shut : Bool) → Bool
is_still_by Opening nxt left shut = not (nxt == 0)
is_still_by (Over why) nxt left shut = false
is_still_by Running nxt left shut = left == 0 && not shut

abbrev pub is_still : Endpoint → Bool
is_still e = is_still_by (column e) e.tx.nxt (waiting e.tx) e.tx.shut

-- Nothing comes of so many ticks: nothing is left to send, and the timer, where it runs, doesn't run out in them.
pub record MaySleep (e : Endpoint) (n : ℕ) : Type 0 where
  pub still : is_still e ≡ true
  pub early : is_armed e.tx ≡ true → e.tx.age + n < patience e

-- ----- what they lack
abbrev pub with_ticks : Flow → (next missed : ℕ) → Flow
with_ticks f t n = record f { entries = ticked_on f.params f.entries t n }

-- the flow with the Ticks that its record lacks
abbrev pub ticked_flow : Sleep → Flow → Flow
ticked_flow s f = with_ticks f s.next s.missed

-- It lacks no tick past the last one that there is. Where it lacks some, or may lack more, nothing comes of them.
pub record IsRested (s : Sleep) (f : Flow) : Type 0 where
  pub far : s.next + s.missed ≤ 2 ^ 32
  pub rests : 0 < s.missed + s.left → MaySleep (replay f.params f.entries) (s.missed + s.left)

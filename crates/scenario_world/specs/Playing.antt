-- A world between two ticks, and what is kept of all that its hosts sent.
use Rattle.std.specs.Prelude.{◌≡◌, ℕ, ◌+◌, ◌≤◌, ◌<◌, false, List, [], ◌∷◌, length, map, nat_lt, ⊤}
use Rattle.std.specs.List.{list_any}
use Rattle.tas_model.specs.declared.entry.HostParams.{HostParams}
use Rattle.host_rounds.specs.Lists.{Each}
use Rattle.host_rounds.specs.Hosts.{Live, Host}
use Rattle.host_rounds.specs.Scripts.{Site}
use Rattle.host_rounds.specs.Passing.{Went}
use Rattle.host_rounds.specs.Histories.{HasHistory}
use Rattle.link_script.specs.declared.frames.Sent.{Sent}
use Rattle.link_script.specs.DueFrames.{is_due, longest_delay}
use Rattle.link_script.specs.LinkLines.{LinkLines}
use Rattle.scenario_text.specs.declared.scenario.Scenario.{Scenario}
use Rattle.scenario_text.specs.declared.scenario.HostLine.{HostLine}
use Rattle.scenario_runs.specs.Applications.{Script}
use Rattle.scenario_runs.specs.Worlds.{World, sent_in, is_under_way}
use Rattle.scenario_runs.specs.Runs.{IsTick}
use Rattle.sent_frames.specs.declared.counts.SentCounts.{SentCounts}
use Rattle.sent_frames.specs.Sending.{addresses_of, of_tick, sent_by, answers_in, EntriesBefore, LinesBefore}
use Rattle.scenario_world.specs.declared.playing.Playing.{Playing}
use Rattle.scenario_world.specs.declared.traffic.Traffic.{Traffic}

-- ----- before a tick
-- The flows of the host have histories of the endpoint, and all that it did is of earlier ticks.
pub record IsEarly (t : ℕ) (host : Host) : Type 0 where
  pub histories : Each HasHistory host.flows
  pub entries : Each (λ (l : Live). EntriesBefore t l.flow.entries) host.flows
  pub lines : LinesBefore t host.log

abbrev pub AreEarly : (tick : ℕ) → World → Type 0
AreEarly t world = Each (λ (site : Site (List Script)). IsEarly t site.host) world

-- each frame was sent before the tick
abbrev pub FramesBefore : (tick : ℕ) → List Sent → Type 0
FramesBefore t frames = Each (λ (f : Sent). f.tick < t) frames

-- ----- counts
-- All frames of the host are counted.
pub record IsCounted (host : Host) (counts : SentCounts) : Type 0 where
  pub flows : counts.flows.items ≡ map (λ (l : Live). sent_by l.flow.entries) host.flows
  pub answers : counts.answers ≡ answers_in host.log
  pub lines : counts.lines ≡ length host.log

abbrev pub AreCounted : World → List SentCounts → Type 0
AreCounted [] [] = ⊤
AreCounted [] (c ∷ cs) = ⊥
AreCounted (site ∷ sites) [] = ⊥
AreCounted (site ∷ sites) (c ∷ cs) = IsCounted site.host c × AreCounted sites cs

-- All but those of the tick are: those of the host as it was before it.
pub record IsCountedBefore (t : ℕ) (host : Host) (counts : SentCounts) : Type 0 where
  pub before : Host
  pub early : IsEarly t before
  pub counted : IsCounted before counts
  pub went : Went t before host

abbrev pub AreCountedBefore : (tick : ℕ) → World → List SentCounts → Type 0
AreCountedBefore t [] [] = ⊤
AreCountedBefore t [] (c ∷ cs) = ⊥
AreCountedBefore t (site ∷ sites) [] = ⊥
AreCountedBefore t (site ∷ sites) (c ∷ cs) = IsCountedBefore t site.host c × AreCountedBefore t sites cs

-- ----- a world
abbrev pub params_of : World → List HostParams
params_of world = map (λ (site : Site (List Script)). site.host.params) world

abbrev pub line_params : List HostLine → List HostParams
line_params lines = map (λ (h : HostLine). h.params) lines

-- What is kept of the frames that were sent before a tick: of each tick from `low` on all of them, and of none before
-- it does a frame come any more. The last one comes in the tick `last`, if any comes.
pub record AreKept (s : Scenario) (t : ℕ) (world : World) (kept : List Sent) (last : ℕ) : Type 0 where
  pub early : FramesBefore t kept
  pub low : ℕ
  pub over : (f : Sent) (u : ℕ) → f.tick < low → t ≤ u → is_due s.link u f ≡ false
  pub same : (k : ℕ) → low ≤ k → of_tick k kept ≡ of_tick k (sent_in world)
  pub coming : (n : ℕ) → list_any (is_under_way s.link n) (sent_in world) ≡ nat_lt n last

-- Each frame was sent in the tick, or before it by no more ticks than a line delays a frame. Nothing comes of an older
-- one after the tick.
abbrev pub AreRecent : LinkLines → (tick : ℕ) → List Sent → Type 0
AreRecent lines t frames = Each (λ (f : Sent). t ≤ f.tick + longest_delay lines) frames

-- These hosts are a world of the scenario before a tick, and what is kept is theirs.
pub record IsWorldOf (s : Scenario) (t : ℕ) (world : World) (k : Traffic) : Type 0 where
  pub params : params_of world ≡ line_params s.hosts
  pub early : AreEarly t world
  pub addresses : k.addresses.items ≡ addresses_of world
  pub counted : AreCounted world k.counts.items
  pub kept : AreKept s t world k.sent k.last

-- A world of the scenario before a tick.
abbrev pub IsWorld : Scenario → (tick : ℕ) → Playing → Type 0
IsWorld s t p = IsWorldOf s t p.hosts.items p.traffic

-- These hosts played a right tick, and what is kept is still that of the world before it.
pub record IsPlayedOf (s : Scenario) (t : ℕ) (hosts : World) (k : Traffic) : Type 0 where
  pub before : World
  pub world : IsWorldOf s t before k
  pub tick : IsTick s t before hosts

abbrev pub IsPlayed : Scenario → (tick : ℕ) → Playing → Type 0
IsPlayed s t p = IsPlayedOf s t p.hosts.items p.traffic

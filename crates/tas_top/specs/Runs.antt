-- Which run the words ask for.
use Rattle.std.specs.Prelude.{◌≡◌, ℕ, List, [], Option, None, Some, Ok, IfSome, ⊤}
use Rattle.std.specs.Net.Addr.{ipv4_bits}
use Rattle.tas_num.specs.Captures as captures
use Rattle.tas_num.specs.Streams.{SourceState, SinkState}
use Rattle.host_rounds.specs.Lists.{Each}
use Rattle.host_rounds.specs.Logs.{HostRun, RunLog}
use Rattle.host_rounds.specs.Cores.{CoresBelow}
use Rattle.scenario_text.specs.declared.scenario.Scenario as scenarios
use Rattle.scenario_text.specs.Reads.{reads}
use Rattle.scenario_text.specs.Bulk.{bulk_text}
use Rattle.scenario_runs.specs.Runs.{Run, serial_run}
use Rattle.scenario_runs.specs.Histories.{AreSound}
use Rattle.tas_runs.specs.Replays.{Replay}
use Rattle.tas_runs.specs.SerialOrder.{serial_replay}
use Rattle.two_ends.specs.Ends.{IsFaithful, ReadsOtherEnd}
use Rattle.program_words.specs.Words.{form_of, Input, Scenario, Made, Capture, Request, Asks}

-- ----- a kind of input
-- The bytes of the input, where they are told: all that the source has, and none for a made scenario.
abbrev pub bytes_of : Input → (left : Option (List ℕ)) → Option (List ℕ)
bytes_of (Made clients) left = Some []
bytes_of _ left = left

-- These bytes are a scenario, or a capture; of a made one there are none to be looked at.
abbrev pub IsInput : Input → List ℕ → Type 0
IsInput Scenario b = (s : scenarios.Scenario) × (reads b ≡ Ok s)
IsInput (Made clients) b = ⊤
IsInput (Capture local loose) b = (found : captures.Capture) × (captures.capture_of b ≡ Ok found)

-- The log is that of its run in serial order.
abbrev pub IsSerialRun : Input → List ℕ → RunLog → Type 0
IsSerialRun Scenario b log = (s : scenarios.Scenario) × (reads b ≡ Ok s) × (serial_run s ≡ log)
IsSerialRun (Made clients) b log =
    (s : scenarios.Scenario) × (reads (bulk_text clients) ≡ Ok s) × (serial_run s ≡ log)
IsSerialRun (Capture local loose) b log = serial_replay (ipv4_bits local) b loose ≡ Ok log

-- The log is one of a run of it, whatever the order: each frame that comes and each call of the scripts in it once.
abbrev pub IsRunOf : Input → List ℕ → RunLog → Type 0
IsRunOf Scenario b log = (s : scenarios.Scenario) × (reads b ≡ Ok s) × Run s log
IsRunOf (Made clients) b log = (s : scenarios.Scenario) × (reads (bulk_text clients) ≡ Ok s) × Run s log
IsRunOf (Capture local loose) b log = Replay (ipv4_bits local) b loose log

-- ----- both ends
-- What the application of a flow with one other end read is a prefix of what the other end's application sent.
abbrev pub EndsAgree : RunLog → Type 0
EndsAgree log = Each (λ (h : HostRun). Each (ReadsOtherEnd log.hosts) h.flows) log.hosts

-- So it is in a run of a scenario whose link damages nothing, and in each of a made one, whose link only loses frames.
-- Of a capture nothing is said here: it is of one host.
abbrev pub AreEndsOf : Input → List ℕ → RunLog → Type 0
AreEndsOf Scenario b log = (s : scenarios.Scenario) → reads b ≡ Ok s → IsFaithful s.link → EndsAgree log
AreEndsOf (Made clients) b log = EndsAgree log
AreEndsOf (Capture local loose) b log = ⊤

-- ----- cores
-- how many cores each host has: as many as are asked for, and on one thread one, core 0
abbrev pub cores_of : (asked : Option ℕ) → ℕ
cores_of None = 1
cores_of (Some count) = count

-- ----- the run
-- The log is that of a run that is asked for, of all bytes of its input. It is a run of this input; each flow in it is
-- sound: it has a history of the endpoint, has read a prefix of every one stream that its peer may have sent, and
-- acknowledged only what stands in order; what is read at one end of a connection was sent at the other, where the link
-- damages nothing; each entry that a core made was made by one of its host's; and where no cores are asked for, it is
-- the run in serial order.
pub record IsRun (r : Request) (b : List ℕ) (log : RunLog) : Type 0 where
  pub run : IsRunOf r.input b log
  pub sound : AreSound log.hosts
  pub ends : AreEndsOf r.input b log
  pub cores : CoresBelow (cores_of r.cores) log.hosts
  pub serial : r.cores ≡ None → IsSerialRun r.input b log

-- What a call was given, and what became of its source and its sink.
pub record Given : Type 0 where
  pub words : List (List ℕ)
  pub source : SourceState  -- before the call
  pub read : SourceState  -- after it
  pub sink : SinkState
  pub written : SinkState

abbrev pub given : (words : List (List ℕ)) → (source read : SourceState) → (sink written : SinkState) → Given
given words source read sink written =
    record { words = words; source = source; read = read; sink = sink; written = written }

-- This holds of the run which the words ask for, where the bytes of the input are told.
abbrev pub Ran : Given → (Request → RunLog → Type 0) → Type 0
Ran g P =
    (r : Request) × Asks (form_of g.words) r
    × IfSome (bytes_of r.input g.source.left) (λ b. (log : RunLog) × IsRun r b log × P r log)

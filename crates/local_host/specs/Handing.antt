-- How the frames that come to a host are handed out: those of flows that the index has become jobs of cores, and the
-- others are left.
use Rattle.std.specs.Prelude.{◌≡◌, ℕ, ◌++◌, ◌∷◌, [], ◌<◌, ◌≤◌, ◌==◌, Bool, true, false, List, All, map, set, fold}
use Rattle.std.specs.Prelude.{Option, Some, None, is_some, position, length, slice_get, count_by, IsPermutation}
use Rattle.tas_model.specs.declared.entry.FrameId.{FrameId}
use Rattle.tas_model.specs.declared.entry.Caller.TheVariants.{Core}
use Rattle.host_rounds.specs.Lists.{change_first}
use Rattle.host_rounds.specs.Hosts.{Host, Live, is_indexed_as}
use Rattle.host_rounds.specs.Deliveries.{Packet, Damaged, Segment, Arrival, received}
use Rattle.core_rounds.specs.CoreTicks.{Taken, AreShared, IsCoresPhase, is_frame}
use Rattle.local_host.specs.declared.lanes.Handed.{Handed}
use Rattle.local_host.specs.declared.lanes.Job.{Job}
use Rattle.local_host.specs.declared.lanes.Lane.{Lane}
use Rattle.local_host.specs.declared.attempts.Attempt.{Attempt}
use Rattle.local_host.specs.declared.attempts.Trial.{Trial}
use Rattle.local_host.specs.Trying.{AreLent, attempt_of, put_trials}
use Rattle.local_host.specs.Lanes.{arrival_of, taken_of}

-- each frame comes once
abbrev pub AreDistinct : List Arrival → Type 0
AreDistinct frames = (frame : FrameId) → count_by (is_frame frame) frames ≤ 1

-- the place of the flow that the index has for a packet
abbrev pub place_in : List Live → Packet → Option ℕ
place_in flows (Damaged rule) = None
place_in flows (Segment tuple seg) = position (is_indexed_as tuple) flows

-- ----- which core
-- a frame, and this core
abbrev pub by_core : (core : ℕ) → Arrival → Taken
by_core core x = record { core = core; arrival = x }

-- This frame came and was steered to this core: they stand at one place of the frames that came and of their cores.
pub record IsSteered (cores : List ℕ) (frames : List Arrival) (x : Taken) : Type 0 where
  pub place : ℕ
  pub core : slice_get cores place ≡ Some x.core
  pub frame : slice_get frames place ≡ Some x.arrival

-- each frame that was taken was taken by the core that it was steered to
abbrev pub AreSteered : (cores : List ℕ) (frames : List Arrival) → List Taken → Type 0
AreSteered cores frames order = All (IsSteered cores frames) order

-- ----- jobs
abbrev pub joined : {A B : Type 0} → (A → List B) → List A → List B
joined g [] = []
joined g (x ∷ xs) = g x ++ joined g xs

abbrev pub frames_of : Job → List Arrival
frames_of j = map arrival_of j.frames.items

abbrev pub frames_by : List Job → List Arrival
frames_by jobs = joined frames_of jobs

abbrev pub jobs_of : Lane → List Job
jobs_of l = l.jobs.items

abbrev pub jobs_in : List Lane → List Job
jobs_in lanes = joined jobs_of lanes

abbrev pub left_in : List Lane → List Handed
left_in lanes = joined (λ (l : Lane). l.left.items) lanes

abbrev pub strays_in : List Lane → List Handed
strays_in lanes = joined (λ (l : Lane). l.strays.items) lanes

abbrev pub trials_in : List Lane → List Trial
trials_in lanes = joined (λ (l : Lane). l.trials.items) lanes

-- how many jobs have the flow at this place
abbrev pub jobs_at : (place : ℕ) → List Job → ℕ
jobs_at q jobs = count_by (λ (j : Job). j.place == q) jobs

-- The job has a flow of these and frames that the index leads to it.
pub record IsJobOf (flows : List Live) (j : Job) : Type 0 where
  pub low : j.core < 16
  pub here : slice_get flows j.place ≡ Some j.flow
  pub led : All (λ (h : Handed). place_in flows (arrival_of h).packet ≡ Some j.place) j.frames.items

-- each of the job's frames was steered to the job's core
abbrev pub AreSentTo : (cores : List ℕ) (frames : List Arrival) → Job → Type 0
AreSentTo cores frames j =
    All (λ (h : Handed). IsSteered cores frames (by_core j.core (arrival_of h))) j.frames.items

-- These frames were handed out, each steered to its core: each is in a job of that core or left. The flows of the jobs
-- were taken out, each once, and what stands in their places the index has under no four-tuple.
pub record AreHanded (old now : List Live) (jobs : List Job) (left : List Handed) (cores : List ℕ)
    (frames : List Arrival) : Type 0 where
  pub even : length cores ≡ length frames
  pub len : length now ≡ length old
  pub apart : (q : ℕ) → jobs_at q jobs ≡ 0 → slice_get now q ≡ slice_get old q
  pub away : (q : ℕ) (l : Live) → slice_get now q ≡ Some l → l.indexed ≡ true → jobs_at q jobs ≡ 0
  pub own : All (IsJobOf old) jobs
  pub sent : All (AreSentTo cores frames) jobs
  pub once : (q : ℕ) → jobs_at q jobs ≤ 1
  pub shared : IsPermutation (frames_by jobs ++ map arrival_of left) frames

abbrev pub is_in_index : Live → Bool
is_in_index l = l.indexed

-- the same job with one frame more
pub record HasMore (h : Handed) (before after : Job) : Type 0 where
  pub core : after.core ≡ before.core
  pub place : after.place ≡ before.place
  pub flow : after.flow ≡ before.flow
  pub frames : after.frames.items ≡ before.frames.items ++ h ∷ []

-- ----- lanes
-- a lane has jobs of its own core alone
abbrev pub IsOfOneCore : Lane → Type 0
IsOfOneCore l = All (λ (j : Job). j.core ≡ l.core) l.jobs.items

-- The lanes have these jobs, each lane those of its core, these frames to pass on and these trials, and have left
-- nothing yet.
pub record AreLanes (jobs : List Job) (strays : List Handed) (trials : List Trial) (lanes : List Lane) : Type 0 where
  pub moved : IsPermutation jobs (jobs_in lanes)
  pub shuffled : IsPermutation (frames_by jobs) (frames_by (jobs_in lanes))
  pub passed : IsPermutation strays (strays_in lanes)
  pub tried : trials_in lanes ≡ trials
  pub low : All (λ (l : Lane). l.core < 16) lanes
  pub own : All IsOfOneCore lanes
  pub fresh : All (λ (l : Lane). l.left.items ≡ []) lanes

-- a lane of this core that has nothing yet
pub record IsEmptyLane (number : ℕ) (l : Lane) : Type 0 where
  pub core : l.core ≡ number
  pub jobs : l.jobs.items ≡ []
  pub strays : l.strays.items ≡ []
  pub trials : l.trials.items ≡ []
  pub left : l.left.items ≡ []

-- The lanes have trials of these attempts too, whose flows were taken out of these.
pub record IsLendingOut (old now : List Live) (given : List (Option Attempt)) (jobs : List Job) (strays : List Handed)
    (lanes : List Lane) : Type 0 where
  pub trials : List Trial
  pub lent : AreLent old now given trials
  pub have : AreLanes jobs strays trials lanes

-- the flows of jobs are put back
abbrev pub put_jobs : List Job → List Live → List Live
put_jobs [] flows = flows
put_jobs (j ∷ js) flows = put_jobs js (set flows j.place j.flow)

-- ----- all that is handed out
-- These frames were handed out, and then flows were lent for these attempts: the lanes have all of it.
pub record AreFilled (old now : List Live) (given : List (Option Attempt)) (cores : List ℕ) (frames : List Arrival)
    (lanes : List Lane) : Type 0 where
  pub middle : List Live
  pub jobs : List Job
  pub left : List Handed
  pub handed : AreHanded old middle jobs left cores frames
  pub lending : IsLendingOut middle now given jobs left lanes

-- The lanes' flows are back in their places, first those of jobs; these frames were left, and these are the attempts.
pub record AreGathered (before : List Live) (lanes : List Lane) (frames : List Arrival) (tried : List (Option Attempt))
    (after : List Live) : Type 0 where
  pub left : List Handed
  pub done : All (λ (l : Lane). l.failed ≡ false) lanes
  pub flows : after ≡ put_trials (trials_in lanes) (put_jobs (jobs_in lanes) before)
  pub attempts : tried ≡ map attempt_of (trials_in lanes)
  pub sorted : IsPermutation (left_in lanes) left
  pub rest : frames ≡ map arrival_of left

-- ----- what cores took
abbrev pub order_by : (tick : ℕ) → List Job → List Taken
order_by t [] = []
order_by t (j ∷ js) = map (by_core j.core) (taken_of j.core t j.frames.items j.flow) ++ order_by t js

abbrev pub taken_packet : (core tick : ℕ) → FrameId → Packet → List Live → List Live
taken_packet core t frame (Damaged rule) flows = flows
taken_packet core t frame (Segment tuple seg) flows =
    change_first (is_indexed_as tuple) (received (Core core) t frame seg) flows

abbrev pub flow_taken : (tick : ℕ) → List Live → Taken → List Live
flow_taken t flows x = taken_packet x.core t x.arrival.frame x.arrival.packet flows

-- Some frames came so far, each steered to its core, which took it, or it is left. What stands now is what those leave
-- that were taken, each of a flow of the index.
pub record TookSome (t : ℕ) (before : List Live) (cores : List ℕ) (frames rest : List Arrival) (now : List Live)
    : Type 0 where
  pub even : length cores ≡ length frames
  pub order : List Taken
  pub steered : AreSteered cores frames order
  pub shared : IsPermutation (map (λ (x : Taken). x.arrival) order ++ rest) frames
  pub known : All (λ (x : Taken). is_some (place_in before x.arrival.packet) ≡ true) order
  pub made : fold (flow_taken t) before order ≡ now

-- What cores did to the flows is what one order of the frames leaves that they took, each of a flow of the index, and
-- each by the core that it was steered to.
pub record TookFrames (t : ℕ) (before : List Live) (cores : List ℕ) (frames rest : List Arrival) (after : List Live)
    : Type 0 where
  pub order : List Taken
  pub steered : AreSteered cores frames order
  pub shared : AreShared frames order rest
  pub known : All (λ (x : Taken). is_some (place_in before x.arrival.packet) ≡ true) order
  pub made : fold (flow_taken t) before order ≡ after

-- The cores' phase of a tick of a host, in which each frame that was taken was taken by the core that it was steered
-- to.
pub record IsSteeredPhase (t : ℕ) (before : Host) (cores : List ℕ) (frames rest : List Arrival) (after : Host)
    : Type 0 where
  pub phase : IsCoresPhase t before frames rest after
  pub steered : AreSteered cores frames phase.order

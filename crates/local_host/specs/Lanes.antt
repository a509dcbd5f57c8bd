-- What a core does with the frames that are handed to it for one flow: those for the fast path are taken, in their
-- order, and the others are left.
use Rattle.std.specs.Prelude.{◌≡◌, ℕ, ◌++◌, ◌∷◌, [], Bool, true, false, List, map, cond}
use Rattle.tas_model.specs.declared.entry.FrameId.{FrameId}
use Rattle.tas_model.specs.declared.entry.Caller.TheVariants.{Core}
use Rattle.host_rounds.specs.Hosts.{Live, endpoint}
use Rattle.host_rounds.specs.Deliveries.{Packet, Damaged, Segment, Arrival, received, is_fast}
use Rattle.local_host.specs.declared.lanes.Handed.{Handed}
use Rattle.local_host.specs.declared.lanes.Job.{Job}
use Rattle.local_host.specs.declared.lanes.Lane.{Lane}
use Rattle.local_host.specs.Arriving.{arrival_in}
use Rattle.local_host.specs.Trying.{tried_trial}

-- ----- one frame
-- the fast path takes it
abbrev pub is_taken : Packet → Live → Bool
is_taken (Damaged rule) l = false
is_taken (Segment tuple seg) l = is_fast (endpoint l) seg

abbrev pub packet_taken : (core tick : ℕ) → FrameId → Packet → Live → Live
packet_taken core t frame (Damaged rule) l = l
packet_taken core t frame (Segment tuple seg) l = received (Core core) t frame seg l

-- what a frame leaves of the flow
abbrev pub worked_frame : (core tick : ℕ) → Arrival → Live → Live
worked_frame core t x l = cond (is_taken x.packet l) (packet_taken core t x.frame x.packet l) l

-- ----- frames
abbrev pub arrival_of : Handed → Arrival
arrival_of h = arrival_in h.arrival

-- one more, where the test holds or does not
abbrev pub more_if : {X : Type 0} → Bool → X → List X → List X
more_if true x xs = x ∷ xs
more_if false x xs = xs

abbrev pub more_unless : {X : Type 0} → Bool → X → List X → List X
more_unless true x xs = xs
more_unless false x xs = x ∷ xs

-- what they leave of the flow, which of them were taken, and which were not
abbrev pub worked_flow : (core tick : ℕ) → List Handed → Live → Live
worked_flow core t [] l = l
worked_flow core t (h ∷ hs) l = worked_flow core t hs (worked_frame core t (arrival_of h) l)

abbrev pub taken_of : (core tick : ℕ) → List Handed → Live → List Arrival
taken_of core t [] l = []
taken_of core t (h ∷ hs) l =
    more_if (is_taken (arrival_of h).packet l) (arrival_of h)
    (taken_of core t hs (worked_frame core t (arrival_of h) l))

abbrev pub left_of : (core tick : ℕ) → List Handed → Live → List Handed
left_of core t [] l = []
left_of core t (h ∷ hs) l =
    more_unless (is_taken (arrival_of h).packet l) h (left_of core t hs (worked_frame core t (arrival_of h) l))

-- ----- jobs
abbrev pub worked_job : (tick : ℕ) → Job → Job
worked_job t j = record j { flow = worked_flow j.core t j.frames.items j.flow }

abbrev pub left_by : (tick : ℕ) → List Job → List Handed
left_by t [] = []
left_by t (j ∷ js) = left_of j.core t j.frames.items j.flow ++ left_by t js

-- A lane whose memory was enough has worked all its jobs, passed its strays on and made its attempts.
pub record IsWorked (t : ℕ) (before after : Lane) : Type 0 where
  pub jobs : after.jobs.items ≡ map (worked_job t) before.jobs.items
  pub left : after.left.items ≡ (before.left.items ++ left_by t before.jobs.items) ++ before.strays.items
  pub trials : after.trials.items ≡ map (tried_trial t) before.trials.items

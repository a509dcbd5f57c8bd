-- What applications try while cores take frames: an attempt is made on a flow that no core has, and else it is left.
use Rattle.std.specs.Prelude.{◌≡◌, ℕ, ◌∷◌, [], ◌<◌, ◌≤◌, ◌^◌, ◌==◌, Bool, true, false, List, All, map, set, length}
use Rattle.std.specs.Prelude.{Option, Some, None, slice_get, count_by, ⊤}
use Rattle.tas_model.specs.declared.entry.Caller.TheVariants.{App}
use Rattle.flow_state.specs.declared.call.CallIn.{CallIn}
use Rattle.flow_state.specs.declared.call.CallIn.TheVariants as ins
use Rattle.flow_state.specs.declared.call.Answer.{Answer}
use Rattle.flow_state.specs.Calls.{call_of, offer_of, answer_of}
use Rattle.flow_state.specs.Flow.{reply_to}
use Rattle.host_rounds.specs.Lists.{change_at}
use Rattle.host_rounds.specs.Hosts.{Live, GivenUp, with_call}
use Rattle.local_host.specs.declared.attempts.Attempt.{Attempt}
use Rattle.local_host.specs.declared.attempts.Trial.{Trial}

-- ----- one attempt
-- what may be tried beside cores
abbrev pub IsTryable : CallIn → Type 0
IsTryable (ins.Send bytes) = length bytes.now < 2 ^ 32
IsTryable (ins.Recv most) = ⊤
IsTryable ins.Shut = ⊤
IsTryable ins.Close = ⊤
IsTryable ins.Abort = ⊤
IsTryable _ = ⊥

-- The answer of the flow.
abbrev pub answer_to : (tick : ℕ) → Attempt → Live → Answer
answer_to t x l = answer_of (reply_to l.flow.params l.flow.entries t (call_of x.call) (offer_of x.call))

-- Close and Abort give the socket up.
abbrev pub held_after : CallIn → Live → Live
held_after ins.Close l = record l { holder = GivenUp }
held_after ins.Abort l = record l { holder = GivenUp }
held_after _ l = l

-- what the attempt leaves of its flow
abbrev pub tried_live : (tick : ℕ) → Attempt → Live → Live
tried_live t x l = held_after x.call (with_call l (App x.app) t (call_of x.call) (offer_of x.call))

-- ----- attempts in their order
-- Without an answer it leaves all as it is. Else its flow is there, and gave that answer.
abbrev pub IsMadeBy : (tick : ℕ) → Attempt → Option Answer → (before after : List Live) → Type 0
IsMadeBy t x None before after = before ≡ after
IsMadeBy t x (Some a) before after =
    (x.place < length before)
    × ((l : Live) → slice_get before x.place ≡ Some l → a ≡ answer_to t x l)
    × (change_at x.place (tried_live t x) before ≡ after)

abbrev pub IsMade : (tick : ℕ) → Option Attempt → (before after : List Live) → Type 0
IsMade t None before after = before ≡ after
IsMade t (Some x) before after = IsMadeBy t x x.answer before after

abbrev pub AreMade : (tick : ℕ) → List (Option Attempt) → (before after : List Live) → Type 0
AreMade t [] before after = before ≡ after
AreMade t (x ∷ xs) before after = (next : List Live) × IsMade t x before next × AreMade t xs next after

-- the attempt without its answer
abbrev pub unanswered : Option Attempt → Option Attempt
unanswered None = None
unanswered (Some x) = Some (record x { answer = None })

-- these are the attempts that were given, and some have an answer
abbrev pub AreAnswered : (given after : List (Option Attempt)) → Type 0
AreAnswered given after = map unanswered after ≡ given

-- ----- trials
abbrev pub attempt_of : Trial → Option Attempt
attempt_of x = x.attempt

abbrev pub CanTryIt : Option Attempt → Type 0
CanTryIt None = ⊤
CanTryIt (Some x) = IsTryable x.call

abbrev pub CanTry : Trial → Type 0
CanTry x = CanTryIt x.attempt

-- what a worker makes of a trial
abbrev pub tried_by : (tick : ℕ) → Option Attempt → Option Live → Trial
tried_by t (Some x) (Some l) =
    record { attempt = Some (record x { answer = Some (answer_to t x l) }); flow = Some (tried_live t x l) }
tried_by t attempt flow = record { attempt = attempt; flow = flow }

abbrev pub tried_trial : (tick : ℕ) → Trial → Trial
tried_trial t x = tried_by t x.attempt x.flow

-- the flow of a trial is put back
abbrev pub put_by : Option Attempt → Option Live → List Live → List Live
put_by (Some x) (Some l) flows = set flows x.place l
put_by attempt flow flows = flows

abbrev pub put_trial : Trial → List Live → List Live
put_trial x flows = put_by x.attempt x.flow flows

abbrev pub put_trials : List Trial → List Live → List Live
put_trials [] flows = flows
put_trials (x ∷ xs) flows = put_trials xs (put_trial x flows)

-- The trial has the flow that stands at this place.
abbrev pub is_of : (place : ℕ) → Option Attempt → Option Live → Bool
is_of q (Some x) (Some l) = x.place == q
is_of q attempt flow = false

abbrev pub trials_at : (place : ℕ) → List Trial → ℕ
trials_at q trials = count_by (λ (x : Trial). is_of q x.attempt x.flow) trials

-- a flow that the trial has is one of these, and the index has it
abbrev pub HasFlow : List Live → Option Attempt → Option Live → Type 0
HasFlow flows (Some x) (Some l) = (slice_get flows x.place ≡ Some l) × (l.indexed ≡ true)
HasFlow flows attempt flow = ⊤

abbrev pub HasOwnFlow : List Live → Trial → Type 0
HasOwnFlow flows x = HasFlow flows x.attempt x.flow

-- These attempts became trials. The flows that they have were taken out, each once, and what stands in their places the
-- index has under no four-tuple.
pub record AreLent (old now : List Live) (given : List (Option Attempt)) (trials : List Trial) : Type 0 where
  pub tried : map attempt_of trials ≡ given
  pub len : length now ≡ length old
  pub apart : (q : ℕ) → trials_at q trials ≡ 0 → slice_get now q ≡ slice_get old q
  pub away : (q : ℕ) (l : Live) → slice_get now q ≡ Some l → l.indexed ≡ true → trials_at q trials ≡ 0
  pub own : All (HasOwnFlow old) trials
  pub once : (q : ℕ) → trials_at q trials ≤ 1

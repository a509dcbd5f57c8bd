-- What a pass sees and does where a core receives a segment for a flow that the index names.
use Rattle.std.specs.Prelude.{◌≡◌, ℕ, List}
use Rattle.segment_fields.specs.declared.segment.Segment.{Segment}
use Rattle.tas_model.specs.declared.entry.FlowId.{FlowId}
use Rattle.tas_model.specs.declared.entry.FrameId.{FrameId}
use Rattle.flow_state.specs.Flow.{Flow}
use Rattle.flow_lock.specs.Answers.{IsPinned, IsRefused}
use Rattle.flow_lock.specs.Steps.{unpinned}
use Rattle.flow_lock.specs.declared.view.View.{View}
use Rattle.flow_lock.specs.declared.pass.PinRefused.TheVariants as refused
use Rattle.app_reaper.specs.OneCall.{history, IsOwn, IsUse, IsCallRefused}
use Rattle.app_reaper.specs.declared.one_call.CallFault.TheVariants.{Busy, OutOfMemory}
use Rattle.core_worker.specs.Frames.{answer_at, history_by}
use Rattle.core_worker.specs.Telling.{IsAppTold}
use Rattle.core_worker.specs.declared.shared.AppQueue.{AppQueue}
use Rattle.core_worker.specs.declared.senders.AppSender.{AppSender}
use Rattle.core_worker.specs.declared.frames.Handled.{Handled}
use Rattle.core_worker.specs.declared.frames.Handled.TheVariants as handled
use Rattle.core_worker.specs.declared.frames.Passed.TheVariants as passed

-- The flow was pinned, something was done by its pin, and the pin was given up.
abbrev pub ByPin : FlowId → (View → View → Type 0) → View → View → Type 0
ByPin id done v w = (p : View) × (q : View) × IsPinned id v p × done p q × (w ≡ unpinned id q)

-- The record was taken, and given back as the segment leaves it, with this answer. Then the flow's application was told
-- what came of it.
pub record IsOffered (queues : List AppQueue) (core tick : ℕ) (frame : FrameId) (seg : Segment) (id : FlowId)
    (h : Handled) (v w : View) (ss ts : List AppSender) : Type 0 where
  pub flow : Flow
  pub own : IsOwn id v flow
  pub answer : h ≡ answer_at flow seg
  pub given : IsUse id flow (history_by core tick frame seg flow h) v w
  pub told : IsAppTold queues id (history flow) (history_by core tick frame seg flow h) ss ts

-- What was done by the pin, by the answer. Busy is one of the take, and the others are answers at the record.
abbrev pub IsTried : List AppQueue → (core tick : ℕ) → FrameId → Segment → FlowId → (v w : View)
    → (ss ts : List AppSender) → Handled → Type 0
IsTried queues core tick frame seg id v w ss ts (handled.Passed (passed.Busy x)) =
    IsCallRefused id v w (Busy x) × (ts ≡ ss)
IsTried queues core tick frame seg id v w ss ts h = IsOffered queues core tick frame seg id h v w ss ts

-- What the pass has seen and done, and the senders posted, by the answer. Stale and Moved are answers of the pin.
abbrev pub IsReceived : List AppQueue → (core tick : ℕ) → FrameId → Segment → FlowId → (v w : View)
    → (ss ts : List AppSender) → Handled → Type 0
IsReceived queues core tick frame seg id v w ss ts (handled.Passed (passed.Stale x)) =
    IsRefused id v w (refused.Stale x) × (ts ≡ ss)
IsReceived queues core tick frame seg id v w ss ts (handled.Passed (passed.Moved x y)) =
    IsRefused id v w (refused.Moved x y) × (ts ≡ ss)
IsReceived queues core tick frame seg id v w ss ts h =
    ByPin id (λ p q. IsTried queues core tick frame seg id p q ss ts h) v w

-- memory was wanting: the record was taken and given back as it was
abbrev pub IsUnreceived : FlowId → View → View → Type 0
IsUnreceived id v w = ByPin id (λ p q. IsCallRefused id p q OutOfMemory) v w

-- A segment that comes to a flow.
use Rattle.std.specs.Prelude.{◌≡◌, ◌++◌, ◌⊎◌, ℕ, not, map}
use Rattle.std.specs.List.{filter}
use Rattle.segment_fields.specs.declared.segment.Segment.{Segment}
use Rattle.tas_model.specs.declared.entry.Caller.TheVariants.{Slow}
use Rattle.tas_model.specs.declared.entry.FlowId.{FlowId}
use Rattle.tas_model.specs.declared.entry.FrameId.{FrameId}
use Rattle.tas_model.specs.declared.entry.Phase.{Phase}
use Rattle.tas_model.specs.declared.entry.Phase.TheVariants as phases
use Rattle.tas_model.specs.Endpoint.{phase}
use Rattle.tas_model.specs.LegalHistory.{replay}
use Rattle.flow_state.specs.declared.call.CallIn.TheVariants.{Rx}
use Rattle.flow_state.specs.Application.{application_of}
use Rattle.flow_state.specs.Flow.{Flow}
use Rattle.flow_lock.specs.declared.view.History.{History}
use Rattle.flow_lock.specs.declared.view.View.{View}
use Rattle.app_reaper.specs.OneCall.{history, history_with, IsOwn, IsUse, IsCallRefused}
use Rattle.app_reaper.specs.declared.one_call.CallFault.TheVariants.{Busy, OutOfMemory}
use Rattle.slow_handshake.specs.Openings.{Openings, readied, is_named}
use Rattle.core_worker.specs.Kicks.{kick_of, one_kick}
use Rattle.core_worker.specs.Telling.{IsAppTold, news_in}
use Rattle.slow_worker.specs.Workers.{Sight, Setting}
use Rattle.slow_worker.specs.declared.entering.Brought.{Brought}
use Rattle.slow_worker.specs.declared.entering.Offered.{Offered}
use Rattle.slow_worker.specs.declared.entering.Offered.TheVariants as offered
use Rattle.slow_worker.specs.declared.served.Served.{Served}
use Rattle.slow_worker.specs.declared.served.Served.TheVariants as served

-- the flow's history with the one entry more that the slow path makes of the segment
abbrev pub received : (tick : ℕ) → FrameId → Segment → Flow → History
received tick frame seg r = history_with r Slow tick (Rx frame seg)

-- the state that a history leads to
abbrev pub phase_of : History → Phase
phase_of h = phase (replay h.params h.entries)

-- The lists of openings are told where the flow then stands: past SYN-RECEIVED it may be accepted, and closed it
-- leaves.
abbrev pub told : Phase → FlowId → Openings → Openings
told phases.SynSent id o = o
told phases.SynReceived id o = o
told phases.Closed id o = record o { flows = filter (λ f. not (is_named id f)) o.flows }
told past id o = record o { flows = map (readied id) o.flows }

-- The flow's own record was taken, and given back with the entry of the frame. Then the lists of openings were told
-- where the flow stands, and its application what the entry brought. The flow is kicked, where a segment may go.
pub record IsReceived (at : Setting) (frame : FrameId) (seg : Segment) (id : FlowId) (s n : Sight) : Type 0 where
  pub flow : Flow
  pub own : IsOwn id s.pass.view flow
  pub given : IsUse id flow (received at.tick frame seg flow) s.pass.view n.pass.view
  pub path : n.path ≡ told (phase_of (received at.tick frame seg flow)) id s.path
  pub told : IsAppTold at.queues id (history flow) (received at.tick frame seg flow) s.senders n.senders
  pub kicked : n.kicks ≡ s.kicks ++ one_kick (kick_of id (received at.tick frame seg flow))

-- What was done, by the answer: the frame's entry was made; or another pass held the record, and nothing was done.
abbrev pub IsEnteredBy : Setting → FrameId → Segment → FlowId → Sight → Sight → Served → Type 0
IsEnteredBy at frame seg id s n (served.Entered f) = (f ≡ id) × IsReceived at frame seg id s n
IsEnteredBy at frame seg id s n (served.Busy x) =
    IsCallRefused id s.pass.view n.pass.view (Busy x) × (n ≡ record s { pass = n.pass })
IsEnteredBy at frame seg id s n a = ⊥

-- The flow received the segment, or not, with this answer. All else stays.
pub record IsEntered (at : Setting) (frame : FrameId) (seg : Segment) (id : FlowId) (s n : Sight) (a : Served)
    : Type 0 where
  pub entered : IsEnteredBy at frame seg id s n a
  pub table : n.pass.table ≡ s.pass.table
  pub after : n ≡ record s { path = n.path; pass = n.pass; senders = n.senders; kicks = n.kicks }

-- Memory was wanting: nothing was done, or the record was taken and given back as it was.
pub record IsUnentered (id : FlowId) (s n : Sight) : Type 0 where
  pub refused : (n.pass ≡ s.pass) ⊎ IsCallRefused id s.pass.view n.pass.view OutOfMemory
  pub table : n.pass.table ≡ s.pass.table
  pub after : n ≡ record s { pass = n.pass }

-- ----- at the record
-- the flow's application, its news by the history before and after an entry, and its kick
abbrev pub brought : FlowId → (before after : History) → Brought
brought id h k = record { app = application_of k.entries; news = news_in h k; kick = kick_of id k }

-- the segment's entry was made, and the lists of openings were told; or another pass held the record
abbrev pub IsOffered : (tick : ℕ) → FrameId → Segment → FlowId → (before after : Openings) → (before after : View)
    → Offered → Type 0
IsOffered tick frame seg id o k v w (offered.Entered b) =
    (flow : Flow)
    × IsOwn id v flow
    × IsUse id flow (received tick frame seg flow) v w
    × (k ≡ told (phase_of (received tick frame seg flow)) id o)
    × (b ≡ brought id (history flow) (received tick frame seg flow))
IsOffered tick frame seg id o k v w (offered.Busy x) = IsCallRefused id v w (Busy x) × (k ≡ o)

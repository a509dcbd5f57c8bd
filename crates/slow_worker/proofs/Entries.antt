-- A segment at a flow, step by step.
use Rattle.std.proofs.Common.{◌≡◌, ap, sym, ◌∙◌, ◌++◌, refl, subst, inr, ℕ, List}
use Rattle.std.specs.Prelude.{Result, Ok, Err, IfOk, Some, None}
use Rattle.segment_fields.specs.Text.{IsText, refusal}
use Rattle.segment_fields.specs.declared.segment.Segment.{Segment}
use Rattle.tas_model.specs.declared.entry.FlowId.{FlowId}
use Rattle.tas_model.specs.declared.entry.FrameId.{FrameId}
use Rattle.tas_model.specs.declared.entry.Phase.{Phase}
use Rattle.tas_model.specs.declared.entry.Phase.TheVariants as phases
use Rattle.tas_model.specs.Valid.{InRange}
use Rattle.atomic_table.specs.Seated.{TableId}
use Rattle.flow_lock.specs.Passes.{Seen}
use Rattle.flow_state.specs.Flow.{Flow}
use Rattle.flow_lock.specs.declared.view.History.{History}
use Rattle.flow_lock.specs.declared.view.View.{View}
use Rattle.app_reaper.specs.OneCall.{history, IsOwn, IsUse, IsCallRefused}
use Rattle.app_reaper.specs.declared.one_call.CallFault.TheVariants.{Busy, OutOfMemory}
use Rattle.slow_handshake.specs.Openings.{Openings}
use Rattle.core_worker.specs.Kicks.{kick_of, one_kick}
use Rattle.core_worker.specs.News.{notes_about}
use Rattle.core_worker.specs.Telling.{IsTold}
use Rattle.core_worker.specs.declared.kicks.Kick.{Kick}
use Rattle.core_worker.specs.declared.senders.AppSender.{AppSender}
use Rattle.flow_lock.specs.declared.word.Word.{Word}
use Rattle.core_worker.specs.Frames.{tuple_of}
use Rattle.slow_worker.specs.Workers.{Sight, Setting, IsSound, flow_with}
use Rattle.slow_worker.specs.Serving.{IsServed, IsServedBy, IsTaken}
use Rattle.slow_worker.specs.declared.served.Served.{Served}
use Rattle.slow_worker.specs.Entering.{received, phase_of, told, brought, IsOffered, IsEntered, IsUnentered}
use Rattle.slow_worker.proofs.Keeping.{kept_used, kept_refused}
use Rattle.slow_worker.specs.declared.entering.Brought.{Brought}
use Rattle.slow_worker.specs.declared.entering.Offered.{Offered}
use Rattle.slow_worker.specs.declared.entering.Offered.TheVariants as offered
use Rattle.slow_worker.specs.declared.served.Served.TheVariants as served

-- the record was taken and given back with the frame's entry
pub offered_so : (tick : ℕ) (frame : FrameId) (seg : Segment) (id : FlowId) (r : Flow) (after : History)
    (o k : Openings) (v w : View) (b : Brought) → IsOwn id v r → IsUse id r after v w
    → after ≡ received tick frame seg r → k ≡ told (phase_of after) r.id o → b ≡ brought r.id (history r) after
    → IsOffered tick frame seg id o k v w (offered.Entered b)
offered_so tick frame seg id r after o k v w b own given grown tell bring =
    let now = received tick frame seg r in (
      r,
      own,
      subst (λ h. IsUse id r h v w) grown given,
      tell ∙ (ap (λ (f : FlowId). told (phase_of after) f o) own.own ∙ ap (λ h. told (phase_of h) id o) grown),
      bring ∙ (ap (λ (f : FlowId). brought f (history r) after) own.own ∙ ap (λ h. brought id (history r) h) grown),
    )

-- or as it was
pub returned : (id : FlowId) (r : Flow) (after : History) (v w : View) → IsOwn id v r → IsUse id r after v w
    → after ≡ history r → IsCallRefused id v w OutOfMemory
returned id r after v w own given back = (r, own, subst (λ h. IsUse id r h v w) back given)

-- ----- what the worker has then
told_params : (p : Phase) (id : FlowId) (o : Openings) → (told p id o).params ≡ o.params
told_params phases.SynSent id o = refl
told_params phases.SynReceived id o = refl
told_params phases.Established id o = refl
told_params phases.FinWait1 id o = refl
told_params phases.FinWait2 id o = refl
told_params phases.CloseWait id o = refl
told_params phases.Closing id o = refl
told_params phases.LastAck id o = refl
told_params phases.TimeWait id o = refl
told_params phases.Closed id o = refl

-- an answer of the record, with what it leaves
pub kept_so : (t : TableId) (tick : ℕ) (frame : FrameId) (seg : Segment) (id : FlowId) (s : Sight) (pass : Seen)
    (path : Openings) (x : Offered) → pass.table ≡ s.pass.table
    → IsOffered tick frame seg id s.path path s.pass.view pass.view x → IsSound t s
    → IsSound t (record s { path = path; pass = pass })
kept_so t tick frame seg id s pass path (offered.Entered b) table (r, own, given, k, is) (kept, ranges) = (
  kept_used t id r _ s.pass pass s.doomed s.pins s.flows table given kept,
  subst InRange (sym (ap (λ (x : Openings). x.params) k
      ∙ told_params (phase_of (received tick frame seg r)) id s.path)) ranges,
)
kept_so t tick frame seg id s pass path (offered.Busy x) table (refused, k) (kept, ranges) = (
  kept_refused t id (Busy x) s.pass pass s.doomed s.pins s.flows table refused kept,
  subst (λ (o : Openings). InRange o.params) (sym k) ranges,
)

-- or memory was wanting
pub kept_unentered : (t : TableId) (id : FlowId) (s : Sight) (pass : Seen) (path : Openings)
    → pass.table ≡ s.pass.table → IsCallRefused id s.pass.view pass.view OutOfMemory → path ≡ s.path → IsSound t s
    → IsSound t (record s { path = path; pass = pass })
kept_unentered t id s pass path table refused untold (kept, ranges) = (
  kept_refused t id OutOfMemory s.pass pass s.doomed s.pins s.flows table refused kept,
  subst (λ (o : Openings). InRange o.params) (sym untold) ranges,
)

-- the flow of the pin is the one that was asked for
pub entered_so : (at : Setting) (frame : FrameId) (seg : Segment) (id p : FlowId) (s : Sight) (pass : Seen)
    (path : Openings) (senders : List AppSender) (kicks : List Kick) (b : Brought) → p ≡ id
    → pass.table ≡ s.pass.table
    → IsOffered at.tick frame seg p s.path path s.pass.view pass.view (offered.Entered b)
    → IsTold b.app at.queues (notes_about id b.news) s.senders senders → kicks ≡ s.kicks ++ one_kick b.kick
    → IsEntered at frame seg id s (record s { path = path; pass = pass; senders = senders; kicks = kicks })
    (served.Entered id)
entered_so at frame seg id p s pass path senders kicks b named table (r, own, given, k, is) posted kicked =
    let after = received at.tick frame seg r in
    let v = s.pass.view in record {
      entered = (
        λ i. id,
        record {
          flow = r;
          own = subst (λ f. IsOwn f v r) named own;
          given = subst (λ f. IsUse f r after v pass.view) named given;
          path = k ∙ ap (λ (f : FlowId). told (phase_of after) f s.path) named;
          told = subst (λ (x : Brought). IsTold x.app at.queues (notes_about id x.news) s.senders senders) is posted;
          kicked = kicked ∙ (ap (λ (x : Brought). s.kicks ++ one_kick x.kick) is
              ∙ ap (λ f. s.kicks ++ one_kick (kick_of f after)) named);
        },
      );
      table = table;
      after = refl;
    }

pub busy_so : (at : Setting) (frame : FrameId) (seg : Segment) (id p : FlowId) (s : Sight) (pass : Seen)
    (path : Openings) (kicks : List Kick) (x : Word) → p ≡ id → pass.table ≡ s.pass.table → kicks ≡ s.kicks
    → IsOffered at.tick frame seg p s.path path s.pass.view pass.view (offered.Busy x)
    → IsEntered at frame seg id s (record s { path = path; pass = pass; kicks = kicks }) (served.Busy x)
busy_so at frame seg id p s pass path kicks x named table same (refused, k) =
    record {
      entered = (
        subst (λ f. IsCallRefused f s.pass.view pass.view (Busy x)) named refused,
        ap (λ (o : Openings). record s { path = o; pass = pass; kicks = kicks }) k
            ∙ ap (λ l. record s { pass = pass; kicks = l }) same,
      );
      table = table;
      after = refl;
    }

pub unentered_so : (id p : FlowId) (s : Sight) (pass : Seen) (path : Openings) (kicks : List Kick) → p ≡ id
    → pass.table ≡ s.pass.table → IsCallRefused p s.pass.view pass.view OutOfMemory → path ≡ s.path
    → kicks ≡ s.kicks → IsUnentered id s (record s { path = path; pass = pass; kicks = kicks })
unentered_so id p s pass path kicks named table refused untold same =
    record {
      refused = inr (subst (λ f. IsCallRefused f s.pass.view pass.view OutOfMemory) named refused);
      table = table;
      after = ap (λ (o : Openings). record s { path = o; pass = pass; kicks = kicks }) untold
          ∙ ap (λ l. record s { pass = pass; kicks = l }) same;
    }

-- ----- a frame of a flow that is known
pub taken_so : {E : Type 0} (x : Result Served E) (at : Setting) (frame : FrameId) (packet : List ℕ) (seg : Segment)
    (id : FlowId) (s n : Sight) → refusal at.check_sums packet ≡ None → IsText packet seg
    → flow_with (tuple_of seg) s.flows ≡ Some id → IfOk x (IsEntered at frame seg id s n)
    → IfOk x (IsServed at frame packet s n)
taken_so (Ok a) at frame packet seg id s n read text found entered =
    subst (λ o. IsServedBy o at frame packet s n a) (sym read)
    (seg, text, subst (λ o. IsTaken o at frame seg s n a) (sym found) entered)
taken_so (Err e) at frame packet seg id s n read text found entered = tt

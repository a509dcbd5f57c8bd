-- A segment at a flow, step by step.
use Rattle.std.proofs.Common.{◌≡◌, subst, ℕ, List, Bool, true, false}
use Rattle.std.specs.Prelude.{Option, Some, None, Result, Ok, Err, IfOk, OnErr, if◌then◌else◌}
use Rattle.segment_fields.specs.declared.segment.Segment.{Segment}
use Rattle.tas_model.specs.declared.entry.FlowId.{FlowId}
use Rattle.tas_model.specs.declared.entry.FrameId.{FrameId}
use Rattle.flow_state.specs.Application.{application_of}
use Rattle.flow_state.specs.Flow.{Flow}
use Rattle.flow_index.specs.Changes.{is_same}
use Rattle.flow_lock.specs.Answers.{IsPinned}
use Rattle.flow_lock.specs.Steps.{unpinned}
use Rattle.flow_lock.specs.declared.word.Word.{Word}
use Rattle.flow_lock.specs.declared.view.History.{History}
use Rattle.flow_lock.specs.declared.view.View.{View}
use Rattle.fast_rx.specs.Exceptions.{exception}
use Rattle.fast_rx.specs.declared.fast.Why.{Why}
use Rattle.app_reaper.specs.OneCall.{history, IsOwn, IsUse, IsCallRefused}
use Rattle.app_reaper.specs.declared.one_call.CallFault.TheVariants.{OutOfMemory}
use Rattle.core_worker.specs.Frames.{tuple_of, answer_by, answer_at, history_by}
use Rattle.core_worker.specs.Telling.{IsTold, IsAppTold, news_in}
use Rattle.core_worker.specs.Receiving.{IsOffered, IsTried, IsReceived, IsUnreceived}
use Rattle.core_worker.specs.News.{notes_about}
use Rattle.core_worker.specs.declared.news.News.{News}
use Rattle.core_worker.specs.declared.shared.AppQueue.{AppQueue}
use Rattle.core_worker.specs.declared.senders.AppSender.{AppSender}
use Rattle.core_worker.specs.declared.frames.Handled.{Handled}
use Rattle.core_worker.specs.declared.frames.Handled.TheVariants as handled
use Rattle.core_worker.specs.declared.frames.Passed.TheVariants as passed

-- ----- answers at a record are no answers of the words
no_busy : (b : Bool) (id : FlowId) (o : Option Why) (x : Word)
    → handled.Passed (passed.Busy x) ≡ (if b then answer_by id o else handled.Passed passed.Absent) → ⊥
no_busy true id None x e = absurd (cc e)
no_busy true id (Some why) x e = absurd (cc e)
no_busy false id o x e = absurd (cc e)

no_stale : (b : Bool) (id : FlowId) (o : Option Why) (x : Word)
    → handled.Passed (passed.Stale x) ≡ (if b then answer_by id o else handled.Passed passed.Absent) → ⊥
no_stale true id None x e = absurd (cc e)
no_stale true id (Some why) x e = absurd (cc e)
no_stale false id o x e = absurd (cc e)

no_moved : (b : Bool) (id : FlowId) (o : Option Why) (x y : Word)
    → handled.Passed (passed.Moved x y) ≡ (if b then answer_by id o else handled.Passed passed.Absent) → ⊥
no_moved true id None x y e = absurd (cc e)
no_moved true id (Some why) x y e = absurd (cc e)
no_moved false id o x y e = absurd (cc e)

-- ----- at the record
tried_at : (queues : List AppQueue) (core tick : ℕ) (frame : FrameId) (seg : Segment) (id : FlowId) (v w : View)
    (ss ts : List AppSender) (h : Handled) → IsOffered queues core tick frame seg id h v w ss ts
    → IsTried queues core tick frame seg id v w ss ts h
tried_at queues core tick frame seg id v w ss ts (handled.Entered f) o = o
tried_at queues core tick frame seg id v w ss ts (handled.Refused n) o = o
tried_at queues core tick frame seg id v w ss ts (handled.Passed passed.Absent) o = o
tried_at queues core tick frame seg id v w ss ts (handled.Passed (passed.Stale x)) o = o
tried_at queues core tick frame seg id v w ss ts (handled.Passed (passed.Moved x y)) o = o
tried_at queues core tick frame seg id v w ss ts (handled.Passed (passed.Fast why)) o = o
tried_at queues core tick frame seg id v w ss ts (handled.Passed (passed.Busy x)) o =
    absurd (no_busy (is_same o.flow.tuple (tuple_of seg)) o.flow.id (exception o.flow.parts.phase seg) x o.answer)

-- the news are those of the history that was given back
pub offered : (queues : List AppQueue) (core tick : ℕ) (frame : FrameId) (seg : Segment) (id : FlowId) (r : Flow)
    (after : History) (news : News) (v w : View) (ss ts : List AppSender) (h : Handled)
    → IsOwn id v r → IsUse id r after v w → h ≡ answer_at r seg → after ≡ history_by core tick frame seg r h
    → news ≡ news_in (history r) after → IsTold (application_of after.entries) queues (notes_about id news) ss ts
    → IsTried queues core tick frame seg id v w ss ts h
offered queues core tick frame seg id r after news v w ss ts h own given answer grown is told =
    let by_news : IsAppTold queues id (history r) after ss ts =
    subst (λ n. IsTold (application_of after.entries) queues (notes_about id n) ss ts) is told in
    tried_at queues core tick frame seg id v w ss ts h
    (record {
      flow = r;
      own = own;
      answer = answer;
      given = subst (λ k. IsUse id r k v w) grown given;
      told = subst (λ k. IsAppTold queues id (history r) k ss ts) grown by_news;
    })

pub returned : (id : FlowId) (r : Flow) (after : History) (v w : View) → IsOwn id v r → IsUse id r after v w
    → after ≡ history r → IsCallRefused id v w OutOfMemory
returned id r after v w own given back = (r, own, subst (λ k. IsUse id r k v w) back given)

-- ----- by the pin
received_at : (queues : List AppQueue) (core tick : ℕ) (frame : FrameId) (seg : Segment) (id : FlowId) (v p q w : View)
    (ss ts : List AppSender) (h : Handled)
    → IsPinned id v p → w ≡ unpinned id q → IsTried queues core tick frame seg id p q ss ts h
    → IsReceived queues core tick frame seg id v w ss ts h
received_at queues core tick frame seg id v p q w ss ts (handled.Entered f) pin e t = (p, q, pin, t, e)
received_at queues core tick frame seg id v p q w ss ts (handled.Refused n) pin e t = (p, q, pin, t, e)
received_at queues core tick frame seg id v p q w ss ts (handled.Passed passed.Absent) pin e t = (p, q, pin, t, e)
received_at queues core tick frame seg id v p q w ss ts (handled.Passed (passed.Busy x)) pin e t = (p, q, pin, t, e)
received_at queues core tick frame seg id v p q w ss ts (handled.Passed (passed.Fast why)) pin e t = (p, q, pin, t, e)
received_at queues core tick frame seg id v p q w ss ts (handled.Passed (passed.Stale x)) pin e t =
    absurd (no_stale (is_same t.flow.tuple (tuple_of seg)) t.flow.id (exception t.flow.parts.phase seg) x t.answer)
received_at queues core tick frame seg id v p q w ss ts (handled.Passed (passed.Moved x y)) pin e t =
    absurd (no_moved (is_same t.flow.tuple (tuple_of seg)) t.flow.id (exception t.flow.parts.phase seg) x y t.answer)

pub received : {E : Type 0} (queues : List AppQueue) (core tick : ℕ) (frame : FrameId) (seg : Segment) (id : FlowId)
    (v p q w : View) (ss ts : List AppSender) (x : Result Handled E) → IsPinned id v p → w ≡ unpinned id q
    → IfOk x (IsTried queues core tick frame seg id p q ss ts)
    → IfOk x (IsReceived queues core tick frame seg id v w ss ts)
received queues core tick frame seg id v p q w ss ts (Ok h) pin e t =
    received_at queues core tick frame seg id v p q w ss ts h pin e t
received queues core tick frame seg id v p q w ss ts (Err x) pin e t = tt

pub unreceived : {E : Type 0} (id : FlowId) (v p q w : View) (x : Result Handled E) → IsPinned id v p
    → w ≡ unpinned id q → OnErr x (IsCallRefused id p q OutOfMemory) → OnErr x (IsUnreceived id v w)
unreceived id v p q w (Ok h) pin e t = tt
unreceived id v p q w (Err x) pin e t = (p, q, pin, t, e)

-- Deeds of lanes as words of a run, for the law deeds_are_words.
use Rattle.std.proofs.Common.{◌≡◌, ℕ, Bool, true, List, [], ◌∷◌, refl, sym, ap, ◌∙◌, true≢false, subst}
use Rattle.std.specs.Prelude.{Option, Some, None, is_some, Result, Ok, Err, length}
use Rattle.segment_fields.specs.declared.segment.Segment.{Segment}
use Rattle.segment_fields.specs.declared.segment.Refused.{Refused}
use Rattle.segment_fields.specs.Text.{IsText, refusal}
use Rattle.tas_model.specs.declared.entry.FourTuple.{FourTuple}
use Rattle.tas_model.specs.declared.entry.FlowId.{FlowId}
use Rattle.tas_model.specs.declared.entry.Call.{Call}
use Rattle.tas_model.specs.declared.entry.Call.TheVariants as calls
use Rattle.tas_model.specs.declared.entry.Reply.{Reply}
use Rattle.tas_model.specs.declared.entry.Caller.TheVariants.{App}
use Rattle.tas_model.specs.Endpoint.{phase}
use Rattle.tas_model.specs.NextSegment.{Going, going}
use Rattle.flow_state.specs.declared.call.CallIn.{CallIn}
use Rattle.flow_state.specs.declared.call.CallIn.TheVariants as ins
use Rattle.flow_state.specs.Calls.{seg_of, call_of, offer_of}
use Rattle.flow_lock.specs.declared.view.Deed.{Deed}
use Rattle.host_rounds.specs.Deliveries.{Segment as Carries}
use Rattle.host_books.specs.Books.{Book}
use Rattle.host_books.specs.Indexes.{endpoint_of}
use Rattle.host_books.specs.Tries.{Try, Adds, IsFrameWord, IsSendWord, IsTryWord}
use Rattle.app_reaper.specs.declared.one_call.CallFault.{CallFault}
use Rattle.libtas_sockets.specs.Answers.{fault_in, fault_of, IsReceived}
use Rattle.libtas_sockets.specs.declared.socket_error.SocketError.{SocketError}
use Rattle.libtas_sockets.specs.declared.socket_error.SocketError.TheVariants as errors
use Rattle.app_deeds.specs.Deeds.{AreOfCall, tells_sent, tells_done}
use Rattle.core_worker.specs.Frames.{tuple_of}
use Rattle.core_worker.specs.declared.frames.Frame.{Frame}
use Rattle.core_phase.specs.Deeds.{IsRx, IsSend}
use Rattle.core_phase.specs.Attempts.{AreOfTry, is_busy, is_busy_in, is_busy_error, room_of}
use Rattle.core_phase.specs.declared.attempt.Attempt.{Attempt}
use Rattle.core_phase.specs.declared.attempt.Attempt.TheVariants as attempts
use Rattle.core_phase.specs.declared.attempt.Answered.{Answered}
use Rattle.core_phase.specs.Words.{arrival_of, packet_by, frame_word, send_word, try_word, IsTryOf}
use Rattle.core_phase.proofs.Fast.{common_at, common_open}

-- what a packet carries that spells a segment
pub carries : (f : Frame) (s : Segment) (check : Bool) → refusal check f.packet ≡ None → IsText f.packet s
    → (arrival_of check f).packet ≡ Carries (tuple_of s) (seg_of s)
carries f s check reads t =
    ap (λ (o : Option Refused). packet_by o f.packet) reads
    ∙ (λ i. Carries
    (record { laddr = sym t.dst i; lport = sym t.dport i; raddr = sym t.src i; rport = sym t.sport i })
    (record {
      head = record {
        flags = sym t.flags i;
        seq = record { 0 = sym t.seq i };
        ack = record { 0 = sym t.ack i };
        window = sym t.window i;
        mss = sym t.mss i;
        scale = sym t.scale i;
      };
      bytes = sym t.payload i;
    }))

next_is : (o : Option Going) → is_some o ≡ true → (g : Going) × (o ≡ Some g)
next_is None h = absurd (true≢false (sym h))
next_is (Some g) h = (g, refl)

-- ----- calls
-- the deed is this call on this flow
abbrev IsOneCall : (app : ℕ) → FlowId → (t : ℕ) → Call → (offer : List ℕ) → Deed → Type 0
IsOneCall app id t call offer d = (d.flow ≡ id) × Adds (App app) t call offer d

one_call : (app t : ℕ) (id : FlowId) (call : CallIn) (fault : Option CallFault) (tells : Reply → Type 0) (d : Deed)
    → AreOfCall app id t call fault tells (d ∷ []) → IsOneCall app id t (call_of call) (offer_of call) d
one_call app t id call None tells d (x, e, flow, made) =
    let same : d ≡ x = cc (e) in
    subst (λ y. IsOneCall app id t (call_of call) (offer_of call) y) (sym same)
    (flow, record { legal = made.legal; made = made.made })
one_call app t id call (Some fault) tells d e = absurd (cc (e))

-- with a fault there is none
fault_none : (app t : ℕ) (id : FlowId) (call : CallIn) (fault : Option CallFault) (tells : Reply → Type 0)
    (ds : List Deed) → is_some fault ≡ true → AreOfCall app id t call fault tells ds → ds ≡ []
fault_none app t id call None tells ds e are = absurd (true≢false (sym e))
fault_none app t id call (Some fault) tells ds e are = are

error_is_fault : (e : SocketError) → is_busy_error e ≡ true → is_some (fault_of e) ≡ true
error_is_fault (errors.Busy x) h = refl
error_is_fault errors.OutOfMemory h = absurd (true≢false (sym h))
error_is_fault errors.NotYet h = absurd (true≢false (sym h))
error_is_fault errors.NotOpen h = absurd (true≢false (sym h))
error_is_fault errors.Shut h = absurd (true≢false (sym h))
error_is_fault (errors.Closed x) h = absurd (true≢false (sym h))
error_is_fault (errors.Stale x) h = absurd (true≢false (sym h))
error_is_fault (errors.Moved x y) h = absurd (true≢false (sym h))
error_is_fault (errors.Early x) h = absurd (true≢false (sym h))
error_is_fault (errors.SlotInUse x) h = absurd (true≢false (sym h))
error_is_fault (errors.PortInUse x) h = absurd (true≢false (sym h))
error_is_fault errors.NoPort h = absurd (true≢false (sym h))
error_is_fault errors.NoFlowSlot h = absurd (true≢false (sym h))

busy_is_fault : {T : Type 0} (result : Result T SocketError) → is_busy_in result ≡ true
    → is_some (fault_in result) ≡ true
busy_is_fault (Ok x) h = absurd (true≢false (sym h))
busy_is_fault (Err e) h = error_is_fault e h

pub busy_none : (app t : ℕ) (id : FlowId) (before after : Attempt) (answer : Answered) (ds : List Deed)
    → is_busy answer ≡ true → AreOfTry app id t before after answer ds → ds ≡ []
busy_none app t id attempts.Nothing after answer ds h are = are
busy_none app t id (attempts.Send bytes) after answer ds h (offered, now, result, e, are) =
    fault_none app t id (ins.Send offered) (fault_in result) (tells_sent result) ds
    (busy_is_fault result (sym (ap is_busy e) ∙ h)) are
busy_none app t id (attempts.Recv buf) after answer ds h (result, e, are) =
    fault_none app t id (ins.Recv (length buf.items)) (fault_in result) (IsReceived buf.items (room_of after) result) ds
    (busy_is_fault result (sym (ap is_busy e) ∙ h)) are
busy_none app t id attempts.Shut after answer ds h (result, e, are) =
    fault_none app t id ins.Shut (fault_in result) (tells_done result) ds
    (busy_is_fault result (sym (ap is_busy e) ∙ h))
    are
busy_none app t id attempts.Close after answer ds h (result, e, are) =
    fault_none app t id ins.Close (fault_in result) (tells_done result) ds
    (busy_is_fault result (sym (ap is_busy e) ∙ h)) are
busy_none app t id attempts.Abort after answer ds h (result, e, are) =
    fault_none app t id ins.Abort (fault_in result) (tells_done result) ds
    (busy_is_fault result (sym (ap is_busy e) ∙ h)) are

module _ {S A : Type 0} where
  pub frame_is : (check : Bool) (core t : ℕ) (f : Frame) (d : Deed) → IsRx check core t f d
      → IsFrameWord {S = S} {A = A} t (frame_word check core f d)
  frame_is check core t f d rx = record {
    core = core;
    arrival = arrival_of check f;
    is = refl;
    seg = seg_of rx.seg;
    packet = carries f rx.seg check rx.reads rx.text ∙ ap (λ (u : FourTuple). Carries u (seg_of rx.seg)) (sym rx.own);
    open_ = common_open (endpoint_of d.before) (common_at (phase (endpoint_of d.before)) rx.seg rx.fast);
    adds = rx.adds;
    tries_not = refl;
  }

  pub send_is : (core t : ℕ) (books : List Book) (d : Deed) → IsSend core t d
      → IsSendWord {S = S} {A = A} t books (send_word books core d)
  send_is core t books d s =
      let g = next_is (going (endpoint_of d.before)) s.goes in
      record { core = core; is = refl; next = g.0; goes = g.1; adds = s.adds; tries_not = refl }

  -- ----- asks
  -- by what the ask is, name by name
  word_is : (app t : ℕ) (id : FlowId) (call : Call) (offer : List ℕ) (d : Deed) (x : Try S A) → x.app ≡ app
      → x.flow ≡ id
      → x.call ≡ call → x.offer ≡ offer → IsOneCall app id t call offer d → IsTryWord t (try_word x d)
  word_is app t id call offer d x same flow call_is offer_is one = record {
    try_ = x;
    tries = refl;
    is = refl;
    flow = one.0 ∙ sym flow;
    adds = subst (λ n. Adds (App n) t x.call x.offer d) (sym same)
        (subst (λ c. Adds (App app) t c x.offer d) (sym call_is)
        (subst (λ o. Adds (App app) t call o d) (sym offer_is) one.1));
  }

  pub try_is : (app t : ℕ) (id : FlowId) (before after : Attempt) (answer : Answered) (d : Deed) (x : Try S A)
      → IsTryOf app id before x → AreOfTry app id t before after answer (d ∷ []) → IsTryWord t (try_word x d)
  try_is app t id attempts.Nothing after answer d x is are = absurd is.call_is
  try_is app t id (attempts.Send bytes) after answer d x is (offered, now, result, e, are) =
      word_is app t id (calls.Send (length offered.now)) offered.now d x is.app_is is.flow
      (is.call_is ∙ ap (λ l. calls.Send (length l)) (sym now)) (is.offer ∙ sym now)
      (one_call app t id (ins.Send offered) (fault_in result) (tells_sent result) d are)
  try_is app t id (attempts.Recv buf) after answer d x is (result, e, are) =
      word_is app t id (calls.Recv (length buf.items)) [] d x is.app_is is.flow is.call_is is.offer
      (one_call app t id (ins.Recv (length buf.items)) (fault_in result) (IsReceived buf.items (room_of after) result) d
      are)
  try_is app t id attempts.Shut after answer d x is (result, e, are) =
      word_is app t id calls.Shut [] d x is.app_is is.flow is.call_is is.offer
      (one_call app t id ins.Shut (fault_in result) (tells_done result) d are)
  try_is app t id attempts.Close after answer d x is (result, e, are) =
      word_is app t id calls.Close [] d x is.app_is is.flow is.call_is is.offer
      (one_call app t id ins.Close (fault_in result) (tells_done result) d are)
  try_is app t id attempts.Abort after answer d x is (result, e, are) =
      word_is app t id calls.Abort [] d x is.app_is is.flow is.call_is is.offer
      (one_call app t id ins.Abort (fault_in result) (tells_done result) d are)

-- What each step, frame and kick puts into a turn.
use Rattle.std.proofs.Common.{◌≡◌, ℕ, zero, suc, Bool, true, false, List, [], ◌∷◌, ◌++◌, length, drop, sym, refl, ap}
use Rattle.std.proofs.Common.{◌∙◌, subst}
use Rattle.std.proofs.Common.{append_assoc, append-nil, inl, inr}
use Rattle.std.specs.Prelude.{Option, Some, None, is_some, IsSome}
use Rattle.tas_model.specs.declared.entry.FlowId.{FlowId}
use Rattle.segment_fields.specs.declared.segment.Segment.{Segment}
use Rattle.segment_fields.specs.Text.{IsText, refusal}
use Rattle.segment_fields.specs.declared.segment.Refused.{Refused}
use Rattle.tas_model.specs.declared.entry.Entry.{Entry}
use Rattle.tas_model.specs.declared.entry.Caller.TheVariants.{Core}
use Rattle.flow_state.specs.declared.call.CallIn.TheVariants.{Rx}
use Rattle.flow_state.specs.Flow.{Flow}
use Rattle.flow_index.specs.Changes.{is_same}
use Rattle.flow_lock.specs.Histories.{longer}
use Rattle.flow_lock.specs.Answers.{IsRefused}
use Rattle.flow_lock.specs.Steps.{deeds_of}
use Rattle.flow_lock.specs.declared.view.Deed.{Deed}
use Rattle.flow_lock.specs.declared.view.View.{View}
use Rattle.flow_lock.specs.declared.view.History.{History}
use Rattle.flow_lock.specs.declared.pass.PinRefused.{PinRefused}
use Rattle.flow_lock.specs.declared.pass.PinRefused.TheVariants as refused
use Rattle.app_reaper.specs.OneCall.{history, history_with}
use Rattle.fast_rx.specs.Exceptions.{exception}
use Rattle.fast_rx.specs.declared.fast.Why.{Why}
use Rattle.core_worker.specs.Frames.{tuple_of, answer_by, history_by}
use Rattle.core_worker.specs.Receiving.{ByPin, IsOffered, IsTried, IsReceived}
use Rattle.core_worker.specs.declared.shared.AppQueue.{AppQueue}
use Rattle.core_worker.specs.declared.senders.AppSender.{AppSender}
use Rattle.core_worker.specs.declared.frames.Frame.{Frame}
use Rattle.core_worker.specs.declared.frames.Handled.{Handled}
use Rattle.core_worker.specs.declared.frames.Handled.TheVariants as handled
use Rattle.core_worker.specs.declared.frames.Passed.TheVariants as passed
use Rattle.flow_lock.specs.Passes.{Seen}
use Rattle.core_worker.specs.Workers.{Common, Worker, Sight, sight_of}
use Rattle.core_worker.specs.Handling.{setting_of, IsReceivedAt, IsHandledBy}
use Rattle.core_worker.specs.Sending.{IsSentByPin, IsAllSent, AreSent}
use Rattle.tas_model.specs.declared.entry.Call.TheVariants as calls
use Rattle.flow_state.specs.Flow.{next_entry, reply_to}
use Rattle.host_rounds.specs.Lists.{Each}
use Rattle.host_rounds.proofs.Lists.{each_append}
use Rattle.core_worker.specs.Turns.{IsFrameDone, AreFramesDone, IsKicked, AreKicksDone, IsTurn, kicked_in}
use Rattle.app_deeds.specs.Deeds.{Grows}
use Rattle.app_deeds.proofs.Calling.{grows_same, grows_then, grows_unpinned, grows_use, put_by, put_none, drop_front}
use Rattle.core_worker.specs.Turns.{deferred_by, exceptions_by}
use Rattle.core_worker.specs.Sending.{endpoint_of, may_go, with_emission}
use Rattle.tas_model.specs.declared.entry.Reply.{Reply}
use Rattle.tas_model.specs.Endpoint.{Endpoint}
use Rattle.tas_model.specs.LegalHistory.{Legal, step}
use Rattle.tas_model.specs.NextSegment.{Going, going, emitted}
use Rattle.tas_model.proofs.Grows.{legal_by}
use Rattle.core_phase.specs.Deeds.{IsSend, IsPutIn, ArePutIn, gathered, lines_by, IsTurnOf}
use Rattle.core_phase.proofs.Tuples.{is_tuple}

-- ----- steps
-- deeds were put into a turn, and pins that were won and given up again
abbrev pub Puts : (List Deed → Type 0) → View → View → Type 0
Puts X v w = (ds : List Deed) × X ds × (ps : List FlowId) × Grows ds ps ps v w

-- with no pin
abbrev pub Adds : (List Deed → Type 0) → View → View → Type 0
Adds X v w = (ds : List Deed) × X ds × Grows ds [] [] v w

puts_none : (X : List Deed → Type 0) (v w : View) → X [] → w.turns ≡ v.turns → Puts X v w
puts_none X v w x e = ([], x, [], grows_same v w e)

turns_refused : (id : FlowId) (v w : View) (e : PinRefused) → IsRefused id v w e → w.turns ≡ v.turns
turns_refused id v w (refused.Stale x) r = ap (λ (y : View). y.turns) r.2
turns_refused id v w (refused.Moved x y) r = ap (λ (z : View). z.turns) r.2

-- with all given up, the pin too
puts_by_pin : (id : FlowId) (done : View → View → Type 0) (X : List Deed → Type 0) (v w : View)
    → ((p q : View) → done p q → Adds X p q) → ByPin id done v w → Puts X v w
puts_by_pin id done X v w inner (p, q, pin, it, last) =
    let m = inner p q it in
    let won : Grows [] (id ∷ []) [] v p = ap (λ (x : View). x.turns) pin.3 in
    let to_q : Grows m.0 (id ∷ []) [] v q = grows_then [] m.0 (id ∷ []) [] [] [] v p q won m.2 in (
      m.0,
      m.1,
      id ∷ [],
      subst (λ l. Grows l (id ∷ []) (id ∷ []) v w) (append-nil m.0)
          (grows_then m.0 [] (id ∷ []) [] [] (id ∷ []) v q w to_q (grows_unpinned id q w last)),
    )

-- ----- a frame
module _ (queues : List AppQueue) (check : Bool) (core tick : ℕ) (f : Frame) (reads : refusal check f.packet ≡ None)
    (seg : Segment) (text : IsText f.packet seg) where
  -- the record took the segment in
  offered : (id : FlowId) (h : Handled) (v w : View) (ss ts : List AppSender)
      → IsOffered queues core tick f.id seg id h v w ss ts → Adds (IsPutIn check core tick f h) v w
  offered id h v w ss ts o = by_same (is_same o.flow.tuple (tuple_of seg)) refl
    where
      r : Flow
      r = o.flow

      none : Handled → Type 0
      none k = history_by core tick f.id seg r k ≡ history r

      kept : (k : Handled) → h ≡ k → none k → IsPutIn check core tick f k [] → Adds (IsPutIn check core tick f h) v w
      kept k is same it = (
        [],
        subst (λ x. IsPutIn check core tick f x []) (sym is) it,
        subst (λ l. Grows l [] [] v w) (ap (λ x. put_by id r (history_by core tick f.id seg r x)) is
            ∙ (ap (put_by id r) same ∙ put_none id r))
            (grows_use id r (history_by core tick f.id seg r h) v w o.given),
      )

      entered : h ≡ handled.Entered r.id → is_same r.tuple (tuple_of seg) ≡ true → exception r.parts.phase seg ≡ None
          → Adds (IsPutIn check core tick f h) v w
      entered is same fast =
          let after : History = history_with r (Core core) tick (Rx f.id seg) in
          let ds : List Deed = put_by r.id r after in
          let one : ds ≡ _ = ap (deeds_of r.id (history r)) (drop_front r.entries _) in (
            ds,
            subst (λ x. IsPutIn check core tick f x ds) (sym is) (
              _,
              one,
              refl,
              record {
                reads = reads;
                seg = seg;
                text = text;
                own = is_tuple r.tuple (tuple_of seg) same;
                fast = subst (λ p. exception p seg ≡ None) o.own.stands.phase fast;
                adds = record { legal = o.own.legal; made = refl };
              },
            ),
            subst (λ l. Grows l [] [] v w)
                ((λ i. put_by (sym o.own.own i) r (history_by core tick f.id seg r (is i))))
                (grows_use id r (history_by core tick f.id seg r h) v w o.given),
          )

      by_why : (x : Option Why) → exception r.parts.phase seg ≡ x → h ≡ answer_by r.id x
          → is_same r.tuple (tuple_of seg) ≡ true
          → Adds (IsPutIn check core tick f h) v w
      by_why None e is same = entered is same e
      by_why (Some y) e is same = kept (handled.Passed (passed.Fast y)) is refl (refl, reads)

      by_same : (b : Bool) → is_same r.tuple (tuple_of seg) ≡ b → Adds (IsPutIn check core tick f h) v w
      by_same true e = by_why (exception r.parts.phase seg) refl (o.answer ∙ rw e refl) e
      by_same false e = kept (handled.Passed passed.Absent) (o.answer ∙ rw e refl) refl (refl, reads)

  tried : (id : FlowId) (h : Handled) (v w : View) (ss ts : List AppSender)
      → IsTried queues core tick f.id seg id v w ss ts h → Adds (IsPutIn check core tick f h) v w
  tried id (handled.Passed (passed.Busy x)) v w ss ts t =
      ([], (refl, reads), grows_same v w (ap (λ (y : View). y.turns) t.0.0.1))
  tried id (handled.Passed passed.Absent) v w ss ts t = offered id (handled.Passed passed.Absent) v w ss ts t
  tried id (handled.Passed (passed.Stale x)) v w ss ts t = offered id (handled.Passed (passed.Stale x)) v w ss ts t
  tried id (handled.Passed (passed.Moved x y)) v w ss ts t = offered id (handled.Passed (passed.Moved x y)) v w ss ts t
  tried id (handled.Passed (passed.Fast y)) v w ss ts t = offered id (handled.Passed (passed.Fast y)) v w ss ts t
  tried id (handled.Entered k) v w ss ts t = offered id (handled.Entered k) v w ss ts t
  tried id (handled.Refused n) v w ss ts t = offered id (handled.Refused n) v w ss ts t

  by_pin : (id : FlowId) (h : Handled) (v w : View) (ss ts : List AppSender)
      → ByPin id (λ p q. IsTried queues core tick f.id seg id p q ss ts h) v w
      → Puts (IsPutIn check core tick f h) v w
  by_pin id h v w ss ts b = puts_by_pin id _ (IsPutIn check core tick f h) v w (λ p q. tried id h p q ss ts) b

  pub received : (id : FlowId) (h : Handled) (v w : View) (ss ts : List AppSender)
      → IsReceived queues core tick f.id seg id v w ss ts h → Puts (IsPutIn check core tick f h) v w
  received id (handled.Passed (passed.Stale x)) v w ss ts r =
      puts_none (IsPutIn check core tick f (handled.Passed (passed.Stale x))) v w (refl, reads)
      (turns_refused id v w (refused.Stale x) r.0)
  received id (handled.Passed (passed.Moved x y)) v w ss ts r =
      puts_none (IsPutIn check core tick f (handled.Passed (passed.Moved x y))) v w (refl, reads)
      (turns_refused id v w (refused.Moved x y) r.0)
  received id (handled.Passed passed.Absent) v w ss ts r = by_pin id (handled.Passed passed.Absent) v w ss ts r
  received id (handled.Passed (passed.Busy x)) v w ss ts r = by_pin id (handled.Passed (passed.Busy x)) v w ss ts r
  received id (handled.Passed (passed.Fast y)) v w ss ts r = by_pin id (handled.Passed (passed.Fast y)) v w ss ts r
  received id (handled.Entered k) v w ss ts r = by_pin id (handled.Entered k) v w ss ts r
  received id (handled.Refused n) v w ss ts r = by_pin id (handled.Refused n) v w ss ts r

-- ----- a frame, whatever became of it
pub at_index : (c : Common) (tick : ℕ) (w : Worker) (f : Frame) (seg : Segment) → IsText f.packet seg
    → refusal w.check_sums f.packet ≡ None → (named : Option FlowId) (s n : Sight) (h : Handled)
    → IsReceivedAt (setting_of c tick w) f.id seg named s n h
    → Puts (IsPutIn w.check_sums w.core tick f h) s.pass.view n.pass.view
at_index c tick w f seg text reads None s n h r =
    puts_none (IsPutIn w.check_sums w.core tick f h) s.pass.view n.pass.view
    (subst (λ x. IsPutIn w.check_sums w.core tick f x []) (sym r.0) (refl, reads)) (ap (λ (y : View). y.turns) r.1)
at_index c tick w f seg text reads (Some id) s n h r =
    received c.queues w.check_sums w.core tick f reads seg text id h s.pass.view n.pass.view s.senders n.senders r

by_refusal : (c : Common) (tick : ℕ) (w : Worker) (f : Frame) (x : Option Refused) (s n : Sight) (h : Handled)
    → refusal w.check_sums f.packet ≡ x → IsHandledBy x (setting_of c tick w) f.id f.packet s n h
    → Puts (IsPutIn w.check_sums w.core tick f h) s.pass.view n.pass.view
by_refusal c tick w f (Some r) s n h e i =
    puts_none (IsPutIn w.check_sums w.core tick f h) s.pass.view n.pass.view
    (subst (λ x. IsPutIn w.check_sums w.core tick f x []) (sym i.0) (refl, (r, e, refl)))
    (ap (λ (y : Sight). y.pass.view.turns) i.1)
by_refusal c tick w f None s n h e i = at_index c tick w f i.seg i.text e _ s n h i.received

pub frame_grows : (c : Common) (tick : ℕ) (f : Frame) (v n : Worker) (d : IsFrameDone c tick f v n)
    → Puts (IsPutIn v.check_sums v.core tick f d.answer) v.pass.view n.pass.view
frame_grows c tick f v n d =
    subst (λ (s : Seen). Puts (IsPutIn v.check_sums v.core tick f d.answer) v.pass.view s.view)
    (ap (λ (x : Worker). x.pass) (sym d.after))
    (by_refusal c tick v f (refusal v.check_sums f.packet) (sight_of v) d.seen d.answer refl d.handled)

-- all frames of a turn
abbrev pub answers_in : (c : Common) (tick : ℕ) (fs : List Frame) (v w : Worker) → AreFramesDone c tick fs v w
    → List Handled
answers_in c tick [] v w e = []
answers_in c tick (f ∷ fs) v w (m, one, more) = one.answer ∷ answers_in c tick fs m w more

pub frames_grow : (c : Common) (tick : ℕ) (fs : List Frame) (v w : Worker) (done : AreFramesDone c tick fs v w)
    → Puts (ArePutIn v.check_sums v.core tick fs (answers_in c tick fs v w done)) v.pass.view w.pass.view
frames_grow c tick [] v w e =
    puts_none (ArePutIn v.check_sums v.core tick [] []) v.pass.view w.pass.view refl
    (ap (λ (x : Worker). x.pass.view.turns) e)
frames_grow c tick (f ∷ fs) v w (m, one, more) =
    let a = frame_grows c tick f v m one in
    let hs = answers_in c tick fs m w more in
    let b = frames_grow c tick fs m w more in
    let core : m.core ≡ v.core = ap (λ (x : Worker). x.core) one.after in
    let check : m.check_sums ≡ v.check_sums = ap (λ (x : Worker). x.check_sums) one.after in (
      a.0 ++ b.0,
      (
        a.0,
        b.0,
        refl,
        a.1,
        subst (λ k. ArePutIn v.check_sums k tick fs hs b.0) core
            (subst (λ k. ArePutIn k m.core tick fs hs b.0) check b.1),
      ),
      a.2 ++ b.2,
      grows_then a.0 b.0 a.2 b.2 a.2 b.2 v.pass.view m.pass.view w.pass.view a.3 b.3,
    )

-- ----- where they stand then
no_line : (check : Bool) (core tick : ℕ) (f : Frame) (h : Handled) (ds : List Deed) → refusal check f.packet ≡ None
    → IsPutIn check core tick f h ds → lines_by tick f h ≡ []
no_line check core tick f (handled.Entered id) ds reads p = refl
no_line check core tick f (handled.Refused n) ds reads p = absurd (cc (sym p.1.1 ∙ reads))
no_line check core tick f (handled.Passed x) ds reads p = refl

line_of : (c : Common) (tick : ℕ) (w : Worker) (f : Frame) (x : Option Refused) (s n : Sight) (h : Handled)
    → refusal w.check_sums f.packet ≡ x → IsHandledBy x (setting_of c tick w) f.id f.packet s n h
    → n.log ≡ s.log ++ lines_by tick f h
line_of c tick w f (Some r) s n h e i =
    ap (λ (y : Sight). y.log) i.1 ∙ ap (λ k. s.log ++ lines_by tick f k) (sym i.0)
line_of c tick w f None s n h e i =
    let p = at_index c tick w f i.seg i.text e _ s n h i.received in
    i.log ∙ (sym (append-nil s.log) ∙ ap (λ l. s.log ++ l) (sym (no_line w.check_sums w.core tick f h p.0 e p.1)))

join : {X : Type 0} (a b c x y : List X) → b ≡ a ++ x → c ≡ b ++ y → c ≡ a ++ (x ++ y)
join a b c x y e g = g ∙ (ap (λ l. l ++ y) e ∙ append_assoc a x y)

-- the lists and the log
abbrev Stand : (tick : ℕ) → List Frame → List Handled → Worker → Worker → Type 0
Stand tick fs hs v w =
    (w.deferred ≡ v.deferred ++ gathered deferred_by fs hs)
    × (w.exceptions ≡ v.exceptions ++ gathered exceptions_by fs hs)
    × (w.log ≡ v.log ++ gathered (lines_by tick) fs hs)

frames_stand : (c : Common) (tick : ℕ) (fs : List Frame) (v w : Worker) (done : AreFramesDone c tick fs v w)
    → Stand tick fs (answers_in c tick fs v w done) v w
frames_stand c tick [] v w e = (
  ap (λ (x : Worker). x.deferred) e ∙ sym (append-nil v.deferred),
  ap (λ (x : Worker). x.exceptions) e ∙ sym (append-nil v.exceptions),
  ap (λ (x : Worker). x.log) e ∙ sym (append-nil v.log),
)
frames_stand c tick (f ∷ fs) v w (m, one, more) =
    let r = frames_stand c tick fs m w more in
    let hs = answers_in c tick fs m w more in
    let line : m.log ≡ v.log ++ lines_by tick f one.answer =
    ap (λ (x : Worker). x.log) one.after
    ∙ line_of c tick v f (refusal v.check_sums f.packet) (sight_of v) one.seen one.answer refl one.handled in (
      join v.deferred m.deferred w.deferred (deferred_by f one.answer) (gathered deferred_by fs hs)
          (ap (λ (x : Worker). x.deferred) one.after) r.0,
      join v.exceptions m.exceptions w.exceptions (exceptions_by f one.answer) (gathered exceptions_by fs hs)
          (ap (λ (x : Worker). x.exceptions) one.after) r.1,
      join v.log m.log w.log (lines_by tick f one.answer) (gathered (lines_by tick) fs hs) line r.2,
    )

-- ----- kicks
-- the entry of one Emit
abbrev next_sent : (core tick : ℕ) → History → Entry
next_sent core tick h =
    next_entry h.entries (Core core) tick calls.Emit (reply_to h.params h.entries tick calls.Emit [])

emit_steps : (e : Endpoint) (t : ℕ) (reply : Reply) (g : Going) → going e ≡ Some g → IsSome (step e t calls.Emit reply)
unfolding step
emit_steps e t reply g is = subst (λ (o : Option Going). IsSome (emitted o)) (sym is) refl

emitted_legal : (core tick : ℕ) (h : History) → Legal h.params h.entries → may_go h ≡ true
    → Legal h.params (with_emission core tick h).entries
emitted_legal core tick h legal go = by_going (going (endpoint_of h)) refl
  where
    by_going : (o : Option Going) → going (endpoint_of h) ≡ o → Legal h.params (with_emission core tick h).entries
    by_going None e = absurd (cc (sym go ∙ ap is_some e))
    by_going (Some g) e =
        legal_by h.params h.entries (Core core) tick calls.Emit [] legal tt (emit_steps (endpoint_of h) _ _ g e)

sent_deeds : (id : FlowId) (core tick n : ℕ) (h k : History) → Legal h.params h.entries → AreSent core tick n h k
    → (es : List Entry) × (k ≡ longer h es) × Each (IsSend core tick) (deeds_of id h es)
sent_deeds id core tick zero h k legal e =
    ([], e ∙ ap (λ l. record h { entries = l }) (sym (append-nil h.entries)), tt)
sent_deeds id core tick (suc n) h k legal (go, more) =
    let x : Entry = next_sent core tick h in
    let still : Legal h.params (h.entries ++ x ∷ []) = emitted_legal core tick h legal go in
    let r = sent_deeds id core tick n (longer h (x ∷ [])) k still more in (
      x ∷ r.0,
      r.1 ∙ ap (λ l. record h { entries = l }) (append_assoc h.entries (x ∷ []) r.0),
      (record { goes = go; adds = record { legal = legal; made = refl } }, r.2),
    )

kick_uses : (id : FlowId) (core tick : ℕ) (v w : View) → IsSentByPin id (IsAllSent core tick) v w
    → Adds (Each (IsSend core tick)) v w
kick_uses id core tick v w (inl (x, r)) = ([], tt, grows_same v w (ap (λ (y : View). y.turns) r.0.1))
kick_uses id core tick v w (inr (r, after, own, it, used)) =
    let s = sent_deeds id core tick it.0.0 (history r) after own.legal it.0.1 in
    let is : put_by id r after ≡ deeds_of id (history r) s.0 =
    ap (λ (k : History). deeds_of id (history r) (drop (length r.entries) k.entries)) s.1
    ∙ ap (deeds_of id (history r)) (drop_front r.entries s.0) in
    (deeds_of id (history r) s.0, s.2, subst (λ l. Grows l [] [] v w) is (grows_use id r after v w used))

kick_grows : (o : Option FlowId) (core tick : ℕ) (v w : View) → IsKicked o (IsAllSent core tick) v w
    → Puts (Each (IsSend core tick)) v w
kick_grows None core tick v w e = puts_none _ v w tt (ap (λ (x : View). x.turns) e)
kick_grows (Some id) core tick v w (inl (e, r)) = puts_none _ v w tt (turns_refused id v w e r)
kick_grows (Some id) core tick v w (inr b) =
    puts_by_pin id _ (Each (IsSend core tick)) v w (λ p q. kick_uses id core tick p q) b

pub kicks_grow : (c : Common) (tick count : ℕ) (v w : Worker) → AreKicksDone c tick count v w
    → Puts (Each (IsSend v.core tick)) v.pass.view w.pass.view
kicks_grow c tick zero v w e =
    puts_none _ v.pass.view w.pass.view tt (ap (λ (x : Worker). x.pass.view.turns) e)
kicks_grow c tick (suc n) v w (m, one, more) =
    let a = kick_grows (kicked_in c.table.slots one.note) v.core tick v.pass.view one.pass.view one.kicked in
    let b = kicks_grow c tick n m w more in
    let core : m.core ≡ v.core = ap (λ (x : Worker). x.core) one.after in
    let to_m : Grows a.0 a.2 a.2 v.pass.view m.pass.view =
    subst (λ (s : Seen). Grows a.0 a.2 a.2 v.pass.view s.view) (ap (λ (x : Worker). x.pass) (sym one.after)) a.3 in (
      a.0 ++ b.0,
      each_append (IsSend v.core tick) a.0 b.0 a.1 (subst (λ k. Each (IsSend k tick) b.0) core b.1),
      a.2 ++ b.2,
      grows_then a.0 b.0 a.2 b.2 a.2 b.2 v.pass.view m.pass.view w.pass.view to_m b.3,
    )

-- ----- a turn
frames_core : (c : Common) (tick : ℕ) (fs : List Frame) (v w : Worker) → AreFramesDone c tick fs v w → w.core ≡ v.core
frames_core c tick [] v w e = ap (λ (x : Worker). x.core) e
frames_core c tick (f ∷ fs) v w (m, one, more) =
    frames_core c tick fs m w more ∙ ap (λ (x : Worker). x.core) one.after

-- kicks leave the lists and the log
kicks_leave : (c : Common) (tick count : ℕ) (v w : Worker) → AreKicksDone c tick count v w
    → (w.deferred ≡ v.deferred) × (w.exceptions ≡ v.exceptions) × (w.log ≡ v.log)
kicks_leave c tick zero v w e =
    (ap (λ (x : Worker). x.deferred) e, ap (λ (x : Worker). x.exceptions) e, ap (λ (x : Worker). x.log) e)
kicks_leave c tick (suc n) v w (m, one, more) =
    let r = kicks_leave c tick n m w more in (
      r.0 ∙ ap (λ (x : Worker). x.deferred) one.after,
      r.1 ∙ ap (λ (x : Worker). x.exceptions) one.after,
      r.2 ∙ ap (λ (x : Worker). x.log) one.after,
    )

pub turn_grows : (c : Common) (tick : ℕ) (v w : Worker) → IsTurn c tick v w → w.frames ≡ []
    → (ds : List Deed) × IsTurnOf tick v w ds × (ps : List FlowId) × Grows ds ps ps v.pass.view w.pass.view
turn_grows c tick v w (m, frames, kicks) empty =
    let hs = answers_in c tick v.frames v m frames in
    let a = frames_grow c tick v.frames v m frames in
    let b = kicks_grow c tick kicks.0 m w kicks.1 in
    let l = frames_stand c tick v.frames v m frames in
    let k = kicks_leave c tick kicks.0 m w kicks.1 in (
      a.0 ++ b.0,
      record {
        answers = hs;
        entered = a.0;
        sent = b.0;
        put = a.1;
        left = (k.0 ∙ l.0, k.1 ∙ l.1, k.2 ∙ l.2, empty);
        sends = subst (λ k. Each (IsSend k tick) b.0) (frames_core c tick v.frames v m frames) b.1;
        all = refl;
      },
      a.2 ++ b.2,
      grows_then a.0 b.0 a.2 b.2 a.2 b.2 v.pass.view m.pass.view w.pass.view a.3 b.3,
    )

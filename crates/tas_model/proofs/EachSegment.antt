-- One walk over all segments that the endpoint's steps send.
use Rattle.std.proofs.Common.{◌≡◌, ℕ, ◌+◌, ◌-◌, ◌*◌, Bool, true, false, cond, not, ◌&&◌, List, [], ◌∷◌, ◌++◌, length}
use Rattle.std.proofs.Common.{take, drop, min, Option, Some, None, refl, sym, subst, ap, ◌∙◌, append-nil, ltb, leb, eqb}
use Rattle.std.proofs.lemmas.Grind.{flat_map-append}
use Rattle.tas_model.proofs.Tests.{on_cond}
use Rattle.tas_model.specs.declared.entry.Reason.{Reason}
use Rattle.tas_model.specs.declared.entry.Reason.TheVariants as reasons
use Rattle.tas_model.specs.declared.entry.Phase.{Phase}
use Rattle.tas_model.specs.declared.entry.Phase.TheVariants as phases
use Rattle.tas_model.specs.declared.entry.Call.{Call}
use Rattle.tas_model.specs.declared.entry.Call.TheVariants as calls
use Rattle.tas_model.specs.declared.entry.Head.{Head}
use Rattle.tas_model.specs.declared.entry.Seg.{Seg}
use Rattle.tas_model.specs.declared.entry.Reply.{Reply}
use Rattle.tas_model.specs.declared.entry.Reply.TheVariants as replies
use Rattle.tas_model.specs.declared.entry.Entry.{Entry}
use Rattle.tas_model.specs.declared.entry.HostParams.{HostParams}
use Rattle.tas_model.specs.Endpoint.{Endpoint, phase, unread, send_room, next_place, wnd}
use Rattle.tas_model.specs.Segments.{Outcome, bare, ack_head, acks, stray_reply, resets, is_rst, is_ack, is_syn}
use Rattle.tas_model.specs.Segments.{offered_window, seg_len}
use Rattle.tas_model.specs.Receive.{rx, rx_in, rx_later, rx_syn_sent, connected, by_verdict, verdict, Verdict, Dropped}
use Rattle.tas_model.specs.Receive.{Answered, Reset, BareAck, Taken, AckVerdict, Stray, TooFar, Good, taken, bare_ack}
use Rattle.tas_model.specs.Receive.{after_ack, after_data, place_of_ack, is_heard}
use Rattle.tas_model.specs.ApplicationCalls.{after_recv, empty_reply, abort_reply, tells_abort, ended_by, Column}
use Rattle.tas_model.specs.ApplicationCalls.{Opening, Over, Running, column, accept_in, ready_in, send_in, recv_in}
use Rattle.tas_model.specs.ApplicationCalls.{recv_open, shut_in, close_in, abort_in}
use Rattle.tas_model.specs.NextSegment.{Going, going, going_in, going_data, going_probe, going_fin, emitted, waiting}
use Rattle.tas_model.specs.NextSegment.{data_len, past, syn_head}
use Rattle.tas_model.specs.Timers.{ticks, tick_in, ticked, is_armed, patience, probes, filled, control}
use Rattle.tas_model.specs.LegalHistory.{step, control_in, taken_bytes, state_or, moved, replay, Gives, Legal}
use Rattle.tas_model.specs.LegalHistory.{MayFollow}
use Rattle.tas_model.specs.Outputs.{segments_in, sent}
use Rattle.tas_model.specs.Valid.{Valid, InRange}
use Rattle.tas_model.proofs.Histories.{legal_induction, replay_push}
use Rattle.tas_model.proofs.ValidCalls.{valid_replay}

-- ----- several segments
abbrev pub AllHave : (Seg → Type 0) → List Seg → Type 0
AllHave Q [] = Unit {0}
AllHave Q (seg ∷ segs) = Q seg × AllHave Q segs

-- What grows by each of them holds of them all.
pub all_as : (Q : Seg → Type 0) (R : List Seg → Type 0) → R []
    → ((seg : Seg) (segs : List Seg) → Q seg → R segs → R (seg ∷ segs)) → (segs : List Seg) → AllHave Q segs → R segs
all_as Q R none more [] all = none
all_as Q R none more (seg ∷ segs) all = more seg segs all.0 (all_as Q R none more segs all.1)

all_append : (Q : Seg → Type 0) (xs ys : List Seg) → AllHave Q xs → AllHave Q ys → AllHave Q (xs ++ ys)
all_append Q [] ys x y = y
all_append Q (seg ∷ xs) ys x y = (x.0, all_append Q xs ys x.1 y)

-- ----- what is asked of a property
-- Each kind of segment that is sent has the property `P`; `b` is the endpoint before it, and `e` the one after it.
-- Resets are bare, without FIN and without a shift.
pub record Shows (P : (b e : Endpoint) → Seg → Type 0) : Type 0 where
  pub ack : (b e : Endpoint) → P b e (bare (ack_head e))
  pub reset : (b e : Endpoint) (head : Head) → is_rst (bare head) ≡ true → is_heard (bare head) ≡ false
      → head.scale ≡ None → P b e (bare head)
  pub syn : (e : Endpoint) → P e (record e { tx = past e.tx 1 }) (bare (syn_head e e.peer))
  pub payload : (e : Endpoint) → column e ≡ Running
      → P e (going_data e (data_len e)).after (going_data e (data_len e)).seg
  pub probe : (e : Endpoint) → column e ≡ Running → P e (going_probe e).after (going_probe e).seg
  pub fin : (e : Endpoint) → (e.tx.shut && eqb e.tx.nxt (1 + length e.tx.out)) ≡ true
      → P e (going_fin e).after (going_fin e).seg

-- ----- the walk
module _ (P : (b e : Endpoint) → Seg → Type 0) (shows : Shows P) where
  abbrev Shown : (b e : Endpoint) → Reply → Type 0
  Shown b e reply = AllHave (P b e) (segments_in reply)

  abbrev Leaves : Endpoint → Option Outcome → Type 0
  Leaves b None = Unit {0}
  Leaves b (Some o) = Shown b o.state o.reply

  abbrev R : Endpoint → Outcome → Type 0
  R b o = Shown b o.state o.reply

  ack_shows : (b e : Endpoint) → Shown b e (acks e)
  ack_shows b e = (shows.ack b e, tt)

  reset_shows : (b e : Endpoint) (head : Head) → is_rst (bare head) ≡ true → is_heard (bare head) ≡ false
      → head.scale ≡ None → Shown b e (replies.Sent (bare head))
  reset_shows b e head rst plain none = (shows.reset b e head rst plain none, tt)

  stray_shows : (e : Endpoint) (seg : Seg) → Shown e e (stray_reply seg)
  stray_shows e seg =
      on_cond (Shown e e) (is_rst seg) _ _ (λ t. tt)
      (λ f. on_cond (Shown e e) (is_ack seg) _ _ (λ t. reset_shows e e _ refl refl refl)
      (λ g. reset_shows e e _ refl refl refl))

  taken_shows : (e : Endpoint) (tick q : ℕ) (seg : Seg) (a : AckVerdict) → R e (taken e tick q seg a)
  taken_shows e tick q seg Stray = reset_shows e e _ refl refl refl
  taken_shows e tick q seg TooFar = ack_shows e e
  taken_shows e tick q seg Good =
      let acked : Endpoint = after_ack e tick (place_of_ack e seg) q (seg_len seg) (offered_window e.scaling seg) in
      let after : Endpoint = after_data acked tick (wnd e) q seg in
      on_cond (Shown e after) (is_heard seg) (acks after) replies.Nothing (λ t. ack_shows e after) (λ f. tt)

  bare_shows : (e : Endpoint) (tick : ℕ) (seg : Seg) (a : AckVerdict) → R e (bare_ack e tick seg a)
  bare_shows e tick seg Stray = reset_shows e e _ refl refl refl
  bare_shows e tick seg TooFar = ack_shows e e
  bare_shows e tick seg Good =
      ack_shows e (after_ack e tick (place_of_ack e seg) (next_place e.rx) (seg_len seg) (offered_window e.scaling seg))

  verdict_shows : (e : Endpoint) (tick : ℕ) (seg : Seg) (d : Verdict) → R e (by_verdict e tick seg d)
  verdict_shows e tick seg Dropped = tt
  verdict_shows e tick seg Answered = ack_shows e e
  verdict_shows e tick seg Reset = tt
  verdict_shows e tick seg BareAck = on_cond (R e) (is_ack seg) _ _ (λ t. bare_shows e tick seg _) (λ f. ack_shows e e)
  verdict_shows e tick seg (Taken q) = taken_shows e tick q seg _

  rx_in_shows : (ph : Phase) (e : Endpoint) (tick : ℕ) (seg : Seg) → R e (rx_in ph e tick seg)
  unfolding rx_later rx_syn_sent
  rx_in_shows phases.Closed e tick seg = stray_shows e seg
  rx_in_shows phases.SynSent e tick seg =
      on_cond (R e) (is_ack seg && not (eqb (place_of_ack e seg) 1 && leb 1 e.tx.max)) _ _
      (λ t. on_cond (Shown e e) (is_rst seg) replies.Nothing (resets seg.head.ack) (λ u. tt)
      (λ u. reset_shows e e _ refl refl refl))
      (λ f. on_cond (R e) (is_rst seg) _ _ (λ t. tt)
      (λ g. on_cond (R e) (is_syn seg && is_ack seg) _ _ (λ t. ack_shows e (connected e seg)) (λ h. tt)))
  rx_in_shows _ e tick seg = verdict_shows e tick seg (verdict e seg)

  -- ----- the other calls
  update_shows : (e after : Endpoint) (bytes : List ℕ) (b : Bool)
      → Shown e after (replies.Got bytes (cond b (Some (ack_head after)) None))
  update_shows e after bytes true = ack_shows e after
  update_shows e after bytes false = tt

  empty_shows : (e : Endpoint) (o : Option Reason) (b : Bool) → Shown e e (empty_reply o b)
  empty_shows e None true = tt
  empty_shows e None false = tt
  empty_shows e (Some why) true = tt
  empty_shows e (Some why) false = tt

  recv_open_shows : (e : Endpoint) (most : ℕ) → R e (recv_open e most)
  recv_open_shows e most = on_cond (R e) (eqb (unread e.rx) 0) _ _ (λ t. empty_shows e e.reason e.rx.ended)
      (λ f. update_shows e (after_recv e (min most (unread e.rx)))
      (take (min most (unread e.rx)) (drop e.rx.read e.rx.got)) _)

  recv_shows : (e : Endpoint) (c : Column) (most : ℕ) → R e (recv_in c e most)
  recv_shows e Opening most = tt
  recv_shows e Running most = recv_open_shows e most
  recv_shows e (Over reasons.Done) most = recv_open_shows e most
  recv_shows e (Over _) most = tt

  accept_shows : (e : Endpoint) (c : Column) → Leaves e (accept_in c e)
  accept_shows e Running = tt
  accept_shows e Opening = tt
  accept_shows e (Over why) = tt

  ready_shows : (e : Endpoint) (c : Column) → R e (ready_in c e)
  ready_shows e Running = tt
  ready_shows e Opening = tt
  ready_shows e (Over why) = tt

  send_shows : (e : Endpoint) (c : Column) (offered : ℕ) (bytes : List ℕ) → Leaves e (send_in c e offered bytes)
  send_shows e Opening offered bytes = tt
  send_shows e (Over why) offered bytes = tt
  send_shows e Running offered bytes =
      on_cond (Leaves e) e.tx.shut _ _ (λ t. tt)
      (λ f. on_cond (Leaves e) (eqb (min offered (send_room e)) 0 && not (eqb offered 0)) _ _ (λ t. tt)
      (λ g. on_cond (Leaves e) (eqb (length bytes) (min offered (send_room e))) _ _ (λ t. tt) (λ h. tt)))

  shut_shows : (e : Endpoint) (c : Column) → R e (shut_in c e)
  shut_shows e Opening = tt
  shut_shows e (Over why) = tt
  shut_shows e Running = on_cond (R e) e.tx.shut _ _ (λ t. tt) (λ f. tt)

  close_shows : (e : Endpoint) (c : Column) → R e (close_in c e)
  close_shows e Opening = tt
  close_shows e (Over why) = tt
  close_shows e Running = tt

  abort_reply_shows : (e after : Endpoint) → Shown e after (abort_reply e)
  abort_reply_shows e after = on_cond (Shown e after) (tells_abort (phase e)) _ _
      (λ t. reset_shows e after _ refl refl refl)
      (λ f. tt)

  abort_shows : (e : Endpoint) (c : Column) → R e (abort_in c e)
  abort_shows e Opening = abort_reply_shows e (ended_by e reasons.Aborted)
  abort_shows e (Over why) = tt
  abort_shows e Running = abort_reply_shows e (ended_by e reasons.Aborted)

  abbrev G : Endpoint → Option Going → Type 0
  G e None = Unit {0}
  G e (Some g) = P e g.after g.seg

  going_shows : (e : Endpoint) (c : Column) → column e ≡ c → G e (going_in c e)
  going_shows e (Over why) is = tt
  going_shows e Opening is = on_cond (G e) (eqb e.tx.nxt 0) _ _ (λ t. shows.syn e) (λ f. tt)
  going_shows e Running is =
      on_cond (G e) (ltb 0 (data_len e)) _ _ (λ t. shows.payload e is)
      (λ f. on_cond (G e) (e.tx.probe && eqb e.tx.window 0 && eqb e.tx.nxt e.tx.una && ltb 0 (waiting e.tx)) _ _
      (λ t. shows.probe e is)
      (λ g. on_cond (G e) (e.tx.shut && eqb e.tx.nxt (1 + length e.tx.out)) _ _ (λ t. shows.fin e t) (λ h. tt)))

  emit_shows : (e : Endpoint) (o : Option Going) → G e o → Leaves e (emitted o)
  emit_shows e None g = tt
  emit_shows e (Some x) g = (g, tt)

  ticked_shows : (b e : Endpoint) → R b (ticked e)
  ticked_shows b e =
      on_cond (R b) (not (is_armed e.tx)) _ _ (λ t. tt)
      (λ f. on_cond (R b) (ltb (e.tx.age + 1) (patience e)) _ _ (λ t. tt)
      (λ g. on_cond (R b) (eqb (e.tx.tries + 1) 9) _ _ (λ t. tt)
      (λ h. on_cond (R b) (probes e) _ _ (λ t. tt) (λ k. tt))))

  tick_shows : (ph : Phase) (b e : Endpoint) (tick : ℕ) → Leaves b (tick_in ph e tick)
  tick_shows phases.Closed b e tick = tt
  tick_shows phases.TimeWait b e tick =
      on_cond (R b) (leb (4 * e.params.rto) (tick - e.entered)) _ _ (λ t. tt) (λ f. tt)
  tick_shows _ b e tick = ticked_shows b e

  control_shows : (e : Endpoint) (c : Column) → Leaves e (control_in c e)
  unfolding control
  control_shows e Running = tt
  control_shows e Opening = tt
  control_shows e (Over why) = tt

  -- what each segment has that a step sends
  step_shows : (e : Endpoint) (tick : ℕ) (call : Call) (reply : Reply) → Leaves e (step e tick call reply)
  unfolding step going ticks rx
  step_shows e tick (calls.Connect iss) reply = tt
  step_shows e tick (calls.Passive frame iss seg) reply = tt
  step_shows e tick (calls.Rx frame seg) reply = rx_in_shows (phase e) e tick seg
  step_shows e tick calls.Emit reply = emit_shows e (going_in (column e) e) (going_shows e (column e) refl)
  step_shows e tick calls.Tick reply = tick_shows (phase e) e (record e { rate = filled e.rate }) tick
  step_shows e tick calls.Control reply = control_shows e (column e)
  step_shows e tick calls.Accept reply = accept_shows e (column e)
  step_shows e tick calls.Ready reply = ready_shows e (column e)
  step_shows e tick (calls.Send offered) reply = send_shows e (column e) offered (taken_bytes reply)
  step_shows e tick (calls.Recv most) reply = recv_shows e (column e) most
  step_shows e tick calls.Shut reply = shut_shows e (column e)
  step_shows e tick calls.Close reply = close_shows e (column e)
  step_shows e tick calls.Abort reply = abort_shows e (column e)

  given_shows : (o : Option Outcome) (e : Endpoint) (reply : Reply) → Gives o reply → Leaves e o
      → Shown e (state_or e o) reply
  given_shows None e reply gives right = absurd gives
  given_shows (Some o) e reply gives right = subst (Shown e o.state) gives right

  -- Each segment that an entry sends has the property.
  pub entry_shows : (params : HostParams) (es : List Entry) (x : Entry) → MayFollow params es x
      → AllHave (P (replay params es) (moved (replay params es) x)) (segments_in x.reply)
  entry_shows params es x may =
      given_shows (step (replay params es) x.tick x.call x.reply) (replay params es) x.reply may.step
      (step_shows (replay params es) x.tick x.call x.reply)

  -- What the property tells of a segment as it is sent, and each later entry keeps, is so of all that a legal history
  -- sent.
  pub sent_shows : (Q : Endpoint → Seg → Type 0) (params : HostParams) → InRange params
      → ((b e : Endpoint) (seg : Seg) → Valid b → P b e seg → Q e seg)
      → ((es : List Entry) (x : Entry) → Legal params es → MayFollow params es x → (seg : Seg)
      → Q (replay params es) seg → Q (moved (replay params es) x) seg)
      → (h : List Entry) → Legal params h → AllHave (Q (replay params h)) (sent h)
  sent_shows Q params fits told kept h legal =
      legal_induction params (λ (es : List Entry). AllHave (Q (replay params es)) (sent es))
      (λ x first. subst (λ (r : Reply). AllHave (Q (replay params (x ∷ []))) (segments_in r ++ []))
      (sym first.reply) tt)
      (λ es x before so_far may. after es x before so_far may)
      h legal
    where
      after : (es : List Entry) (x : Entry) → Legal params es → AllHave (Q (replay params es)) (sent es)
          → MayFollow params es x → AllHave (Q (replay params (es ++ x ∷ []))) (sent (es ++ x ∷ []))
      after es x before so_far may =
          let b : Endpoint = replay params es in
          let e : Endpoint = moved b x in
          let old : AllHave (Q e) (sent es) =
          all_as (Q b) (AllHave (Q e)) tt (λ seg segs has all. (kept es x before may seg has, all))
          (sent es) so_far in
          let new : AllHave (Q e) (segments_in x.reply) =
          all_as (P b e) (AllHave (Q e)) tt
          (λ seg segs has all. (told b e seg (valid_replay params es fits before) has, all)) (segments_in x.reply)
          (entry_shows params es x may) in
          let both : sent (es ++ x ∷ []) ≡ sent es ++ segments_in x.reply =
          flat_map-append (λ (y : Entry). segments_in y.reply) es (x ∷ [])
          ∙ ap (λ (segs : List Seg). sent es ++ segs) (append-nil (segments_in x.reply)) in
          subst (AllHave (Q (replay params (es ++ x ∷ [])))) (sym both)
          (subst (λ (f : Endpoint). AllHave (Q f) (sent es ++ segments_in x.reply))
          (sym (replay_push params es x before)) (all_append (Q e) (sent es) (segments_in x.reply) old new))

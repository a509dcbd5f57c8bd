-- What cores and applications do in their turns is done on flows that aren't closed, or that an application has: for
-- the law filed_histories_are_kept.
use Rattle.std.proofs.Common.{◌≡◌, ℕ, suc, ◌+◌, ◌≤◌, ◌==◌, Bool, true, false, List, [], ◌∷◌, refl, sym, ap, ◌∙◌}
use Rattle.std.proofs.Common.{subst, inl, inr, arith, length, true≢false}
use Rattle.std.specs.Prelude.{Option, Some, None, is_some}
use Rattle.std.proofs.lemmas.Bool.Decides.{nat_tests}
use Rattle.tas_model.specs.declared.entry.FlowId.{FlowId}
use Rattle.tas_model.specs.declared.entry.Reply.{Reply}
use Rattle.tas_model.specs.Endpoint.{is_closed}
use Rattle.tas_model.specs.NextSegment.{Going, going}
use Rattle.flow_state.specs.declared.call.CallIn.{CallIn}
use Rattle.flow_state.specs.declared.call.CallIn.TheVariants as ins
use Rattle.host_rounds.specs.Lists.{Each}
use Rattle.host_rounds.proofs.Filed.{closed_sends_nothing}
use Rattle.host_rounds.proofs.Lists.{each_append}
use Rattle.flow_lock.specs.Orders.{Order, of}
use Rattle.flow_lock.specs.declared.view.Deed.{Deed}
use Rattle.app_reaper.specs.declared.one_call.CallFault.{CallFault}
use Rattle.libtas_sockets.specs.Answers.{fault_in, IsReceived}
use Rattle.libtas_sockets.specs.Apps.{flow_of}
use Rattle.app_deeds.specs.Deeds.{AreOfCall, tells_sent, tells_done}
use Rattle.core_worker.specs.declared.frames.Frame.{Frame}
use Rattle.core_worker.specs.declared.frames.Handled.{Handled}
use Rattle.core_worker.specs.declared.frames.Handled.TheVariants as handled
use Rattle.core_phase.specs.Attempts.{AreOfTry, room_of}
use Rattle.core_phase.specs.Deeds.{IsRx, IsSend, IsPutIn, ArePutIn}
use Rattle.core_phase.specs.Lanes.{IsOf}
use Rattle.core_phase.specs.Phases.{AreParts}
use Rattle.core_phase.specs.declared.attempt.Attempt.{Attempt}
use Rattle.core_phase.specs.declared.attempt.Attempt.TheVariants as attempts
use Rattle.core_phase.specs.declared.attempt.Answered.{Answered}
use Rattle.core_phase.specs.declared.lane.Lane.{Lane}
use Rattle.core_phase.specs.declared.lane.Lane.TheVariants as lanes
use Rattle.core_phase.proofs.Wording.{frame_is}
use Rattle.host_books.specs.Books.{Book}
use Rattle.host_books.specs.Indexes.{endpoint_of}
use Rattle.sound_phases.proofs.Deeds.{TriesHad, LaneHas}
use Rattle.sound_phases.proofs.Orders.{IsHad}
use Rattle.core_host.proofs.FiledKnown.{IsOpenOr}

module _ (bs : List Book) where
  abbrev Fine : Deed → Type 0
  Fine d = IsOpenOr (IsHad bs) d

  one_fine : (ds : List Deed) (d : Deed) → ds ≡ d ∷ [] → Fine d → Each Fine ds
  one_fine ds d e is = subst (Each Fine) (sym e) (is, tt)

  none_fine : (ds : List Deed) → ds ≡ [] → Each Fine ds
  none_fine ds e = subst (Each Fine) (sym e) tt

  -- ----- cores
  rx_fine : (check : Bool) (core t : ℕ) (f : Frame) (d : Deed) → IsRx check core t f d → Fine d
  rx_fine check core t f d rx = record {
    legal = rx.adds.legal;
    stands = inl (frame_is {S = ℕ} {A = ℕ} check core t f d rx).open_;
  }

  -- a segment that may go is of an open connection
  send_open : (d : Deed) → is_some (going (endpoint_of d.before)) ≡ true → is_closed (endpoint_of d.before) ≡ false
  send_open d goes = by (is_closed (endpoint_of d.before)) refl
    where
      by : (b : Bool) → is_closed (endpoint_of d.before) ≡ b → b ≡ false
      by false e = refl
      by true e =
          absurd (true≢false (sym goes
          ∙ ap (λ (o : Option Going). is_some o) (closed_sends_nothing (endpoint_of d.before) e)))

  send_fine : (core t : ℕ) (d : Deed) → IsSend core t d → Fine d
  send_fine core t d s = record { legal = s.adds.legal; stands = inl (send_open d s.goes) }

  put_fine : (check : Bool) (core t : ℕ) (f : Frame) (h : Handled) (ds : List Deed) → IsPutIn check core t f h ds
      → Each Fine ds
  put_fine check core t f (handled.Entered id) ds (d, e, flow, rx) = one_fine ds d e (rx_fine check core t f d rx)
  put_fine check core t f (handled.Refused n) ds put = none_fine ds put.0
  put_fine check core t f (handled.Passed why) ds put = none_fine ds put.0

  puts_fine : (check : Bool) (core t : ℕ) (fs : List Frame) (hs : List Handled) (ds : List Deed)
      → ArePutIn check core t fs hs ds → Each Fine ds
  puts_fine check core t [] [] ds put = none_fine ds put
  puts_fine check core t [] (h ∷ hs) ds put = absurd put
  puts_fine check core t (f ∷ fs) [] ds put = absurd put
  puts_fine check core t (f ∷ fs) (h ∷ hs) ds (a, b, e, first, rest) =
      subst (Each Fine) (sym e)
      (each_append Fine a b (put_fine check core t f h a first) (puts_fine check core t fs hs b rest))

  sends_fine : (core t : ℕ) (ds : List Deed) → Each (IsSend core t) ds → Each Fine ds
  sends_fine core t [] each = tt
  sends_fine core t (d ∷ ds) each = (send_fine core t d each.0, sends_fine core t ds each.1)

  -- ----- applications
  call_fine : (app : ℕ) (id : FlowId) (t : ℕ) (call : CallIn) (fault : Option CallFault) (tells : Reply → Type 0)
      (ds : List Deed) → IsHad bs id → AreOfCall app id t call fault tells ds → Each Fine ds
  call_fine app id t call None tells ds had (d, e, flow, is) =
      one_fine ds d e (record { legal = is.legal; stands = inr (subst (IsHad bs) (sym flow) had) })
  call_fine app id t call (Some fault) tells ds had e = none_fine ds e

  try_fine : (app : ℕ) (id : FlowId) (t : ℕ) (before after : Attempt) (answer : Answered) (ds : List Deed)
      → TriesHad bs id before → AreOfTry app id t before after answer ds → Each Fine ds
  try_fine app id t attempts.Nothing after answer ds had e = none_fine ds e
  try_fine app id t (attempts.Send bytes) after answer ds had (offered, now, result, is, are) =
      call_fine app id t (ins.Send offered) (fault_in result) (tells_sent result) ds had are
  try_fine app id t (attempts.Recv buf) after answer ds had (result, is, are) =
      call_fine app id t (ins.Recv (length buf.items)) (fault_in result) (IsReceived buf.items (room_of after) result)
      ds had are
  try_fine app id t attempts.Shut after answer ds had (result, is, are) =
      call_fine app id t ins.Shut (fault_in result) (tells_done result) ds had are
  try_fine app id t attempts.Close after answer ds had (result, is, are) =
      call_fine app id t ins.Close (fault_in result) (tells_done result) ds had are
  try_fine app id t attempts.Abort after answer ds had (result, is, are) =
      call_fine app id t ins.Abort (fault_in result) (tells_done result) ds had are

  -- ----- lanes
  lane_fine : (v w : Lane) (ds : List Deed) → LaneHas bs v → IsOf v w ds → Each Fine ds
  lane_fine (lanes.Core v) (lanes.Core w) ds had is =
      subst (Each Fine) (sym is.all)
      (each_append Fine is.entered is.sent
      (puts_fine v.worker.check_sums v.worker.core v.tick v.worker.frames is.answers is.entered is.put)
      (sends_fine v.worker.core v.tick is.sent is.sends))
  lane_fine (lanes.Core v) (lanes.App w) ds had is = absurd is
  lane_fine (lanes.App v) (lanes.Core w) ds had is = absurd is
  lane_fine (lanes.App v) (lanes.App w) ds had is =
      try_fine v.app.number (flow_of v.app v.socket) v.tick v.attempt w.attempt w.answer ds had is

  -- the deeds of each turn
  module _ (order : Order) where
    pub turns_fine : (k : ℕ) (vs ws : List Lane) → AreParts order k vs ws → Each (LaneHas bs) vs
        → ((p : ℕ) → k + length vs ≤ p → of p order ≡ [])
        → (p : ℕ) → k ≤ p → Each Fine (of p order)
    turns_fine k [] ws parts had others p le = none_fine (of p order) (others p (omega (arith, le)))
    turns_fine k (v ∷ vs) [] parts had others p le = absurd parts
    turns_fine k (v ∷ vs) (w ∷ ws) parts had others p le =
        by (p == k) refl (turns_fine (suc k) vs ws parts.1 had.1 more)
      where
        more : (q : ℕ) → suc k + length vs ≤ q → of q order ≡ []
        more q l = others q (omega (arith, l))

        by : (t : Bool) → (p == k) ≡ t → ((q : ℕ) → suc k ≤ q → Each Fine (of q order)) → Each Fine (of p order)
        by true e rest =
            let same : k ≡ p = grind (arith, nat_tests, e) in
            subst (λ q. Each Fine (of q order)) same (lane_fine v w (of k order) had.0 parts.0.deeds)
        by false e rest = rest p (grind (arith, nat_tests, e, le))

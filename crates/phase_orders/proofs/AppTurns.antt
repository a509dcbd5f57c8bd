-- What a call that an application tried puts into its turn: for the law phases_are_turns.
use Rattle.std.proofs.Common.{◌≡◌, ℕ, Bool, true, false, not, List, [], ◌∷◌, ◌++◌, length, refl, sym, ap, ◌∙◌, subst}
use Rattle.std.specs.Prelude.{Option, Some, None, is_some}
use Rattle.tas_model.specs.declared.entry.FlowId.{FlowId}
use Rattle.tas_model.specs.declared.entry.Call.TheVariants as calls
use Rattle.tas_model.specs.declared.entry.Entry.{Entry}
use Rattle.tas_model.specs.declared.entry.Reply.{Reply}
use Rattle.tas_model.specs.declared.entry.Reply.TheVariants as replies
use Rattle.flow_state.specs.declared.call.CallIn.{CallIn}
use Rattle.flow_state.specs.declared.call.CallIn.TheVariants as ins
use Rattle.flow_state.specs.Calls.{call_of, offer_of}
use Rattle.flow_state.specs.Flow.{reply_to}
use Rattle.flow_lock.specs.declared.view.Deed.{Deed}
use Rattle.app_reaper.specs.declared.one_call.CallFault.{CallFault}
use Rattle.libtas_sockets.specs.Answers.{fault_in, IsReceived}
use Rattle.host_rounds.specs.Hosts.{last_reply}
use Rattle.host_books.specs.Tries.{Try, IsTryWord, reply_on}
use Rattle.app_deeds.specs.Deeds.{AreOfCall, tells_sent, tells_done}
use Rattle.core_phase.specs.Attempts.{AreOfTry, room_of}
use Rattle.core_phase.specs.Words.{IsTryOf, try_word}
use Rattle.core_phase.specs.declared.attempt.Attempt.{Attempt}
use Rattle.core_phase.specs.declared.attempt.Attempt.TheVariants as attempts
use Rattle.core_phase.specs.declared.attempt.Answered.{Answered}
use Rattle.core_phase.proofs.Wording.{try_is}
use Rattle.phase_orders.specs.AppTurns.{is_made, IsTold}

last_pushed : (reply : Reply) (h : List Entry) (x : Entry) → last_reply reply (h ++ x ∷ []) ≡ x.reply
last_pushed reply [] x = refl
last_pushed reply (y ∷ ys) x = last_pushed y.reply ys x

-- One deed, where the call was made: it is what the script asks, and the reply that it got is the one that was told.
-- None, where it wasn't.
abbrev pub IsMadeAs : {S A : Type 0} → (made : Bool) → (t : ℕ) → Try S A → (told : Reply → Type 0) → List Deed → Type 0
IsMadeAs false t x told ds = ds ≡ []
IsMadeAs true t x told ds =
    (d : Deed) × (ds ≡ d ∷ []) × IsTryWord t (try_word x d) × told (reply_on t x d.before)

module _ {S A : Type 0} (t : ℕ) (x : Try S A) where
  by_call : (app : ℕ) (id : FlowId) (before after : Attempt) (answer : Answered) (call : CallIn)
      (fault : Option CallFault) (tells told : Reply → Type 0) (ds : List Deed) → IsTryOf app id before x
      → x.call ≡ call_of call → x.offer ≡ offer_of call → ((r : Reply) → tells r → told r)
      → AreOfTry app id t before after answer ds → AreOfCall app id t call fault tells ds
      → IsMadeAs (not (is_some fault)) t x told ds
  by_call app id before after answer call (Some fault) tells told ds of_try call_is offer_is tell are none = none
  by_call app id before after answer call None tells told ds of_try call_is offer_is tell are (d, is, flow, made) = (
    d,
    is,
    try_is app t id before after answer d x of_try
        (subst (λ (l : List Deed). AreOfTry app id t before after answer l) is are),
    tell (reply_on t x d.before) (subst tells same made.replied),
  )
    where
      same : reply_to d.before.params d.before.entries t (call_of call) (offer_of call) ≡ reply_on t x d.before
      same =
          (λ i. reply_to d.before.params d.before.entries t (sym call_is i) (sym offer_is i))
          ∙ sym (last_pushed replies.Nothing d.before.entries _)

  -- by what the answer says
  as_told : (answer a : Answered) (told : Reply → Type 0) (ds : List Deed) → answer ≡ a
      → IsMadeAs (is_made a) t x told ds → IsMadeAs (is_made answer) t x told ds
  as_told answer a told ds e it = subst (λ (b : Bool). IsMadeAs b t x told ds) (sym (ap is_made e)) it

  pub made_as : (app : ℕ) (id : FlowId) (before after : Attempt) (answer : Answered) (ds : List Deed)
      → IsTryOf app id before x → AreOfTry app id t before after answer ds
      → IsMadeAs (is_made answer) t x (IsTold before after answer) ds
  made_as app id attempts.Nothing after answer ds of_try are = absurd of_try.call_is
  made_as app id (attempts.Send bytes) after answer ds of_try (offered, now, result, e, are) =
      as_told answer _ (IsTold (attempts.Send bytes) after answer) ds e
      (by_call app id (attempts.Send bytes) after answer (ins.Send offered) (fault_in result) (tells_sent result)
      (IsTold (attempts.Send bytes) after answer) ds of_try
      (of_try.call_is ∙ ap (λ (l : List ℕ). calls.Send (length l)) (sym now)) (of_try.offer ∙ sym now)
      (λ r k. (result, e, k)) (offered, now, result, e, are) are)
  made_as app id (attempts.Recv buf) after answer ds of_try (result, e, are) =
      as_told answer _ (IsTold (attempts.Recv buf) after answer) ds e
      (by_call app id (attempts.Recv buf) after answer (ins.Recv (length buf.items)) (fault_in result)
      (IsReceived buf.items (room_of after) result) (IsTold (attempts.Recv buf) after answer) ds of_try
      of_try.call_is of_try.offer (λ r k. (result, e, k)) (result, e, are) are)
  made_as app id attempts.Shut after answer ds of_try (result, e, are) =
      as_told answer _ (IsTold attempts.Shut after answer) ds e
      (by_call app id attempts.Shut after answer ins.Shut (fault_in result) (tells_done result)
      (IsTold attempts.Shut after answer) ds of_try of_try.call_is of_try.offer (λ r k. (result, e, k))
      (result, e, are) are)
  made_as app id attempts.Close after answer ds of_try (result, e, are) =
      as_told answer _ (IsTold attempts.Close after answer) ds e
      (by_call app id attempts.Close after answer ins.Close (fault_in result) (tells_done result)
      (IsTold attempts.Close after answer) ds of_try of_try.call_is of_try.offer (λ r k. (result, e, k))
      (result, e, are) are)
  made_as app id attempts.Abort after answer ds of_try (result, e, are) =
      as_told answer _ (IsTold attempts.Abort after answer) ds e
      (by_call app id attempts.Abort after answer ins.Abort (fault_in result) (tells_done result)
      (IsTold attempts.Abort after answer) ds of_try of_try.call_is of_try.offer (λ r k. (result, e, k))
      (result, e, are) are)

-- Sockets that are given up in a phase: what the lanes leave of the books is what their tries leave.
use Rattle.std.proofs.Common.{◌≡◌, ℕ, suc, ◌&&◌, cond, Bool, true, false, List, [], ◌∷◌, ◌++◌, map}
use Rattle.std.proofs.Common.{refl, sym, ap, subst, ◌∙◌, arith, true≢false}
use Rattle.std.specs.Prelude.{◌⊎◌, Option, Some, None, IfSome, Result, Ok, Err}
use Rattle.std.specs.List.{find}
use Rattle.std.proofs.Common.{inl, inr}
use Rattle.std.proofs.lemmas.Bool.Decides.{nat_tests}
use Rattle.std.proofs.lemmas.List.Sums.{fold-append}
use Rattle.tas_model.specs.declared.entry.Call.{Call}
use Rattle.tas_model.specs.declared.entry.Call.TheVariants as calls
use Rattle.tas_model.specs.declared.entry.Caller.TheVariants.{App}
use Rattle.tas_model.specs.declared.entry.FlowId.{FlowId}
use Rattle.tas_model.specs.declared.entry.Reply.{Reply}
use Rattle.tas_model.specs.declared.entry.Reply.TheVariants as replies
use Rattle.tas_model.specs.LegalHistory.{Offers}
use Rattle.app_deeds.specs.Deeds.{left_by_close, left_by_abort}
use Rattle.core_phase.specs.Attempts.{pin_left}
use Rattle.core_phase.specs.Phases.{AreParts}
use Rattle.core_phase.specs.Words.{IsTryOf}
use Rattle.core_phase.specs.declared.attempt.Answered.{Answered}
use Rattle.core_phase.specs.declared.attempt.Answered.TheVariants as answers
use Rattle.core_phase.specs.declared.attempt.Attempt.{Attempt}
use Rattle.core_phase.specs.declared.attempt.Attempt.TheVariants as attempts
use Rattle.core_phase.specs.declared.lane.Lane.{Lane}
use Rattle.core_phase.specs.declared.lane.Lane.TheVariants as lanes
use Rattle.flow_lock.specs.Orders.{Order, same_flow}
use Rattle.host_books.specs.Books.{Book}
use Rattle.host_books.specs.Deeds.{held_as}
use Rattle.host_books.specs.Leavings.{Leaving, book_after, books_after}
use Rattle.host_books.specs.Tries.{reply_on}
use Rattle.host_books.specs.Words.{ArePairs}
use Rattle.host_books.proofs.Indexing.{is_same_flow}
use Rattle.host_rounds.specs.Hosts.{Holder, Application, GivenUp}
use Rattle.host_rounds.specs.Lists.{Each, change_first}
use Rattle.libtas_sockets.specs.Apps.{flow_of}
use Rattle.libtas_sockets.specs.Answers.{answer_by}
use Rattle.libtas_sockets.specs.declared.socket_error.SocketError.{SocketError}
use Rattle.libtas_sockets.specs.declared.socket_error.SocketError.TheVariants as errors
use Rattle.phase_orders.specs.AppTurns.{is_made, IsTold, IsLeftIf}
use Rattle.phase_orders.specs.Lanes.{IsTryBy, IsLeavingIn, AreLeavings}
use Rattle.scenario_text.specs.declared.scenario.Step.{Step}
use Rattle.scenario_text.specs.declared.scenario.Step.TheVariants as steps
use Rattle.scenario_runs.specs.Applications.{Script}
use Rattle.script_tries.specs.Steps.{call_at, offer_at, holds_at}
use Rattle.script_tries.specs.Tries.{ScriptTry}
use Rattle.sound_hosts.specs.Hosts.{is_holder, is_held_of}
use Rattle.sound_hosts.specs.Leaving.{reheld, left_by, books_left}
use Rattle.sound_hosts.proofs.Leaving.{AreApart}
use Rattle.sound_phases.specs.Phased as phased
use Rattle.core_host.specs.Sharing.{in_tick, all_in_tick}
use Rattle.core_host.specs.Ticks.{AreSetTo}
use Rattle.shared_scripts.specs.Begun.{has_number, try_in, lane_try}
use Rattle.script_tries.proofs.Together.{tries_as}
use Rattle.shared_scripts.proofs.Heard.{MayReply, IsAbortReply, reply_may, offers_at}
use Rattle.shared_scripts.proofs.LaneTries.{lane_inverse}
use Rattle.shared_scripts.proofs.Rising.{same_number}

-- ----- flows
same_sym : (f g : FlowId) → same_flow f g ≡ same_flow g f
same_sym f g = grind (arith, nat_tests)

-- All books of this flow are held by the application.
abbrev pub IsHeldAs : FlowId → (app : ℕ) → Book → Type 0
IsHeldAs id app b = same_flow id b.id ≡ true → b.holder ≡ Application app

and_false : (a b : Bool) → b ≡ false → (a && b) ≡ false
and_false true b e = e
and_false false b e = refl

-- ----- one socket is given up
module _ (app : ℕ) (id : FlowId) where
  kept_book : (b : Book) → same_flow id b.id ≡ false → reheld (left_by app id) b ≡ b
  kept_book b apart =
      ap (λ (t : Bool). record b { holder = cond t GivenUp b.holder })
      (and_false (is_held_of app b) (same_flow b.id id) (same_sym b.id id ∙ apart))

  left_book : (b : Book) → same_flow id b.id ≡ true → b.holder ≡ Application app
      → reheld (left_by app id) b ≡ record b { holder = GivenUp }
  left_book b its held =
      ap (λ (t : Bool). record b { holder = cond t GivenUp b.holder })
      ((λ i. is_holder app (held i) && (same_sym b.id id ∙ its) i)
      ∙ ap (λ (t : Bool). t && true) (same_number app app refl))

  kept_books : (f : FlowId) → f ≡ id → (bs : List Book) → Each (λ (c : Book). same_flow f c.id ≡ false) bs
      → map (reheld (left_by app id)) bs ≡ bs
  kept_books f same [] each = refl
  kept_books f same (b ∷ bs) each =
      let one = kept_book b (ap (λ (g : FlowId). same_flow g b.id) (sym same) ∙ each.0) in
      let more = kept_books f same bs each.1 in
      λ i. one i ∷ more i

  given_up : (holds : Holder → Holder) → ((h : Holder) → holds h ≡ GivenUp) → (bs : List Book) → AreApart bs
      → Each (IsHeldAs id app) bs
      → change_first (λ (b : Book). same_flow id b.id) (held_as holds) bs ≡ map (reheld (left_by app id)) bs
  given_up holds gives [] apart held = refl
  given_up holds gives (b ∷ bs) apart held = by (same_flow id b.id) refl (given_up holds gives bs apart.1 held.1) where
    by : (t : Bool) → same_flow id b.id ≡ t
        → change_first (λ (c : Book). same_flow id c.id) (held_as holds) bs ≡ map (reheld (left_by app id)) bs
        → elim t [
          | true ↦ held_as holds b ∷ bs
          | false ↦ b ∷ change_first (λ (c : Book). same_flow id c.id) (held_as holds) bs
        ]
        ≡ reheld (left_by app id) b ∷ map (reheld (left_by app id)) bs
    by true its rest =
        let one : held_as holds b ≡ reheld (left_by app id) b =
        ap (λ (h : Holder). record b { holder = h }) (gives b.holder) ∙ sym (left_book b its (held.0 its)) in
        let more = sym (kept_books b.id (sym (is_same_flow id b.id its)) bs apart.0) in
        λ i. one i ∷ more i
    by false apart_it rest =
        let one = sym (kept_book b apart_it) in λ i. one i ∷ rest i

  -- what holds of the books still
  apart_each : (f : FlowId) (bs : List Book) → Each (λ (c : Book). same_flow f c.id ≡ false) bs
      → Each (λ (c : Book). same_flow f c.id ≡ false) (map (reheld (left_by app id)) bs)
  apart_each f [] each = tt
  apart_each f (b ∷ bs) each = (each.0, apart_each f bs each.1)

  apart_left : (bs : List Book) → AreApart bs → AreApart (map (reheld (left_by app id)) bs)
  apart_left [] apart = tt
  apart_left (b ∷ bs) apart = (apart_each b.id bs apart.0, apart_left bs apart.1)

  held_left : (f : FlowId) (n : ℕ) → same_flow f id ≡ false → (bs : List Book) → Each (IsHeldAs f n) bs
      → Each (IsHeldAs f n) (map (reheld (left_by app id)) bs)
  held_left f n other [] held = tt
  held_left f n other (b ∷ bs) held =
      (λ its. ap (λ (c : Book). c.holder) (kept_book b (not_it its)) ∙ held.0 its, held_left f n other bs held.1)
    where
      not_it : same_flow f b.id ≡ true → same_flow id b.id ≡ false
      not_it its = by (same_flow id b.id) refl where
        by : (t : Bool) → same_flow id b.id ≡ t → same_flow id b.id ≡ false
        by true e =
            absurd (true≢false (sym its
            ∙ (ap (same_flow f) (sym (is_same_flow id b.id e)) ∙ other)))
        by false e = e

-- ----- which sockets are given up
abbrev Pins : FlowId → List FlowId → Type 0
Pins id pins = (pins ≡ []) ⊎ (pins ≡ id ∷ [])

close_pins : {T : Type 0} (id : FlowId) (result : Result T SocketError) → Pins id (left_by_close result id)
close_pins id (Ok x) = inr refl
close_pins id (Err e) = inl refl

abort_pins : {T : Type 0} (id : FlowId) (result : Result T SocketError) → Pins id (left_by_abort result id)
abort_pins id (Ok x) = inr refl
abort_pins id (Err (errors.Closed x)) = inr refl
abort_pins id (Err errors.NotYet) = inl refl
abort_pins id (Err errors.NotOpen) = inl refl
abort_pins id (Err errors.Shut) = inl refl
abort_pins id (Err (errors.Busy x)) = inl refl
abort_pins id (Err (errors.Stale x)) = inl refl
abort_pins id (Err (errors.Moved x y)) = inl refl
abort_pins id (Err (errors.Early x)) = inl refl
abort_pins id (Err (errors.SlotInUse x)) = inl refl
abort_pins id (Err (errors.PortInUse x)) = inl refl
abort_pins id (Err errors.NoPort) = inl refl
abort_pins id (Err errors.NoFlowSlot) = inl refl
abort_pins id (Err errors.OutOfMemory) = inl refl

pins_of : (id : FlowId) (attempt : Attempt) (answer : Answered) → Pins id (pin_left id attempt answer)
pins_of id attempts.Close (answers.Done result) = close_pins id result
pins_of id attempts.Abort (answers.Done result) = abort_pins id result
pins_of id attempts.Close answers.Nothing = inl refl
pins_of id attempts.Close (answers.Sent result) = inl refl
pins_of id attempts.Close (answers.Read result) = inl refl
pins_of id attempts.Abort answers.Nothing = inl refl
pins_of id attempts.Abort (answers.Sent result) = inl refl
pins_of id attempts.Abort (answers.Read result) = inl refl
pins_of id attempts.Nothing answer = inl refl
pins_of id (attempts.Send bytes) answer = inl refl
pins_of id (attempts.Recv buf) answer = inl refl
pins_of id attempts.Shut answer = inl refl

-- none where the call wasn't made
unmade_error : (id : FlowId) (e : SocketError) → is_made (answers.Done (Err e)) ≡ false
    → left_by_abort {T = Unit {0}} (Err e) id ≡ []
unmade_error id (errors.Closed x) e = absurd (cc (e))
unmade_error id errors.NotYet e = refl
unmade_error id errors.NotOpen e = refl
unmade_error id errors.Shut e = refl
unmade_error id (errors.Busy x) e = refl
unmade_error id (errors.Stale x) e = refl
unmade_error id (errors.Moved x y) e = refl
unmade_error id (errors.Early x) e = refl
unmade_error id (errors.SlotInUse x) e = refl
unmade_error id (errors.PortInUse x) e = refl
unmade_error id errors.NoPort e = refl
unmade_error id errors.NoFlowSlot e = refl
unmade_error id errors.OutOfMemory e = refl

unmade_pins : (id : FlowId) (attempt : Attempt) (answer : Answered) → is_made answer ≡ false
    → pin_left id attempt answer ≡ []
unmade_pins id attempts.Close (answers.Done (Ok x)) e = absurd (cc (e))
unmade_pins id attempts.Close (answers.Done (Err x)) e = refl
unmade_pins id attempts.Abort (answers.Done (Ok x)) e = absurd (cc (e))
unmade_pins id attempts.Abort (answers.Done (Err x)) e = unmade_error id x e
unmade_pins id attempts.Close answers.Nothing e = refl
unmade_pins id attempts.Close (answers.Sent result) e = refl
unmade_pins id attempts.Close (answers.Read result) e = refl
unmade_pins id attempts.Abort answers.Nothing e = refl
unmade_pins id attempts.Abort (answers.Sent result) e = refl
unmade_pins id attempts.Abort (answers.Read result) e = refl
unmade_pins id attempts.Nothing answer e = refl
unmade_pins id (attempts.Send bytes) answer e = refl
unmade_pins id (attempts.Recv buf) answer e = refl
unmade_pins id attempts.Shut answer e = refl

closed_pin : (id : FlowId) (reply : Reply) → reply ≡ replies.Ok
    → left_by_close {T = Unit {0}} (answer_by reply tt) id ≡ id ∷ []
closed_pin id reply is = ap (λ (r : Reply). left_by_close {T = Unit {0}} (answer_by r tt) id) is

aborted_pin : (id : FlowId) (reply : Reply) → IsAbortReply reply
    → left_by_abort {T = Unit {0}} (answer_by reply tt) id ≡ id ∷ []
aborted_pin id (replies.Closed reason) may = refl
aborted_pin id (replies.Sent seg) may = refl
aborted_pin id replies.Nothing may = refl
aborted_pin id replies.Ok may = absurd may
aborted_pin id (replies.Took bytes) may = absurd may
aborted_pin id (replies.Got bytes update) may = absurd may
aborted_pin id replies.End may = absurd may
aborted_pin id replies.NotYet may = absurd may
aborted_pin id replies.NotOpen may = absurd may
aborted_pin id replies.Shut may = absurd may
aborted_pin id replies.Quiet may = absurd may
aborted_pin id replies.Resend may = absurd may
aborted_pin id replies.Probe may = absurd may
aborted_pin id replies.Expired may = absurd may
aborted_pin id replies.TimedOut may = absurd may
aborted_pin id (replies.Window cwnd ssthresh) may = absurd may

-- ----- who has the socket after a call of a step
-- a call that doesn't end the socket leaves it
abbrev IsNoEnd : Call → Type 0
IsNoEnd calls.Close = ⊥
IsNoEnd calls.Abort = ⊥
IsNoEnd call = Unit {0}

holder_kept : (step : Step) (s : Script) (reply : Reply) (holder : Holder) → IsNoEnd (call_at step s)
    → holds_at step reply holder ≡ holder
holder_kept (steps.Send socket text) s reply holder no_end = refl
holder_kept (steps.Fill socket count) s reply holder no_end = refl
holder_kept (steps.Recv socket count) s reply holder no_end = refl
holder_kept (steps.Drain socket) s reply holder no_end = refl
holder_kept (steps.Shut socket) s reply holder no_end = refl
holder_kept (steps.Close socket) s reply holder no_end = absurd no_end
holder_kept (steps.Abort socket) s reply holder no_end = absurd no_end
holder_kept (steps.Listen name port) s reply holder no_end = refl
holder_kept (steps.Accept socket listener) s reply holder no_end = refl
holder_kept (steps.Connect socket host port) s reply holder no_end = refl
holder_kept (steps.Wait ticks) s reply holder no_end = refl

abbrev IsEnd : Call → Type 0
IsEnd calls.Close = Unit {0}
IsEnd calls.Abort = Unit {0}
IsEnd call = ⊥

holder_gone : (step : Step) (s : Script) (reply : Reply) (holder : Holder) → IsEnd (call_at step s)
    → holds_at step reply holder ≡ GivenUp
holder_gone (steps.Send socket text) s reply holder ends = absurd ends
holder_gone (steps.Fill socket count) s reply holder ends = absurd ends
holder_gone (steps.Recv socket count) s reply holder ends = absurd ends
holder_gone (steps.Drain socket) s reply holder ends = absurd ends
holder_gone (steps.Shut socket) s reply holder ends = absurd ends
holder_gone (steps.Close socket) s reply holder ends = refl
holder_gone (steps.Abort socket) s reply holder ends = refl
holder_gone (steps.Listen name port) s reply holder ends = absurd ends
holder_gone (steps.Accept socket listener) s reply holder ends = absurd ends
holder_gone (steps.Connect socket host port) s reply holder ends = absurd ends
holder_gone (steps.Wait ticks) s reply holder ends = absurd ends

unchanged_first : (test : Book → Bool) (holds : Holder → Holder) → ((h : Holder) → holds h ≡ h) → (bs : List Book)
    → change_first test (held_as holds) bs ≡ bs
unchanged_first test holds same [] = refl
unchanged_first test holds same (b ∷ bs) = by (test b) (unchanged_first test holds same bs) where
  by : (t : Bool) → change_first test (held_as holds) bs ≡ bs
      → elim t [ true ↦ held_as holds b ∷ bs | false ↦ b ∷ change_first test (held_as holds) bs ] ≡ b ∷ bs
  by true rest = ap (λ (h : Holder). (record b { holder = h }) ∷ bs) (same b.holder)
  by false rest = ap (λ (l : List Book). b ∷ l) rest

-- ----- several tries
-- the flow of each is held by its application
abbrev pub IsOwnTry : List Book → Option ScriptTry → Type 0
IsOwnTry bs o = IfSome o (λ (x : ScriptTry). Each (IsHeldAs x.flow x.app) bs)

-- they are of different flows
abbrev pub DifferInFlow : Option ScriptTry → Option ScriptTry → Type 0
DifferInFlow o q = IfSome o (λ (x : ScriptTry). IfSome q (λ (y : ScriptTry). same_flow x.flow y.flow ≡ false))

-- ----- one lane
module _ (t : ℕ) where
  kept_so : (x : ScriptTry) (step : Step) (s : Script) (reply : Reply) (bs : List Book) → x.holds ≡ holds_at step
      → IsNoEnd (call_at step s)
      → change_first (λ (b : Book). same_flow x.flow b.id) (held_as (x.holds reply)) bs ≡ bs
  kept_so x step s reply bs holds no_end =
      unchanged_first (λ (b : Book). same_flow x.flow b.id) (x.holds reply)
      (λ h. ap (λ (f : Reply → Holder → Holder). f reply h) holds ∙ holder_kept step s reply h no_end) bs

  gone_so : (x : ScriptTry) (step : Step) (s : Script) (app : ℕ) (id : FlowId) (reply : Reply) (bs : List Book)
      → x.holds ≡ holds_at step → IsEnd (call_at step s) → x.flow ≡ id → x.app ≡ app → AreApart bs
      → Each (IsHeldAs x.flow x.app) bs
      → change_first (λ (b : Book). same_flow x.flow b.id) (held_as (x.holds reply)) bs ≡ books_left app (id ∷ []) bs
  gone_so x step s app id reply bs holds ends flow own apart held =
      given_up x.app x.flow (x.holds reply)
      (λ h. ap (λ (f : Reply → Holder → Holder). f reply h) holds ∙ holder_gone step s reply h ends) bs apart held
      ∙ (λ i. map (reheld (left_by (own i) (flow i))) bs)

  made_books : (x : ScriptTry) (step : Step) (s : Script) (app : ℕ) (id : FlowId) (before after : Attempt)
      (answer : Answered) (reply : Reply) (bs : List Book) → x.call ≡ call_at step s → x.holds ≡ holds_at step
      → IsTryOf app id before x → MayReply x.call reply → IsTold before after answer reply → AreApart bs
      → Each (IsHeldAs x.flow x.app) bs
      → change_first (λ (b : Book). same_flow x.flow b.id) (held_as (x.holds reply)) bs
      ≡ books_left app (pin_left id before answer) bs
  made_books x step s app id attempts.Nothing after answer reply bs call holds of_try may told apart held = absurd told
  made_books x step s app id (attempts.Send bytes) after answer reply bs call holds of_try may told apart held =
      kept_so x step s reply bs holds (subst IsNoEnd (sym of_try.call_is ∙ call) tt)
  made_books x step s app id (attempts.Recv buf) after answer reply bs call holds of_try may told apart held =
      kept_so x step s reply bs holds (subst IsNoEnd (sym of_try.call_is ∙ call) tt)
  made_books x step s app id attempts.Shut after answer reply bs call holds of_try may told apart held =
      kept_so x step s reply bs holds (subst IsNoEnd (sym of_try.call_is ∙ call) tt)
  made_books x step s app id attempts.Close after answer reply bs call holds of_try may (result, e, is) apart held =
      gone_so x step s app id reply bs holds (subst IsEnd (sym of_try.call_is ∙ call) tt) of_try.flow of_try.app_is
      apart
      held
      ∙ ap (λ (pins : List FlowId). books_left app pins bs)
      (sym (closed_pin id reply (subst (λ (c : Call). MayReply c reply) of_try.call_is may))
      ∙ ap (λ (a : Answered). pin_left id attempts.Close a) (sym (e ∙ ap done is)))
    where
      done : Result (Unit {0}) SocketError → Answered
      done r = answers.Done r
  made_books x step s app id attempts.Abort after answer reply bs call holds of_try may (result, e, is) apart held =
      gone_so x step s app id reply bs holds (subst IsEnd (sym of_try.call_is ∙ call) tt) of_try.flow of_try.app_is
      apart
      held
      ∙ ap (λ (pins : List FlowId). books_left app pins bs)
      (sym (aborted_pin id reply (subst (λ (c : Call). MayReply c reply) of_try.call_is may))
      ∙ ap (λ (a : Answered). pin_left id attempts.Abort a) (sym (e ∙ ap done is)))
    where
      done : Result (Unit {0}) SocketError → Answered
      done r = answers.Done r

  lane_books : (x : ScriptTry) (step : Step) (s : Script) (app : ℕ) (id : FlowId) (before after : Attempt)
      (answer : Answered) (gs : List (Leaving (List Script))) (bs : List Book) (b : Bool) → is_made answer ≡ b
      → x.call ≡ call_at step s → x.offer ≡ offer_at step s → x.holds ≡ holds_at step → IsTryOf app id before x
      → IsLeftIf b t x before after answer gs → AreApart bs → Each (IsHeldAs x.flow x.app) bs
      → books_after gs bs ≡ books_left app (pin_left id before answer) bs
  lane_books x step s app id before after answer gs bs false made call offer holds of_try none apart held =
      ap (λ (ls : List (Leaving (List Script))). books_after ls bs) none
      ∙ ap (λ (pins : List FlowId). books_left app pins bs) (sym (unmade_pins id before answer made))
  lane_books x step s app id before after answer gs bs true made call offer holds of_try (h, legal, told, left) apart
      held =
      let offers : Offers x.call x.offer =
      (subst (λ (c : Call). Offers c x.offer) (sym call) (subst (Offers (call_at step s)) (sym offer)
      (offers_at step s))) in
      ap (λ (ls : List (Leaving (List Script))). books_after ls bs) left
      ∙ made_books x step s app id before after answer (reply_on t x h) bs call holds of_try
      (reply_may h.params h.entries (App x.app) t x.call x.offer offers) told apart held

  -- ----- all lanes
  module _ (books : List Book) (scripts : List Script) where
    abbrev tries : List Lane → List (Option ScriptTry)
    tries ls = map (lane_try t books scripts) ls

    apart_pins : (app : ℕ) (id : FlowId) (pins : List FlowId) (bs : List Book) → Pins id pins → AreApart bs
        → AreApart (books_left app pins bs)
    apart_pins app id pins bs (inl e) apart =
        subst (λ (ps : List FlowId). AreApart (books_left app ps bs)) (sym e) apart
    apart_pins app id pins bs (inr e) apart =
        subst (λ (ps : List FlowId). AreApart (books_left app ps bs)) (sym e) (apart_left app id bs apart)

    held_pins : (app : ℕ) (id : FlowId) (pins : List FlowId) (bs : List Book) (f : FlowId) (n : ℕ) → Pins id pins
        → same_flow f id ≡ false → Each (IsHeldAs f n) bs → Each (IsHeldAs f n) (books_left app pins bs)
    held_pins app id pins bs f n (inl e) other held =
        subst (λ (ps : List FlowId). Each (IsHeldAs f n) (books_left app ps bs)) (sym e) held
    held_pins app id pins bs f n (inr e) other held =
        subst (λ (ps : List FlowId). Each (IsHeldAs f n) (books_left app ps bs)) (sym e)
        (held_left app id f n other bs held)

    own_later : (x : ScriptTry) (app : ℕ) (pins : List FlowId) (bs : List Book) → Pins x.flow pins
        → (os : List (Option ScriptTry)) → Each (DifferInFlow (Some x)) os → Each (IsOwnTry bs) os
        → Each (IsOwnTry (books_left app pins bs)) os
    own_later x app pins bs are [] differ own = tt
    own_later x app pins bs are (None ∷ os) differ own = (tt, own_later x app pins bs are os differ.1 own.1)
    own_later x app pins bs are (Some y ∷ os) differ own = (
      held_pins app x.flow pins bs y.flow y.app are (same_sym y.flow x.flow ∙ differ.0) own.0,
      own_later x app pins bs are os differ.1 own.1,
    )

    pub left_books : (order : Order) (p : ℕ) (ls ws : List Lane) (gs : List (Leaving (List Script))) (bs : List Book)
        → AreParts order p (all_in_tick t ls) ws → AreSetTo (tries ls) ls
        → AreLeavings t (tries ls) (all_in_tick t ls) ws gs → AreApart bs → ArePairs DifferInFlow (tries ls)
        → Each (IsOwnTry bs) (tries ls)
        → books_after gs bs ≡ phased.books_after (all_in_tick t ls) ws bs
    left_books order p [] ws gs bs parts set left apart differ own =
        ap (λ (l : List (Leaving (List Script))). books_after l bs) left
    left_books order p (l ∷ ls) [] gs bs parts set left apart differ own = absurd parts
    left_books order p (lanes.Core l ∷ ls) (lanes.App w ∷ ws) gs bs parts set left apart differ own =
        absurd parts.0.deeds
    left_books order p (lanes.App l ∷ ls) (lanes.Core w ∷ ws) gs bs parts set left apart differ own =
        absurd parts.0.deeds
    left_books order p (lanes.Core l ∷ ls) (lanes.Core w ∷ ws) gs bs parts set (a, b, both, none, left) apart differ
        own =
        ap (λ (g : List (Leaving (List Script))). books_after g bs) (both ∙ ap (λ g. g ++ b) none)
        ∙ left_books order (suc p) ls ws b bs parts.1 set.1 left apart differ.1 own.1
    left_books order p (lanes.App l ∷ ls) (lanes.App w ∷ ws) gs bs parts set (a, b, both, one, left) apart differ own =
        ap (λ (g : List (Leaving (List Script))). books_after g bs) both
        ∙ (fold-append (book_after {S = List Script}) bs a b
        ∙ by (try_in t books (find (has_number l.app.number) scripts)) refl set.0 one differ.0 own.0
        (λ still held. left_books order (suc p) ls ws b
        (books_left l.app.number (pin_left (flow_of l.app l.socket) l.attempt w.answer) bs) parts.1 set.1 left still
        differ.1 held))
      where
        pins : List FlowId
        pins = pin_left (flow_of l.app l.socket) l.attempt w.answer

        then_books : List Book
        then_books = books_left l.app.number pins bs

        by : (o : Option ScriptTry) → try_in t books (find (has_number l.app.number) scripts) ≡ o → IsTryBy o l
            → IsLeavingIn t o (in_tick t (lanes.App l)) (lanes.App w) a → Each (DifferInFlow o) (tries ls)
            → IsOwnTry bs o
            → (AreApart then_books → Each (IsOwnTry then_books) (tries ls)
            → books_after b then_books ≡ phased.books_after (all_in_tick t ls) ws then_books)
            → books_after b (books_after a bs) ≡ phased.books_after (all_in_tick t ls) ws then_books
        by None e none gave other held rest =
            let quiet : then_books ≡ bs =
            ap (λ (x : Attempt). books_left l.app.number (pin_left (flow_of l.app l.socket) x w.answer) bs) none in
            ap (λ (g : List (Leaving (List Script))). books_after b (books_after g bs)) gave
            ∙ (ap (books_after b) (sym quiet)
            ∙ rest (subst AreApart (sym quiet) apart)
            (subst (λ (cs : List Book). Each (IsOwnTry cs) (tries ls)) (sym quiet) own.1))
        by (Some x) e of_try gave other held rest =
            let lane = lane_inverse t books scripts l.app.number x e in
            let at = tries_as t books lane.script x lane.tries in
            let here : books_after a bs ≡ then_books =
            lane_books x at.step lane.script l.app.number (flow_of l.app l.socket) l.attempt w.attempt w.answer a bs
            (is_made w.answer) refl (ap (λ (y : ScriptTry). y.call) at.is) (ap (λ (y : ScriptTry). y.offer) at.is)
            (ap (λ (y : ScriptTry). y.holds) at.is) of_try gave apart held in
            let are : Pins x.flow pins =
            subst (λ (f : FlowId). Pins f pins) (sym of_try.flow)
            (pins_of (flow_of l.app l.socket) l.attempt w.answer) in
            ap (books_after b) here
            ∙ rest (apart_pins l.app.number x.flow pins bs are apart)
            (own_later x l.app.number pins bs are (tries ls) other own.1)

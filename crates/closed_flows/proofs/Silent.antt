-- What a closed flow's history grows by sends nothing: one flow, and one call.
use Rattle.std.proofs.Common.{◌≡◌, ℕ, ◌&&◌, not, Bool, true, false, List, [], ◌∷◌, ◌++◌, take, drop, min, max, Option}
use Rattle.std.proofs.Common.{Some, None}
use Rattle.std.proofs.Common.{is_some, refl, sym, subst, ap, ◌∙◌, true≢false, append_assoc, append-nil, eqb, leb, ltb}
use Rattle.std.proofs.lemmas.List.Concat.{flat_map-append}
use Rattle.tas_model.specs.declared.entry.Entry.{Entry}
use Rattle.tas_model.specs.declared.entry.Seg.{Seg}
use Rattle.tas_model.specs.declared.entry.Head.{Head}
use Rattle.tas_model.specs.declared.entry.Reason.{Reason}
use Rattle.tas_model.specs.declared.entry.Reason.TheVariants as reasons
use Rattle.tas_model.specs.declared.entry.Caller.{Caller}
use Rattle.tas_model.specs.declared.entry.Caller.TheVariants.{Slow, App}
use Rattle.tas_model.specs.declared.entry.Call.{Call}
use Rattle.tas_model.specs.declared.entry.Call.TheVariants as calls
use Rattle.tas_model.specs.declared.entry.Reply.{Reply}
use Rattle.tas_model.specs.declared.entry.Reply.TheVariants as replies
use Rattle.tas_model.specs.Endpoint.{Endpoint, is_closed, unread, free}
use Rattle.tas_model.specs.Segments.{Outcome}
use Rattle.tas_model.specs.ApplicationCalls.{Column, Over, column, accept_in, ready_in, send_in}
use Rattle.tas_model.specs.ApplicationCalls.{recv_in, recv_open, recv_given, after_recv, least_update, update_of}
use Rattle.tas_model.specs.ApplicationCalls.{empty_reply, shut_in, close_in, abort_in}
use Rattle.tas_model.specs.NextSegment.{Going, going}
use Rattle.tas_model.specs.LegalHistory.{step, reply_or, shown, taken_bytes, last_tick}
use Rattle.tas_model.specs.Outputs.{sent, segments_in}
use Rattle.tas_model.proofs.Histories.{replay_push}
use Rattle.tas_model.proofs.Tests.{on_cond}
use Rattle.host_rounds.specs.Lists.{Each}
use Rattle.host_rounds.specs.Hosts.{Live, Holder, endpoint, is_over, with_call}
use Rattle.host_rounds.specs.Histories.{HasHistory}
use Rattle.host_rounds.specs.Upkeep.{controlled, timed, timed_unless, emits, emits_where}
use Rattle.host_rounds.specs.Moves.{IsAppCall}
use Rattle.host_rounds.proofs.Lists.{each_append}
use Rattle.host_rounds.proofs.ClosedStays.{closed_stays}
use Rattle.host_rounds.proofs.Filed.{closed_sends_nothing}
use Rattle.host_rounds.proofs.Flows.{on_control}
use Rattle.closed_flows.specs.Silence.{SendsNone, GrewSilently}
use Rattle.closed_flows.proofs.Done.{HasEnded, done_has_ended}

-- ----- histories
pub silent_none : (h : List Entry) → GrewSilently h h
silent_none h = record { more = []; grew = sym (append-nil h); silent = tt }

pub silent_both : (h g k : List Entry) → GrewSilently h g → GrewSilently g k → GrewSilently h k
silent_both h g k a b = record {
  more = a.more ++ b.more;
  grew = b.grew ∙ ap (λ (zs : List Entry). zs ++ b.more) a.grew ∙ append_assoc h a.more b.more;
  silent = each_append SendsNone a.more b.more a.silent b.silent;
}

sent_none : (xs : List Entry) → Each SendsNone xs → sent xs ≡ []
sent_none [] each = refl
sent_none (x ∷ xs) each = ap (λ (s : List Seg). s ++ sent xs) each.0 ∙ sent_none xs each.1

-- it has sent the same segments
pub silent_sent : (h g : List Entry) → GrewSilently h g → sent g ≡ sent h
silent_sent h g a =
    ap sent a.grew
    ∙ (flat_map-append (λ (x : Entry). segments_in x.reply) h a.more
    ∙ (ap (λ (s : List Seg). sent h ++ s) (sent_none a.more a.silent) ∙ append-nil (sent h)))

-- ----- the answers of a closed endpoint
abbrev IsSilent : Reply → Type 0
IsSilent reply = segments_in reply ≡ []

abbrev AnswersSilently : Option Outcome → Type 0
AnswersSilently o = IsSilent (reply_or o replies.Nothing)

empty_silent : (why : Option Reason) (ended : Bool) → IsSilent (empty_reply why ended)
empty_silent (Some why) true = refl
empty_silent (Some why) false = refl
empty_silent None true = refl
empty_silent None false = refl

-- once the peer's FIN was taken, no update is sent
update_none : (e : Endpoint) (n : ℕ) → e.rx.ended ≡ true → update_of e (after_recv e n) ≡ None
update_none e n is =
    on_cond (λ (o : Option Head). o ≡ None)
    (not e.rx.ended && ltb (free e) (least_update e) && leb (least_update e) (free (after_recv e n))) _ None
    (λ t. absurd (true≢false (sym (first t))))
    (λ f. refl)
  where
    first : (not e.rx.ended && ltb (free e) (least_update e) && leb (least_update e) (free (after_recv e n))) ≡ true
        → false ≡ true
    first t = by_ended e.rx.ended is t where
      by_ended : (b : Bool) → b ≡ true
          → (not b && ltb (free e) (least_update e) && leb (least_update e) (free (after_recv e n))) ≡ true
          → false ≡ true
      by_ended true is t = t
      by_ended false is t = absurd (true≢false (sym is))

open_silent : (e : Endpoint) (most : ℕ) → e.rx.ended ≡ true → IsSilent (recv_open e most).reply
open_silent e most is =
    on_cond (λ (o : Outcome). IsSilent o.reply) (eqb (unread e.rx) 0) _ (recv_given e most)
    (λ t. empty_silent e.reason e.rx.ended)
    (λ f. ap (λ (o : Option Head). segments_in (replies.Got (take n (drop e.rx.read e.rx.got)) o)) (update_none e n is))
  where
    n : ℕ
    n = min most (unread e.rx)

recv_silent : (why : Reason) (e : Endpoint) (most : ℕ) → (why ≡ reasons.Done → e.rx.ended ≡ true)
    → IsSilent (recv_in (Over why) e most).reply
recv_silent reasons.Done e most has = open_silent e most (has refl)
recv_silent reasons.Reset e most has = refl
recv_silent reasons.Refused e most has = refl
recv_silent reasons.TimedOut e most has = refl
recv_silent reasons.Aborted e most has = refl

-- what an application calls
app_silent : (e : Endpoint) (why : Reason) (t : ℕ) (by : Caller) (call : Call) (reply : Reply)
    → column e ≡ Over why → (why ≡ reasons.Done → e.rx.ended ≡ true) → IsAppCall by call
    → AnswersSilently (step e t call reply)
unfolding step
app_silent e why t (App k) calls.Accept reply c has app =
    subst (λ (d : Column). AnswersSilently (accept_in d e)) (sym c) refl
app_silent e why t (App k) calls.Ready reply c has app =
    subst (λ (d : Column). IsSilent (ready_in d e).reply) (sym c) refl
app_silent e why t (App k) (calls.Send offered) reply c has app =
    subst (λ (d : Column). AnswersSilently (send_in d e offered (taken_bytes reply))) (sym c) refl
app_silent e why t (App k) (calls.Recv most) reply c has app =
    subst (λ (d : Column). IsSilent (recv_in d e most).reply) (sym c) (recv_silent why e most has)
app_silent e why t (App k) calls.Shut reply c has app =
    subst (λ (d : Column). IsSilent (shut_in d e).reply) (sym c) refl
app_silent e why t (App k) calls.Close reply c has app =
    subst (λ (d : Column). IsSilent (close_in d e).reply) (sym c) refl
app_silent e why t (App k) calls.Abort reply c has app =
    subst (λ (d : Column). IsSilent (abort_in d e).reply) (sym c) refl
app_silent e why t Slow calls.Abort reply c has app =
    subst (λ (d : Column). IsSilent (abort_in d e).reply) (sym c) refl
app_silent e why t by call reply c has app = absurd app

closed_silent : (e : Endpoint) (t : ℕ) (by : Caller) (call : Call) (reply : Reply) → is_closed e ≡ true → HasEnded e
    → IsAppCall by call → AnswersSilently (step e t call reply)
closed_silent e t by call reply over has app = by_reason e.reason refl
  where
    by_reason : (o : Option Reason) → e.reason ≡ o → AnswersSilently (step e t call reply)
    by_reason None r = absurd (true≢false (sym over ∙ ap is_some r))
    by_reason (Some why) r =
        app_silent e why t by call reply (rw r refl) (λ done. has (r ∙ ap (λ (w : Reason). Some w) done)) app

-- ----- one flow
-- The index has the flow as before; where it was closed it stays so, and where the index hadn't it, too, it sent
-- nothing.
pub record Still (l m : Live) : Type 0 where
  pub indexed : m.indexed ≡ l.indexed
  pub over : is_over l ≡ true → is_over m ≡ true
  pub silent : is_over l ≡ true → l.indexed ≡ false → GrewSilently l.flow.entries m.flow.entries

pub still : (l : Live) → Still l l
still l = record { indexed = refl; over = λ h. h; silent = λ h i. silent_none l.flow.entries }

pub still_both : (l m p : Live) → Still l m → Still m p → Still l p
still_both l m p a b = record {
  indexed = b.indexed ∙ a.indexed;
  over = λ h. b.over (a.over h);
  silent = λ h i. silent_both l.flow.entries m.flow.entries p.flow.entries (a.silent h i)
      (b.silent (a.over h) (a.indexed ∙ i));
}

-- a closed flow stays so
call_over : (by : Caller) (t : ℕ) (call : Call) (offer : List ℕ) (l : Live) → HasHistory l → is_over l ≡ true
    → is_over (with_call l by t call offer) ≡ true
call_over by t call offer l legal over =
    ap is_closed (replay_push l.flow.params l.flow.entries _ legal)
    ∙ closed_stays (endpoint l) (max t (last_tick 0 l.flow.entries)) call
    (reply_or (step (endpoint l) (max t (last_tick 0 l.flow.entries)) call (shown (endpoint l) offer)) replies.Nothing)
    over

-- a call on a flow that the index has
pub indexed_still : (by : Caller) (t : ℕ) (call : Call) (offer : List ℕ) (l : Live) → HasHistory l → l.indexed ≡ true
    → Still l (with_call l by t call offer)
indexed_still by t call offer l legal is = record {
  indexed = refl;
  over = call_over by t call offer l legal;
  silent = λ h i. absurd (true≢false (sym is ∙ i));
}

-- a call on an open flow
pub open_still : (by : Caller) (t : ℕ) (call : Call) (offer : List ℕ) (l : Live) → is_over l ≡ false
    → Still l (with_call l by t call offer)
open_still by t call offer l is = record {
  indexed = refl;
  over = λ h. absurd (true≢false (sym h ∙ is));
  silent = λ h i. absurd (true≢false (sym h ∙ is));
}

-- a call of an application
pub app_still : (by : Caller) (t : ℕ) (call : Call) (offer : List ℕ) → IsAppCall by call → (l : Live) → HasHistory l
    → Still l (with_call l by t call offer)
app_still by t call offer app l legal = record {
  indexed = refl;
  over = call_over by t call offer l legal;
  silent = λ h i. record {
    more = _;
    grew = refl;
    silent = (
      closed_silent (endpoint l) (max t (last_tick 0 l.flow.entries)) by call (shown (endpoint l) offer) h
          (done_has_ended l.flow.params l.flow.entries legal) app,
      tt,
    );
  };
}

pub emits_still : (by : Caller) (t : ℕ) (l : Live) → HasHistory l → Still l (emits by t l)
emits_still by t l legal = by_over (is_over l) refl
  where
    by_going : (o : Option Going) → is_over l ≡ false → Still l (emits_where o by t l)
    by_going None is = still l
    by_going (Some g) is = open_still by t calls.Emit [] l is

    by_over : (b : Bool) → is_over l ≡ b → Still l (emits_where (going (endpoint l)) by t l)
    by_over true is =
        subst (λ (o : Option Going). Still l (emits_where o by t l))
        (sym (closed_sends_nothing (endpoint l) is)) (still l)
    by_over false is = by_going (going (endpoint l)) is

-- The same of an open flow, whatever becomes of it.
open_any : (l m : Live) → is_over l ≡ false → m.indexed ≡ l.indexed → Still l m
open_any l m is same = record {
  indexed = same;
  over = λ h. absurd (true≢false (sym h ∙ is));
  silent = λ h i. absurd (true≢false (sym h ∙ is));
}

controlled_index : (by : Caller) (t : ℕ) (l : Live) → (controlled by t l).indexed ≡ l.indexed
controlled_index by t l = on_control (λ (m : Live). m.indexed ≡ l.indexed) _ by t l (λ h. refl) (λ h. refl)

pub timed_still : (by : Caller) (t : ℕ) (l : Live) → Still l (timed by t l)
timed_still by t l = by_over (is_over l) refl
  where
    by_over : (b : Bool) → is_over l ≡ b → Still l (timed_unless b by t l)
    by_over true is = still l
    by_over false is =
        open_any l (controlled by t (with_call l by t calls.Tick [])) is
        (controlled_index by t (with_call l by t calls.Tick []))

-- its socket changes hands
pub holder_still : (l : Live) (holder : Holder) → Still l (record l { holder = holder })
holder_still l holder = record { indexed = refl; over = λ h. h; silent = λ h i. silent_none l.flow.entries }

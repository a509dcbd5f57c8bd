-- The calls of an application: which of them may be made, and what they leave of a flow.
use Rattle.std.proofs.Common.{◌≡◌, ℕ, suc, zero, ◌<◌, true, false, Bool, List, [], ◌∷◌, ◌++◌, Option}
use Rattle.std.proofs.Common.{Some, None, slice_get, Result, Ok, Err, IfOk}
use Rattle.std.specs.Option.{option_map}
use Rattle.std.proofs.Common.{length, OnOk, refl, sym, ap, ◌∙◌, true≢false, arith}
use Rattle.tas_model.specs.declared.entry.Caller.{Caller}
use Rattle.tas_model.specs.declared.entry.Caller.TheVariants.{Slow, Core, App}
use Rattle.tas_model.specs.declared.entry.Call.{Call}
use Rattle.tas_model.specs.declared.entry.Entry.{Entry}
use Rattle.tas_model.specs.declared.entry.HostParams.{HostParams}
use Rattle.tas_model.specs.declared.entry.Phase.{Phase}
use Rattle.tas_model.specs.declared.entry.Reply.{Reply}
use Rattle.tas_model.specs.declared.entry.Reply.TheVariants as replies
use Rattle.tas_model.specs.Endpoint.{is_closed}
use Rattle.tas_model.specs.ApplicationCalls.{Column, Running, column}
use Rattle.tas_model.specs.LegalHistory.{replay, replay_on, opened}
use Rattle.tas_model.proofs.Histories.{replay_on_push}
use Rattle.flow_state.specs.declared.call.CallIn.{CallIn}
use Rattle.flow_state.specs.declared.call.CallIn.TheVariants as ins
use Rattle.flow_state.specs.declared.stage.Stage.{Stage}
use Rattle.flow_state.specs.declared.stage.Stage.TheVariants as stages
use Rattle.flow_state.specs.declared.call.Answer.{Answer}
use Rattle.flow_state.specs.Calls.{IsTimely, call_of, answer_of, is_running as is_running_phase}
use Rattle.flow_state.specs.Flow.{reply_to}
use Rattle.flow_state.specs.App.{IsAppCall, column_of}
use Rattle.host_rounds.specs.Moves.{IsAppCall as IsCallBy}
use Rattle.host_rounds.specs.Lists.{change_at}
use Rattle.host_rounds.specs.Hosts.{Live, Host, endpoint, with_call, last_reply, answer_of as last_answer}
use Rattle.host_rounds.proofs.ClosedStays.{closed_stays}
use Rattle.local_host.specs.Ports.{MayAsk}
use Rattle.local_host.proofs.Indexing.{Keeps}
use Rattle.local_host.proofs.Standing.{Calms, Stays}

-- ----- which may be made
abbrev runs : Column → Bool
runs col = elim col [ Running ↦ true | _ ↦ false ]

running_stage : (s : Stage) (col : Column) → column_of s ≡ col → runs col ≡ true → s ≡ stages.Running
running_stage stages.Running col at may = refl
running_stage stages.Opening col at may = absurd (true≢false (sym (ap runs at ∙ may)))
running_stage (stages.Over why) col at may = absurd (true≢false (sym (ap runs at ∙ may)))

-- each is timely, an Accept by the column of the table of calls
pub asked_timely : (phase : Phase) (s : Stage) (l : Live) (call : CallIn) → column_of s ≡ column (endpoint l)
    → (s ≡ stages.Running → is_running_phase phase ≡ true) → IsAppCall call → MayAsk l call → IsTimely phase call
asked_timely phase s l (ins.Connect iss) at running kind may = absurd kind
asked_timely phase s l (ins.Passive frame iss seg) at running kind may = absurd kind
asked_timely phase s l (ins.Rx frame seg) at running kind may = absurd kind
asked_timely phase s l ins.Emit at running kind may = absurd kind
asked_timely phase s l ins.Tick at running kind may = absurd kind
asked_timely phase s l ins.Control at running kind may = absurd kind
asked_timely phase s l ins.Accept at running kind may = running (running_stage s (column (endpoint l)) at may)
asked_timely phase s l ins.Ready at running kind may = tt
asked_timely phase s l (ins.Send bytes) at running kind may = tt
asked_timely phase s l (ins.Recv most) at running kind may = tt
asked_timely phase s l ins.Shut at running kind may = tt
asked_timely phase s l ins.Close at running kind may = tt
asked_timely phase s l ins.Abort at running kind may = tt

-- the slow path's Abort among them
pub call_kind : (by : Caller) (call : CallIn) → IsCallBy by (call_of call) → IsAppCall call
call_kind Slow (ins.Connect iss) kind = absurd kind
call_kind (Core k) (ins.Connect iss) kind = absurd kind
call_kind (App k) (ins.Connect iss) kind = absurd kind
call_kind Slow (ins.Passive frame iss seg) kind = absurd kind
call_kind (Core k) (ins.Passive frame iss seg) kind = absurd kind
call_kind (App k) (ins.Passive frame iss seg) kind = absurd kind
call_kind Slow (ins.Rx frame seg) kind = absurd kind
call_kind (Core k) (ins.Rx frame seg) kind = absurd kind
call_kind (App k) (ins.Rx frame seg) kind = absurd kind
call_kind Slow ins.Emit kind = absurd kind
call_kind (Core k) ins.Emit kind = absurd kind
call_kind (App k) ins.Emit kind = absurd kind
call_kind Slow ins.Tick kind = absurd kind
call_kind (Core k) ins.Tick kind = absurd kind
call_kind (App k) ins.Tick kind = absurd kind
call_kind Slow ins.Control kind = absurd kind
call_kind (Core k) ins.Control kind = absurd kind
call_kind (App k) ins.Control kind = absurd kind
call_kind by ins.Accept kind = tt
call_kind by ins.Ready kind = tt
call_kind by (ins.Send bytes) kind = tt
call_kind by (ins.Recv most) kind = tt
call_kind by ins.Shut kind = tt
call_kind by ins.Close kind = tt
call_kind by ins.Abort kind = tt

-- ----- what they leave
-- a closed flow stays closed, whatever the call
over_push : (params : HostParams) (h : List Entry) (x : Entry) → is_closed (replay params h) ≡ true
    → is_closed (replay params (h ++ x ∷ [])) ≡ true
unfolding replay
over_push params [] x over = absurd (true≢false (sym over))
over_push params (y ∷ ys) x over =
    ap is_closed (replay_on_push (opened params y.call) ys x)
    ∙ closed_stays (replay_on (opened params y.call) ys) x.tick x.call x.reply over

abbrev pub asked : Caller → (tick : ℕ) → Call → (offer : List ℕ) → Live → Live
asked by t call offer l = with_call l by t call offer

pub asked_keeps : (by : Caller) (t : ℕ) (call : Call) (offer : List ℕ) → Keeps (asked by t call offer)
asked_keeps by t call offer = record { same = λ l. record { tuple = refl; id = refl; index = λ h. h } }

pub asked_calms : (by : Caller) (t : ℕ) (call : Call) (offer : List ℕ) → Calms (asked by t call offer)
asked_calms by t call offer l at = record {
  over = over_push l.flow.params l.flow.entries _ at.over;
  index = at.index;
}

pub asked_stays : (by : Caller) (t : ℕ) (call : Call) (offer : List ℕ) → Stays (asked by t call offer)
asked_stays by t call offer l = refl

-- the last reply is the new entry's
last_push : (r : Reply) (h : List Entry) (x : Entry) → last_reply r (h ++ x ∷ []) ≡ x.reply
last_push r [] x = refl
last_push r (y ∷ ys) x = last_push y.reply ys x

get_changed : (f : Live → Live) (ls : List Live) (i : ℕ) (l : Live) → slice_get ls i ≡ Some l
    → slice_get (change_at i f ls) i ≡ Some (f l)
get_changed f [] i l here = absurd (cc (here))
get_changed f (m ∷ ls) zero l here = ap (λ (o : Option Live). option_map f o) here
get_changed f (m ∷ ls) (suc i) l here = get_changed f ls i l here

there_is : (ls : List Live) (i : ℕ) → i < length ls → (l : Live) × (slice_get ls i ≡ Some l)
there_is [] i low = absurd (omega (arith, low))
there_is (m ∷ ls) zero low = (m, refl)
there_is (m ∷ ls) (suc i) low = there_is ls i (omega (arith, low))

abbrev reply_at : Option Live → Reply
reply_at o = elim o [ None ↦ replies.Nothing | Some l ↦ last_reply replies.Nothing l.flow.entries ]

-- the answer is that of the flow's last reply
pub answered : {E : Type 0} (r : Result Answer E) (by : Caller) (t : ℕ) (call : Call) (offer : List ℕ) (i : ℕ)
    (ls : List Live) (host : Host) → i < length ls → OnOk r (host.flows ≡ change_at i (asked by t call offer) ls)
    → ((l : Live) → slice_get ls i ≡ Some l
    → IfOk r (λ (a : Answer). a ≡ answer_of (reply_to l.flow.params l.flow.entries t call offer)))
    → IfOk r (λ (a : Answer). a ≡ answer_of (last_answer i host))
answered {E} (Err e) by t call offer i ls host low made told = tt
answered {E} (Ok a) by t call offer i ls host low made told =
    let l : Live = (there_is ls i low).0 in
    let here : slice_get ls i ≡ Some l = (there_is ls i low).1 in
    let now : slice_get host.flows i ≡ Some (asked by t call offer l) = ap (λ (ms : List Live). slice_get ms i) made
    ∙ get_changed (asked by t call offer) ls i l here in
    told l here ∙ ap answer_of (sym (ap reply_at now ∙ last_push replies.Nothing l.flow.entries _))

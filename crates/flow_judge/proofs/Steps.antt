-- Which calls are no step, and what a tried call shows.
use Rattle.std.proofs.Common.{◌≡◌, ℕ, ◌<◌, ◌^◌, ◌↔◌, Bool, true, false, List, length}
use Rattle.std.specs.Prelude.{IfSome, IsTrue}
use Rattle.std.proofs.Common.{Option, Some, None, is_some, IsSome, refl, sym, ap, subst, ◌∙◌}
use Rattle.tas_model.specs.declared.entry.HostParams.{HostParams}
use Rattle.tas_model.specs.declared.entry.Phase.{Phase}
use Rattle.tas_model.specs.declared.entry.Phase.TheVariants as phases
use Rattle.tas_model.specs.declared.entry.Caller.{Caller}
use Rattle.tas_model.specs.declared.entry.Call.{Call}
use Rattle.tas_model.specs.declared.entry.Call.TheVariants as calls
use Rattle.tas_model.specs.declared.entry.Entry.{Entry}
use Rattle.tas_model.specs.declared.entry.Reply.{Reply}
use Rattle.tas_model.specs.Endpoint.{Endpoint, phase}
use Rattle.tas_model.specs.Segments.{Outcome}
use Rattle.tas_model.specs.Valid.{InRange}
use Rattle.tas_model.specs.ApplicationCalls.{Column, column, accept_in}
use Rattle.tas_model.specs.NextSegment.{Going, going, emitted}
use Rattle.tas_model.specs.Timers.{ticks, tick_in, filled}
use Rattle.tas_model.specs.LegalHistory.{step, replay, Legal, Gives, control_in, extended_by}
use Rattle.tas_model.specs.LegalHistory.{taken_bytes}
use Rattle.tas_model.proofs.ValidCalls.{valid_replay}
use Rattle.flow_state.specs.declared.call.Answer.{Answer}
use Rattle.flow_state.specs.declared.call.CallIn.{CallIn}
use Rattle.flow_state.specs.declared.call.CallIn.TheVariants as ins
use Rattle.flow_state.specs.declared.parts.Parts.{Parts}
use Rattle.flow_state.specs.declared.stage.Stage.{Stage}
use Rattle.flow_state.specs.declared.stage.Stage.TheVariants as stages
use Rattle.flow_state.specs.App.{column_of}
use Rattle.flow_state.specs.Calls.{call_of, offer_of, answer_of, is_closed_phase}
use Rattle.flow_state.specs.Flow.{Flow, reply_to}
use Rattle.flow_state.specs.Stands.{Stands}
use Rattle.fast_tx.specs.Piece.{IsEmission}
use Rattle.fast_tx.proofs.Told.{serves_is}
use Rattle.flow_state.specs.Calls.{reply_bytes}
use Rattle.flow_state.specs.Flow.{last_reply}
use Rattle.flow_state.proofs.Looking.{last_reply_push}
use Rattle.flow_judge.specs.Trials.{trial, offer, IsWithin, Answers, tried_entry}
use Rattle.flow_judge.specs.Making.{HasNoStep, is_running_stage, IsMade, Tries, IsTried, Confirms, Denies}
use Rattle.flow_judge.proofs.Sends.{same_step, send_over}
use Rattle.flow_judge.proofs.Entries.{replies_so}

-- ----- no step
accept_none : (s : Stage) (e : Endpoint) → is_running_stage s ≡ false → accept_in (column_of s) e ≡ None
accept_none stages.Opening e h = refl
accept_none (stages.Over why) e h = refl
accept_none stages.Running e h = absurd (cc (h))

control_none : (s : Stage) (e : Endpoint) → is_running_stage s ≡ false → control_in (column_of s) e ≡ None
control_none stages.Opening e h = refl
control_none (stages.Over why) e h = refl
control_none stages.Running e h = absurd (cc (h))

pub no_accept : (e : Endpoint) (s : Stage) → column_of s ≡ column e → is_running_stage s ≡ false
    → HasNoStep e calls.Accept
unfolding step
no_accept e s same h tick reply = ap (λ (c : Column). accept_in c e) (sym same) ∙ accept_none s e h

pub no_control : (e : Endpoint) (s : Stage) → column_of s ≡ column e → is_running_stage s ≡ false
    → HasNoStep e calls.Control
unfolding step
no_control e s same h tick reply = ap (λ (c : Column). control_in c e) (sym same) ∙ control_none s e h

tick_none : (p : Phase) (e : Endpoint) (t : ℕ) → is_closed_phase p ≡ true → tick_in p e t ≡ None
tick_none phases.Closed e t h = refl
tick_none _ e t h = absurd (cc (h))

pub no_tick : (e : Endpoint) (p : Phase) → p ≡ phase e → is_closed_phase p ≡ true → HasNoStep e calls.Tick
unfolding step ticks
no_tick e p same h tick reply =
    ap (λ (q : Phase). tick_in q (record e { rate = filled e.rate }) tick) (sym same)
    ∙ tick_none p (record e { rate = filled e.rate }) tick h

pub no_emission : (params : HostParams) (h : List Entry) (p : Parts) (o : Option Answer) → InRange params
    → Legal params h → Stands p (replay params h) → (IsSome o ↔ IsEmission p ins.Emit) → o ≡ None
    → HasNoStep (replay params h) calls.Emit
unfolding step
no_emission params h p o fits legal stands serves none tick reply =
    by_going (going (replay params h)) refl where
      by_going : (g : Option Going) → going (replay params h) ≡ g → emitted (going (replay params h)) ≡ None
      by_going None is = ap emitted is
      by_going (Some g) is =
          let some : IsSome (going (replay params h)) = ap (λ (x : Option Going). is_some x) is in
          let served : IsSome o = serves.1
          ((serves_is p (replay params h) (valid_replay params h fits legal) stands).1 some) in
          absurd (cc (served, none))

-- a call of no flow that stands
pub no_opening : (e : Endpoint) (call : Call) (tick : ℕ) (reply : Reply) → step e tick call reply ≡ None
    → Gives (step e tick call reply) reply → ⊥
no_opening e call tick reply none gives = subst (λ (o : Option Outcome). Gives o reply) none gives

-- ----- what a tried call shows
-- What was made of the call is what was tried of the entry.
pub tried : (o : Option Answer) (before after : Flow) (x : Entry) (call : CallIn) → IsWithin x.call x.reply
    → call_of call ≡ trial x → offer_of call ≡ offer x → IsMade o before after x.caller x.tick call
    → IsTried o before after x
tried None before after x call within same_call same_offer made = λ tick gives.
    let none : step (replay before.params before.entries) tick x.call x.reply ≡ None =
    sym (same_step (replay before.params before.entries) tick x.call x.reply within)
    ∙ (ap (λ (c : Call). step (replay before.params before.entries) tick c x.reply) (sym same_call)
    ∙ made tick x.reply) in
    no_opening (replay before.params before.entries) x.call tick x.reply none gives
tried (Some a) before after x call within same_call same_offer made = record {
  within = within;
  entries = made.entries
      ∙ (ap (λ (c : Call). extended_by before.params before.entries x.caller x.tick c (offer_of call)) same_call
      ∙ ap (extended_by before.params before.entries x.caller x.tick (trial x)) same_offer);
  answers = made.answers
      ∙ (ap (λ (c : Call). answer_of (reply_to before.params before.entries x.tick c (offer_of call))) same_call
      ∙ ap (λ (bytes : List ℕ). answer_of (reply_to before.params before.entries x.tick (trial x) bytes))
      same_offer);
}

-- an entry that got another reply
pub denied_by_reply : (f : Flow) (x : Entry) → IsWithin x.call x.reply
    → ((tried_entry f.params f.entries x).reply ≡ x.reply → ⊥) → Denies f x
denied_by_reply f x within other h same last may =
    other (replies_so f.params f.entries h x within same last may)

-- what came of an engine's call
pub made_by : (o : Option Answer) (before after : Flow) (caller : Caller) (tick : ℕ) (call : CallIn)
    → IfSome o (λ a. after.entries
    ≡ extended_by before.params before.entries caller tick (call_of call) (offer_of call))
    → IfSome o (λ a. a ≡ answer_of (reply_to before.params before.entries tick (call_of call) (offer_of call)))
    → (o ≡ None → HasNoStep (replay before.params before.entries) (call_of call))
    → IsMade o before after caller tick call
made_by None before after caller tick call entries answers none = none refl
made_by (Some a) before after caller tick call entries answers none =
    record { entries = entries; answers = answers }

-- ----- whether the reply is the entry's
-- the reply that was got has this answer and these bytes
got_reply : (before after : Flow) (x : Entry) (bytes : List ℕ) (answer : Answer) → Tries answer before after x
    → bytes ≡ reply_bytes (last_reply after.entries)
    → bytes ≡ reply_bytes (tried_entry before.params before.entries x).reply
got_reply before after x bytes answer tries last =
    last ∙ ap reply_bytes (ap last_reply tries.entries
    ∙ last_reply_push before.entries (tried_entry before.params before.entries x))

pub confirmed : (before after : Flow) (x : Entry) (bytes : List ℕ) (answer : Answer) (same : Bool)
    → Legal before.params before.entries → Legal after.params after.entries → after.params ≡ before.params
    → length after.entries < 2 ^ 64 → Tries answer before after x → bytes ≡ reply_bytes (last_reply after.entries)
    → ((m : Reply) → answer ≡ answer_of m → bytes ≡ reply_bytes m → IsTrue same ↔ m ≡ x.reply)
    → same ≡ true → Confirms before after x
confirmed before after x bytes answer same legal more params few tries last tells is = record {
  within = tries.within;
  legal = legal;
  more = subst (λ (p : HostParams). Legal p after.entries) params more;
  entries = tries.entries;
  reply = (tells (tried_entry before.params before.entries x).reply tries.answers
      (got_reply before after x bytes answer tries last)).0 is;
  few = few;
}

pub denied : (before after : Flow) (x : Entry) (bytes : List ℕ) (answer : Answer) (same : Bool)
    → Tries answer before after x → bytes ≡ reply_bytes (last_reply after.entries)
    → ((m : Reply) → answer ≡ answer_of m → bytes ≡ reply_bytes m → IsTrue same ↔ m ≡ x.reply)
    → same ≡ false → Denies before x
denied before after x bytes answer same tries last tells is =
    denied_by_reply before x tries.within (λ e.
    let yes_ : same ≡ true = (tells (tried_entry before.params before.entries x).reply tries.answers
    (got_reply before after x bytes answer tries last)).1 e in
    absurd (cc (yes_, is)))

-- ----- a Send
-- an endpoint takes no more than was offered
pub never_over : (e : Endpoint) (x : Entry) (offered : ℕ) → x.call ≡ calls.Send offered
    → offered < length (taken_bytes x.reply) → (tick : ℕ) → Answers e tick x → ⊥
never_over e x offered same over tick answers =
    send_over e tick offered x.reply over (subst (λ (c : Call). Gives (step e tick c x.reply) x.reply) same answers)

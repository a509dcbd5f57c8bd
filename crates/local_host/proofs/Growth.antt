-- What the Sends of a flow took, once its history has one entry more.
use Rattle.std.proofs.Common.{◌≡◌, ℕ, ◌≤◌, List, [], ◌∷◌, ◌++◌, length, take, min, max, sym, ap, subst, ◌∙◌, arith}
use Rattle.std.proofs.Common.{append-nil, length-take}
use Rattle.std.proofs.lemmas.List.Concat.{flat_map-append}
use Rattle.tas_model.specs.declared.entry.HostParams.{HostParams}
use Rattle.tas_model.specs.declared.entry.Caller.{Caller}
use Rattle.tas_model.specs.declared.entry.Entry.{Entry}
use Rattle.tas_model.specs.declared.entry.Call.TheVariants as calls
use Rattle.tas_model.specs.declared.entry.Reply.{Reply}
use Rattle.flow_state.specs.declared.call.Answer.{Answer}
use Rattle.flow_state.specs.Calls.{answer_of}
use Rattle.flow_state.specs.Flow.{reply_to}
use Rattle.tas_model.specs.Outputs.{accepted}
use Rattle.tas_model.specs.Valid.{InRange}
use Rattle.tas_model.specs.LegalHistory.{Legal, replay, taken_bytes, extended_by, last_tick, next_number}
use Rattle.tas_model.proofs.MovesLaws.{out_is_accepted}
use Rattle.local_host.specs.Live.{took}
use Rattle.local_host.proofs.Taken.{send_takes, took_tells}

accepted_push : (h : List Entry) (x : Entry) → accepted (h ++ x ∷ []) ≡ accepted h ++ taken_bytes x.reply
accepted_push h x = flat_map-append (λ (y : Entry). taken_bytes y.reply) h (x ∷ [])
    ∙ ap (λ (bs : List ℕ). accepted h ++ bs) (append-nil (taken_bytes x.reply))

-- it grows by what the entry's reply took
pub out_push : (params : HostParams) (h : List Entry) (x : Entry) → InRange params → Legal params h
    → Legal params (h ++ x ∷ []) → (replay params (h ++ x ∷ [])).tx.out
    ≡ (replay params h).tx.out ++ taken_bytes x.reply
out_push params h x fits legal after =
    out_is_accepted params (h ++ x ∷ []) fits after
    ∙ (accepted_push h x ∙ ap (λ (bs : List ℕ). bs ++ taken_bytes x.reply)
    (sym (out_is_accepted params h fits legal)))

-- a Send makes them longer by the first bytes of its offer, as many as its answer says
pub out_sent : (params other : HostParams) (h after : List Entry) (caller : Caller) (tick offered n : ℕ)
    (offer : List ℕ) (answer : Answer) → other ≡ params
    → after ≡ extended_by params h caller tick (calls.Send offered) offer
    → answer ≡ answer_of (reply_to params h tick (calls.Send offered) offer) → n ≡ took answer → InRange params
    → Legal params h → Legal other after
    → (n ≤ length offer) × ((replay other after).tx.out ≡ (replay params h).tx.out ++ take n offer)
out_sent params other h after caller tick offered n offer answer same grown told many fits legal still =
    let r : Reply = reply_to params h tick (calls.Send offered) offer in
    let x : Entry = record {
      caller = caller;
      number = next_number caller h;
      tick = max tick
          (last_tick 0 h);
      call = calls.Send offered;
      reply = r;
    } in
    let count : n ≡ length (taken_bytes r) = many ∙ (ap took told ∙ took_tells r) in
    let front : taken_bytes r ≡ take (length (taken_bytes r)) offer = send_takes (replay params h)
    (max tick (last_tick 0 h)) offered offer in
    let here : taken_bytes r ≡ take n offer = front ∙ ap (λ (k : ℕ). take k offer) (sym count) in
    let short : length (taken_bytes r) ≡ min (length (taken_bytes r)) (length offer) = ap length front
    ∙ length-take (length (taken_bytes r)) offer in (
      omega (arith, count, short),
      ap (λ (p : HostParams). (replay p after).tx.out) same ∙ (ap (λ (es : List Entry). (replay params es).tx.out) grown
          ∙ (out_push params h x fits legal (subst (Legal params) grown
          (subst (λ (p : HostParams). Legal p after) same still))
          ∙ ap (λ (bs : List ℕ). (replay params h).tx.out ++ bs) here)),
    )

-- A record with so many quiet ticks more.
use Rattle.std.proofs.Common.{◌≡◌, ℕ, zero, suc, ◌+◌, ◌^◌, ◌<◌, ◌≤◌, cond, List, [], ◌∷◌, ◌++◌, length, max, Option}
use Rattle.std.proofs.Common.{Bool, true, false, refl, sym, ◌∙◌, ap, subst, arith}
use Rattle.std.proofs.Common.{length-append, append_assoc, append-nil, None, Some}
use Rattle.tas_model.specs.declared.entry.HostParams.{HostParams}
use Rattle.tas_model.specs.declared.entry.Entry.{Entry}
use Rattle.tas_model.specs.declared.entry.Caller.{Caller}
use Rattle.tas_model.specs.declared.entry.Caller.TheVariants.{Slow}
use Rattle.tas_model.specs.declared.entry.Call.TheVariants as calls
use Rattle.tas_model.specs.declared.entry.Reply.TheVariants as replies
use Rattle.tas_model.specs.Outputs as outputs
use Rattle.tas_model.specs.Segments.{Outcome}
use Rattle.tas_model.specs.Valid.{InRange}
use Rattle.tas_model.proofs.ValidCalls.{valid_replay}
use Rattle.tas_model.specs.LegalHistory.{Legal, replay, extended_by, last_tick, next_number, same_caller}
use Rattle.tas_model.specs.LegalHistory.{step, shown, reply_or}
use Rattle.flow_state.specs.declared.parts.Parts.{Parts}
use Rattle.flow_state.specs.declared.call.CallIn.TheVariants as ins
use Rattle.flow_state.specs.declared.call.Answer.TheVariants as answers
use Rattle.flow_state.specs.declared.slot.Slot.{Slot}
use Rattle.flow_state.specs.declared.slot.CallSlot.TheVariants as cs
use Rattle.flow_state.specs.declared.slot.ReplySlot.TheVariants as rs
use Rattle.flow_state.specs.declared.counts.CallerCount.{CallerCount}
use Rattle.flow_state.specs.declared.stretch.Stretch.{Stretch}
use Rattle.flow_state.specs.Application.{application_of}
use Rattle.flow_state.specs.Arena.{Memory}
use Rattle.flow_state.specs.Counts.{counted_for}
use Rattle.flow_state.specs.Flow.{next_entry, ticked_on, reply_to}
use Rattle.flow_state.specs.Made.{IsMadeWith, AreQuietTicks, IsLoud, IsLoudTick, is_quiet}
use Rattle.flow_state.specs.Record.{IsRecord}
use Rattle.flow_state.specs.Stands.{Stands}
use Rattle.flow_state.specs.Stretches.{quiet_tick, quiet_ticks, entries_of, AddedTicks}
use Rattle.flow_state.proofs.Acting.{follows, sent_push}
use Rattle.flow_state.proofs.Counting.{number_push}
use Rattle.flow_state.proofs.Owning.{application_push, or_none}
use Rattle.flow_state.proofs.Runs.{ticks_push, last_push, length_ticks}

-- ----- what so many quiet ticks leave of a history
-- one more behind the others
push_tick : (h : List Entry) (m t n : ℕ) → h ++ quiet_ticks Slow m t (suc n)
    ≡ (h ++ quiet_ticks Slow m t n) ++ quiet_tick Slow (m + n) (t + n) ∷ []
push_tick h m t n =
    ap (λ (xs : List Entry). h ++ xs) (ticks_push Slow m t n)
    ∙ sym (append_assoc h (quiet_ticks Slow m t n) (quiet_tick Slow (m + n) (t + n) ∷ []))

no_ticks : (h : List Entry) (m t : ℕ) → h ++ quiet_ticks Slow m t 0 ≡ h
no_ticks h m t = append-nil h

plus_cond : (b : Bool) (n : ℕ) → cond b n 0 + cond b 1 0 ≡ cond b (suc n) 0
plus_cond true n = omega arith
plus_cond false n = refl

none_cond : (b : Bool) (n : ℕ) → n ≡ 0 → cond b n 0 ≡ n
none_cond true n e = refl
none_cond false n e = sym e

pub numbers_on : (c : Caller) (h : List Entry) (m t n : ℕ)
    → next_number c (h ++ quiet_ticks Slow m t n) ≡ next_number c h + cond (same_caller Slow c) n 0
numbers_on c h m t zero =
    let none = none_cond (same_caller Slow c) 0 refl in
    ap (next_number c) (no_ticks h m t) ∙ omega (arith, none)
numbers_on c h m t (suc n) =
    let one = plus_cond (same_caller Slow c) n in
    let before = numbers_on c h m t n in
    let more = number_push c (h ++ quiet_ticks Slow m t n) (quiet_tick Slow (m + n) (t + n)) in
    ap (next_number c) (push_tick h m t n) ∙ omega (arith, one, before, more)

pub last_on : (h : List Entry) (m t n : ℕ) → t ≡ last_tick 0 h + 1
    → last_tick 0 (h ++ quiet_ticks Slow m t n) ≡ last_tick 0 h + n
last_on h m t zero next = ap (last_tick 0) (no_ticks h m t) ∙ omega arith
last_on h m t (suc n) next =
    ap (last_tick 0) (push_tick h m t n)
    ∙ (last_push 0 (h ++ quiet_ticks Slow m t n) (quiet_tick Slow (m + n) (t + n)) ∙ omega (arith, next))

pub application_on : (h : List Entry) (m t n : ℕ) → application_of (h ++ quiet_ticks Slow m t n) ≡ application_of h
application_on h m t zero = ap application_of (no_ticks h m t)
application_on h m t (suc n) =
    ap application_of (push_tick h m t n)
    ∙ (application_push (h ++ quiet_ticks Slow m t n) (quiet_tick Slow (m + n) (t + n))
    ∙ (or_none (application_of (h ++ quiet_ticks Slow m t n)) ∙ application_on h m t n))

pub sent_on : (h : List Entry) (m t n : ℕ)
    → length (outputs.sent (h ++ quiet_ticks Slow m t n)) ≡ length (outputs.sent h)
sent_on h m t zero = ap (λ (es : List Entry). length (outputs.sent es)) (no_ticks h m t)
sent_on h m t (suc n) =
    let more = sent_push (h ++ quiet_ticks Slow m t n) (quiet_tick Slow (m + n) (t + n)) in
    let before = sent_on h m t n in
    ap (λ (es : List Entry). length (outputs.sent es)) (push_tick h m t n) ∙ omega (arith, more, before)

-- ----- so many ticks
record TicksFollow (params : HostParams) (h : List Entry) (t n : ℕ) (after : Parts) : Type 0 where
  legal : Legal params (h ++ quiet_ticks Slow (next_number Slow h) t n)
  stands : Stands after (replay params (h ++ quiet_ticks Slow (next_number Slow h) t n))
  exact : h ++ quiet_ticks Slow (next_number Slow h) t n ≡ ticked_on params h t n
  same : after.params ≡ params

abbrev tick_slot : (number : ℕ) → Slot
tick_slot number = record {
  caller = Slow;
  number = number;
  bytes = record { from = 0; len = 0 };
  reply = rs.Quiet;
  call = cs.Tick;
}

ticks_follow : (h : List Entry) (t n : ℕ) (memory : Memory) (before after : Parts) → InRange before.params
    → Legal before.params h → Stands before (replay before.params h) → t ≡ last_tick 0 h + 1
    → AreQuietTicks before t n after → TicksFollow before.params h t n after
ticks_follow h t zero memory before after fits legal stands next ticks =
    let m = next_number Slow h in
    let none : h ≡ h ++ quiet_ticks Slow m t 0 = sym (no_ticks h m t) in
    record {
      legal = subst (Legal before.params) none legal;
      stands = subst (λ (es : List Entry). Stands after (replay before.params es)) none
          (subst (λ (p : Parts). Stands p (replay before.params h)) (sym ticks) stands);
      exact = no_ticks h m t;
      same = ap (λ (p : Parts). p.params) ticks;
    }
ticks_follow h t (suc n) memory before after fits legal stands next ticks =
    let m = next_number Slow h in
    let params = before.params in
    let mid = ticks.0 in
    let told = ticks_follow h t n memory before mid fits legal stands next ticks.1 in
    let hs = h ++ quiet_ticks Slow m t n in
    let number : next_number Slow hs ≡ m + n = numbers_on Slow h m t n in
    let tick : max (t + n) (last_tick 0 hs) ≡ t + n = omega (arith, last_on h m t n next, next) in
    let made : IsMadeWith mid after memory Slow (next_number Slow hs) (max (t + n) (last_tick 0 hs)) ins.Tick
    answers.Quiet (tick_slot (next_number Slow hs)) [] = rw tick (record {
      makes = ticks.2.makes;
      entry = refl;
      within = record { bytes = omega arith; came = tt };
      bytes = omega arith;
    }) in
    let one = follows params hs Slow (t + n) ins.Tick mid after memory answers.Quiet
    (tick_slot (next_number Slow hs)) [] fits told.legal told.stands made in
    let entry : next_entry hs Slow (t + n) calls.Tick replies.Quiet ≡ quiet_tick Slow (m + n) (t + n) =
    cc (number, tick) in
    let all : hs ++ next_entry hs Slow (t + n) calls.Tick replies.Quiet ∷ [] ≡ h ++ quiet_ticks Slow m t (suc n) =
    ap (λ (x : Entry). hs ++ x ∷ []) entry ∙ sym (push_tick h m t n) in
    record {
      legal = subst (Legal params) all one.legal;
      stands = subst (λ (es : List Entry). Stands after (replay params es)) all one.stands;
      exact = sym all ∙ (one.exact
          ∙ ap (λ (es : List Entry). extended_by params es Slow (t + n) calls.Tick []) told.exact);
      same = ticks.2.params ∙ told.same;
    }

-- what so many quiet ticks leave of a record
pub record Ticked (before after : Parts) (memory : Memory) (stretches stretches' : List Stretch)
    (counts : List CallerCount) (app : Option ℕ) (made last segments : ℕ) (t n : ℕ) : Type 0 where
  pub kept : IsRecord after memory stretches' counts app (made + n) (last + n) segments
  pub exact : entries_of memory stretches' ≡ ticked_on before.params (entries_of memory stretches) t n

pub kept_after_ticks : (before after : Parts) (memory : Memory) (stretches stretches' : List Stretch)
    (counts counts' : List CallerCount) (app : Option ℕ) (made last segments number t n : ℕ)
    → IsRecord before memory stretches counts app made last segments → number ≡ counted_for Slow counts
    → AddedTicks stretches stretches' Slow number t n → t + n ≤ 2 ^ 32
    → ((other : Caller) → counted_for other counts' ≡ counted_for other counts + cond (same_caller Slow other) n 0)
    → AreQuietTicks before t n after
    → Ticked before after memory stretches stretches' counts' app made last segments t n
kept_after_ticks before after memory stretches stretches' counts counts' app made last segments number t n is n-is added
    room more ticks =
    let h : List Entry = entries_of memory stretches in
    let m = next_number Slow h in
    let from : number ≡ m = n-is ∙ is.counts Slow in
    let next : t ≡ last_tick 0 h + 1 = added.next memory in
    let all = ticks_follow h t n memory before after is.fits is.legal is.stands next ticks in
    let grown : entries_of memory stretches' ≡ h ++ quiet_ticks Slow m t n = added.entries memory
    ∙ ap (λ (k : ℕ). h ++ quiet_ticks Slow k t n) from in
    let P : HostParams → List Entry → Type 0 = λ p es. Legal p es × Stands after (replay p es) in
    let there : P after.params (entries_of memory stretches') =
    subst (λ (p : HostParams). P p (entries_of memory stretches')) (sym all.same)
    (subst (P before.params) (sym grown) (all.legal, all.stands)) in
    record {
      kept = record {
        fits = subst InRange (sym all.same) is.fits;
        legal = there.0;
        stands = there.1;
        within = added.within (length memory.bytes) (length memory.came) is.within;
        counts = λ c. more c
            ∙ (ap (λ (k : ℕ). k + cond (same_caller Slow c) n 0) (is.counts c)
            ∙ (sym (numbers_on c h m t n) ∙ sym (ap (next_number c) grown)));
        application = is.application ∙ (sym (application_on h m t n) ∙ sym (ap application_of grown));
        made = omega (
          arith,
          is.made,
          ap (length {A = Entry}) grown,
          length-append h (quiet_ticks Slow m t n),
          length_ticks Slow m t n,
        );
        last = omega (arith, is.last, ap (last_tick 0) grown, last_on h m t n next);
        few = omega (arith, is.few, added.same);
        low = omega (arith, is.last, next, room);
        sent = omega (arith, is.sent, ap (λ (es : List Entry). length (outputs.sent es)) grown, sent_on h m t n);
        several = omega (arith, is.several);
      };
      exact = grown ∙ all.exact;
    }

-- ----- the tick behind them
loud_reply : (o : Option Outcome) → IsLoud o → is_quiet (reply_or o replies.Nothing) ≡ false
loud_reply None loud = absurd loud
loud_reply (Some o) loud = loud

-- something comes of a later tick of a record, where it does by its parts
pub loud_next : (params : HostParams) (h : List Entry) (parts : Parts) (t : ℕ) → InRange params → Legal params h
    → Stands parts (replay params h) → last_tick 0 h < t → IsLoudTick parts t
    → is_quiet (reply_to params h t calls.Tick []) ≡ false
loud_next params h parts t fits legal stands later loud =
    let next : ℕ → Option Outcome = λ n. step (replay params h) n calls.Tick (shown (replay params h) []) in
    let is : t ≡ max t (last_tick 0 h) = omega (arith, later) in
    loud_reply (next (max t (last_tick 0 h)))
    (subst (λ (n : ℕ). IsLoud (next n)) is (loud.loud (replay params h) (valid_replay params h fits legal) stands))

-- A record with one entry more.
use Rattle.std.proofs.Common.{◌≡◌, ℕ, ◌+◌, ◌*◌, ◌^◌, ◌<◌, ◌≤◌, cond, List, [], ◌∷◌, ◌++◌, length, max, Option}
use Rattle.std.proofs.Common.{Some, None, refl, sym, ◌∙◌, ap, subst, arith, length-append}
use Rattle.std.specs.Option.{option_or}
use Rattle.std.proofs.Common.{append-nil}
use Rattle.std.proofs.lemmas.List.Concat.{flat_map-append}
use Rattle.tas_model.specs.declared.entry.HostParams.{HostParams}
use Rattle.tas_model.specs.declared.entry.Entry.{Entry}
use Rattle.tas_model.specs.declared.entry.Caller.{Caller}
use Rattle.tas_model.specs.declared.entry.Reply.{Reply}
use Rattle.tas_model.specs.declared.entry.Reply.TheVariants as replies
use Rattle.tas_model.specs.Endpoint.{Endpoint}
use Rattle.tas_model.specs.Segments.{Outcome}
use Rattle.tas_model.specs.declared.entry.Seg.{Seg}
use Rattle.tas_model.specs.Outputs as outputs
use Rattle.tas_model.specs.Outputs.{segments_in}
use Rattle.tas_model.specs.Valid.{InRange}
use Rattle.tas_model.specs.LegalHistory.{Legal, shown, opened, extended_by, reply_or, MayFollow, Gives, IsFirst, replay}
use Rattle.tas_model.specs.LegalHistory.{step, state_or, moved, last_tick, next_number, same_caller}
use Rattle.tas_model.proofs.ValidCalls.{valid_replay}
use Rattle.tas_model.proofs.Histories.{legal_push, replay_push, replay_first}
use Rattle.flow_state.specs.declared.parts.Parts.{Parts}
use Rattle.flow_state.specs.declared.call.CallIn.{CallIn}
use Rattle.flow_state.specs.declared.call.Answer.{Answer}
use Rattle.flow_state.specs.declared.slot.Slot.{Slot}
use Rattle.flow_state.specs.declared.counts.CallerCount.{CallerCount}
use Rattle.flow_state.specs.declared.call.Answer.TheVariants as answers
use Rattle.flow_state.specs.Calls.{call_of, offer_of, reply_of, answer_of, segment_count}
use Rattle.flow_state.specs.Counts.{counted_for, AreCounts}
use Rattle.flow_state.specs.Application.{got_by, application_of}
use Rattle.flow_state.specs.Flow.{next_entry, reply_to}
use Rattle.flow_state.specs.Made.{IsStep, IsMadeWith, IsMadeAt}
use Rattle.flow_state.specs.Record.{IsRecord}
use Rattle.flow_state.specs.declared.stretch.Stretch.{Stretch}
use Rattle.flow_state.specs.declared.stretch.Stretch.TheVariants.{One, Quiet, Paced}
use Rattle.flow_state.specs.Arena.{Memory, Grows}
use Rattle.flow_state.specs.Slots.{entry_of, IsWithin}
use Rattle.flow_state.specs.Stretches.{entries_of, StretchWithin, AllWithin, AllStand, Added}
use Rattle.flow_state.specs.Stands.{Stands}
use Rattle.flow_state.proofs.Counting.{counts_push, counts_first}
use Rattle.flow_state.proofs.Owning.{application_push}
use Rattle.flow_state.proofs.Entries.{entries_kept, call_longer}
use Rattle.flow_state.proofs.Runs.{last_push}
use Rattle.flow_state.proofs.Sending.{step_again, answer_is}

-- what an outcome that is there says
outcome_of : (e : Endpoint) (after : Parts) (answer : Answer) (out : List ℕ) (o : Option Outcome)
    → IsStep after answer out o
    → (p : Outcome) × (o ≡ Some p) × (p.reply ≡ reply_of answer out) × Stands after p.state
outcome_of e after answer out None is = absurd is
outcome_of e after answer out (Some p) is = (p, refl, is.reply, is.state)

-- what was made: the entry may follow, it is the one that the step makes, and the answer is its reply
pub record Follows (params : HostParams) (h : List Entry) (caller : Caller) (tick : ℕ) (call : CallIn) (after : Parts)
    (a : Answer) (x : Entry) : Type 0 where
  pub legal : Legal params (h ++ x ∷ [])
  pub stands : Stands after (replay params (h ++ x ∷ []))
  pub exact : h ++ x ∷ [] ≡ extended_by params h caller tick (call_of call) (offer_of call)
  pub answer : a ≡ answer_of (reply_to params h tick (call_of call) (offer_of call))

pub follows : (params : HostParams) (h : List Entry) (caller : Caller) (tick : ℕ) (call : CallIn) (before after : Parts)
    (memory : Memory) (answer : Answer) (slot : Slot) (out : List ℕ)
    → InRange params → Legal params h → Stands before (replay params h)
    → IsMadeWith before after memory caller (next_number caller h) (max tick (last_tick 0 h)) call answer slot out
    → Follows params h caller tick call after answer (next_entry h caller tick (call_of call) (reply_of answer out))
follows params h caller tick call before after memory answer slot out fits legal stands made =
    let e : Endpoint = replay params h in
    let t : ℕ = max tick (last_tick 0 h) in
    let reply : Reply = reply_of answer out in
    let x : Entry = next_entry h caller tick (call_of call) reply in
    let is : (p : Outcome) × (step e t (call_of call) (shown e (offer_of call)) ≡ Some p) × (p.reply ≡ reply)
    × Stands after p.state =
    outcome_of e after answer out (step e t (call_of call) (shown e (offer_of call)))
    (made.makes e (valid_replay params h fits legal) stands).step in
    let again : step e t (call_of call) reply ≡ Some is.0 =
    subst (λ (r : Reply). step e t (call_of call) r ≡ Some is.0) is.2 (step_again e t call is.0 is.1) in
    let gives : Gives (step e t (call_of call) reply) reply =
    subst (λ (o : Option Outcome). Gives o reply) (sym again) is.2 in
    let to : Stands after (moved e x) = subst (λ (o : Option Outcome). Stands after (state_or e o)) (sym again) is.3 in
    let may : MayFollow params h x = record { step = gives; number = refl; tick = omega arith } in
    let same : reply ≡ reply_to params h tick (call_of call) (offer_of call) =
    sym (ap (λ (o : Option Outcome). reply_or o replies.Nothing) is.1 ∙ is.2) in
    record {
      legal = legal_push params h x legal may;
      stands = subst (Stands after) (sym (replay_push params h x legal)) to;
      exact = ap (λ (r : Reply). h ++ next_entry h caller tick (call_of call) r ∷ []) same;
      answer = sym (answer_is answer out made.bytes) ∙ ap answer_of same;
    }

stretch_longer : (n m k l : ℕ) (s : Stretch) → n ≤ m → k ≤ l → StretchWithin n k s → StretchWithin m l s
stretch_longer n m k l (One t s) le le' is =
    record { bytes = omega (arith, is.bytes); came = call_longer k l s.call le' is.came }
stretch_longer n m k l (Quiet r) le le' is = is
stretch_longer n m k l (Paced r) le le' is = is

within_longer : (n m k l : ℕ) (stretches : List Stretch) → n ≤ m → k ≤ l → AllWithin n k stretches
    → AllWithin m l stretches
within_longer n m k l [] le le' all = tt
within_longer n m k l (s ∷ stretches) le le' all =
    (stretch_longer n m k l s le le' all.0, within_longer n m k l stretches le le' all.1)

-- their entries in memory that grew
entries_push : (old new : Memory) (before after : List Stretch) (t : ℕ) (s : Slot) (x : Entry) → Grows old new
    → AllStand old before → entry_of new t s ≡ x → Added before after t s
    → entries_of new after ≡ entries_of old before ++ x ∷ []
entries_push old new before after t s x grows within is added =
    added.entries new
    ∙ (ap (λ (es : List Entry). es ++ entry_of new t s ∷ []) (entries_kept old new before grows within)
    ∙ ap (λ (y : Entry). entries_of old before ++ y ∷ []) is)

-- ----- segments
segments_are : (a : Answer) (out : List ℕ) → length (segments_in (reply_of a out)) ≡ segment_count a
segments_are answers.Ok out = refl
segments_are answers.Nothing out = refl
segments_are (answers.Sent head len) out = refl
segments_are (answers.Took len) out = refl
segments_are (answers.Got len None) out = refl
segments_are (answers.Got len (Some head)) out = refl
segments_are answers.End out = refl
segments_are answers.NotYet out = refl
segments_are answers.NotOpen out = refl
segments_are answers.Shut out = refl
segments_are (answers.Closed reason) out = refl
segments_are answers.Quiet out = refl
segments_are answers.Resend out = refl
segments_are answers.Probe out = refl
segments_are answers.Expired out = refl
segments_are answers.TimedOut out = refl
segments_are (answers.Window cwnd ssthresh) out = refl

segments_few : (a : Answer) → segment_count a ≤ 1
segments_few answers.Ok = omega arith
segments_few answers.Nothing = omega arith
segments_few (answers.Sent head len) = omega arith
segments_few (answers.Took len) = omega arith
segments_few (answers.Got len None) = omega arith
segments_few (answers.Got len (Some head)) = omega arith
segments_few answers.End = omega arith
segments_few answers.NotYet = omega arith
segments_few answers.NotOpen = omega arith
segments_few answers.Shut = omega arith
segments_few (answers.Closed reason) = omega arith
segments_few answers.Quiet = omega arith
segments_few answers.Resend = omega arith
segments_few answers.Probe = omega arith
segments_few answers.Expired = omega arith
segments_few answers.TimedOut = omega arith
segments_few (answers.Window cwnd ssthresh) = omega arith

pub sent_push : (h : List Entry) (x : Entry)
    → length (outputs.sent (h ++ x ∷ [])) ≡ length (outputs.sent h) + length (segments_in x.reply)
sent_push h x =
    ap length (flat_map-append (λ (y : Entry). segments_in y.reply) h (x ∷ []))
    ∙ (length-append (outputs.sent h) (segments_in x.reply ++ [])
    ∙ ap (λ (segs : List Seg). length (outputs.sent h) + length segs) (append-nil (segments_in x.reply)))

-- what one more entry leaves
pub record Grown (before after : Parts) (old new : Memory) (stretches stretches' : List Stretch)
    (counts : List CallerCount) (app : Option ℕ) (made last segments : ℕ) (caller : Caller) (tick : ℕ) (call : CallIn)
    (a : Answer) : Type 0 where
  pub kept : IsRecord after new stretches' counts app made last segments
  pub exact : entries_of new stretches' ≡ extended_by before.params (entries_of old stretches) caller tick
      (call_of call) (offer_of call)
  pub answer : a ≡ answer_of (reply_to before.params (entries_of old stretches) tick (call_of call) (offer_of call))

-- all that the record keeps true, after one more entry
pub kept_after : (before after : Parts) (old new : Memory) (stretches stretches' : List Stretch) (s : Slot)
    (counts counts' : List CallerCount) (app app' : Option ℕ) (made last segments segments' : ℕ) (caller : Caller)
    (tick number t : ℕ) (call : CallIn) (answer : Answer)
    → IsRecord before old stretches counts app made last segments → after.params ≡ before.params
    → Grows old new → number ≡ counted_for caller counts → t ≡ max tick last → t < 2 ^ 32
    → Added stretches stretches' t s
    → ((other : Caller) → counted_for other counts' ≡ counted_for other counts + cond (same_caller caller other) 1 0)
    → ((out : List ℕ) → app' ≡ option_or app (got_by caller (call_of call) (reply_of answer out)))
    → segments' ≡ segments + segment_count answer
    → IsMadeAt before after new caller number t call answer s
    → Grown before after old new stretches stretches' counts' app' (made + 1) t segments' caller tick call answer
kept_after before after old new stretches stretches' s counts counts' app app' made last segments segments' caller tick
    number t call answer is same grows n-is t-at low added more got counted done =
    let h : List Entry = entries_of old stretches in
    let n-is' : number ≡ next_number caller h = n-is ∙ is.counts caller in
    let t-is : t ≡ max tick (last_tick 0 h) = t-at ∙ ap (max tick) is.last in
    let done' : IsMadeWith before after new caller (next_number caller h)
    (max tick (last_tick 0 h)) call answer s done.0 = rw (← n-is', ← t-is) done.1 in
    let x : Entry = next_entry h caller tick (call_of call) (reply_of answer done.0) in
    let grown : entries_of new stretches' ≡ h ++ x ∷ [] =
    entries_push old new stretches stretches' t s x grows is.within
    (rw t-is done'.entry) added in
    let all = follows before.params h caller tick call before after new answer s done.0 is.fits is.legal is.stands
    done' in
    let P : HostParams → List Entry → Type 0 = λ p es. Legal p es × Stands after (replay p es) in
    let there : P after.params (entries_of new stretches') =
    subst (λ (p : HostParams). P p (entries_of new stretches')) (sym same)
    (subst (P before.params) (sym grown) (all.legal, all.stands)) in
    let few : length stretches + 2 * last_tick 0 h + 1 ≤ length stretches' + 2 * t =
    added.few old (omega (arith, t-is)) in
    record {
      kept = record {
        fits = subst InRange (sym same) is.fits;
        legal = there.0;
        stands = there.1;
        within = added.within (length new.bytes) (length new.came)
            (within_longer (length old.bytes) (length new.bytes) (length old.came) (length new.came) stretches
            grows.longer grows.longer_came is.within) done'.within;
        counts = subst (AreCounts counts') (sym grown) (counts_push counts counts' h x is.counts more);
        application = got done.0
            ∙ (ap (λ (o : Option ℕ). option_or o (got_by caller (call_of call) (reply_of answer done.0))) is.application
            ∙ (sym (application_push h x) ∙ sym (ap application_of grown)));
        made = omega (arith, is.made, ap (length {A = Entry}) grown, length-append h (x ∷ []));
        last = t-is ∙ sym (ap (last_tick 0) grown ∙ last_push 0 h x);
        few = omega (arith, few, is.few, is.last);
        low = low;
        sent = omega (
          arith,
          ap (λ (es : List Entry). length (outputs.sent es)) grown,
          sent_push h x,
          is.sent,
          counted,
          segments_are answer done.0,
        );
        several = omega (arith, is.several, counted, segments_few answer);
      };
      exact = grown ∙ all.exact;
      answer = all.answer;
    }

pub first_entries : (memory : Memory) (stretches : List Stretch) (t : ℕ) (s : Slot) (x : Entry)
    → stretches ≡ One t s ∷ [] → entry_of memory t s ≡ x → entries_of memory stretches ≡ x ∷ []
first_entries memory stretches t s x one is = ap (entries_of memory) one ∙ ap (λ (y : Entry). y ∷ []) is

-- a record with its first entry
pub opens_record : (p : Parts) (params : HostParams) (memory : Memory) (stretches : List Stretch)
    (counts : List CallerCount) (app : Option ℕ) (s : Slot) (x : Entry)
    → x.tick < 2 ^ 32 → InRange params → p.params ≡ params → stretches ≡ One x.tick s ∷ []
    → entry_of memory x.tick s ≡ x
    → IsWithin (length memory.bytes) (length memory.came) s → IsFirst x
    → ((other : Caller) → counted_for other counts ≡ cond (same_caller x.caller other) 1 0)
    → Stands p (opened params x.call)
    → app ≡ got_by x.caller x.call x.reply → IsRecord p memory stretches counts app 1 x.tick 0
opens_record p params memory stretches counts app s x low fits same one is within first counted stands got =
    let entries : entries_of memory stretches ≡ x ∷ [] = first_entries memory stretches x.tick s x one is in
    let P : HostParams → List Entry → Type 0 = λ q es. Legal q es × Stands p (replay q es) in
    let begun : P params (x ∷ []) = ((first, tt), subst (Stands p) (sym (replay_first params x)) stands) in
    let there : P p.params (entries_of memory stretches) =
    subst (λ (q : HostParams). P q (entries_of memory stretches)) (sym same)
    (subst (P params) (sym entries) begun) in
    record {
      fits = subst InRange (sym same) fits;
      legal = there.0;
      stands = there.1;
      within = subst (AllStand memory) (sym one) (within, tt);
      counts = subst (AreCounts counts) (sym entries) (counts_first counts x counted);
      application = got ∙ sym (ap application_of entries ∙ application_push [] x);
      made = sym (ap (length {A = Entry}) entries);
      last = sym (ap (last_tick 0) entries);
      few = omega (arith, ap (length {A = Stretch}) one);
      low = low;
      sent = sym (ap (λ (es : List Entry). length (outputs.sent es)) entries
          ∙ ap (λ (r : Reply). length (segments_in r ++ [])) first.reply);
      several = omega arith;
    }

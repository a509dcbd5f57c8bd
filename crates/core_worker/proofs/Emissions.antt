-- Segments sent one after the other.
use Rattle.std.proofs.Common.{◌≡◌, ℕ, zero, suc, ◌<◌, true, [], ◌∷◌, ◌++◌, ap, sym, ◌∙◌, refl, subst, max}
use Rattle.std.proofs.Common.{append_assoc, append-nil, true≢false, inr}
use Rattle.std.specs.Prelude.{Option, Some, None, is_some, Result, Ok, Err, OnOk, OnErr}
use Rattle.tas_model.specs.declared.entry.Caller.TheVariants.{Core}
use Rattle.tas_model.specs.declared.entry.Call.TheVariants as calls
use Rattle.tas_model.specs.declared.entry.Entry.{Entry}
use Rattle.tas_model.specs.declared.entry.FlowId.{FlowId}
use Rattle.tas_model.specs.declared.entry.Reply.{Reply}
use Rattle.tas_model.specs.declared.entry.Reply.TheVariants.{Nothing}
use Rattle.tas_model.specs.Endpoint.{Endpoint}
use Rattle.tas_model.specs.LegalHistory.{Legal, replay, step, state_or, shown, reply_or, next_number, last_tick}
use Rattle.tas_model.specs.NextSegment.{Going, going}
use Rattle.tas_model.proofs.Histories.{replay_push}
use Rattle.tas_model.proofs.LeftToSend.{falls}
use Rattle.flow_state.specs.Flow.{Flow}
use Rattle.fast_tx.specs.Going.{next_out_of, left_in}
use Rattle.flow_lock.specs.Answers.{IsPinned}
use Rattle.flow_lock.specs.Histories.{IsLonger, longer}
use Rattle.flow_lock.specs.Steps.{unpinned}
use Rattle.flow_lock.specs.declared.view.History.{History}
use Rattle.flow_lock.specs.declared.view.View.{View}
use Rattle.app_reaper.specs.OneCall.{history, IsOwn, IsUse}
use Rattle.core_worker.specs.Sending.{endpoint_of, may_go, with_emission, AreSent, IsPartSent}
use Rattle.core_worker.specs.Sending.{IsSentByPin, IsSent}

-- ----- histories
pub some_out : (g : Option Going) → is_some (next_out_of g) ≡ is_some g
some_out None = refl
some_out (Some g) = refl

-- one segment more
pub sent_more : (core tick n : ℕ) (h k : History) → AreSent core tick n h k → may_go k ≡ true
    → AreSent core tick (suc n) h (with_emission core tick k)
sent_more core tick zero h k e go = (subst (λ x. may_go x ≡ true) e go, ap (with_emission core tick) e)
sent_more core tick (suc n) h k s go = (s.0, sent_more core tick n (with_emission core tick h) k s.1 go)

-- the entry of the next segment
emission : (core tick : ℕ) → History → Entry
emission core tick h =
    let t : ℕ = max tick (last_tick 0 h.entries) in
    let e : Endpoint = endpoint_of h in
    record {
      caller = Core core;
      number = next_number (Core core) h.entries;
      tick = t;
      call = calls.Emit;
      reply = reply_or (step e t calls.Emit (shown e [])) Nothing;
    }

pub longer_by_one : (core tick : ℕ) (h k : History) → IsLonger h k → IsLonger h (with_emission core tick k)
unfolding emission
longer_by_one core tick h k (rest, e) =
    let x : Entry = emission core tick k in
    let one : with_emission core tick k ≡ longer k (x ∷ []) = refl in (
      rest ++ x ∷ [],
      one ∙ (ap (λ l. longer l (x ∷ [])) e ∙ ap (λ l. record h { entries = l }) (append_assoc h.entries rest (x ∷ []))),
    )

emitted_state : (e : Endpoint) (t : ℕ) (reply : Reply) (g : Going) → going e ≡ Some g
    → state_or e (step e t calls.Emit reply) ≡ g.after
unfolding step
emitted_state e t reply g h = rw h refl

-- Once the next segment went, what is left to send is less.
pub less_left : (core tick : ℕ) (h : History) → Legal h.params h.entries → may_go h ≡ true
    → left_in (endpoint_of (with_emission core tick h)) < left_in (endpoint_of h)
unfolding replay emission step
less_left core tick h legal go = by_going (going (endpoint_of h)) refl go where
  by_going : (o : Option Going) → going (endpoint_of h) ≡ o → is_some o ≡ true
      → left_in (endpoint_of (with_emission core tick h)) < left_in (endpoint_of h)
  by_going None is s = absurd (true≢false (sym s))
  by_going (Some g) is s =
      let x : Entry = emission core tick h in
      let there : endpoint_of (with_emission core tick h) ≡ g.after =
      replay_push h.params h.entries x legal ∙ emitted_state (endpoint_of h) x.tick x.reply g is in
      subst (λ e. left_in e < left_in (endpoint_of h)) (sym there) (falls (endpoint_of h) g is)

-- ----- a loop that sends all that may go
pub record Sending (core tick : ℕ) (first now : Flow) : Type 0 where
  pub id : now.id ≡ first.id
  pub longer : IsLonger (history first) (history now)
  pub part : IsPartSent core tick (history first) (history now)

pub at_first : (core tick : ℕ) (r : Flow) → Sending core tick r r
at_first core tick r =
    let none : history r ≡ longer (history r) [] =
    ap (λ l. record (history r) { entries = l }) (sym (append-nil r.entries)) in
    record { id = refl; longer = ([], none); part = (0, refl) }

pub one_more : (core tick : ℕ) (first r n : Flow) → Sending core tick first r → may_go (history r) ≡ true
    → n.id ≡ r.id → history n ≡ with_emission core tick (history r) → Sending core tick first n
one_more core tick first r n s go id is = record {
  id = id ∙ s.id;
  longer = subst (IsLonger (history first)) (sym is) (longer_by_one core tick (history first) (history r) s.longer);
  part = (
    suc s.part.0,
    subst (AreSent core tick (suc s.part.0) (history first)) (sym is)
        (sent_more core tick s.part.0 (history first) (history r) s.part.1 go),
  );
}

-- the history stayed
pub stayed : (core tick : ℕ) (first r n : Flow) → Sending core tick first r → n.id ≡ r.id → history n ≡ history r
    → Sending core tick first n
stayed core tick first r n s id is = record {
  id = id ∙ s.id;
  longer = subst (IsLonger (history first)) (sym is) s.longer;
  part = (s.part.0, subst (AreSent core tick s.part.0 (history first)) (sym is) s.part.1);
}

-- ----- the table
pub all_sent_by_pin : {A E : Type 0} (id : FlowId) (sent : History → History → Type 0) (r : Flow) (after : History)
    (v w : View) (x : Result A E) → IsOwn id v r → IsUse id r after v w → OnOk x (sent (history r) after)
    → OnOk x (IsSentByPin id sent v w)
all_sent_by_pin id sent r after v w (Ok a) own given s = inr (r, after, own, s, given)
all_sent_by_pin id sent r after v w (Err e) own given s = tt

pub part_sent_by_pin : {A E : Type 0} (id : FlowId) (sent : History → History → Type 0) (r : Flow) (after : History)
    (v w : View) (x : Result A E) → IsOwn id v r → IsUse id r after v w → OnErr x (sent (history r) after)
    → OnErr x (IsSentByPin id sent v w)
part_sent_by_pin id sent r after v w (Ok a) own given s = tt
part_sent_by_pin id sent r after v w (Err e) own given s = inr (r, after, own, s, given)

pub all_sent : {A E : Type 0} (id : FlowId) (sent : History → History → Type 0) (v p q w : View) (x : Result A E)
    → IsPinned id v p → w ≡ unpinned id q → OnOk x (IsSentByPin id sent p q) → OnOk x (IsSent id sent v w)
all_sent id sent v p q w (Ok a) pin e s = inr (p, q, pin, s, e)
all_sent id sent v p q w (Err x) pin e s = tt

pub part_sent : {A E : Type 0} (id : FlowId) (sent : History → History → Type 0) (v p q w : View) (x : Result A E)
    → IsPinned id v p → w ≡ unpinned id q → OnErr x (IsSentByPin id sent p q) → OnErr x (IsSent id sent v w)
part_sent id sent v p q w (Ok a) pin e s = tt
part_sent id sent v p q w (Err x) pin e s = inr (p, q, pin, s, e)

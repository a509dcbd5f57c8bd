-- What one entry more does to what a judge knows.
use Rattle.std.proofs.Common.{◌≡◌, ℕ, ◌≤◌, List, [], ◌∷◌, ◌++◌, Option, sym, ap}
use Rattle.std.proofs.Common.{subst, ◌∙◌, arith}
use Rattle.tas_model.specs.declared.entry.Entry.{Entry}
use Rattle.tas_model.specs.declared.entry.HostParams.{HostParams}
use Rattle.tas_model.specs.declared.entry.Reply.{Reply}
use Rattle.tas_model.specs.Endpoint.{Endpoint}
use Rattle.tas_model.specs.Segments.{Outcome}
use Rattle.tas_model.specs.LegalHistory.{step, state_or, replay, last_tick, next_number, Gives}
use Rattle.tas_model.specs.LegalHistory.{MayFollow, Legal}
use Rattle.tas_model.proofs.Histories.{along_split, replay_push}
use Rattle.flow_judge.specs.Trials.{trial, IsWithin, Answers, tried_reply, tried_entry}
use Rattle.flow_judge.proofs.Sends.{same_step, told}

-- the last entry of a legal history may follow
pub last_may : (params : HostParams) (h : List Entry) (x : Entry) → Legal params h → Legal params (h ++ x ∷ [])
    → MayFollow params h x
last_may params [] x legal more = absurd legal
last_may params (y ∷ ys) x legal more = (along_split (MayFollow params) (y ∷ []) ys x more.1).1

-- What one entry more does: it may follow, and leads to the same endpoint as the entry that was made.
pub record Follows (params : HostParams) (k h : List Entry) (x : Entry) : Type 0 where
  pub may : MayFollow params h x
  pub state : replay params (k ++ tried_entry params k x ∷ []) ≡ replay params (h ++ x ∷ [])
  pub tick : (tried_entry params k x).tick ≡ x.tick

-- A tried call that got the entry's reply shows that the entry may follow.
pub follows : (params : HostParams) (k h : List Entry) (x : Entry) → IsWithin x.call x.reply → Legal params k
    → Legal params (k ++ tried_entry params k x ∷ []) → Legal params h → replay params k ≡ replay params h
    → last_tick 0 k ≡ last_tick 0 h → last_tick 0 h ≤ x.tick → x.number ≡ next_number x.caller h
    → (tried_entry params k x).reply ≡ x.reply → Follows params k h x
follows params k h x within legal_k legal_more legal_h same last low number reply =
    let m : Entry = tried_entry params k x in
    let tick : (tried_entry params k x).tick ≡ x.tick = omega (arith, last, low) in
    let may : MayFollow params k (tried_entry params k x) = last_may params k m legal_k legal_more in
    let at_tick : Gives (step (replay params k) x.tick (trial x) (tried_entry params k x).reply)
    (tried_entry params k x).reply =
    subst (λ (t : ℕ). Gives (step (replay params k) t (trial x) (tried_entry params k x).reply)
    (tried_entry params k x).reply) tick may.step in
    let gives : Gives (step (replay params k) x.tick (trial x) x.reply) x.reply =
    subst (λ (r : Reply). Gives (step (replay params k) x.tick (trial x) r) r) reply at_tick in
    let own : step (replay params k) x.tick (trial x) x.reply ≡ step (replay params h) x.tick x.call x.reply =
    same_step (replay params k) x.tick x.call x.reply within
    ∙ ap (λ (e : Endpoint). step e x.tick x.call x.reply) same in
    record {
      may = record {
        step = subst (λ (o : Option Outcome). Gives o x.reply) own gives;
        number = number;
        tick = low;
      };
      state = replay_push params k m legal_k
          ∙ (ap (λ (t : ℕ). state_or (replay params k)
          (step (replay params k) t (trial x) (tried_entry params k x).reply)) tick
          ∙ (ap (λ (r : Reply). state_or (replay params k) (step (replay params k) x.tick (trial x) r)) reply
          ∙ (ap (λ (o : Option Outcome). state_or (replay params k) o) own
          ∙ (ap (λ (e : Endpoint). state_or e (step (replay params h) x.tick x.call x.reply)) same
          ∙ sym (replay_push params h x legal_h)))));
      tick = tick;
    }

-- Where the entry may follow, the tried call gets its reply.
pub replies_so : (params : HostParams) (k h : List Entry) (x : Entry) → IsWithin x.call x.reply
    → replay params k ≡ replay params h → last_tick 0 k ≡ last_tick 0 h → MayFollow params h x
    → (tried_entry params k x).reply ≡ x.reply
replies_so params k h x within same last may =
    let low : last_tick 0 h ≤ x.tick = may.tick in
    let tick : (tried_entry params k x).tick ≡ x.tick = omega (arith, last, low) in
    let here : Gives (step (replay params k) x.tick x.call x.reply) x.reply =
    subst (λ (e : Endpoint). Gives (step e x.tick x.call x.reply) x.reply) (sym same) may.step in
    let tried : Gives (step (replay params k) x.tick (trial x) x.reply) x.reply =
    subst (λ (o : Option Outcome). Gives o x.reply)
    (sym (same_step (replay params k) x.tick x.call x.reply within)) here in
    ap (λ (t : ℕ). tried_reply (replay params k) t x) tick ∙ told (replay params k) x.tick x.call x.reply tried

-- where the endpoint of the kept history never answers so, the entry may not follow
pub never_follows : (params : HostParams) (k h : List Entry) (x : Entry) → replay params k ≡ replay params h
    → ((t : ℕ) → Answers (replay params k) t x → ⊥) → MayFollow params h x → ⊥
never_follows params k h x same never may =
    never x.tick (subst (λ (e : Endpoint). Gives (step e x.tick x.call x.reply) x.reply) (sym same) may.step)

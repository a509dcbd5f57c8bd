-- A call leads a flow on: for the law calls_lead_on.
use Rattle.std.proofs.Common.{◌≡◌, ℕ, ◌≤◌, cond, Bool, true, false, List, [], Option, Some, None, IsSome, is_some}
use Rattle.std.proofs.Common.{refl, sym, ap}
use Rattle.std.proofs.Common.{◌∙◌, subst, inl, inr, arith, eqb, true≢false}
use Rattle.std.specs.Prelude.{◌⊎◌}
use Rattle.std.proofs.lemmas.Bool.Decides.{nat_tests}
use Rattle.tas_model.specs.declared.entry.Caller.{Caller}
use Rattle.tas_model.specs.declared.entry.Caller.TheVariants.{Slow}
use Rattle.tas_model.specs.declared.entry.Call.{Call}
use Rattle.tas_model.specs.declared.entry.Call.TheVariants as calls
use Rattle.tas_model.specs.declared.entry.Entry.{Entry}
use Rattle.tas_model.specs.declared.entry.HostParams.{HostParams}
use Rattle.tas_model.specs.declared.entry.Reason.{Reason}
use Rattle.tas_model.specs.ApplicationCalls.{column_by, Opening, Running}
use Rattle.tas_model.specs.LegalHistory.{Legal, extended_by, shown}
use Rattle.tas_model.proofs.Histories.{replay_push}
use Rattle.host_rounds.specs.Hosts.{Live, Waiting}
use Rattle.host_rounds.proofs.Advances.{call_over}
use Rattle.host_rounds.proofs.Flows.{call_kept}
use Rattle.host_rounds.proofs.Steps.{tick_steps}
use Rattle.flow_lock.specs.declared.view.History.{History}
use Rattle.flow_clock.specs.Histories.{endpoint_of, is_over, is_running, is_running_in, with_call, with_tick, timed_by}
use Rattle.flow_clock.specs.Histories.{controlled_where, is_control_due}
use Rattle.sound_hosts.specs.Leading.{LedOn}
use Rattle.sound_hosts.proofs.Past.{IsPast, step_past}

-- ----- running, and past the opening
running_past : (r : Option Reason) (p : Option ℕ) (una : ℕ) → is_running_in (column_by r p una) ≡ true
    → IsSome p × (1 ≤ una)
running_past (Some why) p una h = absurd (true≢false (sym h))
running_past None None una h = absurd (true≢false (sym h))
running_past None (Some first) una h = by (eqb una 0) refl h
  where
    by : (b : Bool) → eqb una 0 ≡ b → is_running_in (cond b Opening Running) ≡ true → IsSome (Some first) × (1 ≤ una)
    by true e h = absurd (true≢false (sym h))
    by false e h = (refl, grind (arith, nat_tests, e))

past_running : (r : Option Reason) (p : Option ℕ) (una : ℕ) → IsSome p → 1 ≤ una
    → (is_running_in (column_by r p una) ≡ true) ⊎ (is_some r ≡ true)
past_running (Some why) p una some most = inr refl
past_running None None una some most = absurd (true≢false (sym some))
past_running None (Some first) una some most =
    let e : eqb una 0 ≡ false = grind (arith, nat_tests, most) in
    inl (ap (λ b. is_running_in (cond b Opening Running)) e)

no_entries : (params : HostParams) (es : List Entry) → es ≡ [] → Legal params es → ⊥
no_entries params es e legal = subst (λ l. Legal params l) e legal

-- ----- a call
pub call_leads : (h : History) (by : Caller) (t : ℕ) (call : Call) (offer : List ℕ) → Legal h.params h.entries
    → LedOn h (record h { entries = extended_by h.params h.entries by t call offer })
call_leads h by t call offer legal =
    let k : History = record h { entries = extended_by h.params h.entries by t call offer } in
    let l : Live = record {
      flow = record {
        id = record { slot = 0; generation = 0 };
        tuple = h.tuple;
        params = h.params;
        entries = h.entries;
      };
      indexed = true;
      holder = Waiting;
      filed = false;
    } in
    record {
      tuple = refl;
      over = λ o. call_over by t call offer l legal o;
      running = λ r.
          let past : IsPast (endpoint_of h) =
          running_past (endpoint_of h).reason (endpoint_of h).peer (endpoint_of h).tx.una r in
          let after : IsPast (endpoint_of k) =
          subst IsPast (sym (replay_push h.params h.entries _ legal)) (step_past (endpoint_of h) _ call _ past) in
          past_running (endpoint_of k).reason (endpoint_of k).peer (endpoint_of k).tx.una after.0 after.1;
      none = λ n. absurd (no_entries h.params h.entries n legal);
    }

-- one after the other
pub two_lead : (a b c : History) → LedOn a b → LedOn b c → LedOn a c
two_lead a b c x y = record {
  tuple = y.tuple ∙ x.tuple;
  over = λ o. y.over (x.over o);
  running = λ r. by (x.running r);
  none = λ n. y.none (x.none n);
}
  where
    by : (is_running b ≡ true) ⊎ (is_over b ≡ true) → (is_running c ≡ true) ⊎ (is_over c ≡ true)
    by (inl r) = y.running r
    by (inr o) = inr (y.over o)

-- ----- time
-- a flow that has its time is led on
pub timed_leads : (t : ℕ) (h : History) → Legal h.params h.entries → is_over h ≡ false → LedOn h (timed_by t h)
timed_leads t h legal open_ =
    let ticked : History = with_tick t h in
    let l : Live = record {
      flow = record {
        id = record { slot = 0; generation = 0 };
        tuple = h.tuple;
        params = h.params;
        entries = h.entries;
      };
      indexed = true;
      holder = Waiting;
      filed = false;
    } in
    let more : Legal ticked.params ticked.entries =
    call_kept l Slow t calls.Tick [] legal tt (λ u. tick_steps (endpoint_of h) u (shown (endpoint_of h) []) open_) in
    by (is_control_due t h) (call_leads h Slow t calls.Tick [] legal) (call_leads ticked Slow t calls.Control [] more)
  where
    by : (due : Bool) → LedOn h (with_tick t h) → LedOn (with_tick t h) (with_call calls.Control t (with_tick t h))
        → LedOn h (controlled_where due t (with_tick t h))
    by true x y = two_lead h (with_tick t h) (with_call calls.Control t (with_tick t h)) x y
    by false x y = x

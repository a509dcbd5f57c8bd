-- Facts of ticks.
use Rattle.std.proofs.Common.{◌≡◌, ℕ, ◌+◌, ◌-◌, ◌*◌, ◌==◌, Bool, true, false, nat_lt, nat_le, List, Option, Some, None}
use Rattle.std.proofs.Common.{refl, sym, ◌∙◌, ap, subst, arith}
use Rattle.tas_model.specs.declared.entry.Reason.{Reason}
use Rattle.tas_model.specs.declared.entry.Phase.{Phase}
use Rattle.tas_model.specs.declared.entry.Phase.TheVariants as phases
use Rattle.tas_model.specs.Segments.{Outcome}
use Rattle.tas_model.specs.Endpoint.{Endpoint, Rate, phase, phase_by, is_fin_acked}
use Rattle.tas_model.specs.declared.entry.Reply.TheVariants as replies
use Rattle.tas_model.specs.Timers.{filled, tick_in, ticked, expired, aged, is_armed, patience, control, controlled}
use Rattle.tas_model.specs.Timers.{probes, waited}
use Rattle.tas_model.specs.Valid.{Valid, IsPaced}
use Rattle.flow_state.specs.declared.parts.Parts.{Parts}
use Rattle.flow_state.specs.declared.call.Answer.{Answer}
use Rattle.flow_state.specs.declared.call.Answer.TheVariants as answers
use Rattle.flow_state.specs.Stands.{Stands}
use Rattle.flow_state.specs.Made.{IsOutcome, IsLoud, is_quiet}
use Rattle.slow_timeout.specs.Age.{next_age}
use Rattle.slow_timeout.specs.Rate.{rate_with}
use Rattle.flow_state.specs.Calls.{is_closed_phase}

-- a tick out of TIME-WAIT
pub ticked_in : (ph : Phase) (e : Endpoint) (tick : ℕ) → (ph ≡ phases.TimeWait → ⊥) → is_closed_phase ph ≡ false
    → tick_in ph e tick ≡ Some (ticked e)
ticked_in phases.SynSent e tick other live = refl
ticked_in phases.SynReceived e tick other live = refl
ticked_in phases.Established e tick other live = refl
ticked_in phases.FinWait1 e tick other live = refl
ticked_in phases.FinWait2 e tick other live = refl
ticked_in phases.CloseWait e tick other live = refl
ticked_in phases.Closing e tick other live = refl
ticked_in phases.LastAck e tick other live = refl
ticked_in phases.TimeWait e tick other live = absurd (other refl)
ticked_in phases.Closed e tick other live = absurd (cc (live))

no_reason : (r : Option Reason) (peer : Option ℕ) (una : ℕ) (s f d a : Bool)
    → is_closed_phase (phase_by r peer una s f d a) ≡ false → r ≡ None
no_reason None peer una s f d a live = refl
no_reason (Some why) peer una s f d a live = absurd (cc (live))

-- where it is not closed there is no reason
pub reason_none : (e : Endpoint) → is_closed_phase (phase e) ≡ false → e.reason ≡ None
reason_none e live = no_reason e.reason e.peer e.tx.una e.tx.shut (is_fin_acked e.tx) e.rx.ended e.rx.ended_first live

paced : (peer : Option ℕ) (r : Rate) → IsPaced peer r → IsPaced peer (filled r)
paced None r p = p
paced (Some first) r p = record { mss = p.mss; cwnd = p.cwnd }

-- the bucket's fill keeps an endpoint valid
pub filled_valid : (e : Endpoint) → Valid e → Valid (record e { rate = filled e.rate })
filled_valid e v = record {
  fits = v.fits;
  scaling = v.scaling;
  unopened = v.unopened;
  tx = v.tx;
  rx = v.rx;
  rate = record { tokens = omega arith; cwnd = v.rate.cwnd; ssthresh = v.rate.ssthresh };
  paced = paced e.peer e.rate v.paced;
  trying = v.trying;
}

-- the control, by its two numbers
pub control_is : (e : Endpoint) (after : Parts) (cwnd ssthresh : ℕ) (out : List ℕ)
    → cwnd ≡ (controlled e.rate (e.tx.max - e.tx.una)).cwnd
    → ssthresh ≡ (controlled e.rate (e.tx.max - e.tx.una)).ssthresh
    → Stands after (record e { rate = rate_with e.rate cwnd ssthresh })
    → IsOutcome after (answers.Window cwnd ssthresh) out (control e)
unfolding control
control_is e after cwnd ssthresh out a b s = record {
  reply = ap (λ (n : ℕ). replies.Window n (controlled e.rate (e.tx.max - e.tx.una)).ssthresh) (sym a)
      ∙ ap (replies.Window cwnd) (sym b);
  state = subst (λ (n : ℕ). Stands after
      (record e { rate = rate_with e.rate n (controlled e.rate (e.tx.max - e.tx.una)).ssthresh })) a
      (subst (λ (n : ℕ). Stands after (record e { rate = rate_with e.rate cwnd n })) b s);
}

-- a tick of the timer, by its age after it
abbrev Aged : Endpoint → Option ℕ → Outcome
Aged e (Some age) = record { state = aged e age; reply = replies.Quiet }
Aged e None = expired e

ticked_by : (e : Endpoint) (o : Option ℕ) → next_age e ≡ o → ticked e ≡ Aged e o
ticked_by e o is = by_tests (is_armed e.tx) refl (nat_lt (e.tx.age + 1) (patience e)) refl
  where
    by_tests : (a : Bool) → is_armed e.tx ≡ a → (b : Bool) → nat_lt (e.tx.age + 1) (patience e) ≡ b
        → ticked e ≡ Aged e o
    by_tests false armed b early = rw (← is, armed) refl
    by_tests true armed true early = rw (← is, armed, early) refl
    by_tests true armed false early = rw (← is, armed, early) refl

pub still_quiet : (e : Endpoint) (after : Parts) (age : ℕ) (out : List ℕ) → next_age e ≡ Some age
    → Stands after (aged e age) → IsOutcome after answers.Quiet out (ticked e)
still_quiet e after age out is s =
    subst (IsOutcome after answers.Quiet out) (sym (ticked_by e (Some age) is)) (record { reply = refl; state = s })

pub runs_out : (e : Endpoint) (after : Parts) (answer : Answer) (out : List ℕ) → next_age e ≡ None
    → IsOutcome after answer out (expired e) → IsOutcome after answer out (ticked e)
runs_out e after answer out is o = subst (IsOutcome after answer out) (sym (ticked_by e None is)) o

-- something comes of a timer that runs out, and of the end of TIME-WAIT
loud_expired : (e : Endpoint) → is_quiet (expired e).reply ≡ false
loud_expired e = by_tests (e.tx.tries + 1 == 9) refl (probes e) refl
  where
    by_tests : (t : Bool) → (e.tx.tries + 1 == 9) ≡ t → (p : Bool) → probes e ≡ p → is_quiet (expired e).reply ≡ false
    by_tests true ninth p probing = rw ninth refl
    by_tests false ninth true probing = rw (ninth, probing) refl
    by_tests false ninth false probing = rw (ninth, probing) refl

pub loud_timer : (e : Endpoint) → next_age e ≡ None → IsLoud (Some (ticked e))
loud_timer e none = ap (λ (o : Outcome). is_quiet o.reply) (ticked_by e None none) ∙ loud_expired e

pub loud_wait : (e : Endpoint) (tick : ℕ) → nat_le (4 * e.params.rto) (tick - e.entered) ≡ true
    → IsLoud (Some (waited e tick))
loud_wait e tick over = rw over refl

-- and nothing before that end
pub still_waiting : (e : Endpoint) (tick : ℕ) (after : Parts) (out : List ℕ)
    → nat_le (4 * e.params.rto) (tick - e.entered) ≡ false → Stands after e
    → IsOutcome after answers.Quiet out (waited e tick)
still_waiting e tick after out early s = rw early (record { reply = refl; state = s })

-- the age, by the two tests
pub age_unarmed : (e : Endpoint) → is_armed e.tx ≡ false → Some 0 ≡ next_age e
age_unarmed e armed = rw armed refl

pub age_early : (e : Endpoint) (age : ℕ) → is_armed e.tx ≡ true → nat_lt (e.tx.age + 1) (patience e) ≡ true
    → age ≡ e.tx.age + 1 → Some age ≡ next_age e
age_early e age armed early is = rw (armed, early) (ap (λ (n : ℕ). Some n) is)

pub age_late : (e : Endpoint) → is_armed e.tx ≡ true → nat_lt (e.tx.age + 1) (patience e) ≡ false
    → None ≡ next_age e
age_late e armed late = rw (armed, late) refl

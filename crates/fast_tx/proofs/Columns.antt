-- What the column of an endpoint says of its phase and its places.
use Rattle.std.proofs.Common.{◌≡◌, ℕ, ◌≤◌, Bool, true, false, cond, eqb, Option, Some, None, refl, ◌∙◌, ap, arith}
use Rattle.std.proofs.Common.{tests}
use Rattle.tas_model.specs.declared.entry.Reason.{Reason}
use Rattle.tas_model.specs.declared.entry.Phase.{Phase}
use Rattle.tas_model.specs.declared.entry.Phase.TheVariants as phases
use Rattle.tas_model.specs.Endpoint.{Endpoint, phase, phase_by, is_fin_acked}
use Rattle.tas_model.specs.ApplicationCalls.{Column, Opening, Over, Running, column, column_by}
use Rattle.tas_model.specs.Valid.{Valid, IsUnopened}
use Rattle.flow_state.specs.declared.stage.Stage.{Stage}
use Rattle.flow_state.specs.declared.stage.Stage.TheVariants as stages
use Rattle.flow_state.specs.declared.parts.Parts.{Parts}
use Rattle.flow_state.specs.Stands.{Stands}
use Rattle.flow_state.specs.App.{stage_by, is_shut_phase}

abbrev pub stage_of : Column → Stage
stage_of Opening = stages.Opening
stage_of (Over why) = stages.Over why
stage_of Running = stages.Running

-- a phase past the peer's SYN, by tests: z is whether its own SYN waits
abbrev pub phase_of : (z s f d a : Bool) → Phase
phase_of z s f d a =
    cond z phases.SynReceived
    (cond s (cond d (cond a phases.LastAck (cond f phases.TimeWait phases.Closing))
    (cond f phases.FinWait2 phases.FinWait1)) (cond d phases.CloseWait phases.Established))

staged : (z s f d a : Bool) → stage_by None (phase_of z s f d a) ≡ stage_of (cond z Opening Running)
staged true s f d a = refl
staged false true true true true = refl
staged false true true true false = refl
staged false true true false a = refl
staged false true false true true = refl
staged false true false true false = refl
staged false true false false a = refl
staged false false f true a = refl
staged false false f false a = refl

pub stage_is : (r : Option Reason) (peer : Option ℕ) (una : ℕ) (s f d a : Bool)
    → stage_by r (phase_by r peer una s f d a) ≡ stage_of (column_by r peer una)
stage_is (Some why) peer una s f d a = refl
stage_is None None una s f d a = refl
stage_is None (Some first) una s f d a = staged (eqb una 0) s f d a

pub parts_stage : (p : Parts) (e : Endpoint) → Stands p e → stage_by p.reason p.phase ≡ stage_of (column e)
parts_stage p e s =
    ap (λ (r : Option Reason). stage_by r p.phase) s.reason
    ∙ (ap (λ (ph : Phase). stage_by e.reason ph) s.phase
    ∙ stage_is e.reason e.peer e.tx.una e.tx.shut (is_fin_acked e.tx) e.rx.ended e.rx.ended_first)

-- ----- running
ends : (z s f d a : Bool) → cond z Opening Running ≡ Running → is_shut_phase (phase_of z s f d a) ≡ s
ends true s f d a c = absurd (cc (c))
ends false true true true true c = refl
ends false true true true false c = refl
ends false true true false a c = refl
ends false true false true true c = refl
ends false true false true false c = refl
ends false true false false a c = refl
ends false false f true a c = refl
ends false false f false a c = refl

ends_by : (r : Option Reason) (peer : Option ℕ) (una : ℕ) (s f d a : Bool) → column_by r peer una ≡ Running
    → is_shut_phase (phase_by r peer una s f d a) ≡ s
ends_by (Some why) peer una s f d a c = absurd (cc (c))
ends_by None None una s f d a c = absurd (cc (c))
ends_by None (Some first) una s f d a c = ends (eqb una 0) s f d a c

-- the phase tells whether the own stream was ended
pub shut_told : (p : Parts) (e : Endpoint) → Stands p e → column e ≡ Running → is_shut_phase p.phase ≡ e.tx.shut
shut_told p e s c = ap is_shut_phase s.phase
    ∙ ends_by e.reason e.peer e.tx.una e.tx.shut (is_fin_acked e.tx) e.rx.ended e.rx.ended_first c

positive : (una : ℕ) (z : Bool) → eqb una 0 ≡ z → cond z Opening Running ≡ Running → 1 ≤ una
positive una true t c = absurd (cc (c))
positive una false t c = grind (arith, tests, t)

past_by : (r : Option Reason) (peer : Option ℕ) (una : ℕ) → column_by r peer una ≡ Running → 1 ≤ una
past_by (Some why) peer una c = absurd (cc (c))
past_by None None una c = absurd (cc (c))
past_by None (Some first) una c = positive una (eqb una 0) refl c

-- its SYN is acknowledged
pub past_syn : (e : Endpoint) → column e ≡ Running → 1 ≤ e.tx.una
past_syn e c = past_by e.reason e.peer e.tx.una c

-- ----- opening
nothing : (una : ℕ) (z : Bool) → eqb una 0 ≡ z → cond z Opening Running ≡ Opening → una ≡ 0
nothing una true t c = grind (arith, tests, t)
nothing una false t c = absurd (cc (c))

before_by : (r : Option Reason) (peer : Option ℕ) (una : ℕ) → column_by r peer una ≡ Opening → IsUnopened peer una
    → una ≡ 0
before_by (Some why) peer una c u = absurd (cc (c))
before_by None None una c u = u
before_by None (Some first) una c u = nothing una (eqb una 0) refl c

-- nothing is acknowledged
pub before_syn : (e : Endpoint) → Valid e → column e ≡ Opening → e.tx.una ≡ 0
before_syn e v c = before_by e.reason e.peer e.tx.una c v.unopened

-- the peer's SYN was not taken in SYN-SENT, and was in the other phase of the opening
sent_by : (r : Option Reason) (peer : Option ℕ) (una : ℕ) (s f d a : Bool) → column_by r peer una ≡ Opening
    → phase_by r peer una s f d a ≡ phases.SynSent → peer ≡ None
sent_by r None una s f d a c is = refl
sent_by (Some why) (Some first) una s f d a c is = absurd (cc (c))
sent_by None (Some first) una s f d a c is = absurd (received (eqb una 0) c is) where
  received : (z : Bool) → cond z Opening Running ≡ Opening → phase_of z s f d a ≡ phases.SynSent → ⊥
  received true c is = absurd (cc (is))
  received false c is = absurd (cc (c))

first_by : (r : Option Reason) (peer : Option ℕ) (una : ℕ) (s f d a : Bool) → column_by r peer una ≡ Opening
    → (phase_by r peer una s f d a ≡ phases.SynSent → ⊥) → (x : ℕ) × (peer ≡ Some x)
first_by (Some why) peer una s f d a c is = absurd (cc (c))
first_by None None una s f d a c is = absurd (is refl)
first_by None (Some first) una s f d a c is = (first, refl)

pub no_peer : (e : Endpoint) → column e ≡ Opening → phase e ≡ phases.SynSent → e.peer ≡ None
no_peer e c is = sent_by e.reason e.peer e.tx.una e.tx.shut (is_fin_acked e.tx) e.rx.ended e.rx.ended_first c is

pub some_peer : (e : Endpoint) → column e ≡ Opening → (phase e ≡ phases.SynSent → ⊥) → (x : ℕ) × (e.peer ≡ Some x)
some_peer e c is = first_by e.reason e.peer e.tx.una e.tx.shut (is_fin_acked e.tx) e.rx.ended e.rx.ended_first c is

-- One flow: each of its calls keeps its history legal.
use Rattle.std.proofs.Common.{◌≡◌, ℕ, ◌&&◌, Bool, true, false, List, [], Option, Some, None, IsSome, refl, sym}
use Rattle.std.proofs.Common.{true≢false}
use Rattle.tas_model.specs.declared.entry.FrameId.{FrameId}
use Rattle.tas_model.specs.declared.entry.Seg.{Seg}
use Rattle.tas_model.specs.declared.entry.Caller.{Caller}
use Rattle.tas_model.specs.declared.entry.Call.{Call}
use Rattle.tas_model.specs.declared.entry.Call.TheVariants as calls
use Rattle.tas_model.specs.NextSegment.{Going, going}
use Rattle.tas_model.specs.LegalHistory.{step, Offers, shown}
use Rattle.tas_model.proofs.Grows.{legal_by}
use Rattle.tas_model.proofs.Tests.{on_cond}
use Rattle.host_rounds.specs.Hosts.{Live, endpoint, is_over, is_running, with_call}
use Rattle.host_rounds.specs.Upkeep.{swept, controlled_where, controlled, timed_unless, timed, emits_where, emits}
use Rattle.host_rounds.specs.Deliveries.{received}
use Rattle.host_rounds.specs.Histories.{HasHistory}
use Rattle.host_rounds.proofs.Steps.{tick_steps, control_steps, rx_steps, emit_steps}

-- a call that is a step
pub call_kept : (l : Live) (by : Caller) (t : ℕ) (call : Call) (offer : List ℕ) → HasHistory l → Offers call offer
    → ((u : ℕ) → IsSome (step (endpoint l) u call (shown (endpoint l) offer)))
    → HasHistory (with_call l by t call offer)
call_kept l by t call offer legal offers steps =
    legal_by l.flow.params l.flow.entries by t call offer legal offers (steps _)

pub swept_kept : (l : Live) → HasHistory l → HasHistory (swept l)
swept_kept l legal = on_cond HasHistory (is_over l) _ _ (λ t. legal) (λ f. legal)

pub and_right : (a b : Bool) → (a && b) ≡ true → b ≡ true
and_right true b h = h
and_right false b h = absurd (true≢false (sym h))

-- what holds with the Control and without it
pub on_control : (P : Live → Type 0) (due : Bool) (by : Caller) (t : ℕ) (l : Live)
    → (due ≡ true → P (with_call l by t calls.Control []))
    → (due ≡ false → P l) → P (controlled_where due by t l)
on_control P true by t l f g = f refl
on_control P false by t l f g = g refl

controlled_kept : (by : Caller) (t : ℕ) (l : Live) → HasHistory l → HasHistory (controlled by t l)
controlled_kept by t l legal =
    on_control HasHistory _ by t l
    (λ h. call_kept l by t calls.Control [] legal tt
    (λ u. control_steps (endpoint l) u (shown (endpoint l) []) (and_right _ (is_running l) h)))
    (λ h. legal)

pub timed_kept : (by : Caller) (t : ℕ) (l : Live) → HasHistory l → HasHistory (timed by t l)
timed_kept by t l legal = by_over (is_over l) refl where
  by_over : (b : Bool) → is_over l ≡ b → HasHistory (timed_unless b by t l)
  by_over true h = legal
  by_over false h =
      controlled_kept by t (with_call l by t calls.Tick [])
      (call_kept l by t calls.Tick [] legal tt (λ u. tick_steps (endpoint l) u (shown (endpoint l) []) h))

pub received_kept : (by : Caller) (t : ℕ) (frame : FrameId) (seg : Seg) (l : Live) → HasHistory l
    → HasHistory (received by t frame seg l)
received_kept by t frame seg l legal =
    call_kept l by t (calls.Rx frame seg) [] legal tt (λ u. rx_steps (endpoint l) u frame seg (shown (endpoint l) []))

pub emits_kept : (by : Caller) (t : ℕ) (l : Live) → HasHistory l → HasHistory (emits by t l)
emits_kept by t l legal = by_going (going (endpoint l)) refl where
  by_going : (o : Option Going) → going (endpoint l) ≡ o → HasHistory (emits_where o by t l)
  by_going None h = legal
  by_going (Some g) h = call_kept l by t calls.Emit [] legal tt
      (λ u. emit_steps (endpoint l) u (shown (endpoint l) []) g h)

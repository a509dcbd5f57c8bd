-- After so many emissions nothing may go.
use Rattle.std.proofs.Common.{◌≡◌, ℕ, zero, suc, ◌+◌, ◌<◌, Bool, true, false, List, [], ◌∷◌, length, map, Option, Some}
use Rattle.std.proofs.Common.{None, refl, ap, ◌∙◌, arith}
use Rattle.tas_model.specs.declared.entry.Caller.{Caller}
use Rattle.tas_model.specs.declared.entry.Caller.TheVariants.{Core}
use Rattle.tas_model.specs.declared.entry.Call.TheVariants as calls
use Rattle.tas_model.specs.declared.entry.Reply.{Reply}
use Rattle.tas_model.specs.Endpoint.{Endpoint}
use Rattle.tas_model.specs.NextSegment.{Going, going}
use Rattle.tas_model.specs.LegalHistory.{step, state_or, shown}
use Rattle.tas_model.proofs.Grows.{legal_by}
use Rattle.tas_model.proofs.Histories.{replay_push}
use Rattle.tas_model.proofs.LeftToSend.{left_by, left_to_send, falls}
use Rattle.host_rounds.specs.Hosts.{Live, endpoint, with_call}
use Rattle.host_rounds.specs.Upkeep.{quieted_within, quieted}
use Rattle.host_rounds.specs.Lists.{Each}
use Rattle.host_rounds.specs.Rounds.{IsQuiet}
use Rattle.host_rounds.proofs.Steps.{emit_steps}
use Rattle.host_rounds.specs.Histories.{HasHistory}

emitted_state : (e : Endpoint) (t : ℕ) (reply : Reply) (g : Going) → going e ≡ Some g
    → state_or e (step e t calls.Emit reply) ≡ g.after
unfolding step
emitted_state e t reply g h = rw h refl

pub emit_endpoint : (l : Live) (by : Caller) (t : ℕ) (g : Going) → HasHistory l → going (endpoint l) ≡ Some g
    → endpoint (with_call l by t calls.Emit []) ≡ g.after
emit_endpoint l by t g legal h = replay_push l.flow.params l.flow.entries _ legal ∙ emitted_state (endpoint l) _ _ g h

pub emit_legal : (l : Live) (by : Caller) (t : ℕ) (g : Going) → HasHistory l → going (endpoint l) ≡ Some g
    → HasHistory (with_call l by t calls.Emit [])
emit_legal l by t g legal h = legal_by l.flow.params l.flow.entries by t calls.Emit [] legal tt
    (emit_steps (endpoint l) _ (shown (endpoint l) []) g h)

-- what is left falls at each segment
pub sent_falls : (t : ℕ) (l : Live) (g : Going) → HasHistory l → going (endpoint l) ≡ Some g
    → left_to_send (endpoint (with_call l (Core 0) t calls.Emit [])) < left_to_send (endpoint l)
sent_falls t l g legal h =
    let lower : left_to_send g.after < left_to_send (endpoint l) = falls (endpoint l) g h in
    rw (emit_endpoint l (Core 0) t g legal h) lower

left_small : (e : Endpoint) → left_to_send e < length e.tx.out + 4
left_small e = by_probe e.tx.probe where
  by_probe : (b : Bool) → left_by (length e.tx.out) e.tx.nxt b < length e.tx.out + 4
  by_probe true = omega arith
  by_probe false = omega arith

within_quiet : (most t : ℕ) (l : Live) → HasHistory l → left_to_send (endpoint l) < most
    → IsQuiet (quieted_within most t l)
within_quiet zero t l legal small = absurd (omega arith)
within_quiet (suc most) t l legal small = by_going (going (endpoint l)) refl (λ next. within_quiet most t next) where
  by_going : (o : Option Going) → going (endpoint l) ≡ o
      → ((next : Live) → HasHistory next → left_to_send (endpoint next) < most → IsQuiet (quieted_within most t next))
      → IsQuiet (elim o [ None ↦ l | Some g ↦ quieted_within most t (with_call l (Core 0) t calls.Emit []) ])
  by_going None h rest = h
  by_going (Some g) h rest =
      let lower : left_to_send g.after < left_to_send (endpoint l) = falls (endpoint l) g h in
      rest (with_call l (Core 0) t calls.Emit []) (emit_legal l (Core 0) t g legal h)
      (rw (emit_endpoint l (Core 0) t g legal h) (omega arith))

pub quieted_quiet : (t : ℕ) (l : Live) → HasHistory l → IsQuiet (quieted t l)
quieted_quiet t l legal = within_quiet (length (endpoint l).tx.out + 4) t l legal (left_small (endpoint l))

pub all_quiet : (t : ℕ) (ls : List Live) → Each HasHistory ls → Each IsQuiet (map (quieted t) ls)
all_quiet t [] each = tt
all_quiet t (l ∷ ls) each = (quieted_quiet t l each.0, all_quiet t ls each.1)

-- ----- a loop that sends all that may go
-- more than enough is enough
within_same : (most more t : ℕ) (l : Live) → HasHistory l → left_to_send (endpoint l) < most
    → left_to_send (endpoint l) < more → quieted_within most t l ≡ quieted_within more t l
within_same zero more t l legal small large = absurd (omega arith)
within_same (suc most) zero t l legal small large = absurd (omega arith)
within_same (suc most) (suc more) t l legal small large =
    by_going (going (endpoint l)) refl (λ next. within_same most more t next) where
      by_going : (o : Option Going) → going (endpoint l) ≡ o
          → ((next : Live) → HasHistory next → left_to_send (endpoint next) < most → left_to_send (endpoint next) < more
          → quieted_within most t next ≡ quieted_within more t next)
          → ◌≡◌ {A = Live} (elim o [ None ↦ l | Some g ↦ quieted_within most t (with_call l (Core 0) t calls.Emit []) ])
          (elim o [ None ↦ l | Some g ↦ quieted_within more t (with_call l (Core 0) t calls.Emit []) ])
      by_going None h rest = refl
      by_going (Some g) h rest =
          let lower : left_to_send (endpoint (with_call l (Core 0) t calls.Emit [])) < left_to_send (endpoint l) =
          sent_falls t l g legal h in
          rest (with_call l (Core 0) t calls.Emit []) (emit_legal l (Core 0) t g legal h) (omega arith) (omega arith)

-- where nothing may go, all is sent
pub quieted_done : (t : ℕ) (l : Live) → going (endpoint l) ≡ None → quieted t l ≡ l
quieted_done t l none =
    let more : length (endpoint l).tx.out + 4 ≡ suc (length (endpoint l).tx.out + 3) = omega arith in
    ap (λ (n : ℕ). quieted_within n t l) more ∙ rw (none, quieted_within) refl

-- one segment goes, and what is left to send is the same
pub quieted_next : (t : ℕ) (l : Live) (g : Going) → HasHistory l → going (endpoint l) ≡ Some g
    → quieted t l ≡ quieted t (with_call l (Core 0) t calls.Emit [])
quieted_next t l g legal some =
    let next : Live = with_call l (Core 0) t calls.Emit [] in
    let more : length (endpoint l).tx.out + 4 ≡ suc (length (endpoint l).tx.out + 3) = omega arith in
    let lower : left_to_send (endpoint next) < left_to_send (endpoint l) = sent_falls t l g legal some in
    let small : left_to_send (endpoint l) < length (endpoint l).tx.out + 4 = left_small (endpoint l) in
    let one : quieted_within (suc (length (endpoint l).tx.out + 3)) t l
    ≡ quieted_within (length (endpoint l).tx.out + 3) t next = rw (some, quieted_within) refl in
    ap (λ (n : ℕ). quieted_within n t l) more ∙ one
    ∙ within_same (length (endpoint l).tx.out + 3) (length (endpoint next).tx.out + 4) t next
    (emit_legal l (Core 0) t g legal some) (omega arith) (left_small (endpoint next))

-- The order in which an acknowledgement is taken.
use Rattle.std.proofs.Common.{◌≡◌, ℕ, ◌+◌, Some, Bool, true, false, cond, ltb, eqb, length, min, max, refl, sym, ap}
use Rattle.std.proofs.Common.{arith, length-drop}
use Rattle.std.proofs.lemmas.Bool.Decides.{nat_tests}
use Rattle.tas_model.proofs.Tests.{on_cond}
use Rattle.payload_ring.specs.Window.{end_of}
use Rattle.tas_model.specs.declared.entry.Phase.{Phase}
use Rattle.tas_model.specs.declared.entry.Reason.TheVariants as reasons
use Rattle.tas_model.specs.Endpoint.{Endpoint, Sending, Rate, is_fin_acked}
use Rattle.tas_model.specs.Receive.{is_duplicate, after_duplicate, after_advance, moves_window, sending_after, closes}
use Rattle.tas_model.specs.Receive.{begins_wait}
use Rattle.flow_state.specs.declared.parts.Parts.{Parts}
use Rattle.flow_state.specs.Stands.{Stands, acked_bytes}

-- a duplicate is counted
abbrev pub counted_twice : Bool → Sending → Sending
counted_twice dup tx = cond dup (record tx { dup = min 3 (tx.dup + 1); nxt = cond (eqb tx.dup 2) tx.una tx.nxt }) tx

no_advance : (tx : Sending) (a len window : ℕ) → is_duplicate tx a len window ≡ true → ltb tx.una a ≡ false
no_advance tx a len window is = grind (arith, nat_tests)

-- No duplicate advances, so the order of the two rules is free.
pub in_order : (tx : Sending) (a len window : ℕ) (dup : Bool) → dup ≡ is_duplicate tx a len window
    → counted_twice dup (after_advance tx a) ≡ after_advance (after_duplicate tx a len window) a
in_order tx a len window true is =
    let none : ltb tx.una a ≡ false = no_advance tx a len window (sym is) in
    rw (none, sym is, none) refl
in_order tx a len window false is = rw (sym is) refl

una_after : (tx : Sending) (a q len window : ℕ) → (sending_after tx a q len window).una ≡ max tx.una a
una_after tx a q len window =
    let moved : (after_advance (after_duplicate tx a len window) a).una ≡ max tx.una a = grind (arith, nat_tests) in
    on_cond (λ (x : Sending). x.una ≡ max tx.una a) (moves_window tx a q) _
    (after_advance (after_duplicate tx a len window) a) (λ t. moved) (λ f. moved)

out_after : (tx : Sending) (a q len window : ℕ) → (sending_after tx a q len window).out ≡ tx.out
out_after tx a q len window =
    let counted : (after_duplicate tx a len window).out ≡ tx.out =
    on_cond (λ (x : Sending). x.out ≡ tx.out) (is_duplicate tx a len window) _ tx (λ t. refl) (λ f. refl) in
    let moved : (after_advance (after_duplicate tx a len window) a).out ≡ tx.out =
    on_cond (λ (x : Sending). x.out ≡ tx.out) (ltb (after_duplicate tx a len window).una a) _
    (after_duplicate tx a len window) (λ t. counted) (λ f. counted) in
    on_cond (λ (x : Sending). x.out ≡ tx.out) (moves_window tx a q) _
    (after_advance (after_duplicate tx a len window) a) (λ t. moved) (λ f. moved)

-- whether the FIN is acknowledged
pub fin_after : (tx : Sending) (a q len window : ℕ)
    → eqb (max tx.una a) (length tx.out + 2) ≡ is_fin_acked (sending_after tx a q len window)
fin_after tx a q len window =
    rw (una_after tx a q len window, out_after tx a q len window) refl

-- the place past the bytes in the ring is that past all that was accepted
pub end_is : (p : Parts) (e : Endpoint) → Stands p e → end_of p.tx ≡ length e.tx.out
end_is p e s = omega (arith, s.tx.base, ap (length {A = ℕ}) s.tx.bytes, length-drop (acked_bytes e.tx) e.tx.out)

-- an endpoint with its acknowledgement taken, its phase before given
abbrev pub settled : Endpoint → Rate → Phase → (tick : ℕ) → Sending → Endpoint
settled e rate before tick tx =
    record e {
      tx = tx;
      rate = rate;
      reason = cond (closes before tx) (Some reasons.Done) e.reason;
      entered = cond (begins_wait before tx) tick e.entered;
    }

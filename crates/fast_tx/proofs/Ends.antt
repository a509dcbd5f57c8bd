-- Each emission leaves the parts less to send.
use Rattle.std.proofs.Common.{◌≡◌, ℕ, ◌+◌, ◌-◌, ◌%◌, ◌^◌, ◌≤◌, ◌<◌, ◌∙◌, ap, Bool, length, Option, Some, subst, arith}
use Rattle.tas_model.specs.Endpoint.{Endpoint}
use Rattle.tas_model.specs.Segments.{one_if, seq_at}
use Rattle.tas_model.specs.NextSegment.{Going, going, emitted}
use Rattle.tas_model.proofs.LeftToSend.{falls}
use Rattle.fast_tx.specs.Going.{left_in}
use Rattle.fast_tx.specs.Piece.{left_of, distance}
use Rattle.fast_tx.proofs.Alike.{max_within, end_is}
use Rattle.payload_ring.specs.Window.{end_of}
use Rattle.tas_num.specs.declared.seq.Seq.{Seq}
use Rattle.tas_model.specs.declared.entry.Call.TheVariants as calls
use Rattle.tas_model.specs.declared.entry.Reply.TheVariants as replies
use Rattle.tas_model.specs.LegalHistory.{step}
use Rattle.tas_model.specs.Valid.{Valid, LeavesValid}
use Rattle.tas_model.proofs.ValidCalls.{step_keeps}
use Rattle.flow_state.specs.declared.parts.Parts.{Parts}
use Rattle.flow_state.specs.Stands.{Stands}

places_left : (iss iss2 first nxt end out : ℕ) → iss ≡ iss2 → first ≡ (iss2 + nxt) % 2 ^ 32 → end ≡ out → nxt ≤ out + 2
    → out + 2 < nxt + 2 ^ 32 → ((iss + (2 + end)) % 2 ^ 32 + (2 ^ 32 - first)) % 2 ^ 32 ≡ out + 2 - nxt
places_left iss iss2 first nxt end out i f o low high = omega arith

-- what the parts tell is what the endpoint has left
pub left_is : (p : Parts) (e : Endpoint) → Valid e → Stands p e → left_of p ≡ left_in e
left_is p e v s =
    ap (λ (b : Bool). distance (seq_at p.iss.0 (2 + end_of p.tx)) p.nxt + one_if b) s.probe ∙
    ap (λ (n : ℕ). n + one_if e.tx.probe)
    (places_left p.iss.0 e.iss p.nxt.0 e.tx.nxt (end_of p.tx) (length e.tx.out) s.iss (ap (λ (q : Seq). q.0) s.nxt)
    (end_is p e s) (omega (arith, max_within e v, v.tx.nxt)) (omega (arith, v.tx.una, v.tx.room, v.fits.ring.1)))

gone_valid : (e : Endpoint) (g : Going) → Valid e → going e ≡ Some g → Valid g.after
unfolding step
gone_valid e g v is = subst (λ (o : Option Going). LeavesValid (emitted o)) is
    (step_keeps e 0 calls.Emit replies.Nothing v.fits v)

pub left_falls : (p q : Parts) (e : Endpoint) (g : Going) → Valid e → Stands p e → going e ≡ Some g → Stands q g.after
    → left_of q < left_of p
left_falls p q e g v s is t = omega (arith, left_is p e v s, left_is q g.after (gone_valid e g v is) t, falls e g is)

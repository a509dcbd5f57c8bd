-- The rings' memory: it is there where bytes may be put, and may go where the flow is closed.
use Rattle.std.proofs.Common.{◌≡◌, ℕ, Bool, true, false, eqb, List, length, drop, Option, Some, None, sym, subst}
use Rattle.std.specs.Prelude.{is_some}
use Rattle.payload_ring.specs.Window.{Window, Holds, released}
use Rattle.tas_model.proofs.Tests.{on_cond}
use Rattle.tas_model.specs.declared.entry.Reason.{Reason}
use Rattle.tas_model.specs.Endpoint.{Endpoint, Island, phase_by, is_fin_acked}
use Rattle.tas_model.specs.OneStream.{IsSynchronized}
use Rattle.flow_state.specs.declared.parts.Parts.{Parts}
use Rattle.flow_state.specs.declared.counts.CallerCount.{CallerCount}
use Rattle.flow_state.specs.declared.stretch.Stretch.{Stretch}
use Rattle.flow_state.specs.Arena.{Memory}
use Rattle.flow_state.specs.Record.{IsRecord}
use Rattle.flow_state.specs.Released.{kept_ring, released_parts}
use Rattle.flow_state.specs.Stands.{Stands, IsIsland, AreReady, HasRings}

ready_in : (why : Option Reason) (peer : Option ℕ) (una : ℕ) (shut acked ended first tx rx : Bool)
    → IsSynchronized (phase_by why peer una shut acked ended first) → AreReady why tx rx → rx ≡ true
ready_in (Some why) peer una shut acked ended first tx rx on is = absurd on
ready_in None peer una shut acked ended first tx rx on is = is.1

pub rings_of : (p : Parts) (e : Endpoint) → Stands p e → HasRings p
rings_of p e s = record {
  going = s.rings;
  taking = λ on. ready_in e.reason e.peer e.tx.una e.tx.shut (is_fin_acked e.tx) e.rx.ended e.rx.ended_first p.tx.ready
      p.rx.ready (subst IsSynchronized s.phase on)
      (subst (λ (o : Option Reason). AreReady o p.tx.ready p.rx.ready) s.reason s.rings);
}

-- ----- memory that goes
-- what stands in a ring stays, where its memory goes only if nothing does
kept_holds : (w : Window) (n from : ℕ) (text : List ℕ) → Holds w n from text → Holds (kept_ring w) n from text
kept_holds w n from text h =
    on_cond (λ (x : Window). Holds x n from text) (eqb (length w.bytes) 0) (released w) w
    (λ t. record { size = h.size; base = h.base; bytes = h.bytes }) (λ f. h)

-- no bytes past a gap stand in any cells
no_island : (kept : Option (ℕ × ℕ)) (ahead ahead' : List ℕ) (end : ℕ) (o : Option Island) → is_some kept ≡ false
    → IsIsland kept ahead end o → IsIsland kept ahead' end o
no_island kept ahead ahead' end None none is = is
no_island None ahead ahead' end (Some i) none is = absurd (cc (is.0))
no_island (Some k) ahead ahead' end (Some i) none is = absurd (cc (none))

no_rings : (o : Option Reason) (tx rx : Bool) → is_some o ≡ true → AreReady o tx rx
no_rings None tx rx closed = absurd (cc (closed))
no_rings (Some why) tx rx closed = tt

-- The parts of a closed flow stand for its endpoint still.
stands_released : (p : Parts) (e : Endpoint) → is_some p.reason ≡ true → Stands p e → Stands (released_parts p) e
stands_released p e closed s =
    let P : Window → Type 0 = λ w. Holds w e.params.ring e.rx.read (drop e.rx.read e.rx.got)
    × IsIsland p.island w.ahead (length e.rx.got) e.rx.island in
    let tx = kept_holds p.tx _ _ _ s.tx in
    let rx : P (released_parts p).rx =
    on_cond P (is_some p.island) p.rx (kept_ring p.rx) (λ t. (s.rx, s.island))
    (λ f. (kept_holds p.rx _ _ _ s.rx, no_island p.island _ _ _ e.rx.island f s.island)) in
    let rings : AreReady p.reason (released_parts p).tx.ready (released_parts p).rx.ready =
    no_rings p.reason _ _ closed in
    search (s, tx, rx.0, rx.1, rings)

-- all that the record keeps true, once its memory is given back
pub kept_released : (p q : Parts) (memory memory' : Memory) (stretches stretches' : List Stretch)
    (counts counts' : List CallerCount) (app : Option ℕ) (n t k : ℕ) → IsRecord p memory stretches counts app n t k
    → is_some p.reason ≡ true → q ≡ released_parts p → memory' ≡ memory → stretches' ≡ stretches → counts' ≡ counts
    → IsRecord q memory' stretches' counts' app n t k
kept_released p q memory memory' stretches stretches' counts counts' app n t k is closed parts bytes same table =
    subst (λ (x : Parts). IsRecord x memory' stretches' counts' app n t k) (sym parts)
    (subst (λ (x : Memory). IsRecord (released_parts p) x stretches' counts' app n t k) (sym bytes)
    (subst (λ (x : List Stretch). IsRecord (released_parts p) memory x counts' app n t k) (sym same)
    (subst (λ (x : List CallerCount). IsRecord (released_parts p) memory stretches x app n t k) (sym table)
    (record {
      fits = is.fits;
      legal = is.legal;
      stands = stands_released p _ closed is.stands;
      within = is.within;
      counts = is.counts;
      application = is.application;
      made = is.made;
      last = is.last;
      few = is.few;
      low = is.low;
      sent = is.sent;
      several = is.several;
    }))))

-- The parts after bytes were received, or read by a Recv.
use Rattle.std.proofs.Common.{◌≡◌, ℕ, ◌+◌, ◌-◌, ◌≤◌, List, [], ◌∷◌, ◌++◌, length, take, drop, Option, Some, None, refl}
use Rattle.std.proofs.Common.{sym, ◌∙◌, ap, subst, arith, length-take, length-drop}
use Rattle.std.proofs.lemmas.List.{drop-drop, drop-append-le, take-append-le}
use Rattle.tas_num.specs.declared.seq.Seq.{Seq}
use Rattle.payload_ring.specs.Window.{Window, Holds}
use Rattle.tas_model.specs.Endpoint.{Endpoint, Island}
use Rattle.tas_model.specs.Segments.{ack_of}
use Rattle.tas_model.specs.ApplicationCalls.{after_recv}
use Rattle.flow_state.specs.declared.parts.Parts.{Parts}
use Rattle.flow_state.specs.Stands.{Stands, IsIsland, AreReady}

-- what stands ahead stands there still when cells come behind it
ahead_kept : (ahead more bytes : List ℕ) (d : ℕ) → take (length bytes) (drop d ahead) ≡ bytes
    → take (length bytes) (drop d (ahead ++ more)) ≡ bytes
ahead_kept ahead more [] d there = refl
ahead_kept ahead more (b ∷ bs) d there =
    let all : length (take (length (b ∷ bs)) (drop d ahead)) ≡ length (b ∷ bs) = ap length there in
    let front : d ≤ length ahead = omega (arith, length-take (length (b ∷ bs)) (drop d ahead), length-drop d ahead) in
    let inside : length (b ∷ bs) ≤ length (drop d ahead) =
    omega (arith, length-take (length (b ∷ bs)) (drop d ahead), length-drop d ahead) in
    ap (take (length (b ∷ bs))) (drop-append-le d ahead more front)
    ∙ (take-append-le (length (b ∷ bs)) (drop d ahead) more inside ∙ there)

island_kept : (kept : Option (ℕ × ℕ)) (ahead more : List ℕ) (end : ℕ) (o : Option Island) → IsIsland kept ahead end o
    → IsIsland kept (ahead ++ more) end o
island_kept kept ahead more end None is = is
island_kept kept ahead more end (Some i) is = (is.0, ahead_kept ahead more i.bytes (i.at - end) is.1)

-- the parts with another window, island and next number that is expected
pub stands_received : (p : Parts) (e : Endpoint) (w : Window) (kept : Option (ℕ × ℕ)) (rcv : Seq) (got : List ℕ)
    (read : ℕ) (island : Option Island)
    → Stands p e → rcv ≡ ack_of (record e { rx = record (e.rx) { got = got } }) → w.ready ≡ p.rx.ready
    → Holds w e.params.ring read (drop read got) → IsIsland kept w.ahead (length got) island
    → Stands (record p { rx = w; island = kept; rcv = rcv })
    (record e { rx = record (e.rx) { got = got; read = read; island = island } })
stands_received p e w kept rcv got read island s next ready holds is =
    let rings : AreReady p.reason p.tx.ready w.ready = subst (AreReady p.reason p.tx.ready) (sym ready) s.rings in
    search (s, next, rings, holds, is)

-- the parts after a Recv
pub stands_recv : (p : Parts) (e : Endpoint) (n : ℕ) (w : Window) → Stands p e
    → w ≡ record (p.rx) { base = p.rx.base + n; bytes = drop n p.rx.bytes; ahead = p.rx.ahead ++ take n p.rx.bytes }
    → Stands (record p { rx = w }) (after_recv e n)
stands_recv p e n w s is =
    stands_received p e w p.island p.rcv e.rx.got (e.rx.read + n) e.rx.island s s.rcv
    (ap (λ (x : Window). x.ready) is)
    (record {
      size = ap (λ (x : Window). x.size) is ∙ s.rx.size;
      base = ap (λ (x : Window). x.base) is ∙ ap (λ (b : ℕ). b + n) s.rx.base;
      bytes = ap (λ (x : Window). x.bytes) is ∙ (ap (drop n) s.rx.bytes ∙ drop-drop n e.rx.read e.rx.got);
    })
    (subst (λ (a : List ℕ). IsIsland p.island a (length e.rx.got) e.rx.island) (sym (ap (λ (x : Window). x.ahead) is))
    (island_kept p.island p.rx.ahead (take n p.rx.bytes) (length e.rx.got) e.rx.island s.island))

-- The places of a record are far below 2^126.
use Rattle.std.proofs.Common.{◌≡◌, ℕ, ◌+◌, ◌-◌, ◌*◌, ◌^◌, ◌<◌, length, ap, arith, length-drop}
use Rattle.tas_model.specs.Endpoint.{Endpoint}
use Rattle.tas_model.specs.Valid.{PlacesWithin}
use Rattle.flow_state.specs.declared.parts.Parts.{Parts}
use Rattle.flow_state.specs.Stands.{Stands, IsNear, acked_bytes}

pub near_of : (p : Parts) (e : Endpoint) (n : ℕ) → Stands p e → PlacesWithin (1048577 * (n + 1)) e
    → n < 2 ^ 64 → IsNear p
near_of p e n s w fits =
    let sent : length p.tx.bytes ≡ length e.tx.out - acked_bytes e.tx =
    omega (arith, ap (length {A = ℕ}) s.tx.bytes, length-drop (acked_bytes e.tx) e.tx.out) in
    let got : length p.rx.bytes ≡ length e.rx.got - e.rx.read =
    omega (arith, ap (length {A = ℕ}) s.rx.bytes, length-drop e.rx.read e.rx.got) in
    record {
      tx = omega (arith, s.tx.base, w.out);
      rx = omega (arith, s.rx.base, w.next, w.read);
      wl1 = omega (arith, s.wl1, w.wl1);
      wl2 = omega (arith, s.wl2, w.wl2);
    }

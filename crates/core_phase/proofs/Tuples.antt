-- Four-tuples that a test finds the same.
use Rattle.std.proofs.Common.{◌≡◌, ℕ, ◌==◌, ◌&&◌, Bool, true, false, refl, sym, arith, true≢false}
use Rattle.std.proofs.lemmas.Bool.Decides.{nat_tests}
use Rattle.tas_model.specs.declared.entry.FourTuple.{FourTuple}
use Rattle.flow_index.specs.Changes.{is_same}

and_both : (a b : Bool) → (a && b) ≡ true → (a ≡ true) × (b ≡ true)
and_both true b h = (refl, h)
and_both false b h = absurd (true≢false (sym h))

same_number : (n m : ℕ) → (n == m) ≡ true → n ≡ m
same_number n m h = grind (arith, nat_tests, h)

pub is_tuple : (a b : FourTuple) → is_same a b ≡ true → a ≡ b
is_tuple a b h =
    let one = and_both (a.laddr == b.laddr) (a.lport == b.lport && (a.raddr == b.raddr && a.rport == b.rport)) h in
    let two = and_both (a.lport == b.lport) (a.raddr == b.raddr && a.rport == b.rport) one.1 in
    let three = and_both (a.raddr == b.raddr) (a.rport == b.rport) two.1 in
    let laddr : a.laddr ≡ b.laddr = same_number a.laddr b.laddr one.0 in
    let lport : a.lport ≡ b.lport = same_number a.lport b.lport two.0 in
    let raddr : a.raddr ≡ b.raddr = same_number a.raddr b.raddr three.0 in
    let rport : a.rport ≡ b.rport = same_number a.rport b.rport three.1 in
    λ i. record { laddr = laddr i; lport = lport i; raddr = raddr i; rport = rport i }

-- The flow of a socket.
use Rattle.std.proofs.Common.{◌≡◌, ℕ, Bool, true, false, List, [], ◌∷◌, bytes_eq, Option, Some, sym, subst, ap}
use Rattle.scenario_runs.specs.Applications.{Bound, AListener, ASocket, Turn, bound_in, flow_of, on_flow, on_socket}
use Rattle.scenario_host.specs.Sound.{IsOneOf, AreNamesOf}

one_has : (has : ℕ → Type 0) (b : Bound) (place : ℕ) → IsOneOf has b → flow_of (Some b) ≡ Some place → has place
one_has has (AListener port) place one found = absurd (cc (found))
one_has has (ASocket n) place one found = let same : n ≡ place = cc (found) in subst has same one

pub socket_of : (has : ℕ → Type 0) (names : List (List ℕ × Bound)) (name : List ℕ) (place : ℕ)
    → AreNamesOf has names → flow_of (bound_in names name) ≡ Some place → has place
socket_of has [] name place all found = absurd (cc (found))
socket_of has (b ∷ bs) name place all found =
    by_name (bytes_eq b.0 name) (socket_of has bs name place all.1) found
  where
    by_name : (same : Bool) → (flow_of (bound_in bs name) ≡ Some place → has place)
        → flow_of (elim same [ true ↦ Some b.1 | false ↦ bound_in bs name ]) ≡ Some place → has place
    by_name true later is = one_has has b.1 place all.0 is
    by_name false later is = later is

pub on_found : (socket : List ℕ) (act : ℕ → Turn → Turn) (x : Turn) (place : ℕ)
    → flow_of (bound_in x.script.names socket) ≡ Some place → act place x ≡ on_socket socket act x
on_found socket act x place found = ap (λ (o : Option ℕ). on_flow o act x) (sym found)

-- Names of a script, and what they stand for.
use Rattle.std.proofs.Common.{◌≡◌, ℕ, Bool, true, false, not, List, [], ◌∷◌, map, filter, cond, bytes_eq, refl, ap}
use Rattle.scenario_runs.specs.Applications.{Bound}
use Rattle.scenario_host.specs.declared.script.Named.{Named}
use Rattle.scenario_host.specs.Scripts.{named}

-- those that stay are the same, seen as pairs
pub map-filter_named : (ns : List Named) (name : List ℕ)
    → map named (filter (λ (n : Named). not (bytes_eq n.name.now name)) ns)
    ≡ filter (λ (b : List ℕ × Bound). not (bytes_eq b.0 name)) (map named ns)
map-filter_named [] name = refl
map-filter_named (n ∷ ns) name = by_test (not (bytes_eq n.name.now name)) (map-filter_named ns name) where
  by_test : (b : Bool)
      → map named (filter (λ (m : Named). not (bytes_eq m.name.now name)) ns)
      ≡ filter (λ (p : List ℕ × Bound). not (bytes_eq p.0 name)) (map named ns)
      → map named
      (cond b (n ∷ filter (λ (m : Named). not (bytes_eq m.name.now name)) ns)
      (filter (λ (m : Named). not (bytes_eq m.name.now name)) ns))
      ≡ cond b (named n ∷ filter (λ (p : List ℕ × Bound). not (bytes_eq p.0 name)) (map named ns))
      (filter (λ (p : List ℕ × Bound). not (bytes_eq p.0 name)) (map named ns))
  by_test true same = ap (λ (ps : List (List ℕ × Bound)). named n ∷ ps) same
  by_test false same = same

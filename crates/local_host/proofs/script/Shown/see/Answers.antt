use Rattle.std.proofs.Common.{rules, arith, ◌≡◌, ◌-◌, ◌^◌, ◌++◌, ◌≤◌, ℕ, List, length, take, min, ◌∙◌}
use Rattle.local_host.proofs.Fitting.{first_that_fit}
use Rattle.local_host.proofs.script.Shown.see.Goals as goal

pub returns : goal.returns
returns c =
    let waiting : List ℕ = c.self.inside.pending in
    let fresh : List ℕ = c.fresh_bytes-fresh.result.now in
    let few : length waiting ≤ 2 ^ 32 - 1 = omega (arith, c.self.invariant) in
    let fits : c.min-fits.result ≡ min (2 ^ 32 - 1 - length waiting) (length fresh) = search rules in
    let seen : c.append.new.self ≡ take (2 ^ 32 - 1) (waiting ++ fresh) =
    c.in_ok-append.ensures.ok ∙ first_that_fit (2 ^ 32 - 1) c.min-fits.result waiting fresh few fits in
    search (rules, seen)

use Rattle.std.proofs.Common.{◌≡◌, ◌≤◌, ◌+◌, ◌-◌, ◌%◌, ℕ, List, take, drop, min, vec_len, ap, ◌∙◌, arith}
use Rattle.scenario_runs.specs.Applications.{most}
use Rattle.scenario_host.proofs.Offers.{offered_again}
use Rattle.scenario_host.proofs.filling.FillBytes.rest.Goals as goal

pub returns : goal.returns
returns c =
    let from : ℕ = c.args.done % 251 in
    let count : from + c.min.result - from ≡ min most (c.args.count - c.args.done) = omega (arith, c.min.ensures) in
    let room : from + min most (c.args.count - c.args.done) ≤ vec_len c.args.self.now.bytes =
    omega (arith, c.args.self.now.enough) in
    ap (λ (n : ℕ). take n (drop from c.deref.result.now)) count
    ∙ (ap (λ (bytes : List ℕ). take (min most (c.args.count - c.args.done)) (drop from bytes))
    (c.deref.ensures.value ∙ c.args.self.now.pattern)
    ∙ offered_again c.args.done c.args.count (vec_len c.args.self.now.bytes) c.requires room)

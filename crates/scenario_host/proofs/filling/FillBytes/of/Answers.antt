use Rattle.std.proofs.Common.{◌≡◌, length, vec_len, ap, ◌∙◌, arith}
use Rattle.scenario_runs.specs.Applications.{filling}
use Rattle.scenario_host.proofs.Offers.{length-filling}
use Rattle.scenario_host.proofs.filling.FillBytes.of.Goals as goal

pub invariant_of-result : goal.invariant_of-result
invariant_of-result c =
    let count : c.args.count ≡ vec_len c.in_ok-bytes.bytes =
    omega (arith, ap length c.in_ok-bytes.ensures, length-filling c.args.count, c.in_ok-bytes.bytes.ok) in
    record { pattern = c.in_ok-bytes.ensures ∙ ap filling count; enough = omega (arith, count, c.requires) }

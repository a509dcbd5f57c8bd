use Rattle.std.proofs.Common.{◌≡◌, ℕ, ◌^◌, ◌<◌, nat_lt, unwrap_or, ◌∙◌, ap, arith}
use Rattle.scenario_text.proofs.LeastRings.{same_least}
use Rattle.scenario_text.proofs.draft.is_below_least.Goals as goal

pub returns : goal.returns
returns c =
    let ring : ℕ = c.args.ring in
    let small : ring < 2 ^ 32 = omega arith in
    ap (λ (n : ℕ). nat_lt n c.least_ring.result) c.from.ensures
    ∙ (ap (nat_lt ring) c.least_ring.ensures ∙ same_least ring (unwrap_or c.args.scale 0) small)

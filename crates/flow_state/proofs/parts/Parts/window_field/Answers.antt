use Rattle.std.proofs.Common.{ℕ, ◌/◌, ◌^◌, ◌<◌, ◌∙◌, ap, arith}
use Rattle.tas_model.specs.Endpoint.{wnd}
use Rattle.flow_state.proofs.ScaledWindows.{same_field}
use Rattle.flow_state.proofs.parts.Parts.window_field.Goals as goal

pub returns : goal.returns
returns c e s =
    let p = c.args.self.now in
    let small : c.window.result < 2 ^ 32 = omega arith in
    ap (λ (n : ℕ). n / c.unit.result) c.from.ensures
    ∙ (ap (λ (d : ℕ). c.window.result / d) c.unit.ensures
    ∙ (same_field c.window.result p.scaling.rs small
    ∙ (ap (λ (n : ℕ). n / 2 ^ p.scaling.rs) (c.window.ensures.wnd e s)
    ∙ ap (λ (k : ℕ). wnd e / 2 ^ k) s.scaling.rs)))

use Rattle.std.proofs.Common.{◌≡◌, ℕ, ◌*◌, ◌^◌, ◌<◌, length, min, ◌∙◌, ap, arith, length-drop}
use Rattle.tas_model.specs.Endpoint.{free}
use Rattle.flow_state.proofs.ScaledWindows.{most_room}
use Rattle.flow_state.proofs.parts.Parts.window.Goals as goal

pub returns-clause-exact : goal.returns-clause-exact
returns-clause-exact c =
    let p = c.args.self.now in
    let is : c.min.result ≡ min c.room.result (65535 * 2 ^ min p.scaling.rs 32) =
    grind (arith, c.from.ensures, c.unit-most.ensures) in
    let small : c.room.result < 2 ^ 32 = omega arith in
    is ∙ (most_room c.room.result p.scaling.rs small
    ∙ ap (λ (n : ℕ). min n (65535 * 2 ^ p.scaling.rs)) c.room.ensures.room)

pub returns-clause-wnd : goal.returns-clause-wnd
returns-clause-wnd c e s =
    let p = c.args.self.now in
    let is : c.min.result ≡ min c.room.result (65535 * 2 ^ min p.scaling.rs 32) =
    grind (arith, c.from.ensures, c.unit-most.ensures) in
    let small : c.room.result < 2 ^ 32 = omega arith in
    let room : c.room.result ≡ free e =
    omega (arith, c.room.ensures.room, s.rx.size, ap (length {A = ℕ}) s.rx.bytes, length-drop e.rx.read e.rx.got) in
    is ∙ (most_room c.room.result p.scaling.rs small
    ∙ (ap (λ (n : ℕ). min n (65535 * 2 ^ p.scaling.rs)) room
    ∙ ap (λ (k : ℕ). min (free e) (65535 * 2 ^ k)) s.scaling.rs))

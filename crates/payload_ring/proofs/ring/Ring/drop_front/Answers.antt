use Rattle.std.proofs.Common.{◌≡◌, ℕ, ◌+◌, ◌-◌, ◌≤◌, ◌<◌, length, ap, ◌∙◌, arith}
use Rattle.payload_ring.specs.Turned.{turned}
use Rattle.payload_ring.proofs.Turning.{length-turned, turned-on}
use Rattle.payload_ring.proofs.Windows.{dropped, length-in_order, on_cells}
use Rattle.payload_ring.proofs.ring.Ring.drop_front.Goals as goal

pub returns : goal.returns
returns c =
    let was = c.self.inside in
    let cells = turned was.start was.cells.cells in
    let within : was.len ≤ length cells = omega (arith, length-turned was.start was.cells.cells, c.self.invariant) in
    let in_order : length c.args.self.now.bytes ≡ was.len =
    length-in_order _ _ was.len _ cells _ within c.self.view_is in
    let fits : c.args.n ≤ was.len = omega (arith, in_order, c.requires) in
    let start : was.start < length was.cells.cells = omega (arith, c.self.invariant) in
    let turn : turned c.index_of-self-inside.result was.cells.cells ≡ _ =
    turned-on was.start c.args.n c.index_of-self-inside.result was.cells.cells start
    (omega (arith, fits, within, length-turned was.start was.cells.cells))
    (λ h. c.index_of-self-inside.ensures.before (omega (arith, h, c.len.ensures)))
    (λ h. c.index_of-self-inside.ensures.past (omega (arith, h, c.len.ensures)) ∙ omega (arith, c.len.ensures)) in
    ap (λ (k : ℕ). on_cells (length was.cells.cells) (was.base + k) (was.len - c.args.n) was.cells.ready
    (turned c.index_of-self-inside.result was.cells.cells)) c.from.ensures
    ∙ dropped _ _ was.len c.args.n _ cells _ _ fits within turn c.self.view_is

use Rattle.std.proofs.Common.{◌≡◌, ℕ, ◌-◌, ◌≤◌, Bool, length, ap, ◌∙◌, arith}
use Rattle.payload_ring.specs.Window.{Window, overlaid, end_of}
use Rattle.payload_ring.specs.Turned.{turned}
use Rattle.payload_ring.proofs.Turning.{length-turned}
use Rattle.payload_ring.proofs.Windows.{on_cells, placed_ahead, length-in_order}
use Rattle.payload_ring.proofs.ring.Ring.put_at.Goals as goal

pub returns-clause-ahead : goal.returns-clause-ahead
returns-clause-ahead c past =
    let was = c.self.inside in
    let cells = turned was.start was.cells.cells in
    let size : length was.cells.cells ≡ c.args.self.now.size = ap (λ (w : Window). w.size) c.self.view_is in
    let base : was.base ≡ c.args.self.now.base = ap (λ (w : Window). w.base) c.self.view_is in
    let within : was.len ≤ length cells = omega (arith, length-turned was.start was.cells.cells, c.self.invariant) in
    let in_order : length c.args.self.now.bytes ≡ was.len =
    length-in_order _ _ was.len _ cells _ within c.self.view_is in
    let at = c.args.pos - was.base in
    let beyond : was.len ≤ at = omega (arith, base, in_order, past) in
    let inside : at ≤ length cells =
    omega (arith, base, size, length-turned was.start was.cells.cells, c.requires.below) in
    let offset : at - length c.args.self.now.bytes ≡ c.args.pos - end_of c.args.self.now = omega (arith, base) in
    let new = turned was.start c.put_round.new.self.cells in
    ap (λ (n : ℕ). on_cells n was.base was.len c.put_round.new.self.ready new) c.put_round.ensures.len
    ∙ ap (λ (r : Bool). on_cells (length was.cells.cells) was.base was.len r new) c.put_round.ensures.ready
    ∙ (placed_ahead _ _ was.len at _ c.args.bytes.now cells _ _ beyond inside c.put_round.ensures.cells c.self.view_is
    ∙ ap (λ (n : ℕ). record (c.args.self.now) { ahead = overlaid n c.args.bytes.now c.args.self.now.ahead }) offset)

use Rattle.std.proofs.Common.{◌≡◌, ℕ, ◌+◌, ◌≤◌, Bool, length, ap, ◌∙◌, arith}
use Rattle.payload_ring.specs.Window.{Window}
use Rattle.payload_ring.specs.Turned.{turned}
use Rattle.payload_ring.proofs.Turning.{length-turned}
use Rattle.payload_ring.proofs.Windows.{on_cells, appended, length-in_order}
use Rattle.payload_ring.proofs.ring.Ring.append.Goals as goal

pub returns : goal.returns
returns c =
    let was = c.self.inside in
    let cells = turned was.start was.cells.cells in
    let size : length was.cells.cells ≡ c.args.self.now.size = ap (λ (w : Window). w.size) c.self.view_is in
    let within : was.len ≤ length cells = omega (arith, length-turned was.start was.cells.cells, c.self.invariant) in
    let in_order : length c.args.self.now.bytes ≡ was.len =
    length-in_order _ _ was.len _ cells _ within c.self.view_is in
    let fits : was.len + length c.args.bytes.now ≤ length cells =
    omega (arith, length-turned was.start was.cells.cells, size, in_order, within, c.requires.room) in
    let new = turned was.start c.put_round.new.self.cells in
    ap (λ (n : ℕ). on_cells n was.base (was.len + length c.args.bytes.now) c.put_round.new.self.ready new)
    c.put_round.ensures.len
    ∙ ap (λ (r : Bool). on_cells (length was.cells.cells) was.base (was.len + length c.args.bytes.now) r new)
    c.put_round.ensures.ready
    ∙ appended _ _ was.len _ c.args.bytes.now cells _ _ fits c.put_round.ensures.cells c.self.view_is

use Rattle.std.proofs.Common.{◌≡◌, ◌∙◌, ℕ, ◌+◌, ◌-◌, ◌≤◌, ◌++◌, List, length, replicate, vec_len, ap, arith}
use Rattle.std.proofs.Common.{length-append}
use Rattle.std.proofs.lemmas.List.{length-replicate}
use Rattle.payload_ring.specs.Window.{overlaid}
use Rattle.payload_ring.specs.Turned.{Store}
use Rattle.payload_ring.proofs.Zeros.{put_over}
use Rattle.payload_ring.proofs.cells.Cells.put.Goals as goal

pub returns-clause-cells : goal.returns-clause-cells
returns-clause-cells c =
    let b : List ℕ = c.self.inside.bytes.items in
    let f : List ℕ = c.fill_with_zeros.new.bytes.items in
    let p : List ℕ = c.args.piece.now in
    let at : ℕ = c.args.at in
    let n : ℕ = vec_len c.self.inside.bytes in
    let k : ℕ = at + length p - n in
    let all : ℕ = c.self.inside.size - n in
    let m : ℕ = c.self.inside.size - vec_len c.write_over.new.bytes in
    let whole : length (b ++ replicate all 0) ≡ length c.args.self.now.cells =
    ap (λ (s : Store). length s.cells) c.self.view_is in
    let room : at + length p ≤ n + all = omega (
      arith,
      whole,
      c.requires.fits,
      length-append b (replicate all 0),
      length-replicate {A = ℕ} all 0,
      c.self.inside.bytes.ok,
    ) in
    let grown : length f ≡ n + k = omega (
      arith,
      ap length c.fill_with_zeros.ensures.items,
      length-append b (replicate k 0),
      length-replicate {A = ℕ} k 0,
      c.self.inside.bytes.ok,
    ) in
    let sum : k + m ≡ all = omega (
      arith,
      room,
      grown,
      c.fill_with_zeros.new.bytes.ok,
      c.write_over.ensures.len,
      c.self.invariant,
    ) in
    put_over b f c.write_over.new.bytes.items p at k m all c.fill_with_zeros.ensures.items sum
    (omega (arith, grown)) c.write_over.ensures.items ∙ ap (λ (s : Store). overlaid at p s.cells) c.self.view_is

use Rattle.std.proofs.Common.{◌≡◌, ◌∙◌, ℕ, ◌-◌, ◌++◌, List, length, take, drop, replicate, vec_len, ap, arith}
use Rattle.std.proofs.Common.{length-append, length-drop}
use Rattle.std.proofs.lemmas.List.{length-replicate, take_all}
use Rattle.payload_ring.specs.Turned.{Store}
use Rattle.payload_ring.proofs.Zeros.{padded, read_padded}
use Rattle.payload_ring.proofs.cells.Cells.copy.Goals as goal

pub returns : goal.returns
returns c =
    let b : List ℕ = c.self.inside.bytes.items in
    let n : ℕ = length c.args.out.now in
    let left : ℕ = c.self.inside.size - vec_len c.self.inside.bytes in
    let whole : length (b ++ replicate left 0) ≡ length c.args.self.now.cells =
    ap (λ (s : Store). length s.cells) c.self.view_is in
    let given : List ℕ = c.deref.result.now in
    let rest : take (length given - c.min.result) (drop c.min.result given) ≡ drop c.min.result b =
    take_all (length given - c.min.result) (drop c.min.result given) (omega (arith, length-drop c.min.result given))
    ∙ ap (drop c.min.result) c.deref.ensures.value in
    let made : c.copy_front.new.out ≡ padded n (drop c.min.result b) = c.copy_front.ensures ∙ ap (padded n) rest in
    made
    ∙ (read_padded b c.args.at c.min.result n left (omega (arith, c.min.ensures, c.len.ensures, c.self.inside.bytes.ok))
    (omega (arith, whole, c.requires, length-append b (replicate left 0), length-replicate {A = ℕ} left 0))
    ∙ ap (λ (s : Store). take n (drop c.args.at s.cells)) c.self.view_is)

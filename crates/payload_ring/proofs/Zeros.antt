-- Cells that nothing was written to yet: they are zero, and lie behind those in memory.
use Rattle.std.proofs.Common.{◌≡◌, ℕ, ◌+◌, ◌-◌, ◌<◌, ◌≤◌, List, [], ◌++◌, ◌⊎◌, inl, inr, length, take, drop, min}
use Rattle.std.proofs.Common.{replicate, sym, ap, ◌∙◌, arith, append_assoc, length-drop}
use Rattle.std.proofs.lemmas.List.{take-append-le, drop-append-le, append-nil, take_all, replicate-append-replicate}
use Rattle.std.proofs.lemmas.List.{take-replicate, drop-replicate}
use Rattle.std.proofs.Math.Seq.{take-append-add, drop-append-add, drop-length}
use Rattle.std.proofs.lemmas.Bool.{cases_lt}
use Rattle.payload_ring.specs.Window.{overlaid}
use Rattle.payload_ring.proofs.Turning.{overlaid-left}

-- zeros that are written change no cell
filled : (b : List ℕ) (k m all : ℕ) → k + m ≡ all → (b ++ replicate k 0) ++ replicate m 0 ≡ b ++ replicate all 0
filled b k m all sum =
    append_assoc b (replicate k 0) (replicate m 0)
    ∙ ap (λ (zs : List ℕ). b ++ zs) (replicate-append-replicate k m 0 ∙ ap (λ (n : ℕ). replicate n 0) sum)

-- a piece is written behind such zeros
pub put_over : (b f new p : List ℕ) (at k m all : ℕ) → f ≡ b ++ replicate k 0 → k + m ≡ all → at + length p ≤ length f
    → new ≡ overlaid at p f
    → new ++ replicate m 0 ≡ overlaid at p (b ++ replicate all 0)
put_over b f new p at k m all is sum fits wrote =
    ap (λ (xs : List ℕ). xs ++ replicate m 0) wrote
    ∙ (sym (overlaid-left at p f (replicate m 0) fits)
    ∙ ap (overlaid at p) (ap (λ (xs : List ℕ). xs ++ replicate m 0) is ∙ filled b k m all sum))

-- bytes, and zeros behind them where there are too few
abbrev pub padded : (n : ℕ) (w : List ℕ) → List ℕ
padded n w = take n w ++ replicate (n - length w) 0

padded_is : (n k : ℕ) (w : List ℕ) → n ≤ length w + k → (length w < n) ⊎ (n ≤ length w)
    → padded n w ≡ take n (w ++ replicate k 0)
padded_is n k w room (inl more) =
    let rest : ℕ = n - length w in
    let sum : length w + rest ≡ n = omega (arith, more) in
    ap (λ (xs : List ℕ). xs ++ replicate rest 0) (take_all n w (omega (arith, more)))
    ∙ (ap (λ (zs : List ℕ). w ++ zs) (sym (take-replicate rest k 0 (omega (arith, room, more))))
    ∙ (sym (take-append-add w (replicate k 0) rest) ∙ ap (λ (m : ℕ). take m (w ++ replicate k 0)) sum))
padded_is n k w room (inr few) =
    let none : n - length w ≡ 0 = omega (arith, few) in
    ap (λ (m : ℕ). take n w ++ replicate m 0) none
    ∙ (append-nil (take n w) ∙ sym (take-append-le n w (replicate k 0) few))

read_at : (b : List ℕ) (at i n k : ℕ) → i ≡ min at (length b) → at + n ≤ length b + k
    → (length b < at) ⊎ (at ≤ length b) → padded n (drop i b) ≡ take n (drop at (b ++ replicate k 0))
read_at b at i n k from room (inl past) =
    let rest : ℕ = at - length b in
    let sum : length b + rest ≡ at = omega (arith, past) in
    let place : i ≡ length b = omega (arith, from, past) in
    let none : drop i b ≡ [] = ap (λ (j : ℕ). drop j b) place ∙ drop-length b in
    let zeros : drop at (b ++ replicate k 0) ≡ replicate (k - rest) 0 =
    ap (λ (j : ℕ). drop j (b ++ replicate k 0)) (sym sum)
    ∙ (drop-append-add b (replicate k 0) rest ∙ drop-replicate rest k 0) in
    let all : n - 0 ≡ n = omega arith in
    ap (padded n) none
    ∙ (ap (λ (xs : List ℕ). xs ++ replicate (n - 0) 0) (take_all n [] (omega arith))
    ∙ (ap (λ (j : ℕ). replicate j 0) all ∙ (sym (take-replicate n (k - rest) 0 (omega (arith, room, past)))
    ∙ ap (take n) (sym zeros))))
read_at b at i n k from room (inr inside) =
    let place : i ≡ at = omega (arith, from, inside) in
    ap (λ (j : ℕ). padded n (drop j b)) place
    ∙ (padded_is n k (drop at b) (omega (arith, room, inside, length-drop at b)) (cases_lt (length (drop at b)) n)
    ∙ ap (take n) (sym (drop-append-le at b (replicate k 0) inside)))

-- n cells are read from the index `at` on
pub read_padded : (b : List ℕ) (at i n k : ℕ) → i ≡ min at (length b) → at + n ≤ length b + k
    → padded n (drop i b) ≡ take n (drop at (b ++ replicate k 0))
read_padded b at i n k from room = read_at b at i n k from room (cases_lt (length b) at)

-- The calls of a ring, seen on the cells in order of their places.
use Rattle.std.proofs.Common.{◌≡◌, ℕ, ◌+◌, ◌-◌, ◌≤◌, Bool, List, ◌++◌, length, take, drop, sym, subst, ap, ◌∙◌, arith}
use Rattle.std.proofs.Common.{append_assoc, length-append, length-drop}
use Rattle.std.proofs.lemmas.List.{take-append-le, drop-append-le, take_at, drop_at, drop-drop, take-append-drop}
use Rattle.std.proofs.lemmas.List.{drop-take, take-take, length-take, length-take-le}
use Rattle.std.proofs.Math.Seq.{take-add}
use Rattle.payload_ring.specs.Window.{Window, overlaid}
use Rattle.payload_ring.proofs.Turning.{overlaid-right}

pub taken-overlaid : (at : ℕ) (p cells : List ℕ) → at + length p ≤ length cells
    → take (at + length p) (overlaid at p cells) ≡ take at cells ++ p
taken-overlaid at p cells h =
    let front : length (take at cells ++ p) ≡ at + length p =
    omega (arith, length-append (take at cells) p, length-take at cells) in
    ap (take (at + length p)) (sym (append_assoc (take at cells) p (drop (at + length p) cells)))
    ∙ take_at (take at cells ++ p) _ (at + length p) front

pub dropped-overlaid : (at : ℕ) (p cells : List ℕ) → at + length p ≤ length cells
    → drop (at + length p) (overlaid at p cells) ≡ drop (length p) (drop at cells)
dropped-overlaid at p cells h =
    let front : length (take at cells ++ p) ≡ at + length p =
    omega (arith, length-append (take at cells) p, length-take at cells) in
    ap (drop (at + length p)) (sym (append_assoc (take at cells) p (drop (at + length p) cells)))
    ∙ (drop_at (take at cells ++ p) _ (at + length p) front ∙ sym (drop-drop (length p) at cells))

-- what is written past the first n cells leaves them
pub take-overlaid : (n at : ℕ) (p cells : List ℕ) → n ≤ at → at ≤ length cells
    → take n (overlaid at p cells) ≡ take n cells
take-overlaid n at p cells h k =
    let front : length (take at cells) ≡ at = length-take-le at cells k in
    let inside : n ≤ length (take at cells) = omega arith in
    take-append-le n (take at cells) (p ++ drop (at + length p) cells) inside
    ∙ (sym (take-append-le n (take at cells) (drop at cells) inside) ∙ ap (take n) (take-append-drop at cells))

-- and changes the others alone
pub drop-overlaid : (n at : ℕ) (p cells : List ℕ) → n ≤ at → at ≤ length cells
    → drop n (overlaid at p cells) ≡ overlaid (at - n) p (drop n cells)
drop-overlaid n at p cells h k =
    let front : length (take n cells) ≡ n = length-take-le n cells (omega arith) in
    let split : length (take n cells) + (at - n) ≡ at = omega arith in
    let written : overlaid at p cells ≡ take n cells ++ overlaid (at - n) p (drop n cells) =
    ap (overlaid at p) (sym (take-append-drop n cells))
    ∙ (ap (λ (i : ℕ). overlaid i p (take n cells ++ drop n cells)) (sym split)
    ∙ overlaid-right (at - n) p (take n cells) (drop n cells)) in
    ap (drop n) written ∙ drop_at (take n cells) _ n front

-- the window on these cells, of which the first l stand in order
abbrev pub on_cells : (n base l : ℕ) (r : Bool) (cells : List ℕ) → Window
on_cells n base l r cells = record { size = n; base = base; bytes = take l cells; ahead = drop l cells; ready = r }

abbrev the_window : (n base : ℕ) (r : Bool) (bytes ahead : List ℕ) → Window
the_window n base r bytes ahead = record { size = n; base = base; bytes = bytes; ahead = ahead; ready = r }

same_window : (n base : ℕ) (r : Bool) (a b c d : List ℕ) → a ≡ c → b ≡ d
    → the_window n base r a b ≡ the_window n base r c d
same_window n base r a b c d e f =
    ap (λ (x : List ℕ). the_window n base r x b) e ∙ ap (the_window n base r c) f

pub advanced : (n base l k : ℕ) (r : Bool) (cells : List ℕ) (w : Window) → on_cells n base l r cells ≡ w
    → on_cells n base (l + k) r cells ≡ record w { bytes = w.bytes ++ take k w.ahead; ahead = drop k w.ahead }
advanced n base l k r cells w is =
    subst (λ (v : Window). on_cells n base (l + k) r cells ≡ record v {
      bytes = v.bytes ++ take k v.ahead;
      ahead = drop k v.ahead;
    }) is
    (same_window n base r _ _ _ _ (take-add l k cells) (sym (drop-drop k l cells)))

pub appended : (n base l : ℕ) (r : Bool) (p cells new : List ℕ) (w : Window) → l + length p ≤ length cells
    → new ≡ overlaid l p cells → on_cells n base l r cells ≡ w
    → on_cells n base (l + length p) r new ≡ record w { bytes = w.bytes ++ p; ahead = drop (length p) w.ahead }
appended n base l r p cells new w fits wrote is =
    subst (λ (v : Window). on_cells n base (l + length p) r new ≡ record v {
      bytes = v.bytes ++ p;
      ahead = drop (length p) v.ahead;
    }) is
    (ap (on_cells n base (l + length p) r) wrote
    ∙ same_window n base r _ _ _ _ (taken-overlaid l p cells fits) (dropped-overlaid l p cells fits))

pub dropped : (n base l k : ℕ) (r : Bool) (cells new : List ℕ) (w : Window) → k ≤ l → l ≤ length cells
    → new ≡ drop k cells ++ take k cells → on_cells n base l r cells ≡ w
    → on_cells n (base + k) (l - k) r new ≡ record w {
      base = w.base + k;
      bytes = drop k w.bytes;
      ahead = w.ahead
          ++ take k w.bytes;
    }
dropped n base l k r cells new w fits within turned is =
    let inside : l - k ≤ length (drop k cells) = omega (arith, length-drop k cells) in
    let sum : k + (l - k) ≡ l = omega arith in
    let bytes : take (l - k) (drop k cells ++ take k cells) ≡ drop k (take l cells) =
    take-append-le (l - k) (drop k cells) (take k cells) inside
    ∙ (sym (drop-take k (l - k) cells) ∙ ap (λ (j : ℕ). drop k (take j cells)) sum) in
    let ahead : drop (l - k) (drop k cells ++ take k cells) ≡ drop l cells ++ take k (take l cells) =
    drop-append-le (l - k) (drop k cells) (take k cells) inside
    ∙ (ap (λ (x : List ℕ). x ++ take k cells) (drop-drop (l - k) k cells ∙ ap (λ (j : ℕ). drop j cells) sum)
    ∙ ap (λ (x : List ℕ). drop l cells ++ x) (sym (take-take k l cells fits))) in
    subst (λ (v : Window). on_cells n (base + k) (l - k) r new ≡ record v {
      base = v.base + k;
      bytes = drop k v.bytes;
      ahead = v.ahead ++ take k v.bytes;
    }) is
    (ap (on_cells n (base + k) (l - k) r) turned ∙ same_window n (base + k) r _ _ _ _ bytes ahead)

pub placed_ahead : (n base l at : ℕ) (r : Bool) (p cells new : List ℕ) (w : Window) → l ≤ at → at ≤ length cells
    → new ≡ overlaid at p cells → on_cells n base l r cells ≡ w
    → on_cells n base l r new ≡ record w { ahead = overlaid (at - length w.bytes) p w.ahead }
placed_ahead n base l at r p cells new w past within wrote is =
    let front : length (take l cells) ≡ l = length-take-le l cells (omega arith) in
    let ahead : drop l (overlaid at p cells) ≡ overlaid (at - length (take l cells)) p (drop l cells) =
    drop-overlaid l at p cells past within ∙ ap (λ (j : ℕ). overlaid (at - j) p (drop l cells)) (sym front) in
    subst (λ (v : Window). on_cells n base l r new ≡ record v { ahead = overlaid (at - length v.bytes) p v.ahead }) is
    (ap (on_cells n base l r) wrote ∙ same_window n base r _ _ _ _ (take-overlaid l at p cells past within) ahead)

pub length-in_order : (n base l : ℕ) (r : Bool) (cells : List ℕ) (w : Window) → l ≤ length cells
    → on_cells n base l r cells ≡ w → length w.bytes ≡ l
length-in_order n base l r cells w h is = ap (λ (v : Window). length v.bytes) (sym is) ∙ length-take-le l cells h

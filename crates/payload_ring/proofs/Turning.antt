-- A piece written or read round the end of the memory.
use Rattle.std.proofs.Common.{◌≡◌, ℕ, ◌+◌, ◌-◌, ◌<◌, ◌≤◌, List, [], ◌++◌, ◌⊎◌, length, take, drop, min, refl, sym, ap}
use Rattle.std.proofs.Common.{◌∙◌, arith, inl, inr, append_assoc, length-append, length-drop}
use Rattle.std.proofs.lemmas.List.{take-append-le, drop-append-le, take_at, drop_at, drop-drop, take-append-drop}
use Rattle.std.proofs.lemmas.List.{length-take, length-take-le, append-nil, take_all, drop_all}
use Rattle.std.proofs.Math.Seq.{take-append-add, drop-append-add, drop-length}
use Rattle.std.proofs.lemmas.Bool.{cases_lt}
use Rattle.payload_ring.specs.Window.{overlaid}
use Rattle.payload_ring.specs.Turned.{turned}

pub overlaid-left : (at : ℕ) (p a b : List ℕ) → at + length p ≤ length a → overlaid at p (a ++ b) ≡ overlaid at p a ++ b
overlaid-left at p a b h =
    ap (λ (x : List ℕ). x ++ (p ++ drop (at + length p) (a ++ b))) (take-append-le at a b (omega arith))
    ∙ (ap (λ (x : List ℕ). take at a ++ (p ++ x)) (drop-append-le (at + length p) a b h)
    ∙ (ap (λ (x : List ℕ). take at a ++ x) (sym (append_assoc p (drop (at + length p) a) b))
    ∙ sym (append_assoc (take at a) (p ++ drop (at + length p) a) b)))

pub overlaid-right : (at : ℕ) (p a b : List ℕ) → overlaid (length a + at) p (a ++ b) ≡ a ++ overlaid at p b
overlaid-right at p a b =
    let far : length a + at + length p ≡ length a + (at + length p) = omega arith in
    ap (λ (x : List ℕ). x ++ (p ++ drop (length a + at + length p) (a ++ b))) (take-append-add a b at)
    ∙ (ap (λ (n : ℕ). (a ++ take at b) ++ (p ++ drop n (a ++ b))) far
    ∙ (ap (λ (x : List ℕ). (a ++ take at b) ++ (p ++ x)) (drop-append-add a b (at + length p))
    ∙ append_assoc a (take at b) (p ++ drop (at + length p) b)))

overlaid-first : (p cells : List ℕ) → overlaid 0 p cells ≡ p ++ drop (length p) cells
overlaid-first p cells = let whole : 0 + length p ≡ length p = omega arith in ap (λ (n : ℕ). p ++ drop n cells) whole

-- two pieces that fill the cells
pub overlaid-both : (f g cells : List ℕ) → length f + length g ≡ length cells
    → overlaid (length f) g (overlaid 0 f cells) ≡ f ++ g
overlaid-both f g cells h =
    ap (overlaid (length f) g) (overlaid-first f cells)
    ∙ (ap (λ (x : List ℕ). x ++ (g ++ drop (length f + length g) (f ++ drop (length f) cells)))
    (take_at f (drop (length f) cells) (length f) refl)
    ∙ (ap (λ (x : List ℕ). f ++ (g ++ x)) (drop-append-add f (drop (length f) cells) (length g)
    ∙ (drop-drop (length g) (length f) cells ∙ drop_all (length f + length g) cells (omega arith)))
    ∙ ap (λ (x : List ℕ). f ++ x) (append-nil g)))

pub length-overlaid : (at : ℕ) (p cells : List ℕ) → at + length p ≤ length cells
    → length (overlaid at p cells) ≡ length cells
length-overlaid at p cells h = omega (
  arith,
  length-append (take at cells) (p ++ drop (at + length p) cells),
  length-append p (drop (at + length p) cells),
  length-take at cells,
  length-drop (at + length p) cells,
)

pub turned-at : (start : ℕ) (a b : List ℕ) → length a ≡ start → turned start (a ++ b) ≡ b ++ a
turned-at start a b h = ap (λ (x : List ℕ). x ++ take start (a ++ b)) (drop_at a b start h)
    ∙ ap (λ (x : List ℕ). b ++ x) (take_at a b start h)

-- written before the end of the memory
pub write_before : (at : ℕ) (p a b : List ℕ) → at + length p ≤ length b
    → turned (length a) (overlaid (length a + at) p (a ++ b)) ≡ overlaid at p (b ++ a)
write_before at p a b h = ap (turned (length a)) (overlaid-right at p a b)
    ∙ (turned-at (length a) a (overlaid at p b) refl ∙ sym (overlaid-left at p b a h))

-- written past it, from the beginning of the memory on
pub write_past : (at : ℕ) (p a b : List ℕ) → at + length p ≤ length a
    → turned (length a) (overlaid at p (a ++ b)) ≡ overlaid (length b + at) p (b ++ a)
write_past at p a b h = ap (turned (length a)) (overlaid-left at p a b h)
    ∙ (turned-at (length a) (overlaid at p a) b (length-overlaid at p a h) ∙ sym (overlaid-right at p b a))

-- written in two pieces
pub write_both : (at : ℕ) (f g a b : List ℕ) → at + length f ≡ length b → length g ≤ length a
    → turned (length a) (overlaid 0 g (overlaid (length a + at) f (a ++ b))) ≡ overlaid at (f ++ g) (b ++ a)
write_both at f g a b h k =
    let fits : 0 + length g ≤ length a = omega arith in
    let none : drop (at + length f) b ≡ [] = ap (λ (n : ℕ). drop n b) h ∙ drop-length b in
    let tail : overlaid at f b ≡ take at b ++ f = ap (λ (x : List ℕ). take at b ++ (f ++ x)) none
    ∙ ap (λ (x : List ℕ). take at b ++ x) (append-nil f) in
    let first : overlaid (length a + at) f (a ++ b) ≡ a ++ (take at b ++ f) = overlaid-right at f a b
    ∙ ap (λ (x : List ℕ). a ++ x) tail in
    let second : overlaid 0 g (overlaid (length a + at) f (a ++ b)) ≡ overlaid 0 g a ++ (take at b ++ f) =
    ap (overlaid 0 g) first ∙ overlaid-left 0 g a (take at b ++ f) fits in
    let turn : turned (length a) (overlaid 0 g (overlaid (length a + at) f (a ++ b))) ≡ (take at b ++ f)
    ++ overlaid 0 g a =
    ap (turned (length a)) second ∙ turned-at (length a) (overlaid 0 g a) (take at b
    ++ f) (length-overlaid 0 g a fits) in
    let kept : take at (b ++ a) ≡ take at b = take-append-le at b a (omega arith) in
    let past : at + length (f ++ g) ≡ length b + length g = omega (arith, length-append f g) in
    let rest : drop (at + length (f ++ g)) (b ++ a) ≡ drop (length g) a = ap (λ (n : ℕ). drop n (b ++ a)) past
    ∙ drop-append-add b a (length g) in
    let goal : overlaid at (f ++ g) (b ++ a) ≡ take at b ++ ((f ++ g) ++ drop (length g) a) =
    ap (λ (x : List ℕ). x ++ ((f ++ g) ++ drop (at + length (f ++ g)) (b ++ a))) kept
    ∙ ap (λ (x : List ℕ). take at b ++ ((f ++ g) ++ x)) rest in
    turn ∙ (ap (λ (x : List ℕ). (take at b ++ f) ++ x) (overlaid-first g a)
    ∙ (append_assoc (take at b) f (g ++ drop (length g) a)
    ∙ (ap (λ (x : List ℕ). take at b ++ x) (sym (append_assoc f g (drop (length g) a))) ∙ sym goal)))

-- what two writes leave: of the first m bytes from the index i on, and of the others from the beginning of the memory
-- on
abbrev written : (start i m : ℕ) (p xs : List ℕ) → List ℕ
written start i m p xs = turned start (overlaid 0 (drop m p) (overlaid i (take m p) xs))

whole_piece : (start i m : ℕ) (p xs : List ℕ) → length p ≤ m → written start i m p xs ≡ turned start (overlaid i p xs)
whole_piece start i m p xs h =
    ap (λ (x : List ℕ). turned start (overlaid 0 x (overlaid i (take m p) xs))) (drop_all m p h)
    ∙ ap (λ (x : List ℕ). turned start (overlaid i x xs)) (take_all m p h)

near_end : (at m : ℕ) (p a b : List ℕ) → at ≤ length b → at + length p ≤ length b + length a
    → m ≡ min (length p) (length b - at)
    → (length b < at + length p) ⊎ (at + length p ≤ length b)
    → written (length a) (length a + at) m p (a ++ b) ≡ overlaid at p (b ++ a)
near_end at m p a b h k count (inl more) =
    let head : at + length (take m p) ≡ length b = omega (arith, length-take m p) in
    let tail : length (drop m p) ≤ length a = omega (arith, length-drop m p) in
    write_both at (take m p) (drop m p) a b head tail
    ∙ ap (λ (x : List ℕ). overlaid at x (b ++ a)) (take-append-drop m p)
near_end at m p a b h k count (inr less) = whole_piece (length a) (length a + at) m p (a ++ b) (omega arith)
    ∙ write_before at p a b less

round : (start at i m : ℕ) (p xs : List ℕ) → start < length xs → at + length p ≤ length xs
    → (start + at < length xs → i ≡ start + at) → (length xs ≤ start + at → i ≡ start + at - length xs)
    → m ≡ min (length p) (length xs - i)
    → (start + at < length xs) ⊎ (length xs ≤ start + at) → written start i m p xs ≡ overlaid at p (turned start xs)
round start at i m p xs h k near far count (inl before) =
    let front : start ≡ length (take start xs) = sym (length-take-le start xs (omega arith)) in
    let back : length (drop start xs) ≡ length xs - start = length-drop start xs in
    let place : i ≡ length (take start xs) + at = near before ∙ ap (λ (n : ℕ). n + at) front in
    ap (λ (n : ℕ). written n i m p xs) front
    ∙ (ap (λ (n : ℕ). written (length (take start xs)) n m p xs) place
    ∙ (ap (written (length (take start xs)) (length (take start xs) + at) m p) (sym (take-append-drop start xs))
    ∙ near_end at m p (take start xs) (drop start xs) (omega arith) (omega arith) (omega arith)
    (cases_lt (length (drop start xs)) (at + length p))))
round start at i m p xs h k near far count (inr past) =
    let front : start ≡ length (take start xs) = sym (length-take-le start xs (omega arith)) in
    let back : length (drop start xs) ≡ length xs - start = length-drop start xs in
    let place : i ≡ start + at - length xs = far past in
    let fits : i + length p ≤ length (take start xs) = omega arith in
    whole_piece start i m p xs (omega arith)
    ∙ (ap (λ (n : ℕ). turned n (overlaid i p xs)) front
    ∙ (ap (λ (x : List ℕ). turned (length (take start xs)) (overlaid i p x)) (sym (take-append-drop start xs))
    ∙ (write_past i p (take start xs) (drop start xs) fits
    ∙ ap (λ (n : ℕ). overlaid n p (drop start xs ++ take start xs)) (omega arith))))

-- a piece is written over the cells at the offset `at`, also round the end of the memory
pub written-round : (start at i m : ℕ) (p xs : List ℕ) → start < length xs → at + length p ≤ length xs
    → (start + at < length xs → i ≡ start + at) → (length xs ≤ start + at → i ≡ start + at - length xs)
    → m ≡ min (length p) (length xs - i)
    → turned start (overlaid 0 (drop m p) (overlaid i (take m p) xs)) ≡ overlaid at p (turned start xs)
written-round start at i m p xs h k near far count =
    round start at i m p xs h k near far count (cases_lt (start + at) (length xs))

-- what two reads give: n bytes in all, the first m of them from the index i on, and the others from the beginning of
-- the memory on
abbrev read : (i m n : ℕ) (xs : List ℕ) → List ℕ
read i m n xs = take m (drop i xs) ++ take (n - m) xs

read_whole : (i m n : ℕ) (xs : List ℕ) → n ≡ m → read i m n xs ≡ take n (drop i xs)
read_whole i m n xs h =
    let none : n - m ≡ 0 = omega arith in
    ap (λ (k : ℕ). take m (drop i xs) ++ take k xs) none
    ∙ (append-nil (take m (drop i xs)) ∙ ap (λ (k : ℕ). take k (drop i xs)) (sym h))

read_near : (at m n : ℕ) (a b : List ℕ) → at ≤ length b → at + n ≤ length b + length a → m ≡ min n (length b - at)
    → (length b < at + n) ⊎ (at + n ≤ length b) → read (length a + at) m n (a ++ b) ≡ take n (drop at (b ++ a))
read_near at m n a b h k count (inl more) =
    let left : length (drop at b) ≡ m = omega (arith, length-drop at b) in
    let whole : take m (drop at b) ≡ drop at b = take_all m (drop at b) (omega arith) in
    let sum : n ≡ length (drop at b) + (n - m) = omega arith in
    ap (λ (x : List ℕ). take m x ++ take (n - m) (a ++ b)) (drop-append-add a b at)
    ∙ (ap (λ (x : List ℕ). x ++ take (n - m) (a ++ b)) whole
    ∙ (ap (λ (x : List ℕ). drop at b ++ x) (take-append-le (n - m) a b (omega arith))
    ∙ (sym (take-append-add (drop at b) a (n - m))
    ∙ (ap (λ (k : ℕ). take k (drop at b ++ a)) (sym sum) ∙ ap (take n) (sym (drop-append-le at b a h))))))
read_near at m n a b h k count (inr less) =
    let fits : n ≤ length (drop at b) = omega (arith, length-drop at b) in
    read_whole (length a + at) m n (a ++ b) (omega arith)
    ∙ (ap (take n) (drop-append-add a b at)
    ∙ (sym (take-append-le n (drop at b) a fits) ∙ ap (take n) (sym (drop-append-le at b a h))))

read_at : (start at i m n : ℕ) (xs : List ℕ) → start < length xs → at + n ≤ length xs
    → (start + at < length xs → i ≡ start + at) → (length xs ≤ start + at → i ≡ start + at - length xs)
    → m ≡ min n (length xs - i)
    → (start + at < length xs) ⊎ (length xs ≤ start + at) → read i m n xs ≡ take n (drop at (turned start xs))
read_at start at i m n xs h k near far count (inl before) =
    let front : start ≡ length (take start xs) = sym (length-take-le start xs (omega arith)) in
    let back : length (drop start xs) ≡ length xs - start = length-drop start xs in
    let place : i ≡ length (take start xs) + at = near before ∙ ap (λ (n : ℕ). n + at) front in
    ap (λ (j : ℕ). read j m n xs) place
    ∙ (ap (read (length (take start xs) + at) m n) (sym (take-append-drop start xs))
    ∙ read_near at m n (take start xs) (drop start xs) (omega arith) (omega arith) (omega arith)
    (cases_lt (length (drop start xs)) (at + n)))
read_at start at i m n xs h k near far count (inr past) =
    let front : length (take start xs) ≡ start = length-take-le start xs (omega arith) in
    let back : length (drop start xs) ≡ length xs - start = length-drop start xs in
    let place : i ≡ start + at - length xs = far past in
    let offset : at ≡ length (drop start xs) + i = omega arith in
    let inside : n ≤ length (drop i (take start xs)) = omega (arith, length-drop i (take start xs)) in
    read_whole i m n xs (omega arith)
    ∙ (ap (λ (x : List ℕ). take n (drop i x)) (sym (take-append-drop start xs))
    ∙ (ap (take n) (drop-append-le i (take start xs) (drop start xs) (omega arith))
    ∙ (take-append-le n (drop i (take start xs)) (drop start xs) inside
    ∙ (ap (take n) (sym (drop-append-add (drop start xs) (take start xs) i))
    ∙ ap (λ (j : ℕ). take n (drop j (drop start xs ++ take start xs))) (sym offset)))))

-- n bytes are read from the offset `at` on, also round the end of the memory
pub read-round : (start at i m n : ℕ) (xs : List ℕ) → start < length xs → at + n ≤ length xs
    → (start + at < length xs → i ≡ start + at) → (length xs ≤ start + at → i ≡ start + at - length xs)
    → m ≡ min n (length xs - i)
    → take m (drop i xs) ++ take (n - m) xs ≡ take n (drop at (turned start xs))
read-round start at i m n xs h k near far count =
    read_at start at i m n xs h k near far count (cases_lt (start + at) (length xs))

turn_at : (start k i : ℕ) (xs : List ℕ) → start < length xs → k ≤ length xs
    → (start + k < length xs → i ≡ start + k) → (length xs ≤ start + k → i ≡ start + k - length xs)
    → (start + k < length xs) ⊎ (length xs ≤ start + k) → turned i xs ≡ drop k (turned start xs)
    ++ take k (turned start xs)
turn_at start k i xs h fits near far (inl before) =
    let front : length (take start xs) ≡ start = length-take-le start xs (omega arith) in
    let back : length (drop start xs) ≡ length xs - start = length-drop start xs in
    let place : i ≡ length (take start xs) + k = near before ∙ ap (λ (n : ℕ). n + k) (sym front) in
    let inside : k ≤ length (drop start xs) = omega arith in
    ap (λ (n : ℕ). turned n xs) place
    ∙ (ap (turned (length (take start xs) + k)) (sym (take-append-drop start xs))
    ∙ (ap (λ (x : List ℕ). x ++ take (length (take start xs) + k) (take start xs ++ drop start xs))
    (drop-append-add (take start xs) (drop start xs) k)
    ∙ (ap (λ (x : List ℕ). drop k (drop start xs) ++ x) (take-append-add (take start xs) (drop start xs) k)
    ∙ (sym (append_assoc (drop k (drop start xs)) (take start xs) (take k (drop start xs)))
    ∙ (ap (λ (x : List ℕ). x ++ take k (drop start xs)) (sym (drop-append-le k (drop start xs) (take start xs) inside))
    ∙ ap (λ (x : List ℕ). drop k (turned start xs) ++ x)
    (sym (take-append-le k (drop start xs) (take start xs) inside)))))))
turn_at start k i xs h fits near far (inr past) =
    let front : length (take start xs) ≡ start = length-take-le start xs (omega arith) in
    let back : length (drop start xs) ≡ length xs - start = length-drop start xs in
    let place : i ≡ start + k - length xs = far past in
    let offset : length (drop start xs) + i ≡ k = omega arith in
    let inside : i ≤ length (take start xs) = omega arith in
    ap (turned i) (sym (take-append-drop start xs))
    ∙ (ap (λ (x : List ℕ). x ++ take i (take start xs ++ drop start xs))
    (drop-append-le i (take start xs) (drop start xs) inside)
    ∙ (ap (λ (x : List ℕ). (drop i (take start xs) ++ drop start xs)
    ++ x) (take-append-le i (take start xs) (drop start xs) inside)
    ∙ (append_assoc (drop i (take start xs)) (drop start xs) (take i (take start xs))
    ∙ (ap (λ (x : List ℕ). x ++ (drop start xs ++ take i (take start xs)))
    (sym (drop-append-add (drop start xs) (take start xs) i))
    ∙ (ap (λ (x : List ℕ). drop (length (drop start xs) + i) (turned start xs)
    ++ x) (sym (take-append-add (drop start xs) (take start xs) i))
    ∙ ap (λ (n : ℕ). drop n (turned start xs) ++ take n (turned start xs)) offset)))))

-- where the first place is k cells further on, the first k cells are the last
pub turned-on : (start k i : ℕ) (xs : List ℕ) → start < length xs → k ≤ length xs
    → (start + k < length xs → i ≡ start + k) → (length xs ≤ start + k → i ≡ start + k - length xs)
    → turned i xs ≡ drop k (turned start xs) ++ take k (turned start xs)
turned-on start k i xs h fits near far = turn_at start k i xs h fits near far (cases_lt (start + k) (length xs))

pub length-turned : (start : ℕ) (xs : List ℕ) → length (turned start xs) ≡ length xs
length-turned start xs = omega (
  arith,
  length-append (drop start xs) (take start xs),
  length-drop start xs,
  length-take start xs,
)

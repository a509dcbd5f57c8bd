-- What is kept of flows when time passed: for the loop that keeps the books.
use Rattle.std.proofs.Common.{◌≡◌, ℕ, suc, ◌+◌, ◌<◌, ◌≤◌, ◌&&◌, zero, Bool, true, false, List, [], ◌∷◌, ◌++◌, map, take}
use Rattle.std.proofs.Common.{drop, length, set, get_or, refl}
use Rattle.std.proofs.Common.{sym, ap, ◌∙◌, arith}
use Rattle.std.proofs.lemmas.List.{drop-drop}
use Rattle.std.specs.Prelude.{Some, slice_get}
use Rattle.tas_model.specs.declared.entry.FlowId.{FlowId}
use Rattle.flow_lock.specs.Orders.{same_flow}
use Rattle.flow_lock.specs.Words.{flag}
use Rattle.host_rounds.specs.Lists.{change_at}
use Rattle.host_books.specs.Books as books
use Rattle.core_host.specs.Books.{holder_of, book_of, is_first, kept_where, kept_by}
use Rattle.core_host.specs.declared.books.Book.{Book}
use Rattle.core_host.specs.declared.books.Holder.{Holder}

-- what the first books became, and what the others will become
abbrev pub half_kept : (pins : List FlowId) → (at i : ℕ) → List Book → List books.Book
half_kept pins at i bs = map book_of (take i bs) ++ kept_by (drop at pins) (map book_of (drop i bs))

pub half_more : (pins : List FlowId) (at next i : ℕ) (bs : List Book) (b d : Book) → slice_get bs i ≡ Some b
    → book_of d ≡ kept_where (is_first (drop at pins) (book_of b)) (book_of b)
    → next ≡ at + flag (is_first (drop at pins) (book_of b))
    → half_kept pins next (suc i) (set bs i d) ≡ half_kept pins at i bs
half_more pins at next i [] b d here made goes = absurd (cc (here))
half_more pins at next zero (x ∷ xs) b d here made goes =
    let same : b ≡ x = cc (here) in
    let rest : drop next pins ≡ drop (flag (is_first (drop at pins) (book_of b))) (drop at pins) =
    ap (λ n. drop n pins) goes ∙ sym (drop-drop _ at pins) in
    (λ j. made j ∷ kept_by (rest j) (map book_of xs))
    ∙ ap (λ (y : Book).
    kept_where (is_first (drop at pins) (book_of y)) (book_of y)
    ∷ kept_by (drop (flag (is_first (drop at pins) (book_of y))) (drop at pins)) (map book_of xs)) same
half_more pins at next (suc i) (x ∷ xs) b d here made goes =
    ap (λ l. book_of x ∷ l) (half_more pins at next i xs b d here made goes)

pub half_all : (pins : List FlowId) (at i : ℕ) (bs : List Book) → length bs ≤ i → half_kept pins at i bs ≡ map book_of
    bs
half_all pins at zero [] long = refl
half_all pins at (suc i) [] long = refl
half_all pins at zero (x ∷ xs) long = absurd (omega arith)
half_all pins at (suc i) (x ∷ xs) long = ap (λ l. book_of x ∷ l) (half_all pins at i xs (omega arith))

-- ----- the next pin
pub first_there : (pins : List FlowId) (at : ℕ) (p : FlowId) (b : books.Book) → slice_get pins at ≡ Some p
    → b.indexed ≡ true → is_first (drop at pins) b ≡ same_flow p b.id
first_there [] at p b here indexed = absurd (cc (here))
first_there (q ∷ pins) zero p b here indexed =
    let same : q ≡ p = cc (here) in
    ap (λ t. t && same_flow q b.id) indexed ∙ ap (λ (f : FlowId). same_flow f b.id) same
first_there (q ∷ pins) (suc at) p b here indexed = first_there pins at p b here indexed

pub next_near : (pins : List FlowId) (at : ℕ) (b : books.Book) → at ≤ length pins
    → at + flag (is_first (drop at pins) b) ≤ length pins
next_near [] zero b near = omega arith
next_near [] (suc at) b near = absurd (omega arith)
next_near (q ∷ pins) zero b near = by (is_first (q ∷ pins) b)
  where
    by : (t : Bool) → 0 + flag t ≤ suc (length pins)
    by true = omega arith
    by false = omega arith
next_near (q ∷ pins) (suc at) b near = let more = next_near pins at b (omega arith) in omega (arith, more)

-- ----- a holder
pub held_at : (bs : List Book) (i : ℕ) (b : Book) (holder : Holder) → i < length bs → b ≡ get_or bs i b
    → map book_of (set bs i (record b { holder = holder }))
    ≡ change_at i (λ (x : books.Book). record x { holder = holder_of holder }) (map book_of bs)
held_at [] i b holder near read = absurd (omega arith)
held_at (x ∷ bs) zero b holder near read =
    ap (λ (y : Book). record (book_of y) { holder = holder_of holder } ∷ map book_of bs) read
held_at (x ∷ bs) (suc i) b holder near read =
    ap (λ l. book_of x ∷ l) (held_at bs i b holder (omega arith) read)

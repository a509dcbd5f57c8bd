-- What turns leave of the books and the scripts, in whatever order they were: for the law turns_leave_alike.
use Rattle.std.proofs.Common.{◌≡◌, ℕ, List, [], ◌∷◌}
use Rattle.host_rounds.specs.Lists.{Each}
use Rattle.flow_lock.specs.Orders.{Order}
use Rattle.host_books.specs.Books.{Book}
use Rattle.host_books.specs.Leavings.{Leaving, leavings_in, book_after, script_after, books_after, scripts_after}
use Rattle.host_books.specs.Leavings.{AreAlike, LeaveAlike}
use Rattle.host_books.specs.Tries.{Word, deed_of}
use Rattle.host_books.specs.Words.{merged, joined, joined_below, AreOf, AreBelow, ArePairs, AreAllPairs}
use Rattle.host_books.proofs.Gathering.{all_folded}
use Rattle.host_books.proofs.Telling.{books_alike}

each_as : {X : Type 0} (P Q : X → Type 0) → ((x : X) → P x → Q x) → (xs : List X) → Each P xs → Each Q xs
each_as P Q f [] each = tt
each_as P Q f (x ∷ xs) each = (f x each.0, each_as P Q f xs each.1)

module _ {M : Type 0} (P Q : M → M → Type 0) (f : (m k : M) → P m k → Q m k) where
  pairs_as : (ms : List M) → ArePairs P ms → ArePairs Q ms
  pairs_as [] pairs = tt
  pairs_as (m ∷ ms) pairs = (each_as (P m) (Q m) (f m) ms pairs.0, pairs_as ms pairs.1)

  all_pairs_as : (words : ℕ → List M) → AreAllPairs P words → AreAllPairs Q words
  all_pairs_as words pairs = (
    λ p. pairs_as (words p) (pairs.0 p),
    λ p q differs. each_as (λ (m : M). Each (P m) (words q)) (λ (m : M). Each (Q m) (words q))
        (λ m each. each_as (P m) (Q m) (f m) (words q) each) (words p) (pairs.1 p q differs),
  )

module _ {S A : Type 0} (t : ℕ) where
  -- a pair of words, by what each leaves
  abbrev Either : {X : Type 0} → (X → Leaving S → X) → Word S A → Word S A → Type 0
  Either {X} f w v =
      Each (λ (x : Leaving S). Each (λ (y : Leaving S). (z : X) → f (f z x) y ≡ f (f z y) x) (leavings_in t v))
      (leavings_in t w)

  either : {X : Type 0} (f : X → Leaving S → X)
      → ((x y : Leaving S) → AreAlike x y → (z : X) → f (f z x) y ≡ f (f z y) x)
      → (w v : Word S A) → LeaveAlike t w v → Either f w v
  either {X} f same w v alike =
      each_as (λ (x : Leaving S). Each (AreAlike x) (leavings_in t v))
      (λ (x : Leaving S). Each (λ (y : Leaving S). (z : X) → f (f z x) y ≡ f (f z y) x) (leavings_in t v))
      (λ x each. each_as (AreAlike x) (λ (y : Leaving S). (z : X) → f (f z x) y ≡ f (f z y) x) (same x)
      (leavings_in t v) each)
      (leavings_in t w) alike

  pub turns_leave : (order : Order) (turns : ℕ) (words : ℕ → List (Word S A)) → AreBelow turns order
      → AreOf deed_of order words → AreAllPairs (LeaveAlike t) words → (books : List Book) (state : S)
      → (books_after (joined (leavings_in t) (merged order words)) books
      ≡ books_after (joined_below (leavings_in t) turns words) books)
      × (scripts_after (joined (leavings_in t) (merged order words)) state
      ≡ scripts_after (joined_below (leavings_in t) turns words) state)
  turns_leave order turns words below are alike books state = (
    all_folded deed_of (leavings_in t) (book_after {S = S}) turns order words below are
        (all_pairs_as (LeaveAlike t) (Either (book_after {S = S}))
        (either (book_after {S = S}) (λ x y a. books_alike x y a.flow)) words alike) books,
    all_folded deed_of (leavings_in t) (script_after {S = S}) turns order words below are
        (all_pairs_as (LeaveAlike t) (Either (script_after {S = S}))
        (either (script_after {S = S}) (λ x y a. a.scripts)) words alike) state,
  )

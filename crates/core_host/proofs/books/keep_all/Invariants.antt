-- Measures or invariants of books/keep_all.
use Rattle.std.proofs.Common.{◌≡◌, ◌≤◌, length, map}
use Rattle.core_host.specs.Books.{book_of, kept_by}
use Rattle.core_host.proofs.Keeping.{half_kept}
use Rattle.core_host.proofs.books.keep_all.Given as goal

-- the books that are left lead to the same end
abbrev pub invariant-loop-book : goal.invariant-loop-book
invariant-loop-book l = record {
  near : l.at ≤ length l.pins.list;
  kept : half_kept l.pins.list l.at l.book-index l.book-items ≡ kept_by l.pins.list (map book_of l.fn.books.items);
}

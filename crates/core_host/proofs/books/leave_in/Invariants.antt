-- Measures or invariants of books/leave_in.
use Rattle.std.proofs.Common.{◌≡◌, map}
use Rattle.sound_hosts.specs.Leaving.{reheld, left_by}
use Rattle.core_host.specs.Books.{book_of}
use Rattle.core_host.proofs.Left.{half_left}
use Rattle.core_host.proofs.books.leave_in.Given as goal

-- the books that are left lead to the same end
abbrev pub invariant-loop-book : goal.invariant-loop-book
invariant-loop-book l =
    half_left l.app l.id l.book-index l.book-items ≡ map (reheld (left_by l.app l.id)) (map book_of l.fn.books.items)

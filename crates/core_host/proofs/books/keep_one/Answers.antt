-- Answers of the proof of books/keep_one.
use Rattle.std.proofs.Common.{◌≤◌, ◌+◌, length, ap, ◌∙◌, arith, drop}
use Rattle.flow_lock.specs.Words.{flag}
use Rattle.core_host.specs.Books.{book_of, is_first}
use Rattle.core_host.proofs.Keeping.{next_near}
use Rattle.core_host.proofs.books.keep_one.Goals as goal

pub overflow_add-result : goal.overflow_add-result
overflow_add-result c =
    let stays = is_first (drop c.args.at c.args.pins.now.list) (book_of c.args.book.now) in
    let near : c.args.at + flag stays ≤ length c.args.pins.now.list =
    next_near c.args.pins.now.list c.args.at (book_of c.args.book.now) c.requires in
    let count = c.count_of.ensures ∙ ap flag c.is_next-stays.ensures in
    omega (arith, near, count)

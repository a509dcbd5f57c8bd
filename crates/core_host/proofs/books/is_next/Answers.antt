-- Answers of the proof of books/is_next.
use Rattle.std.proofs.Common.{sym, ap, ◌∙◌}
use Rattle.tas_model.specs.declared.entry.FlowId.{FlowId}
use Rattle.flow_lock.specs.Orders.{same_flow}
use Rattle.core_host.specs.Books.{book_of}
use Rattle.core_host.proofs.Keeping.{first_there}
use Rattle.core_host.proofs.books.is_next.Goals as goal

pub returns-then-book : goal.returns-then-book
returns-then-book c =
    c.is_same.ensures
    ∙ (ap (λ (f : FlowId). same_flow f c.args.book.id) c.id.ensures
    ∙ sym (first_there c.args.pins.now.list c.args.at c.pin.result.now (book_of c.args.book) c.pin.ensures
    c.if-book.true))

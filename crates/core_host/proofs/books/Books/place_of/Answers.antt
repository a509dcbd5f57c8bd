-- Answers of the proof of books/Books/place_of.
use Rattle.std.proofs.Common.{◌≡◌, List, sym, ap, ◌∙◌}
use Rattle.std.specs.Prelude.{position}
use Rattle.flow_lock.specs.Orders.{same_flow}
use Rattle.host_books.specs.Books.{Book}
use Rattle.core_host.specs.Books.{book_of}
use Rattle.core_host.proofs.Placing.{position_map}
use Rattle.core_host.proofs.books.Books.place_of.Goals as goal

pub returns : goal.returns
returns c =
    c.place_in.ensures
    ∙ (sym (position_map (λ (b : Book). same_flow b.id c.args.id) book_of c.self.inside.books.items)
    ∙ ap (position (λ (b : Book). same_flow b.id c.args.id)) c.self.view_is)

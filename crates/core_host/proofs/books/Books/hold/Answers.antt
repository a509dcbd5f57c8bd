-- Answers of the proof of books/Books/hold.
use Rattle.std.proofs.Common.{◌≡◌, ◌<◌, List, length, map, subst, sym, ap, ◌∙◌, arith}
use Rattle.std.proofs.lemmas.List.{length-map}
use Rattle.host_rounds.specs.Lists.{change_at}
use Rattle.host_books.specs.Books as books
use Rattle.core_host.specs.Books.{book_of, holder_of}
use Rattle.core_host.proofs.Keeping.{held_at}
use Rattle.core_host.proofs.books.Books.hold.Goals as goal

pub returns : goal.returns
returns c =
    let inside = c.self.inside.books.items in
    let near : c.args.i < length inside =
    subst (λ n. c.args.i < n) (length-map inside book_of)
    (subst (λ (l : List books.Book). c.args.i < length l) (sym c.self.view_is) c.requires) in
    held_at inside c.args.i c.index_mut.result.now c.args.holder near c.index_mut.ensures.value
    ∙ ap (change_at c.args.i (λ (x : books.Book). record x { holder = holder_of c.args.holder })) c.self.view_is

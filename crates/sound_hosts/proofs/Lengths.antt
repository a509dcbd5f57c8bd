-- There are as many books, whoever has their sockets.
use Rattle.std.proofs.Common.{◌≡◌, ℕ, List, [], ◌∷◌, length, map, refl, ◌∙◌}
use Rattle.std.proofs.lemmas.List.{length-map}
use Rattle.tas_model.specs.declared.entry.FlowId.{FlowId}
use Rattle.host_books.specs.Books.{Book}
use Rattle.sound_hosts.specs.Leaving.{books_left, left_by, reheld}

pub left_length : (app : ℕ) (ids : List FlowId) (books : List Book)
    → length (books_left app ids books) ≡ length books
left_length app [] books = refl
left_length app (id ∷ ids) books =
    left_length app ids (map (reheld (left_by app id)) books) ∙ length-map books (reheld (left_by app id))

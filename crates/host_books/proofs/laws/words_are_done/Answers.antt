-- Answers of the proof of laws/words_are_done.
use Rattle.host_books.proofs.Telling.{told}
use Rattle.host_books.proofs.laws.words_are_done.Goals as goal

pub returns : goal.returns
returns g c = λ scripts t s state known order words indexed run same each tries apart.
    (told scripts t s state known order words indexed run same each tries apart).0

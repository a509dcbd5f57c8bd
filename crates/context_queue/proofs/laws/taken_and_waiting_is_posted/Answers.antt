use Rattle.std.proofs.Common.{◌++◌, ap, sym, ◌∙◌}
use Rattle.context_queue.specs.Notes.{notes_of}
use Rattle.context_queue.proofs.laws.taken_and_waiting_is_posted.Goals as goal

pub returns : goal.returns
returns c waiting views r s h takes posts =
    let taken = ((h.5 takes.0 r takes.1).1 takes.2).1 in
    ap (λ l. notes_of s.number (l ++ waiting)) taken ∙ (h.4 s.number ∙ sym (((h.5 posts.0 s posts.1).0 posts.2).1))

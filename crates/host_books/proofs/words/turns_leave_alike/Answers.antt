-- Answers of the proof of words/turns_leave_alike.
use Rattle.host_books.proofs.Leaving.{turns_leave}
use Rattle.host_books.proofs.words.turns_leave_alike.Goals as goal

pub returns-clause-books : goal.returns-clause-books
returns-clause-books g c = λ t order turns words below are alike books state.
    (turns_leave t order turns words below are alike books state).0

pub returns-clause-scripts : goal.returns-clause-scripts
returns-clause-scripts g c = λ t order turns words below are alike books state.
    (turns_leave t order turns words below are alike books state).1

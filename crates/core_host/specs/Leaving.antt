-- Sockets that applications try to give up in a phase, and the books of their flows then.
use Rattle.std.specs.Prelude.{ℕ, Bool, true, false, cond, List, [], ◌∷◌, Option, Some, None, Ok, Err}
use Rattle.tas_model.specs.declared.entry.FlowId.{FlowId}
use Rattle.libtas_sockets.specs.Apps.{flow_of}
use Rattle.libtas_sockets.specs.Answers.{is_closed}
use Rattle.core_phase.specs.declared.attempt.Answered.{Answered}
use Rattle.core_phase.specs.declared.attempt.Answered.TheVariants as answers
use Rattle.core_phase.specs.declared.attempt.Attempt.{Attempt}
use Rattle.core_phase.specs.declared.attempt.Attempt.TheVariants as attempts
use Rattle.core_phase.specs.declared.lane.Lane.{Lane}
use Rattle.core_phase.specs.declared.lane.Lane.TheVariants as lanes
use Rattle.host_books.specs.Books.{Book}
use Rattle.sound_hosts.specs.Leaving.{books_left}
use Rattle.core_host.specs.declared.leaving.Leaver.{Leaver}

-- ----- before a phase
-- who gives a socket up where the call that is tried is made
abbrev pub leaver_by : Attempt → (app : ℕ) → FlowId → Option Leaver
leaver_by attempts.Nothing app id = None
leaver_by (attempts.Send bytes) app id = None
leaver_by (attempts.Recv buf) app id = None
leaver_by attempts.Shut app id = None
leaver_by attempts.Close app id = Some (record { app = app; flow = id; aborts = false })
leaver_by attempts.Abort app id = Some (record { app = app; flow = id; aborts = true })

abbrev pub leaver_of : Lane → Option Leaver
leaver_of (lanes.Core l) = None
leaver_of (lanes.App l) = leaver_by l.attempt l.app.number (flow_of l.app l.socket)

-- ----- after it
-- The answer says that the socket was given up. An Abort gives it up also where the flow was closed.
abbrev pub has_left : (aborts : Bool) → Answered → Bool
has_left aborts answers.Nothing = false
has_left aborts (answers.Sent result) = false
has_left aborts (answers.Read result) = false
has_left aborts (answers.Done (Ok x)) = true
has_left aborts (answers.Done (Err e)) = cond (is_closed e) aborts false

-- the books, where the application that tried to gave its socket up by this answer
abbrev pub books_if : Leaver → Answered → List Book → List Book
books_if l answer books = cond (has_left l.aborts answer) (books_left l.app (l.flow ∷ []) books) books

abbrev pub books_where : Option Leaver → (after : Lane) → List Book → List Book
books_where None w books = books
books_where (Some l) (lanes.Core w) books = books
books_where (Some l) (lanes.App w) books = books_if l w.answer books

-- and where those of all lanes did
abbrev pub books_by : List (Option Leaver) → (after : List Lane) → List Book → List Book
books_by [] ws books = books
books_by (o ∷ os) [] books = books
books_by (o ∷ os) (w ∷ ws) books = books_by os ws (books_where o w books)

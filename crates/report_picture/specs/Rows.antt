-- The rows of an end of a connection: what its entries, and its host's log, show of it.
use Rattle.std.specs.Prelude.{ℕ, ◌==◌, Bool, true, false, not, ◌&&◌, ◌||◌, List, [], ◌∷◌, ◌++◌, length, fold}
use Rattle.std.specs.Prelude.{Option, Some, None, is_some, if◌then◌else◌}
use Rattle.tas_model.specs.declared.entry.FrameId.{FrameId}
use Rattle.tas_model.specs.declared.entry.Head.{Head}
use Rattle.tas_model.specs.declared.entry.Seg.{Seg}
use Rattle.tas_model.specs.declared.entry.Phase.{Phase}
use Rattle.tas_model.specs.declared.entry.Phase.TheVariants as phases
use Rattle.tas_model.specs.declared.entry.Call.{Call}
use Rattle.tas_model.specs.declared.entry.Call.TheVariants as calls
use Rattle.tas_model.specs.declared.entry.Reply.{Reply}
use Rattle.tas_model.specs.declared.entry.Reply.TheVariants as replies
use Rattle.tas_model.specs.declared.entry.Entry.{Entry}
use Rattle.report_lines.specs.Events.{Event, Strayed, Dropped, Refused}
use Rattle.ladder_picture.specs.declared.row.Asked.{Asked}
use Rattle.ladder_picture.specs.declared.row.Asked.TheVariants as asks
use Rattle.ladder_picture.specs.declared.row.Told.{Told}
use Rattle.ladder_picture.specs.declared.row.Told.TheVariants as tolds
use Rattle.ladder_picture.specs.declared.row.Timer.TheVariants as timers
use Rattle.ladder_picture.specs.declared.row.Note.{Note}
use Rattle.ladder_picture.specs.declared.row.Note.TheVariants as notes
use Rattle.ladder_picture.specs.declared.row.Fate.{Fate}
use Rattle.ladder_picture.specs.declared.row.Fate.TheVariants as fates
use Rattle.ladder_picture.specs.declared.row.Frame.{Frame}
use Rattle.ladder_picture.specs.declared.row.Framed.{Framed}
use Rattle.ladder_picture.specs.declared.row.Framed.TheVariants as framed
use Rattle.ladder_picture.specs.declared.row.Row.{Row}
use Rattle.report_picture.specs.declared.rows.Owner.{Owner}
use Rattle.report_picture.specs.declared.known.Known.{Known}
use Rattle.report_picture.specs.Known.{phase_of, after}

-- ----- notes
-- what an application was told, unless it has to ask again
abbrev pub told : Reply → Option Told
told replies.Ok = Some tolds.Ok
told (replies.Took bytes) = Some (tolds.Took (length bytes))
told (replies.Got bytes update) = Some (tolds.Got (length bytes))
told replies.End = Some tolds.End
told replies.NotYet = None
told replies.NotOpen = Some tolds.NotOpen
told replies.Shut = Some tolds.Shut
told (replies.Closed reason) = Some (tolds.Closed reason)
told _ = Some tolds.Done

-- what it asked, where the call is one of its
abbrev pub asked : Call → Option Asked
asked (calls.Connect iss) = Some asks.Connect
asked calls.Accept = Some asks.Accept
asked calls.Ready = Some asks.Ready
asked (calls.Send offered) = Some (asks.Send offered)
asked (calls.Recv most) = Some (asks.Recv most)
asked calls.Shut = Some asks.Shut
asked calls.Close = Some asks.Close
asked calls.Abort = Some asks.Abort
asked _ = None

-- the timer that ran out
abbrev pub timer : Reply → Note
timer replies.Resend = notes.Timer timers.Resend
timer replies.Probe = notes.Timer timers.Probe
timer replies.TimedOut = notes.Timer timers.TimedOut
timer replies.Expired = notes.Timer timers.Expired
timer _ = notes.Nothing

abbrev pub noted : Option Asked → Option Told → Reply → Note
noted (Some a) (Some t) reply = notes.Call a t
noted (Some a) None reply = notes.Nothing
noted None t reply = timer reply

abbrev pub note : Call → Reply → Note
note call reply = noted (asked call) (told reply) reply

-- ----- frames
abbrev pub frame_of : FrameId → Seg → Frame
frame_of id seg = record { id = id; head = seg.head; len = length seg.bytes }

-- the frame that came in an entry
abbrev pub came : Call → Option Frame
came (calls.Passive frame iss seg) = Some (frame_of frame seg)
came (calls.Rx frame seg) = Some (frame_of frame seg)
came _ = None

-- an end's frame of this number
abbrev pub own : Owner → (number : ℕ) → FrameId
own o number = record { host = o.host; flow = o.flow; number = number; copy = 0 }

abbrev pub sent_update : FrameId → Option Head → Option Frame
sent_update id None = None
sent_update id (Some head) = Some (record { id = id; head = head; len = 0 })

-- the frame that was sent in an entry
abbrev pub sent : FrameId → Reply → Option Frame
sent id (replies.Sent seg) = Some (frame_of id seg)
sent id (replies.Got bytes update) = sent_update id update
sent id _ = None

-- ----- states
-- one number a state
abbrev pub phase_number : Phase → ℕ
phase_number phases.SynSent = 0
phase_number phases.SynReceived = 1
phase_number phases.Established = 2
phase_number phases.FinWait1 = 3
phase_number phases.FinWait2 = 4
phase_number phases.CloseWait = 5
phase_number phases.Closing = 6
phase_number phases.LastAck = 7
phase_number phases.TimeWait = 8
phase_number phases.Closed = 9

abbrev pub is_phase : (one other : Phase) → Bool
is_phase one other = phase_number one == phase_number other

-- the state that an entry leads to, where it is another one or the first
abbrev pub new_state : (before after : Known) → Option Phase
new_state before after =
    if before.begun && is_phase (phase_of before) (phase_of after) then None else Some (phase_of after)

-- ----- rows
abbrev pub is_noted : Note → Bool
is_noted notes.Nothing = false
is_noted _ = true

abbrev pub row : (tick : ℕ) → Note → Option Phase → Framed → Row
row tick n state f = record { tick = tick; note = n; state = state; framed = f }

-- a frame that came and the one that answers it have a row each; what shows nothing has none
abbrev pub rows_by : (tick : ℕ) → Note → Option Phase → (came sent : Option Frame) → List Row
rows_by tick n state (Some c) (Some s) =
    row tick n state (framed.Came c) ∷ row tick notes.Nothing None (framed.Sent s) ∷ []
rows_by tick n state (Some c) None = row tick n state (framed.Came c) ∷ []
rows_by tick n state None (Some s) = row tick n state (framed.Sent s) ∷ []
rows_by tick n state None None =
    if is_noted n || is_some state then row tick n state framed.Nothing ∷ [] else []

-- The rows of an entry.
abbrev pub rows_of : Owner → Known → Entry → List Row
rows_of o k x = rows_by x.tick (note x.call x.reply) (new_state k (after k x)) (came x.call)
    (sent (own o k.sent) x.reply)

-- ----- logs
abbrev pub met : (tick : ℕ) → FrameId → Fate → Row
met tick id fate = row tick notes.Nothing None (framed.Met id fate)

-- the row of a line of a log, where it tells of a frame
abbrev pub logged_row : (tick : ℕ) → Event → Option Row
logged_row tick (Strayed frame seg answer) = Some (met tick frame fates.Stray)
logged_row tick (Dropped frame backlog) = Some (met tick frame (fates.Dropped backlog))
logged_row tick (Refused frame rule) = Some (met tick frame (fates.Refused rule))
logged_row tick _ = None

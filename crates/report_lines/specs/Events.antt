-- What the lines of a log tell behind their tick, at the front of a text.
use Rattle.std.specs.Prelude.{ℕ, Bool, true, false, List, [], ◌∷◌, codes, Option, Some, None}
use Rattle.tas_model.specs.declared.entry.FrameId.{FrameId}
use Rattle.tas_model.specs.declared.entry.Head.{Head}
use Rattle.tas_model.specs.declared.entry.Seg.{Seg}
use Rattle.report_lines.specs.Fronts.{Reader, word, made, after, before, both, one_of, u8, u16, u32}
use Rattle.report_lines.specs.Segments.{head, seg}
use Rattle.report_lines.specs.Origins.{frame, socket}

-- What is told of what concerns no flow.
pub data Event : Type 0 where
  Listened : (app port : ℕ) → (ok : Bool) → Event
  NotAccepted : (app port : ℕ) → Event
  NotConnected : (app addr port : ℕ) → (no_port : Bool) → Event
  Strayed : FrameId → Seg → (answer : Option Head) → Event
  Dropped : FrameId → (backlog : Bool) → Event
  Refused : FrameId → (rule : ℕ) → Event

-- one of two words
abbrev pub told : (as_true as_false : List ℕ) → Reader Bool
told as_true as_false = one_of (word as_true true ∷ word as_false false ∷ [])

abbrev pub listened_of : ℕ × (ℕ × Bool) → Event
listened_of (app, (port, ok)) = Listened app port ok

abbrev pub not_accepted_of : ℕ × ℕ → Event
not_accepted_of (app, port) = NotAccepted app port

abbrev pub not_connected_of : ℕ × ((ℕ × ℕ) × Bool) → Event
not_connected_of (app, (remote, no_port)) = NotConnected app remote.0 remote.1 no_port

unfoldable pub listened : Reader Event
listened = made listened_of (both (after (codes "p") u32)
    (both (after (codes " listen ") u16) (after (codes " = ") (told (codes "ok") (codes "portinuse")))))

unfoldable pub not_accepted : Reader Event
not_accepted = made not_accepted_of (both (after (codes "p") u32)
    (before (after (codes " accept ") u16) (codes " = notyet")))

unfoldable pub not_connected : Reader Event
not_connected = made not_connected_of (both (after (codes "p") u32)
    (both (after (codes " connect ") socket) (after (codes " = ") (told (codes "noport") (codes "noflowslot")))))

-- frames that concern no flow
abbrev pub strayed_of : FrameId × (Seg × Option Head) → Event
strayed_of (frame, (seg, answer)) = Strayed frame seg answer

abbrev pub dropped_of : FrameId × Bool → Event
dropped_of (frame, backlog) = Dropped frame backlog

abbrev pub refused_of : FrameId × ℕ → Event
refused_of (frame, rule) = Refused frame rule

unfoldable pub answer : Reader (Option Head)
answer = one_of (made (λ (h : Head). Some h) head ∷ word (codes "none") None ∷ [])

unfoldable pub strayed : (names : List (List ℕ)) → Reader Event
strayed names = made strayed_of (after (codes "stray ") (both (frame names)
    (both (after (codes " ") seg) (after (codes " = ") answer))))

unfoldable pub dropped : (names : List (List ℕ)) → Reader Event
dropped names = made dropped_of (after (codes "dropped ") (both (frame names)
    (after (codes " = ") (told (codes "backlogfull") (codes "noflowslot")))))

unfoldable pub refused : (names : List (List ℕ)) → Reader Event
refused names = made refused_of (after (codes "refused ") (both (frame names) (after (codes " = ") u8)))

unfoldable pub event : (names : List (List ℕ)) → Reader Event
event names = one_of (listened ∷ not_accepted ∷ not_connected ∷ strayed names ∷ dropped names ∷ refused names ∷ [])

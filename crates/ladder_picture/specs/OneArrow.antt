-- Each entry with a segment stands in one arrow, which is one of its frame, and no arrow shows anything else.
use Rattle.std.specs.Prelude.{◌≡◌, ℕ, ◌≤◌, ◌==◌, Bool, true, false, ◌&&◌, List, [], ◌∷◌, ◌++◌, flat_map, count_by}
use Rattle.std.specs.Prelude.{Option, Some, None}
use Rattle.std.specs.List.{list_any}
use Rattle.host_rounds.specs.Lists.{Each}
use Rattle.ladder_picture.specs.declared.row.Fate.{Fate}
use Rattle.ladder_picture.specs.declared.row.Frame.{Frame}
use Rattle.ladder_picture.specs.declared.row.Framed.{Framed}
use Rattle.ladder_picture.specs.declared.row.Framed.TheVariants as framed
use Rattle.ladder_picture.specs.declared.rungs.Side.{Side}
use Rattle.ladder_picture.specs.declared.rungs.Side.TheVariants.{Left, Right}
use Rattle.ladder_picture.specs.declared.rungs.Rung.{Rung}
use Rattle.ladder_picture.specs.declared.joins.Arrival.{Arrival}
use Rattle.ladder_picture.specs.declared.joins.FrameKey.{FrameKey}
use Rattle.ladder_picture.specs.declared.joins.CameFrame.{CameFrame}
use Rattle.ladder_picture.specs.Rungs.{framed_in}
use Rattle.ladder_picture.specs.Arrows.{Pass, pass, Sent, across, key_of, equal_key, is_side, sends, arrival_at, passes}
use Rattle.ladder_picture.specs.Arrows.{sent_arrows, came_arrows}

-- Where an entry with a segment stands, and of which frame it is.
pub record Stop : Type 0 where
  pub side : Side
  pub y : ℕ
  pub frame : FrameKey

abbrev pub stop : Side → (y : ℕ) → FrameKey → Stop
stop side y key = record { side = side; y = y; frame = key }

-- ----- what rungs show
abbrev pub stop_in : Side → (y : ℕ) → Framed → List Stop
stop_in side y (framed.Sent f) = stop side y (key_of f.id) ∷ []
stop_in side y (framed.Came f) = stop side y (key_of f.id) ∷ []
stop_in side y _ = []

-- the entries with a segment on a rung
abbrev pub rung_stops : Rung → List Stop
rung_stops r = stop_in Left r.y (framed_in r.left) ++ stop_in Right r.y (framed_in r.right)

-- ----- what arrows show
-- of a frame that came, where the connection had it
abbrev pub stop_of : (receiver : Side) → (y : ℕ) → FrameKey → (fate : Option Fate) → List Stop
stop_of receiver y key None = stop receiver y key ∷ []
stop_of receiver y key (Some fate) = []

abbrev pub end_stops : (receiver : Side) → FrameKey → Arrival → List Stop
end_stops receiver key a = stop_of receiver a.y key a.fate

abbrev pub sent_stops : Sent → List Stop
sent_stops x = stop x.sender x.y (key_of x.frame.id)
    ∷ flat_map (end_stops (across x.sender) (key_of x.frame.id)) x.ends

abbrev pub came_stops : CameFrame → List Stop
came_stops x = stop (across x.sender) x.y (key_of x.frame.id) ∷ []

abbrev pub arrow_stops : List Rung → List Stop
arrow_stops rungs = flat_map sent_stops (sent_arrows (passes rungs)) ++ flat_map came_stops
    (came_arrows [] (passes rungs))

-- ----- the laws
-- The entries with a segment that arrows show, each under the frame of its arrow, are those that the rungs show, each
-- as often as there.
abbrev pub StandOnce : List Rung → Type 0
StandOnce rungs = (test : Stop → Bool)
    → count_by test (arrow_stops rungs) ≡ count_by test (flat_map rung_stops rungs)

-- an arrow of this frame goes from one height of its sender to one of the other side
abbrev pub joins : (sender : Side) → (from to : ℕ) → FrameKey → Sent → Bool
joins sender from to key x =
    is_side x.sender sender && (x.y == from && (equal_key (key_of x.frame.id) key
    && list_any (λ (a : Arrival). a.y == to) x.ends))

-- a frame comes of this name
abbrev pub names : FrameKey → Framed → Bool
names key (framed.Came f) = equal_key (key_of f.id) key
names key (framed.Met id fate) = equal_key (key_of id) key
names key _ = false

-- Where a side sends a frame that comes later to the other side, and that is not sent again meanwhile, an arrow goes
-- from there to where it comes.
abbrev pub AreJoined : List Rung → Type 0
AreJoined rungs = (above between below : List Pass) (side : Side) (from to : ℕ) (f : Frame) (came : Framed)
    → passes rungs ≡ above ++ pass side from (framed.Sent f) ∷ (between ++ pass (across side) to came ∷ below)
    → names (key_of f.id) came ≡ true → list_any (sends side (key_of f.id)) between ≡ false
    → list_any (joins side from to (key_of f.id)) (sent_arrows (passes rungs)) ≡ true

-- All ends of an arrow are frames of the arrow's name that come to the other side, each once.
abbrev pub EndsAreOfIts : List Pass → Sent → Type 0
EndsAreOfIts ps x = (test : Arrival → Bool)
    → count_by test x.ends ≤ count_by test (flat_map (arrival_at x.sender (key_of x.frame.id)) ps)

abbrev pub AreOfOneFrame : List Rung → Type 0
AreOfOneFrame rungs = Each (EndsAreOfIts (passes rungs)) (sent_arrows (passes rungs))

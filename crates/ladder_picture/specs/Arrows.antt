-- The arrows of a ladder: each frame from where it was sent to where it came.
use Rattle.std.specs.Prelude.{ℕ, ◌==◌, Bool, true, false, not, ◌&&◌, nat_lt, List, [], ◌∷◌, ◌++◌, flat_map}
use Rattle.std.specs.Prelude.{Option, Some, None, if◌then◌else◌}
use Rattle.std.specs.List.{list_any, take_while}
use Rattle.tas_model.specs.declared.entry.FrameId.{FrameId}
use Rattle.ladder_picture.specs.declared.row.Frame.{Frame}
use Rattle.ladder_picture.specs.declared.row.Framed.{Framed}
use Rattle.ladder_picture.specs.declared.row.Framed.TheVariants as framed
use Rattle.ladder_picture.specs.declared.row.Row.{Row}
use Rattle.ladder_picture.specs.Rungs.{framed_in}
use Rattle.ladder_picture.specs.declared.rungs.Side.{Side}
use Rattle.ladder_picture.specs.declared.rungs.Side.TheVariants.{Left, Right}
use Rattle.ladder_picture.specs.declared.rungs.Rung.{Rung}
use Rattle.ladder_picture.specs.declared.joins.Arrival.{Arrival}
use Rattle.ladder_picture.specs.declared.joins.FrameKey.{FrameKey}
use Rattle.ladder_picture.specs.declared.joins.CameFrame.{CameFrame}

-- ----- sides
abbrev pub across : Side → Side
across Left = Right
across Right = Left

abbrev pub is_side : (one other : Side) → Bool
is_side Left Left = true
is_side Right Right = true
is_side _ _ = false

abbrev pub row_on : Side → Rung → Option Row
row_on Left r = r.left
row_on Right r = r.right

abbrev pub framed_on : Side → Rung → Framed
framed_on side r = framed_in (row_on side r)

-- ----- what passes
-- what passes at a side on a rung
pub record Pass : Type 0 where
  pub side : Side
  pub y : ℕ
  pub framed : Framed

abbrev pub pass : Side → (y : ℕ) → Framed → Pass
pass side y f = record { side = side; y = y; framed = f }

abbrev pub rung_passes : Rung → List Pass
rung_passes r = pass Left r.y (framed_on Left r) ∷ pass Right r.y (framed_on Right r) ∷ []

-- What passes on rungs, downwards, and on each from left to right.
abbrev pub passes : List Rung → List Pass
passes rungs = flat_map rung_passes rungs

-- ----- frames
-- a frame, whichever copy of it
abbrev pub key_of : FrameId → FrameKey
key_of id = record { host = id.host; flow = id.flow; number = id.number }

abbrev pub equal_key : (one other : FrameKey) → Bool
equal_key a b = a.host == b.host && (a.flow == b.flow && a.number == b.number)

-- a side sends it
abbrev pub sends_in : FrameKey → Framed → Bool
sends_in key (framed.Sent f) = equal_key (key_of f.id) key
sends_in key _ = false

abbrev pub sends : (sender : Side) → FrameKey → Pass → Bool
sends sender key p = is_side p.side sender && sends_in key p.framed

-- it comes, and the connection has it, or else what becomes of it
abbrev pub arrival_in : (y : ℕ) → FrameKey → Framed → List Arrival
arrival_in y key (framed.Came f) =
    if equal_key (key_of f.id) key then record { y = y; fate = None; again = nat_lt 0 f.id.copy } ∷ [] else []
arrival_in y key (framed.Met id fate) =
    if equal_key (key_of id) key then record { y = y; fate = Some fate; again = nat_lt 0 id.copy } ∷ [] else []
arrival_in y key _ = []

-- it comes to the side across
abbrev pub arrival_at : (sender : Side) → FrameKey → Pass → List Arrival
arrival_at sender key p = if is_side p.side (across sender) then arrival_in p.y key p.framed else []

-- ----- arrows
-- where a frame came, behind where it was sent and before one of its name is sent again
abbrev pub arrivals : (sender : Side) → FrameKey → (later : List Pass) → List Arrival
arrivals sender key later =
    flat_map (arrival_at sender key) (take_while (λ (p : Pass). not (sends sender key p)) later)

-- The arrow of a frame that was sent, with where it came: nowhere, once, or twice where it was doubled. Heights are
-- those of rungs.
pub record Sent : Type 0 where
  pub sender : Side
  pub y : ℕ
  pub frame : Frame
  pub ends : List Arrival

abbrev pub sent_in : Side → (y : ℕ) → (later : List Pass) → Framed → List Sent
sent_in side y later (framed.Sent f) =
    record { sender = side; y = y; frame = f; ends = arrivals side (key_of f.id) later } ∷ []
sent_in side y later _ = []

-- The arrows of all that were sent, in their order.
abbrev pub sent_arrows : List Pass → List Sent
sent_arrows [] = []
sent_arrows (p ∷ later) = sent_in p.side p.y later p.framed ++ sent_arrows later

-- the arrow of a frame that the connection had and that none above sent
abbrev pub came_in : (earlier : List Pass) → Side → (y : ℕ) → Framed → List CameFrame
came_in earlier side y (framed.Came f) =
    if list_any (sends (across side) (key_of f.id)) earlier then []
    else record { sender = across side; y = y; frame = f } ∷ []
came_in earlier side y _ = []

-- The arrows of those, in their order.
abbrev pub came_arrows : (earlier : List Pass) → List Pass → List CameFrame
came_arrows earlier [] = []
came_arrows earlier (p ∷ later) = came_in earlier p.side p.y p.framed ++ came_arrows (earlier ++ p ∷ []) later

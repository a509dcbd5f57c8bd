-- Rungs have the rows of both sides, in order of time, and arrows go down.
use Rattle.std.specs.Prelude.{◌≡◌, ⊤, ℕ, ◌<◌, ◌≤◌, List, [], ◌∷◌, flat_map, option_to_list, Option, Some, None}
use Rattle.host_rounds.specs.Lists.{Each}
use Rattle.ladder_picture.specs.declared.row.Row.{Row}
use Rattle.ladder_picture.specs.declared.rungs.Rung.{Rung}
use Rattle.ladder_picture.specs.declared.joins.Arrival.{Arrival}
use Rattle.ladder_picture.specs.Arrows.{Sent}

-- the rows that stand on rungs, of each side
abbrev pub lefts : List Rung → List Row
lefts rungs = flat_map (λ (r : Rung). option_to_list r.left) rungs

abbrev pub rights : List Rung → List Row
rights rungs = flat_map (λ (r : Rung). option_to_list r.right) rungs

-- they stand on rungs of their ticks
abbrev pub IsOfTick : (tick : ℕ) → Option Row → Type 0
IsOfTick tick None = ⊤
IsOfTick tick (Some row) = row.tick ≡ tick

abbrev pub HasItsTick : Rung → Type 0
HasItsTick r = IsOfTick r.tick r.left × IsOfTick r.tick r.right

-- each rung stands below the one above it
abbrev pub GoDown : (y : ℕ) → List Rung → Type 0
GoDown y [] = ⊤
GoDown y (r ∷ rs) = (y < r.y) × GoDown r.y rs

-- rows are in order of time, none of an earlier tick than this
abbrev pub AreInOrder : (tick : ℕ) → List Row → Type 0
AreInOrder tick [] = ⊤
AreInOrder tick (r ∷ rs) = (tick ≤ r.tick) × AreInOrder r.tick rs

-- the same of rungs
abbrev pub TicksAreInOrder : (tick : ℕ) → List Rung → Type 0
TicksAreInOrder tick [] = ⊤
TicksAreInOrder tick (r ∷ rs) = (tick ≤ r.tick) × TicksAreInOrder r.tick rs

-- no end of an arrow stands above its beginning
abbrev pub GoesDown : Sent → Type 0
GoesDown x = Each (λ (a : Arrival). x.y ≤ a.y) x.ends

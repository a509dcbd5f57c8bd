-- The frames that are due in a tick: which ones, in which order, and what became of them on their way.
use Rattle.std.specs.Prelude.{ℕ, Bool, true, false, not, ◌&&◌, ◌||◌, ◌==◌, ◌%◌, ◌-◌, ◌+◌, nat_le, List, [], ◌∷◌}
use Rattle.std.specs.Prelude.{Option, max}
use Rattle.std.specs.Prelude.{Some, None, if◌then◌else◌, length, filter, nat_lt, slice_set, slice_index}
use Rattle.std.specs.List.{flat_map}
use Rattle.std.specs.declared.cmp.Ordering.{Ordering}
use Rattle.std.specs.Ordering.{ordering_then, nat_cmp, is_lt}
use Rattle.tas_model.specs.declared.entry.FrameId.{FrameId}
use Rattle.link_script.specs.LinkLines.{LinkLines, line_on, drop_each_of}
use Rattle.link_script.specs.declared.script.Target.{Target}
use Rattle.link_script.specs.declared.script.LinkAct.{LinkAct}
use Rattle.link_script.specs.declared.script.LinkAct.TheVariants as acts
use Rattle.link_script.specs.declared.frames.Sent.{Sent}

-- ----- what the lines do to a frame
-- the line on a frame, where there is one; a number above 4,294,967,294 meets none
abbrev pub act_on : LinkLines → FrameId → Option LinkAct
act_on lines id = if nat_le id.number 4294967294
    then line_on lines (record { host = id.host; flow = id.flow; number = id.number }) else None

-- a frame is lost by its host's line where it is of a flow, and its number is k - 1, 2k - 1 and so on; k is at least 1
abbrev pub is_kth : (k : Option ℕ) → FrameId → Bool
is_kth None id = false
is_kth (Some k) id = nat_lt 0 k && not (id.flow == 4294967295) && (id.number % k == k - 1)

-- a frame is lost by its own line
abbrev pub is_dropped : Option LinkAct → Bool
is_dropped (Some acts.Drop) = true
is_dropped _ = false

-- a frame that any line drops is lost
abbrev pub is_lost : LinkLines → FrameId → Bool
is_lost lines id = is_dropped (act_on lines id) || is_kth (drop_each_of lines.drops id.host) id

-- by how many ticks a frame is delayed
abbrev pub delay_by : Option LinkAct → ℕ
delay_by (Some (acts.Delay ticks)) = ticks
delay_by _ = 0

abbrev pub longest_of : List (Target × LinkAct) → ℕ
longest_of [] = 0
longest_of (line ∷ lines) = max (delay_by (Some line.1)) (longest_of lines)

-- the longest delay of a line, in ticks; 0 where none delays
abbrev pub longest_delay : LinkLines → ℕ
longest_delay lines = longest_of lines.acts

-- a packet with all bits of the byte at this place inverted, where it has one
abbrev pub inverted : (packet : List ℕ) → (place : ℕ) → List ℕ
inverted packet place = if nat_lt place (length packet) then slice_set packet place (255 - slice_index packet place)
    else packet

-- how a frame comes that is not lost: as it is, twice, or with a byte inverted
abbrev pub copies_under : Option LinkAct → Sent → List Sent
copies_under (Some acts.Dup) f = f ∷ (record f { id = record (f.id) { copy = 1 } }) ∷ []
copies_under (Some (acts.Corrupt place)) f = (record f { packet = inverted f.packet place }) ∷ []
copies_under _ f = f ∷ []

-- ----- the frames of a tick
-- A frame is due in the tick after that of its emission, but for its delay.
abbrev pub is_due : LinkLines → (tick : ℕ) → Sent → Bool
is_due lines tick f = (f.tick + 1 + delay_by (act_on lines f.id) == tick) && not (is_lost lines f.id)

-- what comes of a frame in a tick
abbrev pub coming_of : LinkLines → (tick : ℕ) → Sent → List Sent
coming_of lines tick f = if is_due lines tick f then copies_under (act_on lines f.id) f else []

-- ----- their order
-- by tick of emission, then by host, flow, number and copy; frames of no flow have the highest number as their flow
abbrev pub due_cmp : Sent → Sent → Ordering
due_cmp a b = ordering_then (nat_cmp a.tick b.tick)
    (ordering_then (nat_cmp a.id.host b.id.host) (ordering_then (nat_cmp a.id.flow b.id.flow)
    (ordering_then (nat_cmp a.id.number b.id.number) (nat_cmp a.id.copy b.id.copy))))

abbrev pub goes_before : Sent → Sent → Bool
goes_before a b = is_lt (due_cmp a b)

-- a frame behind those that go before it
abbrev pub placed : Sent → List Sent → List Sent
placed f [] = f ∷ []
placed f (g ∷ gs) = elim (goes_before g f) [ true ↦ g ∷ placed f gs | false ↦ f ∷ g ∷ gs ]

abbrev pub in_due_order : List Sent → List Sent
in_due_order [] = []
in_due_order (f ∷ fs) = placed f (in_due_order fs)

-- All frames that are due in a tick, of those that were sent.
abbrev pub due : LinkLines → (sent : List Sent) → (tick : ℕ) → List Sent
due lines sent tick = in_due_order (flat_map (coming_of lines tick) sent)

-- ----- how they are found
-- what comes in a tick of the frames that were sent so many ticks earlier, and one
abbrev pub coming_after : LinkLines → (sent : List Sent) → (tick delay : ℕ) → List Sent
coming_after lines sent tick delay =
    if nat_le (delay + 1) tick then flat_map (coming_of lines tick)
    (filter (λ (f : Sent). f.tick == tick - delay - 1) sent) else []

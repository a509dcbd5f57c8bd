-- How far a report was read, and which line may come then.
use Rattle.std.specs.Prelude.{◌≡◌, ℕ, Bool, true, false, not, ◌&&◌, ◌||◌, List, [], ◌∷◌, Option, Some, None}
use Rattle.report_lines.specs.Lines.{Line, End}
use Rattle.report_form.specs.Places.{next_place}
use Rattle.report_form.specs.declared.place.Place.{Place}
use Rattle.report_form.specs.declared.place.Place.TheVariants as places
use Rattle.report_picture.specs.Forms.{Said, Plain, Counts}
use Rattle.report_picture.specs.declared.stage.Stage.{Stage}

abbrev pub start : Stage
start = record { place = places.Start; counted = false }

abbrev pub is_end : Line → Bool
is_end (End ticks) = true
is_end _ = false

-- where a place is led to
abbrev pub at : (counted : Bool) → Option Place → Option Stage
at counted None = None
at counted (Some place) = Some (record { place = place; counted = counted })

-- of a replay: the end comes behind the counts, and nothing else does
abbrev pub next_plain : (ends counted : Bool) → Option Place → Option Stage
next_plain true true place = at true place
next_plain false false place = at false place
next_plain _ _ place = None

-- the counts come once, where the end may come
abbrev pub counted_at : Stage → (last : Option Place) → Option Stage
counted_at s None = None
counted_at s (Some last) = at true (Some s.place)

abbrev pub next_counts : (counted : Bool) → Stage → (ended : Option Place) → Option Stage
next_counts true s ended = None
next_counts false s ended = counted_at s ended

-- Which line may come, and where it leads.
unfoldable pub next_stage : (replay : Bool) → (addrs : List ℕ) → Stage → Said → Option Stage
next_stage false addrs s (Plain l) = at s.counted (next_place addrs s.place l)
next_stage false addrs s Counts = None
next_stage true addrs s (Plain l) = next_plain (is_end l) s.counted (next_place addrs s.place l)
next_stage true addrs s Counts = next_counts s.counted s (next_place addrs s.place (End 0))

-- where lines lead, each one that may come
abbrev pub led : (replay : Bool) → (addrs : List ℕ) → Stage → List Said → Option Stage
led replay addrs s [] = Some s
led replay addrs s (x ∷ xs) = elim (next_stage replay addrs s x) [ None ↦ None | Some next ↦ led replay addrs next xs ]

-- The lines lead from a report's beginning to this stage.
abbrev pub IsAt : (replay : Bool) → (addrs : List ℕ) → List Said → Stage → Type 0
IsAt replay addrs said stage = led replay addrs start said ≡ Some stage

-- the report has ended: that of a replay with its counts
abbrev pub is_ended : Place → Bool
is_ended places.Ended = true
is_ended _ = false

abbrev pub is_over : (replay : Bool) → Stage → Bool
is_over replay s = is_ended s.place && (not replay || s.counted)

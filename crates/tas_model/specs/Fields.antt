-- Which histories show fields as headers have them.
use Rattle.std.specs.Prelude.{ℕ, ◌≤◌, List, [], ◌∷◌, ⊤}
use Rattle.tas_model.specs.declared.entry.Entry.{Entry}
use Rattle.tas_model.specs.declared.entry.Call.{Call}
use Rattle.tas_model.specs.declared.entry.Call.TheVariants as calls

-- the window field of a segment that comes fits into 16 bits
abbrev pub FitsWindow : Call → Type 0
FitsWindow (calls.Passive frame iss seg) = seg.head.window ≤ 65535
FitsWindow (calls.Rx frame seg) = seg.head.window ≤ 65535
FitsWindow _ = ⊤

-- so does that of each
abbrev pub FitWindows : List Entry → Type 0
FitWindows [] = ⊤
FitWindows (x ∷ xs) = FitsWindow x.call × FitWindows xs

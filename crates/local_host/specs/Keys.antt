-- The ids of frames, as keys of a set.
use Rattle.std.specs.Prelude.{◌==◌, ◌&&◌, Bool}
use Rattle.tas_model.specs.declared.entry.FrameId.{FrameId}
use Rattle.local_host.specs.declared.distinct.FrameKey.{FrameKey}

abbrev pub key_in : FrameId → FrameKey
key_in f = record { host = f.host; flow = f.flow; number = f.number; copy = f.copy }

-- keys are equal where all their fields are
abbrev pub same_key : FrameKey → FrameKey → Bool
same_key a b = a.host == b.host && (a.flow == b.flow && (a.number == b.number && a.copy == b.copy))

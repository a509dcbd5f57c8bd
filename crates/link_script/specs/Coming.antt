-- A frame that comes, as contracts see it.
use Rattle.std.specs.Prelude.{Option, Some, None}
use Rattle.link_script.specs.declared.frames.Sent.{Sent}

-- the one that the link made of the frame that was sent, where it made one, else that frame
abbrev pub frame_in : (sent : Sent) → (made : Option Sent) → Sent
frame_in sent None = sent
frame_in sent (Some made) = made

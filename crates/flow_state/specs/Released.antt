-- What a closed flow keeps of its parts.
use Rattle.std.specs.Prelude.{◌==◌, length, is_some, if◌then◌else◌}
use Rattle.payload_ring.specs.Window.{Window, released}
use Rattle.flow_state.specs.declared.parts.Parts.{Parts}

-- the ring, its memory given back where no byte stands in it
abbrev pub kept_ring : Window → Window
kept_ring w = if length w.bytes == 0 then released w else w

-- The rings that hold no byte are released. Bytes past a gap stay.
abbrev pub released_parts : Parts → Parts
released_parts p = record p { tx = kept_ring p.tx; rx = if is_some p.island then p.rx else kept_ring p.rx }

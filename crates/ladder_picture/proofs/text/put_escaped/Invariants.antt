use Rattle.std.proofs.Common.{◌≡◌, ◌++◌, take}
use Rattle.std.specs.Prelude.{flat_map}
use Rattle.ladder_picture.specs.Labels.{escaped_byte}
use Rattle.ladder_picture.proofs.text.put_escaped.Given as goal

abbrev pub invariant-loop-c : goal.invariant-loop-c
invariant-loop-c l = l.out.items ≡ l.fn.out.items ++ flat_map escaped_byte (take l.c-index l.bytes)

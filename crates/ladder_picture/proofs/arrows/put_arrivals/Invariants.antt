use Rattle.std.proofs.Common.{◌≡◌, ◌++◌, take}
use Rattle.std.specs.Prelude.{flat_map}
use Rattle.ladder_picture.specs.ArrowTexts.{arrival_text}
use Rattle.ladder_picture.proofs.arrows.put_arrivals.Given as goal

abbrev pub invariant-loop-end : goal.invariant-loop-end
invariant-loop-end l = l.out.items ≡ l.fn.out.items ++ flat_map (arrival_text l.sender l.y) (take l.end-index l.ends)

use Rattle.std.proofs.Common.{◌≡◌, ◌++◌, take}
use Rattle.std.specs.Prelude.{flat_map}
use Rattle.ladder_picture.specs.ArrowTexts.{came_text}
use Rattle.ladder_picture.proofs.arrows.put_all_came.Given as goal

abbrev pub invariant-loop-arrow : goal.invariant-loop-arrow
invariant-loop-arrow l = l.out.items ≡ l.fn.out.items ++ flat_map (came_text l.look) (take l.arrow-index l.came)

use Rattle.std.proofs.Common.{◌≡◌, ◌++◌, take, map}
use Rattle.std.specs.Prelude.{flat_map}
use Rattle.ladder_picture.specs.ArrowTexts.{sent_text}
use Rattle.ladder_picture.specs.Views.{seen_sent}
use Rattle.ladder_picture.proofs.arrows.put_all_sent.Given as goal

abbrev pub invariant-loop-arrow : goal.invariant-loop-arrow
invariant-loop-arrow l =
    l.out.items ≡ l.fn.out.items ++ flat_map (sent_text l.look) (map seen_sent (take l.arrow-index l.sent))

use Rattle.ladder_picture.proofs.Standing.{lefts_kept, rights_kept, ticks_kept, go_down, ticks_in_order}
use Rattle.ladder_picture.proofs.laws.rows_stand_on_rungs.Goals as goal

pub returns : goal.returns
returns c = record {
  left = lefts_kept;
  right = rights_kept;
  ticks = ticks_kept;
  down = go_down;
  order = ticks_in_order;
}

use Rattle.std.proofs.Common.{Some}
use Rattle.report_picture.proofs.ends.Ends.new.Goals as goal

pub returns : goal.returns
returns c = λ drawn peer other. record {
  above = c.nowhere.ensures;
  ours = c.new.ensures (Some drawn) (Some drawn.host);
  theirs = c.new-2.ensures other peer;
}

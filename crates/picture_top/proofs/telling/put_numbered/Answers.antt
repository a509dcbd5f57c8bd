use Rattle.std.proofs.Common.{rules}
use Rattle.picture_top.specs.Telling.{numbered}
use Rattle.picture_top.proofs.Puts.{put_then, put_stopped}
use Rattle.picture_top.proofs.telling.put_numbered.Goals as goal

pub returns-in_err-put : goal.returns-in_err-put
returns-in_err-put g c = put_stopped _ _ _ _ c.args.part.now (numbered c.args.number) (search rules) (search rules)
    c.put.ensures

pub returns : goal.returns
returns g c = put_then _ _ _ _ c.args.part.now (numbered c.args.number) c.in_ok-put.ensures c.put_end.ensures

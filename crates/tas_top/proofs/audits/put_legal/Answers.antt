use Rattle.std.proofs.Common.{rules, ◌++◌, codes, decimal}
use Rattle.tas_top.specs.Telling.{numbered}
use Rattle.tas_top.proofs.Puts.{put_then, put_stopped}
use Rattle.tas_top.proofs.audits.put_legal.Goals as goal

pub returns-in_err-put : goal.returns-in_err-put
returns-in_err-put g c =
    put_stopped _ _ _ _ (codes "audit legal ") (decimal c.args.flows ++ (codes " " ++ numbered c.args.entries))
    (search rules) (search rules) c.put.ensures

pub returns : goal.returns
returns g c =
    put_then _ _ _ _ (codes "audit legal ") (decimal c.args.flows ++ (codes " " ++ numbered c.args.entries))
    c.in_ok-put.ensures c.put_counts.ensures

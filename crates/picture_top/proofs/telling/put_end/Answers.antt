use Rattle.std.proofs.Common.{rules, ◌≡◌, codes, decimal}
use Rattle.picture_top.proofs.Puts.{put_then, put_stopped, put_as}
use Rattle.picture_top.proofs.telling.put_end.Goals as goal

pub returns-in_err-put : goal.returns-in_err-put
returns-in_err-put g c =
    let text : c.format.result.now ≡ decimal c.args.number = search rules in
    put_stopped _ _ _ _ (decimal c.args.number) (codes "\n") (search rules) (search rules)
    (put_as _ _ _ _ _ text c.put.ensures)

pub returns : goal.returns
returns g c =
    let text : c.format.result.now ≡ decimal c.args.number = search rules in
    put_then _ _ _ _ (decimal c.args.number) (codes "\n") (put_as _ _ _ _ _ text c.in_ok-put.ensures) c.put-2.ensures

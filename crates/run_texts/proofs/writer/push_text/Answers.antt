use Rattle.std.proofs.Common.{rules, []}
use Rattle.run_texts.proofs.Writing.{stopped_at}
use Rattle.run_texts.proofs.writer.push_text.Goals as goal

pub returns-in_err-make_room : goal.returns-in_err-make_room
returns-in_err-make_room g c = stopped_at _ _ _ _ [] (g.T.Text.text c.args.text.now) (search rules)
    (search rules) c.make_room.ensures.writes

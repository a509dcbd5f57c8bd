use Rattle.std.proofs.Common.{map, arith}
use Rattle.run_texts.proofs.RecordTexts.{run_is}
use Rattle.run_texts.proofs.Writing.{wrote_as}
use Rattle.run_texts.proofs.logs.write_run.Goals as goal

pub returns-then-run : goal.returns-then-run
returns-then-run g c =
    wrote_as _ _ _ _ _ (run_is (map (λ n. n.now) c.args.names.now) c.args.run.now (omega arith)) c.put_lines.ensures

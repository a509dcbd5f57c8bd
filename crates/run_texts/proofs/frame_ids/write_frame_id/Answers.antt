use Rattle.std.proofs.Common.{rules, map}
use Rattle.run_texts.proofs.Writing.{wrote_as}
use Rattle.run_texts.proofs.FrameIds.{host_frame}
use Rattle.run_texts.proofs.frame_ids.write_frame_id.Goals as goal

pub returns : goal.returns
returns g c =
    wrote_as _ _ _ _ _ (host_frame (map (λ n. n.now) c.args.names.now) c.args.frame (search rules))
    c.write_named.ensures

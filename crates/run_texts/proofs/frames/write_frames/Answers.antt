use Rattle.std.proofs.Common.{flat_map, ap, ◌∙◌}
use Rattle.run_texts.specs.Frames.{frame_before}
use Rattle.run_texts.proofs.Writing.{wrote_as}
use Rattle.run_texts.proofs.Ticks.{all_in_ticks}
use Rattle.run_texts.proofs.frames.write_frames.Goals as goal

pub returns-clause-exact : goal.returns-clause-exact
returns-clause-exact g c =
    λ hosts ordered short.
    wrote_as _ _ _ _ _ (ap (flat_map (frame_before c.args.ticks)) (c.deref.ensures.value ∙ c.sent.view_is)
    ∙ all_in_ticks c.args.ticks hosts c.args.sent.now short ordered) c.write_records.ensures

use Rattle.std.specs.Prelude.{codes}
use Rattle.std.proofs.lemmas.Result.{on_ok_weaker}
use Rattle.tas_runs.specs.Report.{flags_text, mss_text, scale_text}
use Rattle.ladder_picture.specs.Elements.{counted}
use Rattle.ladder_picture.specs.Labels.{behind, ack_text, len_text}
use Rattle.ladder_picture.proofs.Appended.{joined7}
use Rattle.ladder_picture.proofs.labels.put_label.Goals as goal

pub returns : goal.returns
returns c =
    on_ok_weaker c.put_scale.result (λ e. joined7 c.args.out.now.items _ _ _ _ _ _ _
    (flags_text c.args.frame.now.head.flags)
    (counted (codes " ") (behind c.args.origins.sender c.args.frame.now.head.seq))
    (ack_text c.args.frame.now.head.flags (behind c.args.origins.receiver c.args.frame.now.head.ack))
    (len_text c.args.frame.now.len) (counted (codes " win ") c.args.frame.now.head.window)
    (mss_text c.args.frame.now.head.mss) (scale_text c.args.frame.now.head.scale) c.in_ok-put_flags.ensures
    c.in_ok-put_seq.ensures c.in_ok-put_ack.ensures c.in_ok-put_len.ensures c.in_ok-put_window.ensures
    c.in_ok-put_mss.ensures e) c.put_scale.ensures

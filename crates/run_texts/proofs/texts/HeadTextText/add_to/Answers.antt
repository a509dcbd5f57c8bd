use Rattle.std.proofs.Common.{codes, decimal}
use Rattle.tas_runs.specs.Report.{flags_text, mss_text, scale_text}
use Rattle.run_texts.proofs.Writing.{nine_behind}
use Rattle.run_texts.proofs.texts.HeadTextText.add_to.Goals as goal

pub returns-clause-text : goal.returns-clause-text
returns-clause-text c =
    let h = c.args.self.now.0 in
    nine_behind c.args.waiting.now c.add_to.new.waiting c.add.new.waiting c.add_number.new.waiting c.add-2.new.waiting
    c.add_number-2.new.waiting c.add-3.new.waiting c.add_number-3.new.waiting c.add_to-2.new.waiting
    c.add_to-3.new.waiting
    (flags_text h.flags) (codes " seq ") (decimal h.seq.0) (codes " ack ") (decimal h.ack.0) (codes " win ")
    (decimal h.window) (mss_text h.mss) (scale_text h.scale)
    c.add_to.ensures.text c.add.ensures.text c.add_number.ensures.text c.add-2.ensures.text c.add_number-2.ensures.text
    c.add-3.ensures.text c.add_number-3.ensures.text c.add_to-2.ensures.text c.add_to-3.ensures.text

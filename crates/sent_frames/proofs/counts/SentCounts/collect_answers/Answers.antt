use Rattle.std.proofs.Common.{◌+◌, ◌++◌, take, ap, ◌∙◌, arith, length-take, length-drop}
use Rattle.sent_frames.specs.Sending.{of_tick}
use Rattle.sent_frames.proofs.Numbered.{answers_in-le}
use Rattle.sent_frames.proofs.Answering.{answers_whole, number_whole, newest_number, newest_frames, newest_length}
use Rattle.sent_frames.proofs.counts.SentCounts.collect_answers.Goals as goal

pub collect_lines-requires-clause-few : goal.collect_lines-requires-clause-few
collect_lines-requires-clause-few c =
    let n = c.args.self.now.lines in
    let log = c.args.log.now in
    omega (
      arith,
      newest_length n log c.stretches_after-new.result.now c.stretches_after-new.ensures,
      length-drop n log,
      c.requires.number,
      answers_in-le (take n log),
      length-take n log,
      c.len-lines.ensures,
      c.len-lines.type_inv,
    )

pub returns-clause-frames : goal.returns-clause-frames
returns-clause-frames c =
    λ world same.
    let n = c.args.self.now.lines in
    let h = c.args.sender.now.host in
    let t = c.args.tick in
    let log = c.args.log.now in
    c.in_ok-self.ensures.frames world same
    ∙ (ap (λ fs. c.args.sent.now ++ of_tick t fs)
    (newest_frames world h c.args.self.now.answers n log c.stretches_after-new.result.now
    c.stretches_after-new.ensures)
    ∙ ap (λ fs. c.args.sent.now ++ fs)
    (answers_whole world h t n c.args.self.now.answers log c.requires.earlier c.requires.number))

pub returns-clause-answers : goal.returns-clause-answers
returns-clause-answers c =
    let n = c.args.self.now.lines in
    let log = c.args.log.now in
    number_whole n c.args.self.now.answers c.in_ok-self.field-0 log c.requires.number
    (c.in_ok-self.ensures.number ∙ ap (λ m. c.args.self.now.answers + m)
    (newest_number n log c.stretches_after-new.result.now c.stretches_after-new.ensures))

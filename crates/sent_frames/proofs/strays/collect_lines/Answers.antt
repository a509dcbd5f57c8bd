use Rattle.std.proofs.Common.{◌≡◌, length, slice_get, Some, refl, arith}
use Rattle.std.proofs.lemmas.Option.{slice_get_read}
use Rattle.sent_frames.proofs.Answering.{number_more, few_left, answers_more}
use Rattle.sent_frames.proofs.strays.collect_lines.Goals as goal

pub collect_stretch-requires-clause-few : goal.collect_stretch-requires-clause-few
collect_stretch-requires-clause-few c =
    let ss = c.args.stretches.now in
    let i = c.loop-stretch.stretch-index in
    let here : slice_get ss i ≡ Some c.stretch-item.result =
    slice_get_read ss (length ss) i c.stretch-item.result refl c.loop-stretch-test.true c.stretch-item.is in
    omega (
      arith,
      few_left c.loop-stretch.number c.args.number ss i c.stretch-item.result here c.loop-stretch.invariant.number,
      c.requires.few,
    )

pub loop-stretch-preserved : goal.loop-stretch-preserved
loop-stretch-preserved c =
    let ss = c.args.stretches.now in
    let i = c.loop-stretch.stretch-index in
    let s = c.stretch-item.result in
    let here : slice_get ss i ≡ Some s =
    slice_get_read ss (length ss) i s refl c.loop-stretch-test.true c.stretch-item.is in
    record {
      number = number_more c.loop-stretch.number c.in_ok-number.number c.args.number ss i s here
          c.loop-stretch.invariant.number c.in_ok-number.ensures.number;
      frames = λ world same. answers_more world c.args.sender.now.host c.args.tick c.loop-stretch.number c.args.number
          ss i s c.args.sent.now c.loop-stretch.sent c.collect_stretch.new.sent here c.loop-stretch.invariant.number
          (c.loop-stretch.invariant.frames world same) (c.in_ok-number.ensures.frames world same);
      last = c.in_ok-number.ensures.last;
    }

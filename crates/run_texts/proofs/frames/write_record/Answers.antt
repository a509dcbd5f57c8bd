use Rattle.std.proofs.Common.{◌⊎◌, ◌≤◌, ◌<◌, length, rules, drop}
use Rattle.run_texts.proofs.Writing.{wrote_as, wrote_nothing}
use Rattle.run_texts.proofs.Packets.{frame_packet, no_record}
use Rattle.run_texts.proofs.frames.write_record.Goals as goal

pub returns : goal.returns
returns g c =
    wrote_as _ _ _ _ _ (frame_packet c.args.ticks c.in-Ok.len c.args.frame.now c.write.new.buf
    (drop c.in-Ok.len c.args.packet.now) (search rules) (search rules) c.in-Ok.ensures.text c.in-Ok.ensures.len)
    c.write_packet.ensures

pub returns-then-frame-ticks : goal.returns-then-frame-ticks
returns-then-frame-ticks g c =
    let f = c.args.frame.now in
    let out : (c.args.ticks ≤ f.tick) ⊎ (65487 < length f.seg.bytes.now) = search rules in
    wrote_as _ _ _ _ _ (no_record c.args.ticks f out) (wrote_nothing _ _)

use Rattle.std.proofs.Common.{◌≡◌, ◌∙◌, ap, arith, length, take}
use Rattle.flow_state.specs.Views.{seen_seg}
use Rattle.tas_runs.specs.SentFrames.{sent_fields}
use Rattle.sent_frames.proofs.Packets.{packet_cut, kept_whole}
use Rattle.sent_frames.proofs.frames.packet_of.Goals as goal

pub returns : goal.returns
returns c =
    let room : c.in_ok-packet.packet.len ≡ length c.write.new.buf = omega arith in
    c.of.ensures ∙ (c.truncate.ensures.items
    ∙ (ap (λ bytes. take c.in-Ok.len bytes) (kept_whole c.write.new.buf _ c.in_ok-packet.packet.len room)
    ∙ packet_cut (sent_fields c.args.tuple (seen_seg c.args.seg)) c.in-Ok.len c.write.new.buf _ c.in-Ok.ensures.text
    c.in-Ok.ensures.len))

use Rattle.std.proofs.Common.{sym, ◌∙◌}
use Rattle.pcap_frames.specs.Views.{form_in, record_in}
use Rattle.capture_items.proofs.Scanning.{syn_of_packet}
use Rattle.capture_items.proofs.starts.local_syn.Goals as goal

pub returns : goal.returns
returns c = λ t loose.
    c.syn_in.ensures t loose
    ∙ sym (syn_of_packet (form_in c.args.header.now) c.args.local loose (record_in c.args.view.now) _ t
    c.in_ok-packet.ensures.packet)

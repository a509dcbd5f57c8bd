-- What a host answers to a segment that no flow is there for (RFC 9293, sections 3.10.7.1 and 3.10.7.2).
use Rattle.std.specs.Prelude.{Bool, true, false, Option, Some, None, if◌then◌else◌}
use Rattle.tas_model.specs.declared.entry.Head.{Head}
use Rattle.tas_model.specs.declared.entry.Seg.{Seg}
use Rattle.tas_model.specs.declared.entry.Reply.{Reply}
use Rattle.tas_model.specs.declared.entry.Reply.TheVariants as replies
use Rattle.tas_model.specs.Segments.{is_rst, is_ack, resets, stray_reply}

-- What a listener answers to a segment that opens nothing: nothing to a reset, a reset to an acknowledgement, and
-- nothing to all else.
abbrev pub listener_reply : Seg → Reply
listener_reply seg = if is_rst seg then replies.Nothing else if is_ack seg then resets seg.head.ack else replies.Nothing

-- the header of the segment that goes to the peer, where one does
abbrev pub sent_head : Reply → Option Head
sent_head (replies.Sent seg) = Some seg.head
sent_head _ = None

-- The answer at a port where a listener is, or none is.
abbrev pub stray_answer : Seg → (listening : Bool) → Option Head
stray_answer seg true = sent_head (listener_reply seg)
stray_answer seg false = sent_head (stray_reply seg)

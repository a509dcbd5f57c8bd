use Rattle.std.proofs.Common.{rules, length}
use Rattle.tas_num.specs.Captures.{record_head}
use Rattle.run_texts.proofs.Writing.{stopped_at, wrote_then}
use Rattle.run_texts.proofs.frames.write_packet.Goals as goal

pub returns-in_err-write_head : goal.returns-in_err-write_head
returns-in_err-write_head g c = stopped_at _ _ _ _ (record_head c.args.tick (length c.args.packet.now))
    c.args.packet.now (search rules) (search rules) c.write_head.ensures

pub returns : goal.returns
returns g c = wrote_then _ _ _ _ (record_head c.args.tick (length c.args.packet.now)) c.args.packet.now
    (search rules) c.put.ensures

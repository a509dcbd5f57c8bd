use Rattle.std.proofs.Common.{ap, subst, arith, take, length-append, length-take}
use Rattle.kv_sessions.specs.Steps.{standing_in, IsShort}
use Rattle.kv_sessions.proofs.Taken.{in_block, in_dropped, in_over}
use Rattle.kv_sessions.proofs.taking.take_some.Goals as goal

pub take_line-requires-clause-short : goal.take_line-requires-clause-short
take_line-requires-clause-short c = (subst IsShort c.in-Line.is c.requires.short).0

pub take_line-requires-clause-open : goal.take_line-requires-clause-open
take_line-requires-clause-open c = (subst IsShort c.in-Line.is c.requires.short).1

pub returns-in-Line-clause-leads : goal.returns-in-Line-clause-leads
returns-in-Line-clause-leads c = rw c.in-Line.is c.take_line.ensures.leads

pub returns-in_ok-later-in-Block-clause-leads : goal.returns-in_ok-later-in-Block-clause-leads
returns-in_ok-later-in-Block-clause-leads c =
    let short = subst IsShort c.in-Block.is c.requires.short in
    in_block c.args.mode c.in-Block.block.key.items c.in-Block.block.bytes.items c.args.bytes.now c.in-Block.block.flags
    c.in-Block.block.len c.min-taken.result c.args.store.now c.args.replies.now.items c.take_block.new.replies.items
    c.take_block.new.store c.in_ok-later-in-Block.later (ap standing_in c.in-Block.is)
    (omega (
      arith,
      length-append c.in-Block.block.bytes.items (take c.min-taken.result c.args.bytes.now),
      length-take c.min-taken.result c.args.bytes.now,
      c.min-taken.ensures,
      c.len.ensures,
      short.1,
    ))
    c.in_ok-later-in-Block.ensures.made

pub returns-in_ok-later-in-Dropped-clause-leads : goal.returns-in_ok-later-in-Dropped-clause-leads
returns-in_ok-later-in-Dropped-clause-leads c =
    in_dropped c.args.mode c.args.bytes.now c.in-Dropped.missing _ c.min-taken-in-Dropped.result c.args.store.now
    c.args.replies.now.items c.take_dropped.new.replies.items c.in_ok-later-in-Dropped.later
    (ap standing_in c.in-Dropped.is)
    (omega (arith, length-take c.min-taken-in-Dropped.result c.args.bytes.now, c.min-taken-in-Dropped.ensures))
    (c.in_ok-later-in-Dropped.ensures.made c.args.store.now)

pub returns-in_ok-later-in-Dropped-clause-short : goal.returns-in_ok-later-in-Dropped-clause-short
returns-in_ok-later-in-Dropped-clause-short c = (c.in_ok-later-in-Dropped.ensures.made c.args.store.now).short

pub returns-in-Over-clause-leads : goal.returns-in-Over-clause-leads
returns-in-Over-clause-leads c =
    in_over c.args.mode (take _ c.args.bytes.now) c.args.store.now c.args.replies.now.items
    (ap standing_in c.in-Over.is)

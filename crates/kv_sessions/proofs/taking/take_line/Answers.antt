use Rattle.std.proofs.Common.{◌∙◌, sym, arith, take, length-append, length-take}
use Rattle.kv_sessions.proofs.Taken.{stays_open, ends_line, none_in}
use Rattle.kv_sessions.proofs.taking.take_line.Goals as goal

pub returns-in_ok-later-in-None-clause-leads : goal.returns-in_ok-later-in-None-clause-leads
returns-in_ok-later-in-None-clause-leads c =
    stays_open c.args.line.items c.args.bytes.now c.min-room.result c.extend_from_slice.new.self.items c.args.store.now
    c.args.replies.now.items c.wait_for_end.new.replies.items c.args.store.now c.in_ok-later-in-None.later
    c.requires.open (sym c.place_of.ensures.place ∙ c.in-None.is)
    (omega (
      arith,
      length-append c.args.line.items (take c.min-room.result c.args.bytes.now),
      length-take c.min-room.result c.args.bytes.now,
      c.min-room.ensures,
      c.len.ensures,
      c.requires.short,
    ))
    c.in_ok-extend_from_slice-in-None.ensures.items (c.in_ok-later-in-None.ensures.made c.args.store.now)

pub returns-in_ok-later-in-Some-clause-leads : goal.returns-in_ok-later-in-Some-clause-leads
returns-in_ok-later-in-Some-clause-leads c =
    ends_line c.args.line.items c.args.bytes.now c.min-room.result c.in-Some.end c.args.store.now
    c.args.replies.now.items c.end_line.new.replies.items c.end_line.new.store c.in_ok-later-in-Some.later
    c.requires.open (sym c.place_of.ensures.place ∙ c.in-Some.is)
    (omega (arith, c.min-room.ensures, c.len.ensures, c.requires.short)) c.in_ok-later-in-Some.ensures.made

pub wait_for_end-requires-clause-open : goal.wait_for_end-requires-clause-open
wait_for_end-requires-clause-open c =
    none_in c.extend_from_slice.new.self.items c.args.line.items (take c.min-room.result c.args.bytes.now)
    c.in_ok-extend_from_slice-in-None.ensures.items c.requires.open (sym c.place_of.ensures.place ∙ c.in-None.is)

pub returns-in_ok-later-in-None-clause-short : goal.returns-in_ok-later-in-None-clause-short
returns-in_ok-later-in-None-clause-short c = (c.in_ok-later-in-None.ensures.made c.args.store.now).short

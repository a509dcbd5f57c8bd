use Rattle.std.proofs.Common.{refl}
use Rattle.fast_rx.proofs.Growing.{grown_stands}
use Rattle.fast_rx.proofs.keeping.grow.Goals as goal

pub returns-clause-stands : goal.returns-clause-stands
returns-clause-stands c e v going s =
    rw (
      c.number_at-parts.ensures,
      c.end.ensures.end,
      c.advance.ensures,
      c.bridge-more.ensures,
      c.room.ensures.room,
      c.rest-parts.ensures,
      c.append.ensures,
    )
    (grown_stands c.args.parts.now e c.args.part.now e.rx.island v going s refl)

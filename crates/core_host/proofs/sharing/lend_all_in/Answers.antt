-- Answers of the proof of sharing/lend_all_in.
use Rattle.std.proofs.Common.{All, sym, subst}
use Rattle.core_phase.specs.Lanes.{IsIdle}
use Rattle.core_host.specs.Sharing.{all_in_tick}
use Rattle.core_host.proofs.Played.{all_of, tick_idle}
use Rattle.core_host.proofs.sharing.lend_all_in.Goals as goal

pub lend_in-requires-clause-idle : goal.lend_in-requires-clause-idle
lend_in-requires-clause-idle c =
    subst (All (IsIdle c.args.shared.now)) (sym c.begin_in.ensures)
    (all_of (IsIdle c.args.shared.now) (all_in_tick c.args.tick c.args.lanes.now.items)
    (tick_idle c.args.shared.now c.args.tick c.args.lanes.now.items c.requires.idle))

use Rattle.local_host.proofs.Indexing.{quieted_keeps}
use Rattle.local_host.proofs.Standing.{quieted_rests, quieted_stays, sound_by_map}
use Rattle.local_host.proofs.flows.Flows.send_all_on_cores.Goals as goal

pub settle-requires : goal.settle-requires
settle-requires g c = sound_by_map c.work_all-done.result c.work_all-done.new.flows.items (quieted_keeps c.args.tick)
    (quieted_rests c.args.tick) (quieted_stays c.args.tick) c.self.invariant c.work_all-done.ensures

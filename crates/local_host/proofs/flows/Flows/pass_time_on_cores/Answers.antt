use Rattle.local_host.proofs.Indexing.{timed_keeps}
use Rattle.local_host.proofs.Standing.{timed_rests, timed_stays, sound_by_map}
use Rattle.local_host.proofs.flows.Flows.pass_time_on_cores.Goals as goal

pub settle-requires : goal.settle-requires
settle-requires g c = sound_by_map c.work_all-done.result c.work_all-done.new.flows.items (timed_keeps c.args.tick)
    (timed_rests c.args.tick) (timed_stays c.args.tick) c.self.invariant c.work_all-done.ensures

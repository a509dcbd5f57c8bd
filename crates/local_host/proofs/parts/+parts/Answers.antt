use Rattle.local_host.proofs.Halves.{halves_done}
use Rattle.local_host.proofs.parts.+parts.Goals as goal

pub work_parts-returns : goal.work_parts-returns
work_parts-returns g t c =
    let cut = c.split_at_mut-low in
    halves_done c.work_halves.result (g.C.Chore.change c.args.chore.now) c.args.flows.now
    cut.result.0.now cut.result.1.now c.work_halves.new.low c.work_halves.new.high
    cut.ensures.value c.work_halves.ensures.low c.work_halves.ensures.high

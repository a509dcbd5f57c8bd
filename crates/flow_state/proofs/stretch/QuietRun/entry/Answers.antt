use Rattle.std.proofs.Common.{◌≡◌, ◌+◌, suc, slice_get, Some, subst, sym, arith, ℕ}
use Rattle.flow_state.specs.Stretches.{quiet_tick, run_entries}
use Rattle.flow_state.proofs.Runs.{tick_at}
use Rattle.flow_state.proofs.stretch.QuietRun.entry.Goals as goal

pub returns : goal.returns
returns c =
    let run = c.args.self.now in
    subst (λ (k : ℕ). slice_get (run_entries run) c.args.j
    ≡ Some (quiet_tick run.caller (run.number + k) (run.tick + c.args.j))) (sym c.from.ensures)
    (tick_at run.caller run.number run.tick (suc run.more) c.args.j (omega (arith, c.requires.inside)))

use Rattle.std.proofs.Common.{◌≡◌, ◌+◌, suc, [], ◌∷◌, length, slice_get, Some, ap, sym, ◌∙◌, arith}
use Rattle.tas_model.specs.declared.entry.Entry.{Entry}
use Rattle.flow_state.specs.Stretches.{run_entries, control_entry, first_paced, pace_of}
use Rattle.flow_state.proofs.Looking.{got_back}
use Rattle.flow_state.proofs.Pacing.{length_paced}
use Rattle.flow_state.proofs.Runs.{length_ticks}
use Rattle.flow_state.proofs.paced.PacedRun.first_entry.Goals as goal

pub returns-then-j-ticks-2-clause-found : goal.returns-then-j-ticks-2-clause-found
returns-then-j-ticks-2-clause-found c =
    let r = c.args.self.now in
    let control : Entry =
    control_entry r.run.caller (r.run.number + r.run.more + 1) (r.run.tick + r.run.more) r.cwnd r.ssthresh in
    let count : length (run_entries r.run) ≡ suc r.run.more =
    length_ticks r.run.caller r.run.number r.run.tick (suc r.run.more) in
    let place : c.args.j ≡ length (run_entries r.run) + 0 = omega (arith, count, c.if-j-ticks-2.true) in
    ap (slice_get (first_paced r)) place
    ∙ (got_back (run_entries r.run) (control ∷ []) 0 ∙ ap (λ (x : Entry). Some x) (sym c.control.ensures))

pub returns-else-j-ticks-2-clause-past : goal.returns-else-j-ticks-2-clause-past
returns-else-j-ticks-2-clause-past c =
    let r = c.args.self.now in
    omega (
      arith,
      length_paced (pace_of r) r.run.number r.run.tick,
      c.if-j-ticks.false,
      c.if-j-ticks-2.false,
    )

use Rattle.std.proofs.Common.{◌≡◌, ◌+◌, false, arith, ap, sym, subst, ◌∙◌, List}
use Rattle.tas_model.specs.declared.entry.Entry.{Entry}
use Rattle.tas_model.specs.Endpoint.{is_closed}
use Rattle.tas_model.specs.LegalHistory.{replay}
use Rattle.flow_state.specs.Flow.{ticked_on}
use Rattle.host_rounds.specs.Logs.{Flow}
use Rattle.local_host.specs.Live.{flow_in}
use Rattle.local_host.specs.Sleep.{with_ticks}
use Rattle.local_host.proofs.Sleeping.{open_of_still, slept_on, still_on, ticks_behind}
use Rattle.local_host.proofs.sleep.pass_all.Goals as goal

pub pass_some-requires-clause-open : goal.pass_some-requires-clause-open
pass_some-requires-clause-open c =
    let r = c.args.history.now in
    let n = c.loop-done.done in
    let may = c.requires.rests (omega (arith, c.loop-done-test.true)) in
    let after = ticked_on r.params r.entries c.args.next n in
    let so = slept_on r.params r.entries c.args.next c.args.missed n c.parts-parts.ensures.legal may
    c.loop-done.invariant.few in
    subst (λ (f : Flow). is_closed (replay f.params f.entries) ≡ false) (sym c.loop-done.invariant.made)
    (open_of_still (replay r.params after) (still_on r.params r.entries after n may.still so))

pub loop-done-preserved : goal.loop-done-preserved
loop-done-preserved c =
    let first : Flow = flow_in c.args.history.now in
    let next = c.args.next in
    let n = c.loop-done.done in
    let k = c.in_ok-done.field-0 in
    record {
      few = omega (arith, c.loop-done.invariant.few, c.in_ok-done.ensures.most);
      made = c.in_ok-done.ensures.made
          ∙ (ap (λ (f : Flow). with_ticks f (next + n) k) c.loop-done.invariant.made
          ∙ ap (λ (es : List Entry). record first { entries = es })
          (ticks_behind first.params first.entries next n k));
    }

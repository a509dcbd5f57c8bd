use Rattle.std.proofs.Common.{rules, arith, ◌≡◌, ◌+◌, ◌≤◌, ◌^◌, length, map, take, slice_get, Some, refl}
use Rattle.std.proofs.lemmas.Option.{slice_get_read}
use Rattle.tas_model.specs.Outputs.{bytes_read}
use Rattle.tas_runs.specs.Summary.{all_read}
use Rattle.run_texts.specs.Frames.{history_of}
use Rattle.tas_round.proofs.Summing.{all_read_more, all_read_within, all_read_whole}
use Rattle.tas_round.proofs.summary.count_all.Goals as goal

pub loop-flow-preserved : goal.loop-flow-preserved
loop-flow-preserved c =
    let flows = c.args.flows.now in
    let i = c.loop-flow.flow-index in
    let flow = c.flow-item.result in
    let here : slice_get flows i ≡ Some flow =
    slice_get_read flows (length flows) i flow refl c.loop-flow-test.true c.flow-item.is in
    all_read_more flows i c.loop-flow.count c.in_ok-sum.sum flow here c.loop-flow.invariant c.in_ok-sum.ensures.some

pub returns-clause-some : goal.returns-clause-some
returns-clause-some c =
    all_read_whole c.args.flows.now c.loop-flow.flow-index c.loop-flow.count (search rules) c.loop-flow.invariant

pub returns-in_err-sum-clause-none : goal.returns-in_err-sum-clause-none
returns-in_err-sum-clause-none c = λ none.
    let flows = c.args.flows.now in
    let i = c.loop-flow.flow-index in
    let flow = c.flow-item.result in
    let here : slice_get flows i ≡ Some flow =
    slice_get_read flows (length flows) i flow refl c.loop-flow-test.true c.flow-item.is in
    let past : 2 ^ 128 ≤ c.loop-flow.count + length (bytes_read flow.entries) = c.in_err-sum.ensures.none refl in
    let within : length (all_read (map history_of (take i flows))) + length (bytes_read flow.entries)
    ≤ length (all_read (map history_of flows)) = all_read_within flows i flow here in
    omega (arith, past, within, c.loop-flow.invariant)

use Rattle.std.proofs.Common.{rules, ◌≡◌, ◌≤◌, length, map, slice_get, Some, ap, ◌∙◌, arith}
use Rattle.std.proofs.lemmas.List.{length-map}
use Rattle.std.specs.Option.{option_map}
use Rattle.std.proofs.lemmas.Option.{slice_get-map}
use Rattle.log_ranges.specs.Ranges.{FlowFits}
use Rattle.log_ranges.proofs.Lists.{each_more, each_all}
use Rattle.run_texts.specs.Frames.{history_of}
use Rattle.tas_round.proofs.Flowing.{wrote_flow, stopped_flow, wrote_flows}
use Rattle.tas_round.proofs.report.put_flows.Goals as goal

pub returns-in_err-put_flow-clause-writes : goal.returns-in_err-put_flow-clause-writes
returns-in_err-put_flow-clause-writes g c =
    let flows = map history_of c.args.flows.now in
    let here : slice_get flows c.loop-i.i
    ≡ Some (history_of c.item.result.now) = slice_get-map history_of c.args.flows.now c.loop-i.i
    ∙ ap (option_map history_of) c.item.ensures in
    stopped_flow (map (λ n. n.now) c.args.names.now) flows c.loop-i.i (history_of c.item.result.now) _ _ _ _ _ here
    (search rules) (search rules) c.loop-i.invariant.0 c.put_flow.ensures.writes

pub loop-i-preserved : goal.loop-i-preserved
loop-i-preserved g c =
    let flows = map history_of c.args.flows.now in
    let here : slice_get flows c.loop-i.i
    ≡ Some (history_of c.item.result.now) = slice_get-map history_of c.args.flows.now c.loop-i.i
    ∙ ap (option_map history_of) c.item.ensures in (
      wrote_flow (map (λ n. n.now) c.args.names.now) flows c.loop-i.i (history_of c.item.result.now) _ _ _ _ here
          c.loop-i.invariant.0 c.in_ok-put_flow.ensures.writes,
      each_more FlowFits flows c.loop-i.i (history_of c.item.result.now) here c.loop-i.invariant.1
          c.in_ok-put_flow.ensures.fits,
    )

pub returns-clause-writes : goal.returns-clause-writes
returns-clause-writes g c =
    let flows = map history_of c.args.flows.now in
    let all : length flows ≤ c.loop-i.i = omega
    (arith, c.loop-i-test.false, c.len-i-end.ensures, length-map c.args.flows.now history_of) in
    wrote_flows (map (λ n. n.now) c.args.names.now) flows c.loop-i.i _ _ _ all c.loop-i.invariant.0

pub returns-clause-fits : goal.returns-clause-fits
returns-clause-fits g c =
    let flows = map history_of c.args.flows.now in
    let all : length flows ≤ c.loop-i.i = omega
    (arith, c.loop-i-test.false, c.len-i-end.ensures, length-map c.args.flows.now history_of) in
    each_all FlowFits flows c.loop-i.i all c.loop-i.invariant.1

use Rattle.std.proofs.Common.{◌≡◌, get_or, set, sym, ap, ◌∙◌}
use Rattle.sent_frames.specs.Sending.{sent_by}
use Rattle.scenario_world.proofs.Counted.{count_there, counts_more, flows_more}
use Rattle.scenario_world.proofs.Lacking.{lacking_by, lacking_before}
use Rattle.scenario_world.proofs.collecting.collect_flows.Goals as goal

pub collect_flow-requires-clause-number : goal.collect_flow-requires-clause-number
collect_flow-requires-clause-number c =
    let t = c.args.tick in
    let place : c.flow_number-number.result ≡ c.loop-place.place = c.flow_number-number.ensures in
    ap (λ i. get_or c.loop-place.counts.flows.items i 0) place
    ∙ (count_there t c.loop-place.counts.flows.items c.args.host.now.flows c.loop-place.place c.flow.result.now
    c.flow.ensures c.loop-place.invariant.flows
    ∙ sym (lacking_before t c.record.result.now c.flow.result.now.flow c.record.ensures.lacks))

pub loop-place-preserved : goal.loop-place-preserved
loop-place-preserved c =
    let t = c.args.tick in
    let ls = c.args.host.now.flows in
    let i = c.loop-place.place in
    let l = c.flow.result.now in
    let old = c.loop-place.counts.flows.items in
    let place : c.flow_number-number.result ≡ c.loop-place.place = c.flow_number-number.ensures in
    record {
      flows = counts_more t c.loop-place.counts.flows.items c.collect_flow.new.self.flows.items ls i l c.flow.ensures
          c.loop-place.invariant.flows
          (c.in_ok-collect_flow.ensures.flows
          ∙ (ap (λ k. set old k (sent_by c.record.result.now.entries)) place
          ∙ ap (set old i) (lacking_by c.record.result.now l.flow c.record.ensures.lacks)));
      answers = c.in_ok-collect_flow.ensures.answers ∙ c.loop-place.invariant.answers;
      lines = c.in_ok-collect_flow.ensures.lines ∙ c.loop-place.invariant.lines;
      frames = λ world same. flows_more world c.args.sender.now.host t c.flow_number-number.result ls i l
          c.record.result.now c.args.sent.now c.loop-place.sent c.collect_flow.new.sent c.flow.ensures place
          c.record.ensures.lacks
          (c.loop-place.invariant.frames world same) (c.in_ok-collect_flow.ensures.frames world same);
      last = c.in_ok-collect_flow.ensures.last;
    }

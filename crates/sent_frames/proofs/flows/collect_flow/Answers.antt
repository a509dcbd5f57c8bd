use Rattle.std.proofs.Common.{◌≡◌, ◌++◌, sym, ap, ◌∙◌, append-nil, rules}
use Rattle.scenario_runs.specs.Worlds.{host_at}
use Rattle.sent_frames.proofs.Starting.{none_sent_now}
use Rattle.sent_frames.proofs.flows.collect_flow.Goals as goal

pub returns-then-sent-number-clause-frames : goal.returns-then-sent-number-clause-frames
returns-then-sent-number-clause-frames c world is =
    let same : c.sent.result ≡ c.args.number = search rules in
    sym (ap (λ fs. c.args.sent.now ++ fs) (none_sent_now (record {
      host = c.args.sender.now.host;
      flow = c.args.flow;
      to = host_at world c.args.history.now.tuple.raddr;
      tuple = c.args.history.now.tuple;
    }) c.args.tick c.args.history.now.entries
    (sym c.sent.ensures ∙ (same ∙ c.requires.number))) ∙ append-nil c.args.sent.now)

use Rattle.std.proofs.Common.{◌<◌, ◌≤◌, length, rules, ap, sym, ◌∙◌}
use Rattle.host_rounds.specs.Hosts.{is_indexed_as}
use Rattle.local_host.proofs.Standing.{passes_get, passes_past}
use Rattle.local_host.proofs.flows.is_indexed_at.Goals as goal

pub returns-in-Some : goal.returns-in-Some
returns-in-Some c =
    let below : c.args.place < length c.args.flows.now = search rules in
    c.is_indexed_as.ensures ∙ (ap (is_indexed_as c.args.tuple.now) c.in-Some.ensures.lookup.1
    ∙ sym (passes_get (is_indexed_as c.args.tuple.now) c.args.flows.now c.args.place c.in-Some.flow.now below))

pub returns-in-None : goal.returns-in-None
returns-in-None c =
    let past : length c.args.flows.now ≤ c.args.place = search rules in
    sym (passes_past (is_indexed_as c.args.tuple.now) c.args.flows.now c.args.place past)

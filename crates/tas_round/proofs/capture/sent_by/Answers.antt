use Rattle.std.proofs.Common.{◌≡◌, List, map, ap, sym, subst, ◌∙◌}
use Rattle.host_rounds.specs.Lists.{Each}
use Rattle.run_texts.specs.declared.frames.HostFrames.{HostFrames}
use Rattle.run_texts.specs.Frames.{seen_host}
use Rattle.tas_round.specs.Runs.{unnamed_in, AreLegal}
use Rattle.tas_round.proofs.Lending.{sent_of}
use Rattle.tas_round.proofs.capture.sent_by.Goals as goal

pub returns : goal.returns
returns c =
    let lent : List HostFrames = c.deref.result.now in
    let same : map seen_host lent ≡ map unnamed_in c.args.hosts.now = ap (map seen_host) c.deref.ensures.value
    ∙ c.in_ok-frames.ensures.hosts in
    let legal : Each AreLegal (map seen_host lent) = subst (λ (fs : List HostFrames). Each AreLegal (map seen_host fs))
    (sym c.deref.ensures.value) c.in_ok-frames.ensures.legal in
    sent_of c.of_hosts.result lent c.args.hosts.now same (c.segments_have_room.ensures.hosts (map seen_host lent) legal)
    c.of_hosts.ensures

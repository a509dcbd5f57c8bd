use Rattle.std.proofs.Common.{◌≡◌, Some, slice_get, sym, subst}
use Rattle.host_rounds.specs.Hosts.{Live, Host}
use Rattle.tas_runs.specs.Records.{Content}
use Rattle.host_rounds.specs.Lists.{change_at}
use Rattle.local_host.specs.Script.{asked_live}
use Rattle.local_host.proofs.Indexing.{asked_keeps, some_content, content_remote, content_resets}
use Rattle.local_host.proofs.Ports.{host_change, host_done}
use Rattle.local_host.proofs.host.LocalHost.serve.Goals as goal

pub invariant_of-self : goal.invariant_of-self
invariant_of-self c =
    let content : Content = some_content c.args.remote c.args.resets in
    let f : Live → Live = asked_live c.args.tick content c.args.shown.now in
    host_done c.serve.result (change_at c.args.i f c.self.inside.flows) c.serve.new.self c.self.invariant
    (host_change f c.args.i (asked_keeps c.args.tick content c.args.shown.now) c.self.invariant)
    (c.serve.ensures.flows content (content_remote c.args.remote c.args.resets)
    (content_resets c.args.remote c.args.resets c.requires.apart))
    c.serve.ensures.none

pub returns-clause-shown : goal.returns-clause-shown
returns-clause-shown c = λ content l remote resets here.
    c.serve.ensures.shown content l remote resets
    (subst (λ (h : Host). slice_get h.flows c.args.i ≡ Some l) (sym c.self.view_is) here)

use Rattle.std.proofs.Common.{◌≡◌, ◌≤◌, ◌++◌, length, take, ap}
use Rattle.tas_model.specs.declared.entry.Caller.TheVariants.{App}
use Rattle.tas_model.specs.Valid.{InRange}
use Rattle.tas_model.specs.LegalHistory.{Legal}
use Rattle.host_rounds.specs.Logs.{Flow}
use Rattle.host_rounds.specs.Hosts.{Live, endpoint}
use Rattle.local_host.proofs.Growth.{out_sent}
use Rattle.local_host.proofs.live.LiveFlow.offer.Goals as goal
use Rattle.local_host.proofs.live.LiveFlow.offer.Goals.{After-taken}

abbrev HasHistory : Flow → Type 0
HasHistory f = InRange f.params × Legal f.params f.entries

both : (c : After-taken)
    → (c.taken.result ≤ length c.args.bytes.now)
    × ((endpoint c.ask.new.self).tx.out ≡ (endpoint c.args.self.now).tx.out ++ take c.taken.result c.args.bytes.now)
both c =
    let before : HasHistory c.args.self.now.flow = c.know_legal.ensures.legal in
    let after : HasHistory c.ask.new.self.flow = c.know_legal-2.ensures.legal in
    out_sent c.args.self.now.flow.params c.ask.new.self.flow.params c.args.self.now.flow.entries
    c.ask.new.self.flow.entries (App c.args.app) c.args.tick (length c.args.bytes.now) c.taken.result c.args.bytes.now
    c.in_ok-answer.answer (ap (λ (l : Live). l.flow.params) c.in_ok-answer.ensures.made)
    (ap (λ (l : Live). l.flow.entries) c.in_ok-answer.ensures.made) c.in_ok-answer.ensures.answer c.taken.ensures
    before.0 before.1 after.1

pub returns-clause-few : goal.returns-clause-few
returns-clause-few c = (both c).0

pub returns-clause-out : goal.returns-clause-out
returns-clause-out c = (both c).1

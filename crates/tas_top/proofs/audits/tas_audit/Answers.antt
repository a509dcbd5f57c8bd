use Rattle.std.proofs.Common.{◌≡◌, ◌⊎◌, ℕ, subst, sym}
use Rattle.tas_top.specs.Audits.{audited}
use Rattle.tas_top.proofs.Audited.{ends_well}
use Rattle.tas_top.proofs.audits.tas_audit.Goals as goal

pub returns-clause-complete : goal.returns-clause-complete
returns-clause-complete g c = λ whole.
    subst (λ (n : ℕ). (n ≡ 0) ⊎ ((n ≡ 9) ⊎ (n ≡ 6))) (sym c.answered.ensures.1)
    (ends_well (audited (g.S.Source.state c.args.source.now) (g.S.Source.state c.answered.new.source)
    (g.K.Sink.state c.args.sink.now) (g.K.Sink.state c.answered.new.sink) (g.F.Sink.state c.args.faults.now)
    (g.F.Sink.state c.answered.new.faults)) c.answered.ensures.0 c.answered.ensures.2 whole)

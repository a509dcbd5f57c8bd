use Rattle.std.proofs.Common.{sym, ◌∙◌, arith}
use Rattle.flow_state.proofs.Pacing.{on_pace, joined_is, joined_fits}
use Rattle.flow_state.proofs.paced.joined.Goals as goal

pub returns-clause-entries : goal.returns-clause-entries
returns-clause-entries c =
    joined_is c.args.runs.now c.args.next.now _ c.requires.runs
    (on_pace c.args.runs.now c.args.next.now (sym c.paces_on.ensures ∙ c.if-not-paces_on.false)) c.requires.one
    (omega (arith, c.in_ok-more.ensures))

pub returns-clause-fits : goal.returns-clause-fits
returns-clause-fits c =
    joined_fits c.args.runs.now c.args.next.now c.in_ok-more.more c.requires.runs c.requires.next
    (on_pace c.args.runs.now c.args.next.now (sym c.paces_on.ensures ∙ c.if-not-paces_on.false)) c.requires.one
    (omega (arith, c.in_ok-more.ensures))

use Rattle.std.proofs.Common.{sym, ◌∙◌}
use Rattle.tas_model.specs.declared.entry.Call.TheVariants as calls
use Rattle.host_rounds.specs.Hosts.{Application, is_ready}
use Rattle.asked_host.proofs.Accepting.{ready_runs, found_below, still_below, held_after}
use Rattle.asked_host.proofs.local.accept_first.Goals as goal

pub ask-requires-clause-may : goal.ask-requires-clause-may
ask-requires-clause-may c =
    ready_runs c.args.port c.args.host.now.flows c.in-Some.place (sym c.first_ready.ensures ∙ c.in-Some.is)

pub hold-requires : goal.hold-requires
hold-requires c =
    still_below _ c.in-Some.place c.args.host.now c.ask.new.self c.in_ok-ask.ensures.made
    (found_below (is_ready c.args.port) c.args.host.now.flows c.in-Some.place
    (sym c.first_ready.ensures ∙ c.in-Some.is))

pub returns : goal.returns
returns c = (
  sym c.first_ready.ensures ∙ c.in-Some.is,
  held_after (Application c.args.app) c.args.app c.in-Some.place c.args.tick calls.Accept c.args.host.now
      c.ask.new.self c.hold.new.self c.in_ok-ask.ensures.made c.hold.ensures,
)

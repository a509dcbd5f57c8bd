use Rattle.std.proofs.Common.{◌≡◌, false, Option, sym, ◌∙◌, ap, subst}
use Rattle.tas_model.specs.declared.entry.Phase.{Phase}
use Rattle.tas_model.specs.declared.entry.Phase.TheVariants as phases
use Rattle.tas_model.specs.Endpoint.{phase}
use Rattle.tas_model.specs.Segments.{Outcome}
use Rattle.tas_model.specs.Timers.{ticks, tick_in, filled}
use Rattle.flow_state.specs.Calls.{is_closed_phase}
use Rattle.flow_state.specs.Made.{IsStep}
use Rattle.slow_timeout.proofs.Ticking.{ticked_in, reason_none, filled_valid}
use Rattle.slow_timeout.proofs.timer.tick.Goals as goal

pub returns-in-TimeWait-clause-made : goal.returns-in-TimeWait-clause-made
unfolding ticks
returns-in-TimeWait-clause-made c out e v s =
    let now : phase e ≡ phases.TimeWait = sym s.phase ∙ (sym c.fill.ensures.phase ∙ c.in-TimeWait.is) in
    subst (λ (ph : Phase). IsStep c.wait.new.parts c.wait.result out
    (tick_in ph (record e { rate = filled e.rate }) c.args.now)) (sym now)
    (c.wait.ensures.made out (record e { rate = filled e.rate }) (c.fill.ensures.after e s))

pub returns-in_default : goal.returns-in_default
unfolding ticks
returns-in_default c = record {
  made = λ out e v s.
      let live : is_closed_phase (phase e) ≡ false = ap is_closed_phase (sym s.phase) ∙ c.requires in
      subst (λ (o : Option Outcome). IsStep c.run_timer.new.parts c.run_timer.result out o)
      (sym (ticked_in (phase e) (record e { rate = filled e.rate }) c.args.now
      (λ h. c.in_default.not-TimeWait (c.fill.ensures.phase ∙ (s.phase ∙ h))) live))
      (c.run_timer.ensures.made out (record e { rate = filled e.rate }) (filled_valid e v) (c.fill.ensures.after e s)
      (reason_none e live));
  len = c.run_timer.ensures.len;
  tuple = c.run_timer.ensures.tuple ∙ c.fill.ensures.tuple;
  params = c.run_timer.ensures.params ∙ c.fill.ensures.params;
}

use Rattle.std.proofs.Common.{[], sym, ◌∙◌, subst}
use Rattle.tas_model.specs.declared.entry.Phase.{Phase}
use Rattle.tas_model.specs.Endpoint.{Endpoint}
use Rattle.tas_model.specs.LegalHistory.{step}
use Rattle.tas_model.specs.Timers.{ticks, tick_in, filled}
use Rattle.flow_state.specs.declared.call.Answer.TheVariants as answers
use Rattle.flow_state.specs.Made.{IsStep, IsLoud, IsQuietTick, IsLoudTick}
use Rattle.slow_timeout.proofs.Passing.{passed, not_passed}
use Rattle.slow_timeout.proofs.Ticking.{loud_wait, still_waiting}
use Rattle.slow_timeout.proofs.timer.wait_on.Goals as goal

pub returns-then-has_waited : goal.returns-then-has_waited
unfolding step ticks
returns-then-has_waited c =
    let loud : IsLoudTick c.args.parts.now c.args.now = record {
      loud = λ e v s.
          let e' : Endpoint = record e { rate = filled e.rate } in
          subst (λ (ph : Phase). IsLoud (tick_in ph e' c.args.now)) (sym (sym s.phase ∙ c.requires))
          (loud_wait e' c.args.now (sym (c.has_waited.ensures e s) ∙ c.if-has_waited.true));
    } in
    not_passed c.args.parts.now c.args.now loud

pub returns : goal.returns
unfolding step ticks
returns c =
    let quiet : IsQuietTick c.args.parts.now c.args.now c.fill.new.parts = record {
      makes = λ e v s.
          let e' : Endpoint = record e { rate = filled e.rate } in
          record {
            step = subst (λ (ph : Phase). IsStep c.fill.new.parts answers.Quiet [] (tick_in ph e' c.args.now))
                (sym (sym s.phase ∙ c.requires))
                (still_waiting e' c.args.now c.fill.new.parts []
                (sym (c.has_waited.ensures e s) ∙ c.if-has_waited.false) (c.fill.ensures.after e s));
          };
      params = c.fill.ensures.params;
    } in
    passed c.args.parts.now c.args.now c.fill.new.parts quiet c.fill.ensures.phase c.fill.ensures.tuple

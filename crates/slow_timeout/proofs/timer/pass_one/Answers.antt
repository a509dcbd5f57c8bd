use Rattle.std.proofs.Common.{◌≡◌, [], false, Option, sym, ◌∙◌, ap, subst}
use Rattle.tas_model.specs.Endpoint.{Endpoint, phase}
use Rattle.tas_model.specs.LegalHistory.{step}
use Rattle.tas_model.specs.Segments.{Outcome}
use Rattle.tas_model.specs.Timers.{ticks, filled}
use Rattle.flow_state.specs.Calls.{is_closed_phase}
use Rattle.flow_state.specs.declared.call.Answer.TheVariants as answers
use Rattle.flow_state.specs.Made.{IsStep, IsLoud, IsQuietTick, IsLoudTick}
use Rattle.slow_timeout.proofs.Passing.{passed, not_passed}
use Rattle.slow_timeout.proofs.Ticking.{ticked_in, still_quiet, loud_timer}
use Rattle.slow_timeout.proofs.timer.pass_one.Goals as goal

pub returns : goal.returns
unfolding step ticks
returns c =
    let quiet : IsQuietTick c.args.parts.now c.args.now c.set_age.new.parts = record {
      makes = λ e v s.
          let live : is_closed_phase (phase e) ≡ false = ap is_closed_phase (sym s.phase) ∙ c.requires in
          let e' : Endpoint = record e { rate = filled e.rate } in
          record {
            step = subst (λ (o : Option Outcome). IsStep c.set_age.new.parts answers.Quiet [] o)
                (sym (ticked_in (phase e) e' c.args.now (λ h. c.in_default.not-TimeWait (s.phase ∙ h)) live))
                (still_quiet e' c.set_age.new.parts c.in-Some.age []
                (sym (c.next_age.ensures e v s) ∙ c.in-Some.is)
                (c.set_age.ensures.after e' (c.fill.ensures.after e s)));
          };
      params = c.set_age.ensures.params ∙ c.fill.ensures.params;
    } in
    passed c.args.parts.now c.args.now c.set_age.new.parts quiet (c.set_age.ensures.phase ∙ c.fill.ensures.phase)
    (c.set_age.ensures.tuple ∙ c.fill.ensures.tuple)

pub returns-in_default-next_age : goal.returns-in_default-next_age
unfolding step ticks
returns-in_default-next_age c =
    let loud : IsLoudTick c.args.parts.now c.args.now = record {
      loud = λ e v s.
          let live : is_closed_phase (phase e) ≡ false = ap is_closed_phase (sym s.phase) ∙ c.requires in
          let e' : Endpoint = record e { rate = filled e.rate } in
          subst IsLoud (sym (ticked_in (phase e) e' c.args.now (λ h. c.in_default.not-TimeWait (s.phase ∙ h)) live))
          (loud_timer e' (sym (c.next_age.ensures e v s) ∙ c.in_default-next_age.is));
    } in
    not_passed c.args.parts.now c.args.now loud

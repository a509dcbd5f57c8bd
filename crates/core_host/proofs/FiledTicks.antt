-- Records that were filed have the histories that are known still, after a whole tick: for the law
-- filed_histories_are_kept.
use Rattle.std.proofs.Common.{ℕ, sym, ap, ◌∙◌, subst}
use Rattle.host_rounds.specs.Rounds.{Due}
use Rattle.host_rounds.specs.Scripts.{Scripts}
use Rattle.host_rounds.specs.SerialOrder.{emit_phase}
use Rattle.host_rounds.specs.Hosts.{Host}
use Rattle.core_host.specs.Ending.{AreFiled}
use Rattle.core_host.specs.Sharing.{all_in_tick}
use Rattle.core_host.specs.Ticks.{IsBetweenTicks, IsTick, IsTickAlone}
use Rattle.core_host.specs.Views.{Staffed, seen_by}
use Rattle.core_host.proofs.FiledFlows.{all_stay, emissions_kept}
use Rattle.core_host.proofs.FiledSteps.{KeepsFiled, step_filed, served_filed, taken_filed, played_filed}
use Rattle.core_host.proofs.Ticks.{tick_served}

module _ {S A : Type 0} (scripts : Scripts S A) (t : ℕ) (due : Due A) (before after : Staffed) (state next : S) where
  pub tick_filed : IsBetweenTicks before → IsTick scripts t due before after state next → KeepsFiled before after
  tick_filed between k filed =
      step_filed k.quiet after (emit_phase t) k.forgot.sound (emissions_kept t (seen_by k.quiet)) k.rest.0
      (subst AreFiled (sym (ap (λ (x : Staffed). x.host) k.forgot.same))
      (played_filed t k.kicked k.sent k.kicks.0.sound k.second
      (step_filed k.asked k.kicked (λ (host : Host). host) k.stays.sound (all_stay (seen_by k.asked).flows) k.kicks.0
      (k.stays.filed
      (served_filed k.numbers t (all_in_tick t k.trying.lanes) k.told k.served k.answers.sound
      (tick_served scripts t due before after state next between k)
      (subst AreFiled (sym (ap (λ (x : Staffed). x.host) k.answers.same))
      (played_filed t k.trying k.played k.tries.sound k.first
      (subst AreFiled (sym (ap (λ (x : Staffed). x.host) k.tries.same
      ∙ ap (λ (x : Staffed). x.host) k.dealt.same)) (k.time.filed filed)))))))))

  pub alone_filed : IsBetweenTicks before → IsTickAlone scripts t due before after state next
      → KeepsFiled before after
  alone_filed between k filed =
      step_filed k.asked after (emit_phase t) k.stays.sound (emissions_kept t (seen_by k.asked)) k.rest.0
      (k.stays.filed
      (taken_filed k.numbers t k.frames k.passed k.served k.time.sound k.serves (k.time.filed filed)))

use Rattle.std.proofs.Common.{not, refl, rules, tests}
use Rattle.std.proofs.lemmas.Fn.{filter_same}
use Rattle.slow_handshake.specs.declared.openings.Listener.{Listener}
use Rattle.slow_handshake.specs.Openings.{is_owned_by}
use Rattle.slow_handshake.proofs.slow_path.SlowPath.forget.Goals as goal

pub returns : goal.returns
returns c =
    rw (
      filter_same _ (λ (l : Listener). not (is_owned_by c.args.app l)) _
          (λ x b q k. search (rules, tests)) _ _ c.retain.ensures.filtered,
      ← c.self.view_is,
    ) refl

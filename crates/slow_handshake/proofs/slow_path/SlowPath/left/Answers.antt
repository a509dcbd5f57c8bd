use Rattle.std.proofs.Common.{not, refl, rules, tests}
use Rattle.std.proofs.lemmas.Fn.{filter_same}
use Rattle.slow_handshake.specs.declared.openings.PassiveFlow.{PassiveFlow}
use Rattle.slow_handshake.specs.Openings.{is_named}
use Rattle.slow_handshake.proofs.slow_path.SlowPath.left.Goals as goal

pub returns : goal.returns
returns c =
    rw (
      filter_same _ (λ (f : PassiveFlow). not (is_named c.args.id f)) _
          (λ x b q k. search (rules, tests)) _ _ c.retain.ensures.filtered,
      ← c.self.view_is,
    ) refl

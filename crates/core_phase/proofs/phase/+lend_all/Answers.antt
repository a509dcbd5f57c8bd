-- Answers of the proof of phase/+lend_all.
use Rattle.std.proofs.Common.{ap, ◌∙◌, rules}
use Rattle.flow_lock.specs.Passes.{Seen}
use Rattle.core_phase.specs.Lanes.{IsIdle}
use Rattle.core_phase.proofs.Numbers.{all_tail}
use Rattle.core_phase.proofs.phase.+lend_all.Goals as goal

pub lend_all-requires : goal.lend_all-requires
lend_all-requires t c =
    let e = c.in-Some.ensures.cases in (
      search rules,
      (
        (
          ap (λ (s : Seen). s.table) c.lend.ensures.slow ∙ c.requires.slow.0,
          ap (λ (s : Seen). s.view.baton) c.lend.ensures.slow ∙ c.requires.slow.1,
        ),
        all_tail (IsIdle c.args.shared.now) c.args.lanes.now c.in-Some.rest.now c.in-Some.lane.now e.0 c.requires.idle,
      ),
    )

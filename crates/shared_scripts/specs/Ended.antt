-- How a tick ends when cores have sent.
use Rattle.std.specs.Prelude.{ℕ}
use Rattle.host_rounds.specs.Lists.{Each}
use Rattle.core_host.specs.Emission.{AreTriesSet, IsRestSent}
use Rattle.core_host.specs.Sound.{IsUnasked}
use Rattle.core_host.specs.Views.{Staffed}

-- No application tries anything or has an answer any more, and what might still go was sent.
pub record IsEnded (t : ℕ) (sent after : Staffed) : Type 0 where
  pub quiet : Staffed
  pub forgot : AreTriesSet sent quiet
  pub silent : Each IsUnasked quiet.lanes
  pub rest : IsRestSent t quiet after

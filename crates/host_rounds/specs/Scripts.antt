-- The applications of a host, whatever their scripts are.
use Rattle.std.specs.Prelude.{ℕ}
use Rattle.host_rounds.specs.Hosts.{Host, Starts}

-- A host, and how far the scripts of its applications are.
pub record Site (S : Type 0) : Type 0 where
  pub host : Host
  pub scripts : S

-- What scripts do: an `S` says how far they are, and an `A` is one thing that one of them asks in a tick.
pub record Scripts (S A : Type 0) : Type 0 where
  pub starts : Starts  -- what the host gives its flows at their opening
  pub agent : A → ℕ  -- who asks this
  -- what is left when it was asked; a thing that is not wanted when its turn comes leaves all as it is
  pub asked : (tick : ℕ) → Site S → A → Site S

-- Sockets that the names of a script stand for.
use Rattle.std.specs.Prelude.{◌≡◌, ℕ, List, [], ◌∷◌, slice_get, Option, Some, None, ⊤}
use Rattle.host_rounds.specs.Lists.{Each}
use Rattle.host_rounds.specs.Hosts.{Live, Holder, Waiting, Application}
use Rattle.scenario_runs.specs.Applications.{Bound, AListener, ASocket}

-- ----- who has which socket
abbrev pub holder_by : Option Live → Holder
holder_by None = Waiting
holder_by (Some l) = l.holder

-- who has the socket of the flow at this place among all that were opened
abbrev pub holder_at : List Live → (flow : ℕ) → Holder
holder_at ls k = holder_by (slice_get ls k)

-- ----- names
-- a socket is the application's
abbrev pub IsHeld : List Live → (number : ℕ) → Bound → Type 0
IsHeld ls n (AListener port) = ⊤
IsHeld ls n (ASocket k) = holder_at ls k ≡ Application n

-- they are not the same socket
abbrev pub AreTwo : Bound → Bound → Type 0
AreTwo (ASocket k) (ASocket j) = k ≡ j → ⊥
AreTwo (ASocket k) (AListener port) = ⊤
AreTwo (AListener port) other = ⊤

abbrev pub AreApart : List (List ℕ × Bound) → Type 0
AreApart [] = ⊤
AreApart (b ∷ bs) = Each (λ (c : List ℕ × Bound). AreTwo b.1 c.1) bs × AreApart bs

-- Each socket that these names stand for is the application's, and no two are one.
pub record AreOwn (ls : List Live) (n : ℕ) (names : List (List ℕ × Bound)) : Type 0 where
  pub held : Each (λ (b : List ℕ × Bound). IsHeld ls n b.1) names
  pub apart : AreApart names

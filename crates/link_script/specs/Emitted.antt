-- Frames that were sent, by the ticks of their emission.
use Rattle.std.specs.Prelude.{ℕ, Bool, true, false, nat_lt, List, [], ◌∷◌}
use Rattle.link_script.specs.declared.frames.Sent.{Sent}

-- a frame behind all that were sent no later, and before the first one that was sent later
abbrev pub behind_earlier : List Sent → Sent → List Sent
behind_earlier [] s = s ∷ []
behind_earlier (f ∷ fs) s = elim (nat_lt s.tick f.tick) [ true ↦ s ∷ f ∷ fs | false ↦ f ∷ behind_earlier fs s ]

-- Which slots the flows of a host stand in.
use Rattle.std.specs.Prelude.{⊤, ◌≡◌, ◌&&◌, ◌||◌, not, false, List, [], ◌∷◌}
use Rattle.std.specs.List.{list_any}
use Rattle.host_rounds.specs.Lists.{Each}
use Rattle.host_rounds.specs.Hosts.{Live, is_over, is_held, is_in_slot}

-- No two flows stand in one slot.
abbrev pub AreApart : List Live → Type 0
AreApart [] = ⊤
AreApart (l ∷ ls) = (l.filed ≡ false → list_any (is_in_slot l.flow.id.slot) ls ≡ false) × AreApart ls

-- The flows before a tick and after it, in their order: each that was closed before the tick, and that no application
-- held, is filed, and no other is. Those that were opened in the tick stand in their slots.
abbrev pub AreFiled : (before after : List Live) → Type 0
AreFiled [] after = Each (λ (l : Live). l.filed ≡ false) after
AreFiled (l ∷ ls) [] = ⊥
AreFiled (l ∷ ls) (m ∷ ms) = (m.filed ≡ (l.filed || (is_over l && not (is_held l)))) × AreFiled ls ms

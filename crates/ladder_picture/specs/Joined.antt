-- What is known of the arrows while the rungs are gone through.
use Rattle.std.specs.Prelude.{◌≡◌, ℕ, suc, zero, Bool, true, false, ◌&&◌, List, [], ◌∷◌, ◌++◌, map}
use Rattle.std.specs.Prelude.{Option, Some, None, if◌then◌else◌}
use Rattle.std.specs.HashMap.{get}
use Rattle.ladder_picture.specs.declared.rungs.Side.{Side}
use Rattle.ladder_picture.specs.declared.rungs.Side.TheVariants.{Left, Right}
use Rattle.ladder_picture.specs.declared.joins.Arrival.{Arrival}
use Rattle.ladder_picture.specs.declared.joins.Arrows.{Arrows}
use Rattle.ladder_picture.specs.declared.joins.FrameKey.{FrameKey}
use Rattle.ladder_picture.specs.Arrows.{Pass, Sent, is_side, key_of, equal_key, sent_arrows, came_arrows}
use Rattle.ladder_picture.specs.Views.{seen_sent}

-- ----- the latest arrow of a frame
abbrev pub is_from : (sender : Side) → FrameKey → Sent → Bool
is_from sender key x = is_side x.sender sender && equal_key (key_of x.frame.id) key

-- the place of the last one that passes a test
abbrev pub last_by : Option ℕ → Bool → Option ℕ
last_by (Some n) b = Some (suc n)
last_by None true = Some 0
last_by None false = None

abbrev pub last_of : {A : Type 0} → (A → Bool) → List A → Option ℕ
last_of test [] = None
last_of test (x ∷ xs) = last_by (last_of test xs) (test x)

-- ----- one end more
abbrev pub add_end : Arrival → Sent → Sent
add_end a x = record { sender = x.sender; y = x.y; frame = x.frame; ends = x.ends ++ a ∷ [] }

abbrev pub end_at : ℕ → Arrival → List Sent → List Sent
end_at n a [] = []
end_at zero a (x ∷ xs) = add_end a x ∷ xs
end_at (suc n) a (x ∷ xs) = x ∷ end_at n a xs

abbrev pub with_end : Option ℕ → Arrival → List Sent → List Sent
with_end None a xs = xs
with_end (Some n) a xs = end_at n a xs

-- ----- what is known
abbrev pub place_in : Arrows → (sender : Side) → FrameKey → Option ℕ
place_in a Left key = get equal_key a.left key
place_in a Right key = get equal_key a.right key

-- of one frame another place is known, and of all others the same
abbrev pub with_place : (before after : Arrows) → (sender : Side) → FrameKey → ℕ → Type 0
with_place before after sender key n = (s : Side) (k : FrameKey)
    → place_in after s k ≡ (if is_side sender s && equal_key key k then Some n else place_in before s k)

abbrev pub same_places : (before after : Arrows) → Type 0
same_places before after = (s : Side) (k : FrameKey) → place_in after s k ≡ place_in before s k

-- These are the arrows of what passed, and the places are known of the latest ones.
pub record AreOf (a : Arrows) (ps : List Pass) : Type 0 where
  pub sent : map seen_sent a.sent.items ≡ sent_arrows ps
  pub came : a.came.items ≡ came_arrows [] ps
  pub places : (s : Side) (k : FrameKey) → place_in a s k ≡ last_of (is_from s k) (sent_arrows ps)

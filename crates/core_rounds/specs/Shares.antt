-- What of a tick's frames and asks is done beside the others and what is left, where each frame comes once.
use Rattle.std.specs.Prelude.{◌≡◌, ℕ, ◌≤◌, ◌==◌, Bool, List, [], ◌∷◌, ◌++◌, filter, count_by, IsPermutation, ⊤}
use Rattle.tas_model.specs.declared.entry.FrameId.{FrameId}
use Rattle.host_rounds.specs.Lists.{Each}
use Rattle.host_rounds.specs.Deliveries.{Arrival}
use Rattle.host_rounds.specs.Scripts.{Scripts}
use Rattle.host_rounds.specs.Rounds.{Action, Timer, Frame, Ask, Deed, Due}
use Rattle.core_rounds.specs.CoreTicks.{is_frame}

-- each frame comes once
abbrev pub AreDistinct : List Arrival → Type 0
AreDistinct frames = (frame : FrameId) → count_by (is_frame frame) frames ≤ 1

-- ----- what was done
-- the frame of an action, and its ask, as a list of one, or none
abbrev pub frame_in : {A : Type 0} → Action A → List Arrival
frame_in (Frame x) = x ∷ []
frame_in action = []

abbrev pub ask_in : {A : Type 0} → Action A → List A
ask_in (Ask a) = a ∷ []
ask_in action = []

abbrev pub frames_in : {A : Type 0} → List (Deed A) → List Arrival
frames_in [] = []
frames_in (m ∷ ms) = frame_in m.action ++ frames_in ms

abbrev pub asks_in : {A : Type 0} → List (Deed A) → List A
asks_in [] = []
asks_in (m ∷ ms) = ask_in m.action ++ asks_in ms

-- beside the others no time passes
abbrev pub IsNoTimer : {A : Type 0} → Action A → Type 0
IsNoTimer (Timer n) = ⊥
IsNoTimer action = ⊤

-- ----- what is due
-- who asks it
abbrev pub is_asked_by : {S A : Type 0} → Scripts S A → (agent : ℕ) → A → Bool
is_asked_by scripts n a = n == scripts.agent a

-- Frames that came were taken or are left, each once; and of each who asks, what was asked and what is left to ask are
-- together what is due of it, in its order.
pub record AreShares {S A : Type 0} (scripts : Scripts S A) (due : Due A) (order : List (Deed A))
    (rest : List Arrival) (later : List A) : Type 0 where
  pub distinct : AreDistinct due.frames
  pub plain : Each (λ (m : Deed A). IsNoTimer m.action) order
  pub frames : IsPermutation (frames_in order ++ rest) due.frames
  pub asks : (n : ℕ)
      → filter (is_asked_by scripts n) (asks_in order ++ later) ≡ filter (is_asked_by scripts n) due.asks

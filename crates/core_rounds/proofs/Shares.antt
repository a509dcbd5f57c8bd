-- What is due was done beside the others, or is left: for the law shares_are_done.
use Rattle.std.proofs.Common.{◌≡◌, ℕ, ◌==◌, Bool, true, false, cond, List, [], ◌∷◌, ◌++◌, map, refl, sym, ap, ◌∙◌}
use Rattle.std.specs.List.{filter}
use Rattle.tas_model.specs.declared.entry.FrameId.{FrameId}
use Rattle.host_rounds.specs.Lists.{Each}
use Rattle.host_rounds.specs.Deliveries.{Arrival, same_frame}
use Rattle.host_rounds.specs.Scripts.{Scripts}
use Rattle.host_rounds.specs.Rounds.{Action, Timer, Frame, Ask, Emission, Agent, OfFlow, OfFrame, OfScript, Deed, Due}
use Rattle.host_rounds.specs.Rounds.{is_by, actions_of}
use Rattle.host_rounds.proofs.Lists.{filter_append, map_append}
use Rattle.core_rounds.specs.CoreTicks.{is_frame}
use Rattle.core_rounds.specs.SharedTicks.{asked_of_host, AreDone}
use Rattle.core_rounds.specs.Shares.{IsNoTimer, frame_in, ask_in, frames_in, asks_in, is_asked_by, AreShares}
use Rattle.core_rounds.proofs.Filters.{same_filter}

module _ {S A : Type 0} (scripts : Scripts S A) where
  abbrev by : Agent → List (Action A) → List (Action A)
  by a xs = filter (is_by scripts a) xs

  abbrev plain : List (Deed A) → Type 0
  plain order = Each (λ (m : Deed A). IsNoTimer m.action) order

  -- ----- a frame's actions
  frames_by : (frame : FrameId) (xs : List Arrival)
      → by (OfFrame frame) (map Frame xs) ≡ map Frame (filter (is_frame frame) xs)
  frames_by frame [] = refl
  frames_by frame (x ∷ xs) = by_test (same_frame frame x.frame) (frames_by frame xs)
    where
      by_test : (b : Bool) → by (OfFrame frame) (map Frame xs) ≡ map Frame (filter (is_frame frame) xs)
          → cond b (Frame x ∷ by (OfFrame frame) (map Frame xs)) (by (OfFrame frame) (map Frame xs))
          ≡ map {B = Action A} Frame (cond b (x ∷ filter (is_frame frame) xs) (filter (is_frame frame) xs))
      by_test true h = ap (λ l. Frame x ∷ l) h
      by_test false h = h

  done_frames : (frame : FrameId) (order : List (Deed A)) → plain order
      → by (OfFrame frame) (actions_of order) ≡ by (OfFrame frame) (map Frame (frames_in order))
  done_frames frame [] each = refl
  done_frames frame (m ∷ ms) each = by_action m.action each.0 (done_frames frame ms each.1)
    where
      by_action : (x : Action A) → IsNoTimer x
          → by (OfFrame frame) (actions_of ms) ≡ by (OfFrame frame) (map Frame (frames_in ms))
          → by (OfFrame frame) (x ∷ actions_of ms) ≡ by (OfFrame frame) (map Frame (frame_in x ++ frames_in ms))
      by_action (Timer n) is h = absurd is
      by_action (Ask a) is h = h
      by_action (Emission n) is h = h
      by_action (Frame x) is h = ap (λ l. cond (same_frame frame x.frame) (Frame x ∷ l) l) h

  no_asks : (frame : FrameId) (xs : List A) → by (OfFrame frame) (map Ask xs) ≡ []
  no_asks frame [] = refl
  no_asks frame (x ∷ xs) = no_asks frame xs

  -- ----- a script's
  asks_by : (n : ℕ) (xs : List A) → by (OfScript n) (map Ask xs) ≡ map Ask (filter (is_asked_by scripts n) xs)
  asks_by n [] = refl
  asks_by n (x ∷ xs) = by_test (n == scripts.agent x) (asks_by n xs)
    where
      by_test : (b : Bool) → by (OfScript n) (map Ask xs) ≡ map Ask (filter (is_asked_by scripts n) xs)
          → cond b (Ask x ∷ by (OfScript n) (map Ask xs)) (by (OfScript n) (map Ask xs))
          ≡ map {B = Action A} Ask (cond b (x ∷ filter (is_asked_by scripts n) xs) (filter (is_asked_by scripts n) xs))
      by_test true h = ap (λ l. Ask x ∷ l) h
      by_test false h = h

  done_asks : (n : ℕ) (order : List (Deed A)) → plain order
      → by (OfScript n) (actions_of order) ≡ by (OfScript n) (map Ask (asks_in order))
  done_asks n [] each = refl
  done_asks n (m ∷ ms) each = by_action m.action each.0 (done_asks n ms each.1)
    where
      by_action : (x : Action A) → IsNoTimer x
          → by (OfScript n) (actions_of ms) ≡ by (OfScript n) (map Ask (asks_in ms))
          → by (OfScript n) (x ∷ actions_of ms) ≡ by (OfScript n) (map Ask (ask_in x ++ asks_in ms))
      by_action (Timer k) is h = absurd is
      by_action (Frame x) is h = h
      by_action (Emission k) is h = h
      by_action (Ask a) is h = ap (λ l. cond (n == scripts.agent a) (Ask a ∷ l) l) h

  no_frames : (n : ℕ) (xs : List Arrival) → by (OfScript n) (map Frame xs) ≡ []
  no_frames n [] = refl
  no_frames n (x ∷ xs) = no_frames n xs

  -- ----- a timer's: none
  done_not : (n : ℕ) (order : List (Deed A)) → plain order → by (OfFlow n) (actions_of order) ≡ []
  done_not n [] each = refl
  done_not n (m ∷ ms) each = by_action m.action each.0 (done_not n ms each.1)
    where
      by_action : (x : Action A) → IsNoTimer x → by (OfFlow n) (actions_of ms) ≡ []
          → by (OfFlow n) (x ∷ actions_of ms) ≡ []
      by_action (Timer k) is h = absurd is
      by_action (Ask a) is h = h
      by_action (Emission k) is h = h
      by_action (Frame x) is h = h

  asked_not : (n : ℕ) (frames : List Arrival) (asks : List A) → by (OfFlow n) (asked_of_host frames asks) ≡ []
  asked_not n [] [] = refl
  asked_not n [] (x ∷ xs) = asked_not n [] xs
  asked_not n (x ∷ xs) asks = asked_not n xs asks

  -- ----- all that is due
  -- of an agent that only frames have, or only scripts
  of_frames : (frame : FrameId) (order : List (Deed A)) (rest : List Arrival) (later : List A) → plain order
      → by (OfFrame frame) (actions_of order ++ asked_of_host rest later)
      ≡ map Frame (filter (is_frame frame) (frames_in order ++ rest))
  of_frames frame order rest later each =
      filter_append (is_by scripts (OfFrame frame)) (actions_of order) (asked_of_host rest later)
      ∙ (λ i. done_frames frame order each i ++ only i)
      ∙ sym (filter_append (is_by scripts (OfFrame frame)) (map Frame (frames_in order)) (map Frame rest))
      ∙ ap (by (OfFrame frame)) (sym (map_append Frame (frames_in order) rest))
      ∙ frames_by frame (frames_in order ++ rest)
    where
      nil : (xs : List (Action A)) → xs ++ [] ≡ xs
      nil [] = refl
      nil (x ∷ xs) = ap (λ l. x ∷ l) (nil xs)

      only : by (OfFrame frame) (asked_of_host rest later) ≡ by (OfFrame frame) (map Frame rest)
      only =
          filter_append (is_by scripts (OfFrame frame)) (map Frame rest) (map Ask later)
          ∙ ap (λ l. by (OfFrame frame) (map Frame rest) ++ l) (no_asks frame later)
          ∙ nil (by (OfFrame frame) (map Frame rest))

  of_scripts : (n : ℕ) (order : List (Deed A)) (rest : List Arrival) (later : List A) → plain order
      → by (OfScript n) (actions_of order ++ asked_of_host rest later)
      ≡ map Ask (filter (is_asked_by scripts n) (asks_in order ++ later))
  of_scripts n order rest later each =
      filter_append (is_by scripts (OfScript n)) (actions_of order) (asked_of_host rest later)
      ∙ (λ i. done_asks n order each i ++ only i)
      ∙ sym (filter_append (is_by scripts (OfScript n)) (map Ask (asks_in order)) (map Ask later))
      ∙ ap (by (OfScript n)) (sym (map_append Ask (asks_in order) later))
      ∙ asks_by n (asks_in order ++ later)
    where
      only : by (OfScript n) (asked_of_host rest later) ≡ by (OfScript n) (map Ask later)
      only =
          filter_append (is_by scripts (OfScript n)) (map Frame rest) (map Ask later)
          ∙ ap (λ l. l ++ by (OfScript n) (map Ask later)) (no_frames n rest)

  pub shares_done : (due : Due A) (order : List (Deed A)) (rest : List Arrival) (later : List A)
      → AreShares scripts due order rest later → AreDone scripts due order rest later
  shares_done due order rest later s (OfFlow n) =
      filter_append (is_by scripts (OfFlow n)) (actions_of order) (asked_of_host rest later)
      ∙ (λ i. done_not n order s.plain i ++ asked_not n rest later i)
      ∙ sym (asked_not n due.frames due.asks)
  shares_done due order rest later s (OfFrame frame) =
      of_frames frame order rest later s.plain
      ∙ ap (map Frame) (same_filter (is_frame frame) (frames_in order ++ rest) due.frames s.frames (s.distinct frame))
      ∙ sym (of_frames frame [] due.frames due.asks tt)
  shares_done due order rest later s (OfScript n) =
      of_scripts n order rest later s.plain
      ∙ ap (map Ask) (s.asks n)
      ∙ sym (of_scripts n [] due.frames due.asks tt)

-- A tick of all hosts, step by step.
use Rattle.std.specs.Prelude.{ℕ, suc, ◌==◌, List, [], ◌∷◌, map, filter, ⊤}
use Rattle.link_script.specs.declared.frames.Sent.{Sent}
use Rattle.core_worker.specs.declared.frames.Frame.{Frame}
use Rattle.core_host.specs.Sharing.{IsPlayed}
use Rattle.core_host.specs.Views.{Staffed}
use Rattle.scenario_runs.specs.Applications.{Script}
use Rattle.scenario_text.specs.declared.scenario.Scenario.{Scenario}
use Rattle.shared_scripts.specs.Begun.{IsBegun}
use Rattle.shared_scripts.specs.Ended.{IsEnded}
use Rattle.shared_scripts.specs.Going.{IsGoneOn, WasBegun}

-- ----- frames
-- a frame as a host takes it
abbrev pub frame_of : Sent → Frame
frame_of f = record { id = f.id; packet = f.packet }

-- those that come to the host of this number, of all that come
abbrev pub frames_to : (number : ℕ) → List Sent → List Frame
frames_to n came = map frame_of (filter (λ (f : Sent). f.to == n) came)

-- ----- one host after the other
-- Each host began the tick with the frames that come to it; the first has this number.
abbrev pub HaveBegun : Scenario → (tick : ℕ) → (came : List Sent) → (number : ℕ) → List (List Script)
    → (before trying : List Staffed) → Type 0
HaveBegun s t came n [] [] [] = ⊤
HaveBegun s t came n (x ∷ xs) (b ∷ bs) (h ∷ hs) =
    ((name : List ℕ) × IsBegun s t name (frames_to n came) x b h) × HaveBegun s t came (suc n) xs bs hs
HaveBegun s t came n _ _ _ = ⊥

-- Each began it, and its lanes played.
abbrev pub WereBegun : Scenario → (tick : ℕ) → List (List Script) → (played : List Staffed) → Type 0
WereBegun s t [] [] = ⊤
WereBegun s t [] (h ∷ hs) = ⊥
WereBegun s t (x ∷ xs) [] = ⊥
WereBegun s t (x ∷ xs) (h ∷ hs) = WasBegun s t x h × WereBegun s t xs hs

-- The scripts of each went on when its lanes had played.
abbrev pub HaveGoneOn : Scenario → (tick : ℕ) → (scripts next : List (List Script)) → (played kicked : List Staffed)
    → Type 0
HaveGoneOn s t [] [] [] [] = ⊤
HaveGoneOn s t (x ∷ xs) (y ∷ ys) (p ∷ ps) (k ∷ ks) = IsGoneOn s t x y p k × HaveGoneOn s t xs ys ps ks
HaveGoneOn s t _ _ _ _ = ⊥

-- ----- a tick
-- A host's tick: it began with the frames that came, its lanes played, its scripts went on, its lanes played again, and
-- it ended.
pub record IsMade (s : Scenario) (t : ℕ) (frames : List Frame) (scripts next : List Script) (before after : Staffed)
    : Type 0 where
  pub name : List ℕ
  pub trying : Staffed
  pub begun : IsBegun s t name frames scripts before trying
  pub played : Staffed
  pub first : IsPlayed t trying played
  pub kicked : Staffed
  pub gone : IsGoneOn s t scripts next played kicked
  pub sent : Staffed
  pub second : IsPlayed t kicked sent
  pub ended : IsEnded t sent after

-- So each host's was, with the frames that come to it; the first has this number.
abbrev pub AreMade : Scenario → (tick : ℕ) → (came : List Sent) → (number : ℕ) → (scripts next : List (List Script))
    → (before after : List Staffed) → Type 0
AreMade s t came n [] [] [] [] = ⊤
AreMade s t came n (x ∷ xs) (y ∷ ys) (b ∷ bs) (h ∷ hs) =
    IsMade s t (frames_to n came) x y b h × AreMade s t came (suc n) xs ys bs hs
AreMade s t came n _ _ _ _ = ⊥

-- What cores and applications did side by side, turn by turn, in the words of a run.
use Rattle.std.specs.Prelude.{◌≡◌, ℕ, zero, suc, ◌<◌, ◌≤◌, List, [], ◌++◌, IsPermutation}
use Rattle.host_rounds.specs.Lists.{Each}
use Rattle.host_rounds.specs.Deliveries.{Arrival}
use Rattle.host_rounds.specs.Scripts.{Scripts}
use Rattle.host_rounds.specs.Cores.{IsWorkerOf}
use Rattle.core_rounds.specs.Shares.{frame_in, ask_in}
use Rattle.flow_lock.specs.Orders.{Order, IsRun}
use Rattle.flow_lock.specs.declared.view.Held.{Held}
use Rattle.frame_steering.specs.Giving.{given_to}
use Rattle.host_books.specs.Books.{Book, Setting}
use Rattle.host_books.specs.Indexes.{AreIndexed}
use Rattle.host_books.specs.Ticks.{Beside, deeds_of, AreByWorkers}
use Rattle.host_books.specs.Leavings.{Leaving, leavings_in, AreLeft}
use Rattle.host_books.specs.Tries.{Word, IsWord, AreTries, LetsPass, deed_of}
use Rattle.host_books.specs.Words.{AreOf, AreBelow, AreAllPairs, merged, joined, joined_below}

-- ----- one turn
-- The words of its deeds, the frames that were handed to it, and those of them that it left to the slow path.
pub record Did (S A : Type 0) : Type 0 where
  pub words : List (Word S A)
  pub frames : List Arrival
  pub left : List Arrival

-- a turn that wasn't lent
abbrev pub did_nothing : {S A : Type 0} → Did S A
did_nothing = record { words = []; frames = []; left = [] }

-- the frame that a word takes, and what it asks, as a list of one, or none
abbrev pub frame_by : {S A : Type 0} → Word S A → List Arrival
frame_by w = frame_in w.told.action

abbrev pub ask_by : {S A : Type 0} → Word S A → List A
ask_by w = ask_in w.told.action

abbrev pub taken_in : {S A : Type 0} → Did S A → List Arrival
taken_in d = joined frame_by d.words

-- Each word is one of a run, and each frame was taken or left, once.
pub record IsDone {S A : Type 0} (t : ℕ) (books : List Book) (d : Did S A) : Type 0 where
  pub each : Each (IsWord t books) d.words
  pub frames : IsPermutation d.frames (taken_in d ++ d.left)

-- Each word is by the slow path or one of so many cores: a turn of a core is that of one with a number below.
abbrev pub IsByWorkers : {S A : Type 0} → (cores : ℕ) → Did S A → Type 0
IsByWorkers {S} {A} cores d = Each (λ (w : Word S A). IsWorkerOf cores w.told.by) d.words

-- ----- all turns
abbrev pub words_in : {S A : Type 0} → (ℕ → Did S A) → ℕ → List (Word S A)
words_in did p = (did p).words

-- what was handed to the turns below this name, what they left, and what was asked in them, turn by turn
abbrev pub handed_below : {S A : Type 0} → (turns : ℕ) → (ℕ → Did S A) → List Arrival
handed_below zero did = []
handed_below (suc p) did = handed_below p did ++ (did p).frames

abbrev pub left_below : {S A : Type 0} → (turns : ℕ) → (ℕ → Did S A) → List Arrival
left_below zero did = []
left_below (suc p) did = left_below p did ++ (did p).left

abbrev pub asked_below : {S A : Type 0} → (turns : ℕ) → (ℕ → Did S A) → List A
asked_below turns did = joined_below ask_by turns (words_in did)

-- what the tries of these turns leave of the books and the scripts
abbrev pub leavings_below : {S A : Type 0} → (t turns : ℕ) → (ℕ → Did S A) → List (Leaving S)
leavings_below t turns did = joined_below (leavings_in t) turns (words_in did)

-- One order of deeds in the table is what was done in these turns, and in no others. What was asked in them are asks of
-- the scripts as they stand, whatever comes before them.
pub record AreTurns {S A : Type 0} (scripts : Scripts S A) (t : ℕ) (s : Setting) (state : S) (known : List Held)
    (order : Order) (turns : ℕ) (did : ℕ → Did S A) : Type 0 where
  pub indexed : AreIndexed s.books known
  pub run : IsRun known order
  pub below : AreBelow turns order
  pub deeds : AreOf deed_of order (words_in did)
  pub done : (p : ℕ) → IsDone t s.books (did p)
  pub tries : (p : ℕ) → AreTries scripts t s state (did p).words
  pub apart : AreAllPairs (LetsPass scripts t) (words_in did)

-- The deeds that were done side by side are those of the turns, take the frames that these took, ask what was asked in
-- them, leave what their tries leave, and are by the workers whose turns they were.
pub record IsOfTurns {S A : Type 0} (scripts : Scripts S A) (t : ℕ) (s : Setting) (state : S) (known : List Held)
    (order : Order) (turns : ℕ) (did : ℕ → Did S A) (b : Beside scripts t) : Type 0 where
  pub setting_is : b.setting ≡ s
  pub state_is : b.state ≡ state
  pub known_is : b.known ≡ known
  pub order_is : b.order ≡ order
  pub words_are : b.words ≡ merged order (words_in did)
  pub leave : AreLeft b.words b.told
  pub taken : IsPermutation (joined_below frame_by turns (words_in did)) (joined frame_by b.words)
  pub asked : IsPermutation (asked_below turns did) (joined ask_by b.words)
  pub workers : (cores : ℕ) → ((p : ℕ) → IsByWorkers cores (did p)) → AreByWorkers cores (deeds_of b)

-- ----- the hand-out
-- The first turns are the cores', and each has those of the frames that were handed to its core; the others have none.
-- `handed` has the core of each frame.
pub record AreGiven {S A : Type 0} (cores : ℕ) (handed : List ℕ) (frames : List Arrival) (did : ℕ → Did S A)
    : Type 0 where
  pub own : (core : ℕ) → core < cores → (did core).frames ≡ given_to core handed frames
  pub others : (p : ℕ) → cores ≤ p → (did p).frames ≡ []

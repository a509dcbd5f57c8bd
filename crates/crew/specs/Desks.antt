-- A desk: what holds of it between any two steps, and what each step tells. Its first word says how things stand: 0
-- nothing waits, 1 a job waits, 2 the last one is done, 3 no more come, 4 a job is worked on. The second says whether a
-- thread is behind it. Either side may make 1 something else, and whoever does has the job: the worker, who begins it
-- by 4, or the dispatcher, who takes it back by 0.
use Rattle.std.specs.Prelude.{◌≡◌, ◌≢◌, ℕ, Bool, true, false, List, [], ◌∷◌, ◌⊎◌, Option, Some, None, ⊤}
use mathlib.Core.Option as O
use Rattle.atomic_table.specs.Table.{State, Me, Step}
use Rattle.atomic_table.specs.Seated.{TableId}
use Rattle.atomic_table.specs.declared.shared.Seat.{Seat}
use Rattle.crew.specs.declared.desk.Found.{Found}
use Rattle.crew.specs.declared.desk.Found.TheVariants as found
use Rattle.crew.specs.declared.handover.View.{View}
use Rattle.crew.specs.declared.handover.View.TheVariants.{Whole, Both, Unmanned, Idle, Sent, Stopped}
use Rattle.crew.specs.declared.handover.View.TheVariants.{Away, Free, Works, Gone}

-- ----- sides
-- the view is cut in two: who hands jobs out, and who takes them
abbrev pub dispatcher_of : {W : Type 0} → View W → View W
dispatcher_of v = Unmanned

abbrev pub worker_of : {W : Type 0} → View W → View W
worker_of v = Away

-- the dispatcher with nothing out: it knows of the thread behind the desk, or of none
abbrev pub at_rest : {W : Type 0} → (manned : Bool) → View W
at_rest true = Idle
at_rest false = Unmanned

-- it hands out the job that it carries
abbrev pub sent_of : {W : Type 0} → List (ℕ × Option W) → View W
sent_of [] = Idle
sent_of (x ∷ xs) = elim x.1 [ Some y ↦ Sent y | None ↦ Idle ]

-- ----- the rule
-- the desk is manned from the worker's first step on
abbrev pub IsManned : {W : Type 0} → (manned : ℕ) → View W → Type 0
IsManned n Away = n ≡ 0
IsManned n w = n ≡ 1

module _ {W : Type 0} (can : W → Type 0) (made : W → W → Type 0) where
  -- a job waits, which may be worked on, or what work made of it
  abbrev pub IsOnDesk : (word : ℕ) → O.Option (Option W) → W → Type 0
  IsOnDesk n h x =
      ((n ≡ 1) × can x × (h ≡ O.some (Some x))) ⊎ ((n ≡ 2) × ((y : W) × made x y × (h ≡ O.some (Some y))))

  -- how the word, what lies on the desk, the dispatcher and the worker fit
  abbrev pub Fits : (word : ℕ) → O.Option (Option W) → View W → View W → Type 0
  Fits n h Unmanned Away = (n ≡ 0) × (h ≡ O.none)
  Fits n h Unmanned Free = (n ≡ 0) × (h ≡ O.none)
  Fits n h Idle Free = ((n ≡ 0) ⊎ (n ≡ 2)) × (h ≡ O.none)
  Fits n h (Sent x) Free = IsOnDesk n h x
  Fits n h (Sent x) (Works y) = (n ≡ 4) × (h ≡ O.none) × (y ≡ x)
  Fits n h Stopped Away = (n ≡ 3) × (h ≡ O.none)
  Fits n h Stopped Free = (n ≡ 3) × (h ≡ O.none)
  Fits n h Stopped Gone = (n ≡ 3) × (h ≡ O.none)
  Fits n h d w = ⊥

  -- both sides at once
  abbrev pub IsNew : (word : ℕ) → O.Option (Option W) → View W → Type 0
  IsNew n h Whole = (n ≡ 0) × (h ≡ O.some None)
  IsNew n h Both = (n ≡ 0) × (h ≡ O.none)
  IsNew n h v = ⊥

  abbrev pub Sides : (word manned : ℕ) → O.Option (Option W) → List (View W) → Type 0
  Sides n m h [] = ⊥
  Sides n m h (v ∷ []) = IsNew n h v × (m ≡ 0)
  Sides n m h (d ∷ w ∷ []) = Fits n h d w × IsManned m w
  Sides n m h (d ∷ w ∷ v ∷ vs) = ⊥

  pub record Lawful (s : State (Option W) (View W)) : Type 0 where
    pub word : ℕ
    pub manned : ℕ
    pub home : O.Option (Option W)
    pub words : s.words ≡ word ∷ manned ∷ []
    pub homes : s.homes ≡ home ∷ []
    pub sides : Sides word manned home s.views

  -- the dispatcher looks at the first word: where the job is done, it has what work made of it
  abbrev pub TakesBackBy : View W → ℕ → Me (Option W) (View W) → Me (Option W) (View W) → Type 0
  TakesBackBy (Sent x) n m m' =
      (n ≢ 2 → m' ≡ m) × (n ≡ 2 → (y : W) × made x y × (m' ≡ (Idle, (0, Some y) ∷ [])))
  TakesBackBy v n m m' = ⊤

  abbrev pub takes_back : Step (Option W) → Me (Option W) (View W) → ℕ → Me (Option W) (View W) → Type 0
  takes_back st m n m' = TakesBackBy m.0 n m m'

  -- the worker begins the job that waits, if one does
  abbrev pub claims : Step (Option W) → Me (Option W) (View W) → ℕ → Me (Option W) (View W) → Type 0
  claims st m n m' = (n ≢ 1 → m' ≡ m) × (n ≡ 1 → (x : W) × can x × (m' ≡ (Works x, (0, Some x) ∷ [])))

module _ {W : Type 0} where
  -- the empty desk is taken
  abbrev pub clears : Step (Option W) → Me (Option W) (View W) → ℕ → Me (Option W) (View W) → Type 0
  clears st m n m' = m' ≡ (Both, (0, None) ∷ [])

  -- the dispatcher looks at the second word: it learns of the thread, or knows of it
  abbrev pub AsksBy : View W → ℕ → Me (Option W) (View W) → Me (Option W) (View W) → Type 0
  AsksBy Unmanned n m m' = (n ≢ 1 → m' ≡ m) × (n ≡ 1 → m' ≡ (Idle, m.1))
  AsksBy Idle n m m' = (n ≡ 1) × (m' ≡ m)
  AsksBy v n m m' = ⊤

  abbrev pub asks : Step (Option W) → Me (Option W) (View W) → ℕ → Me (Option W) (View W) → Type 0
  asks st m n m' = AsksBy m.0 n m m'

  -- the job that the dispatcher carries is out
  abbrev pub hands_out : Step (Option W) → Me (Option W) (View W) → ℕ → Me (Option W) (View W) → Type 0
  hands_out st m n m' = m' ≡ (sent_of m.1, [])

  -- the dispatcher takes back the job that waits, if it still does: it has that very job
  abbrev pub RecallsBy : View W → ℕ → Me (Option W) (View W) → Me (Option W) (View W) → Type 0
  RecallsBy (Sent x) n m m' = (n ≢ 1 → m' ≡ m) × (n ≡ 1 → m' ≡ (Idle, (0, Some x) ∷ []))
  RecallsBy v n m m' = ⊤

  abbrev pub recalls : Step (Option W) → Me (Option W) (View W) → ℕ → Me (Option W) (View W) → Type 0
  recalls st m n m' = RecallsBy m.0 n m m'

  -- no more jobs come
  abbrev pub stops : Step (Option W) → Me (Option W) (View W) → ℕ → Me (Option W) (View W) → Type 0
  stops st m n m' = m' ≡ (Stopped, m.1)

  -- the worker is there
  abbrev pub arrives : Step (Option W) → Me (Option W) (View W) → ℕ → Me (Option W) (View W) → Type 0
  arrives st m n m' = m' ≡ (Free, [])

  -- the worker looks at the first word: it may know that no more jobs come
  abbrev pub looks : Step (Option W) → Me (Option W) (View W) → ℕ → Me (Option W) (View W) → Type 0
  looks st m n m' = (n ≢ 3 → m' ≡ m) × (n ≡ 3 → m' ≡ (Gone, []))

  -- what work made lies on the desk
  abbrev pub hands_back : Step (Option W) → Me (Option W) (View W) → ℕ → Me (Option W) (View W) → Type 0
  hands_back st m n m' = m' ≡ (Free, [])

-- ----- the dispatcher's seat, as contracts see it
-- nothing is out, and a thread is known to be behind the desk, or not
abbrev pub IsAtRestBy : {W : Type 0} → (manned : Bool) → TableId → Seat (Option W) (View W) → Type 0
IsAtRestBy b t s = (s.table_id ≡ t) × (s.id ≡ 0) × (s.me ≡ (at_rest b, (0, None) ∷ []))

abbrev pub IsAtRest : {W : Type 0} → TableId → Seat (Option W) (View W) → Type 0
IsAtRest t s = (manned : Bool) × IsAtRestBy manned t s

abbrev pub IsIdle : {W : Type 0} → TableId → Seat (Option W) (View W) → Type 0
IsIdle t s = IsAtRestBy true t s

-- this job is out
abbrev pub IsOut : {W : Type 0} → TableId → W → Seat (Option W) (View W) → Type 0
IsOut t x s = (s.table_id ≡ t) × (s.id ≡ 0) × (s.me ≡ (Sent x, []))

-- it said that no more jobs come
abbrev pub IsStopped : {W : Type 0} → TableId → Seat (Option W) (View W) → Type 0
IsStopped t s = (s.table_id ≡ t) × (s.me ≡ (Stopped, (0, None) ∷ []))

-- ----- the worker's seat
abbrev pub IsAway : {W : Type 0} → TableId → Seat (Option W) (View W) → Type 0
IsAway t s = (s.table_id ≡ t) × (s.me ≡ (Away, []))

abbrev pub IsFree : {W : Type 0} → TableId → Seat (Option W) (View W) → Type 0
IsFree t s = (s.table_id ≡ t) × (s.me ≡ (Free, []))

-- it has this job
abbrev pub IsAtWork : {W : Type 0} → TableId → W → Seat (Option W) (View W) → Type 0
IsAtWork t x s = (s.table_id ≡ t) × (s.me ≡ (Works x, (0, None) ∷ []))

-- it knows that no more jobs come
abbrev pub IsGone : {W : Type 0} → TableId → Seat (Option W) (View W) → Type 0
IsGone t s = (s.table_id ≡ t) × (s.me ≡ (Gone, []))

-- what a look found
abbrev pub IsFound : {W : Type 0} → (can : W → Type 0) → TableId → Seat (Option W) (View W) → Found W → Type 0
IsFound can t s (found.Job x) = can x × IsAtWork t x s
IsFound can t s (found.Nothing n) = IsFree t s
IsFound can t s found.Stop = IsGone t s

-- whatever job is out still is
abbrev pub IsStillOut : {W : Type 0} → TableId → (before after : Seat (Option W) (View W)) → Type 0
IsStillOut {W} t s r = (x : W) → IsOut t x s → IsOut t x r

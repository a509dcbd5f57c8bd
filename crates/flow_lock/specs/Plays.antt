-- What each step tells.
use Rattle.std.specs.Prelude.{◌≡◌, ◌≢◌, ℕ, ◌+◌, ◌/◌, ◌%◌, ◌≤◌, true, false, [], ◌∷◌, length, Option, Some, None}
use mathlib.Core.Option as O
use lib.ListN.{get_elem?}
use Rattle.atomic_table.specs.Table.{Me, Step, rest}
use Rattle.tas_model.specs.declared.entry.FlowId.{FlowId}
use Rattle.flow_lock.specs.Words.{flag, code, word_of, word_at, sole_word, mark_of}
use Rattle.flow_lock.specs.Histories.{Begins}
use Rattle.flow_lock.specs.Orders.{Order, of, IsRun, played, known_of, pins_at, won_on, lost_on}
use Rattle.flow_lock.specs.Claims.{flow_at, HasPin, holds_on}
use Rattle.flow_lock.specs.Steps.{IsAlone, mark, looked, counted, pinned, unpinned, taken, gave, condemned, emptied}
use Rattle.flow_lock.specs.Steps.{opened, freed, restored}
use Rattle.flow_lock.specs.declared.word.Word.{Word}
use Rattle.flow_lock.specs.declared.view.View.{View}
use Rattle.flow_lock.specs.declared.view.Held.{Held}
use Rattle.flow_lock.specs.declared.view.History.{History}
use Rattle.flow_lock.specs.declared.view.Turn.{Turn}

-- the number found is a word's, and alone it is the word that is known
abbrev pub Reads : {S : Type 0} → Step S → Me S View → ℕ → Type 0
Reads st m n = (code (word_of n) ≡ n) × (IsAlone m.0 → word_of n ≡ word_at m.0.words st.word)

-- a counted load
abbrev pub glances : {S : Type 0} → Step S → Me S View → ℕ → Me S View → Type 0
glances st m n m' = Reads st m n × (n % 65536 ≤ 4097) × (m' ≡ (counted st.word (word_of n) m.0, m.1))

-- a load that isn't counted where the view holds the record
abbrev pub looks : {S : Type 0} → Step S → Me S View → ℕ → Me S View → Type 0
looks st m n m' = Reads st m n × (m' ≡ (looked st.word (word_of n) m.0, m.1))

abbrev pub tries : {S : Type 0} → Step S → Me S View → ℕ → Me S View → Type 0
tries st m n m' =
    Reads st m n
    × (n ≡ st.first → m' ≡ (pinned (flow_at st.word (n / 4294967296)) (counted st.word (word_of n) m.0), m.1))
    × (n ≢ st.first → m' ≡ (counted st.word (word_of n) m.0, m.1))

abbrev pub lets_go : {S : Type 0} → Step S → Me S View → ℕ → Me S View → Type 0
lets_go st m n m' = (f : FlowId) → HasPin m.0 f → f.slot ≡ st.word → m' ≡ (unpinned f m.0, m.1)

abbrev pub dooms : {S : Type 0} → Step S → Me S View → ℕ → Me S View → Type 0
dooms st m n m' = (f : FlowId) → HasPin m.0 f → f.slot ≡ st.word → m' ≡ (condemned f m.0, m.1)

-- a look by the slow path at a flow that it doomed, and whose record it doesn't hold
abbrev pub inspects : {S : Type 0} → Step S → Me S View → ℕ → Me S View → Type 0
inspects st m n m' =
    glances st m n m'
    × ((f : FlowId) → HasPin m.0 f → f.slot ≡ st.word
    → get_elem? m.0.marks f.slot ≡ O.some (mark f.generation true true)
    → holds_on f.slot m.0 ≡ 0 → (word_of n).pins ≡ 1 → n ≡ code (sole_word f.generation))

-- What the barrier tells. There is an order of what was done in the turns that the view has,
-- and it leads from the histories before to those after.
abbrev pub IsOrdered : Order → View → View → Type 0
IsOrdered order v w =
    ((k : ℕ) (t : Turn) → get_elem? v.turns k ≡ O.some t → of t.name order ≡ t.deeds)
    × ((p : ℕ) → v.made ≤ p → of p order ≡ [])
    × IsRun v.base order
    × (w ≡ record v { turns = []; made = 0; base = played v.base order; words = w.words })

-- There are as many words. They have the pins that the turns leave and the slow path's marks, and none is busy but the
-- one of a record held.
abbrev pub IsCounted : View → View → Type 0
IsCounted v w =
    ((i : ℕ) → pins_at w.words i + lost_on i v ≡ pins_at v.words i + won_on i v)
    × ((i : ℕ) (x : Word) → get_elem? w.words i ≡ O.some x → flag x.busy ≡ holds_on i v)
    × (v.slow ≡ true → (i : ℕ) (x : Word) → get_elem? w.words i ≡ O.some x → get_elem? v.marks i ≡ O.some (mark_of x))
    × (length w.words ≡ length v.words)

-- a load that tells of the views alone: no view stands for more passes than there may be
abbrev pub tallies : {S : Type 0} → Step S → Me S View → ℕ → Me S View → Type 0
tallies st m n m' = (m.0.parts ≤ 4097) × (m' ≡ (m.0, m.1))

abbrev pub learns : {S : Type 0} → Step S → Me S View → ℕ → Me S View → Type 0
learns st m n m' = ((order : Order) × IsOrdered order m.0 m'.0) × IsCounted m.0 m'.0 × (m'.1 ≡ m.1)

module _ {R : Type 0} (flow : R → FlowId) (history : R → History) where
  -- What is told of a record that came: it is the pin's own, its history begins with all that the pass had seen of it,
  -- and alone it is the one that is known.
  pub record Comes (v : View) (i : ℕ) (item : R) : Type 0 where
    pub own : (f : FlowId) → HasPin v f → f.slot ≡ i → flow item ≡ f
    pub begun : (k : ℕ) (h : Held) → get_elem? v.seen k ≡ O.some h → h.flow ≡ flow item
        → Begins h.history (history item)
    pub known : IsAlone v → history item ≡ known_of (flow item) v.base

  pub record Came (st : Step (Option R)) (m : Me (Option R) View) (n : ℕ) (m' : Me (Option R) View) : Type 0 where
    pub item : R
    pub told : Comes m.0 st.word item
    pub view : m'.0 ≡ taken (flow item) (history item) (counted st.word (word_of n) m.0)
    pub carries : m'.1 ≡ (st.word, Some item) ∷ m.1

  abbrev pub takes : Step (Option R) → Me (Option R) View → ℕ → Me (Option R) View → Type 0
  takes st m n m' =
      Reads st m n
      × (IsAlone m.0 → (word_of n).busy ≡ false)
      × ((word_of n).busy ≡ false → Came st m n m')
      × ((word_of n).busy ≡ true → m' ≡ (counted st.word (word_of n) m.0, m.1))

  abbrev pub gives : Step (Option R) → Me (Option R) View → ℕ → Me (Option R) View → Type 0
  gives st m n m' =
      (r : R) → m.1 ≡ (st.word, Some r) ∷ rest m.1 → m' ≡ (gave (flow r) (history r) m.0, rest m.1)

  -- the empty value of a free slot is taken
  abbrev pub clears : Step (Option R) → Me (Option R) View → ℕ → Me (Option R) View → Type 0
  clears st m n m' = m' ≡ (emptied st.word m.0, (st.word, None) ∷ m.1)

  abbrev pub opens : Step (Option R) → Me (Option R) View → ℕ → Me (Option R) View → Type 0
  opens st m n m' =
      (r : R) → m.1 ≡ (st.word, Some r) ∷ rest m.1 → m' ≡ (opened (flow r) (history r) m.0, rest m.1)

  pub record Left (st : Step (Option R)) (m : Me (Option R) View) (n : ℕ) (m' : Me (Option R) View) : Type 0 where
    pub item : R
    pub told : Comes m.0 st.word item
    pub view : m'.0 ≡ freed (flow item) (counted st.word (word_of n) m.0)
    pub carries : m'.1 ≡ (st.word, Some item) ∷ m.1

  -- a compare-exchange, which frees where it found what was expected; else another view has a pin
  abbrev pub frees : Step (Option R) → Me (Option R) View → ℕ → Me (Option R) View → Type 0
  frees st m n m' =
      Reads st m n
      × (n ≡ st.first → Left st m n m')
      × (n ≢ st.first → ((word_of n).pins ≢ 1) × (m' ≡ (counted st.word (word_of n) m.0, m.1)))

  -- the empty value is given back
  abbrev pub restores : Step (Option R) → Me (Option R) View → ℕ → Me (Option R) View → Type 0
  restores st m n m' = m' ≡ (restored m.0, rest m.1)

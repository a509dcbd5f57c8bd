-- What the host keeps of its flows beside themselves, so that no search walks over all of them.
use Rattle.std.specs.Prelude.{◌≡◌, ℕ, nat_eq, zero, suc, ◌<◌, ◌==◌, Bool, true, false, not, ◌&&◌, ◌||◌, List, []}
use Rattle.std.specs.Prelude.{◌∷◌, length, map}
use Rattle.std.specs.Prelude.{count_by, get_or, nat_le, Option, Some, None, ⊤}
use Rattle.std.specs.List.{list_any}
use Rattle.std.specs.HashMap.{get}
use Rattle.tas_model.specs.declared.entry.FourTuple.{FourTuple}
use Rattle.host_rounds.specs.Hosts.{Live, is_indexed_as, is_in_slot, is_over, is_held, opened_as, first_port}
use Rattle.capture_items.specs.Starts.{equal_tuple}
use Rattle.local_host.specs.declared.flows.Openings.{Openings}
use Rattle.local_host.specs.declared.flows.Table.{Table}

-- the flow at this place is indexed under the four-tuple
abbrev pub indexed_at : FourTuple → List Live → (place : ℕ) → Bool
indexed_at tuple [] place = false
indexed_at tuple (l ∷ ls) zero = is_indexed_as tuple l
indexed_at tuple (l ∷ ls) (suc place) = indexed_at tuple ls place

abbrev pub latest_of : Option Openings → Option ℕ
latest_of None = None
latest_of (Some o) = Some o.latest

abbrev pub count_of : Option Openings → ℕ
count_of None = 0
count_of (Some o) = o.count

-- ----- four-tuples
-- Only the flow that was opened last of its four-tuple may be indexed, and the flows of each four-tuple are counted.
pub record IsIndex (known : FourTuple → Option Openings) (flows : List Live) : Type 0 where
  pub leads : (tuple : FourTuple) (place : ℕ) → indexed_at tuple flows place ≡ true
      → latest_of (known tuple) ≡ Some place
  pub within : (tuple : FourTuple) (place : ℕ) → latest_of (known tuple) ≡ Some place → place < length flows
  pub counts : (tuple : FourTuple) → count_of (known tuple) ≡ opened_as tuple flows

-- ----- filed flows
abbrev pub is_standing : Live → Bool
is_standing l = not l.filed

-- a test of the flow at a place; none is past the last one
abbrev pub passes_at : (Live → Bool) → List Live → (place : ℕ) → Bool
passes_at test [] place = false
passes_at test (l ∷ ls) zero = test l
passes_at test (l ∷ ls) (suc place) = passes_at test ls place

-- the first place too, where it stands
abbrev pub with_first : (standing : Bool) → List ℕ → List ℕ
with_first true places = 0 ∷ places
with_first false places = places

-- the places of the flows that are not filed
abbrev pub standing_places : List Live → List ℕ
standing_places [] = []
standing_places (l ∷ ls) = with_first (is_standing l) (map (λ (place : ℕ). suc place) (standing_places ls))

-- A filed flow is closed, and the index no longer has it: nothing that the host does by itself changes it.
pub record IsAtRest (l : Live) : Type 0 where
  pub over : is_over l ≡ true
  pub index : l.indexed ≡ false

abbrev pub AreAtRest : List Live → Type 0
AreAtRest [] = ⊤
AreAtRest (l ∷ ls) = (l.filed ≡ true → IsAtRest l) × AreAtRest ls

-- A sweep leaves it as it is: it runs, or is out of the index and filed or held.
abbrev pub is_settled : Live → Bool
is_settled l = not (is_over l && (l.indexed || not (l.filed || is_held l)))

-- ----- slots
abbrev pub number_of : Option ℕ → ℕ
number_of None = 0
number_of (Some n) = n

-- how many flows there were in a slot
abbrev pub flows_in : (slot : ℕ) → List Live → ℕ
flows_in slot flows = count_by (λ (l : Live). l.flow.id.slot == slot) flows

-- The slots in which records of flows stand are marked; no record stands in a slot past the marks.
abbrev pub AreMarked : (marks : List Bool) → List Live → Type 0
AreMarked marks flows = (slot : ℕ) → get_or marks slot false ≡ list_any (is_in_slot slot) flows

-- ----- ports
-- how many flows have ports that connects are given
abbrev pub given_in : List Live → ℕ
given_in flows = count_by (λ (l : Live). nat_le first_port l.flow.tuple.lport) flows

-- ----- all of it
pub record IsKnown (known : FourTuple → Option Openings) (slots : ℕ → Option ℕ) (places : List ℕ) (given : ℕ)
    (marks : List Bool) (flows : List Live) : Type 0 where
  pub index : IsIndex known flows
  pub counts : (slot : ℕ) → number_of (slots slot) ≡ flows_in slot flows
  pub standing : places ≡ standing_places flows
  pub filed : AreAtRest flows
  pub ports : given ≡ given_in flows
  pub taken : AreMarked marks flows

abbrev pub IsSound : Table → Type 0
IsSound t = IsKnown (get equal_tuple t.openings) (get nat_eq t.generations) t.standing.items t.given t.taken
    t.flows.items

-- The lines of a text, one after another.
use Rattle.std.proofs.Common.{◌≡◌, ℕ, ◌+◌, Bool, true, false, cond, eqb, List, [], ◌∷◌, length, Result, Ok, Err, refl}
use Rattle.std.proofs.Common.{sym, ◌∙◌, ap}
use Rattle.std.specs.List.{slice_split}
use Rattle.std.specs.Str.Lines.{lines, lines_of_parts, strip_carriage_return}
use Rattle.scenario_text.specs.Reads.{read_from, taken}
use Rattle.scenario_text.specs.declared.draft.Draft.{Draft}
use Rattle.scenario_text.specs.declared.scenario.Scenario.{Scenario}
use Rattle.scenario_text.specs.declared.reading.ScenarioFault.{ScenarioFault}
use Rattle.scenario_text.specs.declared.reading.ScenarioFault.TheVariants.{Refused}
use Rattle.scenario_text.proofs.Cuts.{more_parts}

lines_more : (rest front behind : List ℕ) → slice_split (λ (c : ℕ). eqb c 10) rest ≡ front
    ∷ slice_split (λ (c : ℕ). eqb c 10) behind → lines rest ≡ strip_carriage_return front ∷ lines behind
lines_more rest front behind e =
    ap lines_of_parts e ∙ more_parts (λ (c : ℕ). eqb c 10) behind
    (λ zs. lines_of_parts (front ∷ zs) ≡ strip_carriage_return front ∷ lines_of_parts zs) (λ y ys. refl)

read_next : (line : ℕ) (d next : Draft) (text : List ℕ) (texts : List (List ℕ)) → taken d text ≡ Ok next
    → read_from line d (text ∷ texts) ≡ read_from (line + 1) next texts
read_next line d next text texts e =
    ap (λ (r : Result Draft ℕ). elim r [ Ok n ↦ read_from (line + 1) n texts | Err kind ↦ Err (Refused line kind) ]) e

read_refused : (line kind : ℕ) (d : Draft) (text : List ℕ) (texts : List (List ℕ)) → taken d text ≡ Err kind
    → read_from line d (text ∷ texts) ≡ Err (Refused line kind)
read_refused line kind d text texts e =
    ap (λ (r : Result Draft ℕ). elim r [ Ok n ↦ read_from (line + 1) n texts | Err k ↦ Err (Refused line k) ]) e

-- a line that ends, and what stands behind it
pub line_taken : (line : ℕ) (d next : Draft) (rest front behind text : List ℕ)
    → slice_split (λ (c : ℕ). eqb c 10) rest ≡ front ∷ slice_split (λ (c : ℕ). eqb c 10) behind
    → text ≡ strip_carriage_return front
    → taken d text ≡ Ok next → (all : Result Scenario ScenarioFault) → read_from line d (lines rest) ≡ all
    → read_from (line + 1) next (lines behind) ≡ all
line_taken line d next rest front behind text e is t all h =
    sym (read_next line d next (strip_carriage_return front) (lines behind) (ap (taken d) (sym is) ∙ t))
    ∙ (ap (read_from line d) (sym (lines_more rest front behind e)) ∙ h)

pub line_refused : (line kind : ℕ) (d : Draft) (rest front behind text : List ℕ)
    → slice_split (λ (c : ℕ). eqb c 10) rest ≡ front ∷ slice_split (λ (c : ℕ). eqb c 10) behind
    → text ≡ strip_carriage_return front
    → taken d text ≡ Err kind → (all : Result Scenario ScenarioFault) → read_from line d (lines rest) ≡ all
    → all ≡ Err (Refused line kind)
line_refused line kind d rest front behind text e is t all h =
    sym h ∙ (ap (read_from line d) (lines_more rest front behind e)
    ∙ read_refused line kind d (strip_carriage_return front) (lines behind) (ap (taken d) (sym is) ∙ t))

-- the last line, which has no end
last_line : (rest : List ℕ) → slice_split (λ (c : ℕ). eqb c 10) rest ≡ rest ∷ [] → eqb (length rest) 0 ≡ false
    → lines rest ≡ rest ∷ []
last_line rest e some = ap lines_of_parts e ∙ rw some refl

pub last_taken : (line : ℕ) (d next : Draft) (rest : List ℕ) → slice_split (λ (c : ℕ). eqb c 10) rest ≡ rest ∷ []
    → eqb (length rest) 0 ≡ false → taken d rest ≡ Ok next
    → (all : Result Scenario ScenarioFault) → read_from line d (lines rest) ≡ all → read_from (line + 1) next [] ≡ all
last_taken line d next rest e some t all h = sym (read_next line d next rest [] t)
    ∙ (ap (read_from line d) (sym (last_line rest e some)) ∙ h)

pub last_refused : (line kind : ℕ) (d : Draft) (rest : List ℕ) → slice_split (λ (c : ℕ). eqb c 10) rest ≡ rest ∷ []
    → eqb (length rest) 0 ≡ false → taken d rest ≡ Err kind
    → (all : Result Scenario ScenarioFault) → read_from line d (lines rest) ≡ all → all ≡ Err (Refused line kind)
last_refused line kind d rest e some t all h = sym h
    ∙ (ap (read_from line d) (last_line rest e some) ∙ read_refused line kind d rest [] t)

pub none_behind : (line : ℕ) (d : Draft) (rest : List ℕ) → slice_split (λ (c : ℕ). eqb c 10) rest ≡ rest ∷ []
    → eqb (length rest) 0 ≡ true
    → (all : Result Scenario ScenarioFault) → read_from line d (lines rest) ≡ all → read_from line d [] ≡ all
none_behind line d rest e empty all h =
    let none : lines rest ≡ [] = ap lines_of_parts e ∙ rw empty refl in
    ap (read_from line d) (sym none) ∙ h

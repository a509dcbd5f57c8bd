-- How time passes: which flows have a Tick in a tick of the run, and what the tick adds.
use Rattle.std.specs.Prelude.{⊤, ◌++◌, ◌≡◌, ℕ, ◌+◌, ◌≤◌, Bool, true, false, List, [], ◌∷◌}
use Rattle.tas_model.specs.declared.entry.Entry.{Entry}
use Rattle.tas_model.specs.declared.entry.Call.{Call}
use Rattle.tas_model.specs.declared.entry.Call.TheVariants as calls
use Rattle.tas_model.specs.Segments.{one_if}
use Rattle.tas_model.specs.LegalHistory.{last_tick}
use Rattle.host_rounds.specs.declared.log.LogLine.{LogLine}
use Rattle.host_rounds.specs.Hosts.{Live, Host, is_over}
use Rattle.host_rounds.specs.Lists.{Each}

abbrev pub is_tick : Call → Bool
is_tick calls.Tick = true
is_tick _ = false

-- how many Tick entries a history has, and a flow
abbrev pub ticks_in : List Entry → ℕ
ticks_in [] = 0
ticks_in (x ∷ xs) = one_if (is_tick x.call) + ticks_in xs

abbrev pub ticks_of : Live → ℕ
ticks_of l = ticks_in l.flow.entries

-- A flow before a tick and after it: it has one Tick more, which is wanting only where the flow was closed in the tick;
-- and a flow that was closed before has none.
pub record IsTimed (before after : Live) : Type 0 where
  pub one : is_over after ≡ false → ticks_of after ≡ ticks_of before + 1
  pub most : ticks_of after ≤ ticks_of before + 1
  pub over : is_over before ≡ true → ticks_of after ≡ ticks_of before

-- The flows before a tick and after it, in their order. Those that were opened in the tick have no Tick yet.
abbrev pub AreTimed : (before after : List Live) → Type 0
AreTimed [] after = Each (λ (l : Live). ticks_of l ≡ 0) after
AreTimed (l ∷ ls) [] = ⊥
AreTimed (l ∷ ls) (m ∷ ms) = IsTimed l m × AreTimed ls ms

-- ----- what a tick adds
-- each of these entries bears the tick, and each of these lines
abbrev pub AllAt : (tick : ℕ) → List Entry → Type 0
AllAt t xs = Each (λ (x : Entry). x.tick ≡ t) xs

abbrev pub LinesAt : (tick : ℕ) → List LogLine → Type 0
LinesAt t ls = Each (λ (l : LogLine). l.tick ≡ t) ls

-- the history grew by entries of this tick, and the log by lines of it
abbrev pub Grew : (tick : ℕ) → (before after : List Entry) → Type 0
Grew t before after = (more : List Entry) × (after ≡ before ++ more) × AllAt t more

abbrev pub LogGrew : (tick : ℕ) → (before after : List LogLine) → Type 0
LogGrew t before after = (more : List LogLine) × (after ≡ before ++ more) × LinesAt t more

-- flow by flow; one that was opened in the tick had nothing before
abbrev pub AllGrew : (tick : ℕ) → (before after : List Live) → Type 0
AllGrew t [] [] = ⊤
AllGrew t [] (m ∷ ms) = Grew t [] m.flow.entries × AllGrew t [] ms
AllGrew t (l ∷ ls) [] = ⊥
AllGrew t (l ∷ ls) (m ∷ ms) = Grew t l.flow.entries m.flow.entries × AllGrew t ls ms

-- A host before a tick and after it: nothing is taken back, and all that is added bears the tick.
pub record Went (t : ℕ) (before after : Host) : Type 0 where
  pub log : LogGrew t before.log after.log
  pub flows : AllGrew t before.flows after.flows

-- no entry of the flow is of a later tick
abbrev pub IsUpTo : (tick : ℕ) → Live → Type 0
IsUpTo t l = last_tick 0 l.flow.entries ≤ t

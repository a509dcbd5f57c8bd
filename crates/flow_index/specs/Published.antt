-- What is published, and what readers know of it.
use Rattle.std.specs.Prelude.{◌≡◌, ℕ, List, [], ◌++◌}
use mathlib.Core.Option.{some}
use lib.ListN.{get_elem?}
use Rattle.flow_index.specs.Changes.{Begins, AnswerAlike}
use Rattle.flow_index.specs.Entries.{entries_of}
use Rattle.flow_index.specs.declared.change.Change.{Change}
use Rattle.flow_index.specs.declared.store.Store.{Store}
use Rattle.flow_index.specs.declared.order.Sight.{Sight}

abbrev pub newcomer : Sight
newcomer = record { seen = [] }

-- the changes that this end has seen made what is published
abbrev pub IsMadeBy : Store → Sight → Type 0
IsMadeBy store v = store.map.entries ≡ entries_of v.seen

-- what this end has seen after a publish answers as what it had seen, and then the changes that were pending
abbrev pub Shows : Sight → (pending : List Change) → Sight → Type 0
Shows v pending w = AnswerAlike w.seen (v.seen ++ pending)

-- Some changes made what is published. What each end has seen is their beginning.
abbrev pub OneOrder : Store → List Sight → Type 0
OneOrder store views =
    (changes : List Change) × (store.map.entries ≡ entries_of changes)
    × ((k : ℕ) (v : Sight) → get_elem? views k ≡ some v → Begins v.seen changes)

-- a look at what is published, or a publish: the end has then seen the changes that made it
abbrev pub looked : Sight → Store → Store → Sight → Type 0
looked v before after w = Begins v.seen w.seen × IsMadeBy after w

-- Which flow has a four-tuple, after some changes of the index.
use Rattle.std.specs.Prelude.{◌≡◌, ℕ, Bool, ◌&&◌, ◌==◌, List, ◌++◌, fold, if◌then◌else◌}
use Rattle.tas_model.specs.declared.entry.FourTuple.{FourTuple}
use Rattle.flow_index.specs.declared.change.Change.{Change}
use Rattle.flow_index.specs.declared.change.Change.TheVariants.{Put, Remove}
use Rattle.flow_index.specs.declared.change.Found.{Found}
use Rattle.flow_index.specs.declared.change.Found.TheVariants.{Flow, Absent}

abbrev pub is_same : FourTuple → FourTuple → Bool
is_same t u = t.laddr == u.laddr && (t.lport == u.lport && (t.raddr == u.raddr && t.rport == u.rport))

-- what a change makes of the answer for `t`
abbrev pub after_change : FourTuple → (before : Found) → Change → Found
after_change t before (Put u flow) = if is_same u t then Flow flow else before
after_change t before (Remove u) = if is_same u t then Absent else before

-- the answer for `t` after these changes, where it was `before`
abbrev pub found_from : FourTuple → (before : Found) → List Change → Found
found_from t before changes = fold (after_change t) before changes

-- The answer for `t` after these changes of an empty index: the flow that was put last, unless it was removed since.
abbrev pub found_after : FourTuple → List Change → Found
found_after t changes = found_from t Absent changes

-- `longer` begins with `changes`
abbrev pub Begins : (changes longer : List Change) → Type 0
Begins changes longer = (rest : List Change) × (longer ≡ changes ++ rest)

-- these changes answer as those for every four-tuple
abbrev pub AnswerAlike : List Change → List Change → Type 0
AnswerAlike changes others = (t : FourTuple) → found_after t changes ≡ found_after t others

-- What a writer is seen as: the changes that are published and those that are pending, and how many readers may still
-- be made.
pub record Writing : Type 0 where
  pub published : List Change
  pub pending : List Change
  pub left : ℕ

abbrev pub writing : (published pending : List Change) → (left : ℕ) → Writing
writing published pending left = record { published = published; pending = pending; left = left }

-- What is known of the streams that a run reads and writes, and what a call says of them.
use Rattle.std.specs.Prelude.{◌≡◌, ℕ, ◌++◌, ◌≤◌, Bool, IsTrue, List, Option, Result, Ok, Err, OnOk}
use Rattle.std.specs.Io.KnownBytes.{Appends}
use Rattle.tas_num.specs.Causes.{Rose}
use Rattle.tas_num.specs.declared.outside.IoFault.{IoFault}
use Rattle.tas_num.specs.declared.outside.IoFault.TheVariants.{Failed, OutOfMemory}

-- A source: the bytes that it has left, where it tells them, and how often it failed.
pub record SourceState : Type 0 where
  pub left : Option (List ℕ)
  pub faults : ℕ

-- A sink: the bytes that it holds, where it tells them, how often it failed, and whether a write may need memory.
pub record SinkState : Type 0 where
  pub held : Option (List ℕ)
  pub faults : ℕ
  pub grows : Bool

-- A count of faults rose where the answer is Failed, and stays as it was at every other answer.
abbrev pub Counts : {A : Type 0} → (before : ℕ) → Result A IoFault → (after : ℕ) → Type 0
Counts before (Ok _) after = after ≡ before
Counts before (Err OutOfMemory) after = after ≡ before
Counts before (Err Failed) after = Rose before after × (before ≤ after)

-- What a write of a text did to a sink, in however many pieces. After Ok the sink grew by all of it but the `left`
-- bytes at
-- its end, which are still to be written; after a fault by some front of it, which may be nothing.
pub record Wrote (before : SinkState) (result : Result (Unit {0}) IoFault) (after : SinkState) (text left : List ℕ)
    : Type 0 where
  pub front : List ℕ
  pub rest : List ℕ
  pub split : front ++ rest ≡ text
  pub grown : Appends before.held after.held front
  pub whole : OnOk result (rest ≡ left)
  pub counts : Counts before.faults result after.faults
  pub memory : result ≡ Err OutOfMemory → IsTrue before.grows
  pub same : after.grows ≡ before.grows

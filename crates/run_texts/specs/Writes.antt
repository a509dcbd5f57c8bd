-- What a call that writes a text does to a sink and to the bytes that wait before it.
use Rattle.std.specs.Prelude.{ℕ, ◌++◌, List, Result}
use Rattle.tas_num.specs.declared.outside.IoFault.{IoFault}
use Rattle.tas_num.specs.Streams.{SinkState, Wrote}

-- Of what waited and the text behind it, all went to the sink but what waits after Ok, or a front of it after a fault.
pub record Writes (before : SinkState) (waiting : List ℕ) (result : Result (Unit {0}) IoFault)
    (after : SinkState) (left : List ℕ) (text : List ℕ) : Type 0 where
  pub wrote : Wrote before result after (waiting ++ text) left

-- What a call that writes a text did to its sink.
use Rattle.std.specs.Prelude.{◌≡◌, ◌⊎◌, ℕ, List, [], Result, Err}
use Rattle.tas_num.specs.Streams.{SinkState, Wrote}
use Rattle.tas_num.specs.declared.outside.IoFault.{IoFault}
use Rattle.tas_num.specs.declared.outside.IoFault.TheVariants.{OutOfMemory}

-- It takes all its memory first: it wrote the text, or there was no memory and the sink is as it was.
abbrev pub WroteText : (before : SinkState) → Result (Unit {0}) IoFault → (after : SinkState) → List ℕ → Type 0
WroteText before result after text =
    Wrote before result after text [] ⊎ ((result ≡ Err OutOfMemory) × (after ≡ before))

-- Which segments change nothing: those that rules 1 to 4 of the receiving drop, with or without an ACK in answer.
use Rattle.std.specs.Prelude.{⊤}
use Rattle.tas_model.specs.Receive.{Verdict, Dropped, Answered, Reset, BareAck, Taken}

abbrev pub IsDropped : Verdict → Type 0
IsDropped Dropped = ⊤
IsDropped Answered = ⊤
IsDropped Reset = ⊥
IsDropped BareAck = ⊥
IsDropped (Taken q) = ⊥

-- The retransmission timer after one tick more, and how long it doesn't run out.
use Rattle.std.specs.Prelude.{ℕ, ◌+◌, ◌-◌, ◌^◌, Option, Some, None, not, nat_lt, if◌then◌else◌}
use Rattle.tas_model.specs.Endpoint.{Endpoint}
use Rattle.tas_model.specs.Timers.{is_armed, patience}

-- for how many ticks it has run; `None` where it runs out
abbrev pub next_age : Endpoint → Option ℕ
next_age e =
    if not (is_armed e.tx) then Some 0
    else if nat_lt (e.tx.age + 1) (patience e) then Some (e.tx.age + 1)
    else None

-- In how many ticks more it doesn't run out; where it doesn't run, in as many as can be told.
abbrev pub early_ticks : Endpoint → ℕ
early_ticks e = if is_armed e.tx then patience e - (e.tx.age + 1) else 2 ^ 32 - 1

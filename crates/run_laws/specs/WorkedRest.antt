-- A worked run whose last frame is on the link when all else has ended, told by hand.
use Rattle.std.specs.Prelude.{ℕ, List, [], ◌∷◌, codes}
use Rattle.tas_runs.specs.WorkedTexts.{lines}

-- Nobody listens. The client is killed in the tick in which the other host answers its SYN: the answer comes a tick
-- later, to no flow, and the run ends with that tick.
abbrev pub late_answer : List ℕ
late_answer =
    lines (
    codes "host a 10.0.0.1"
    ∷ codes "host b 10.0.0.2"
    ∷ codes "app a client"
    ∷ codes "connect s b 80"
    ∷ codes "kill a client at 1"
    ∷ [])

abbrev pub late_answer_report : List ℕ
late_answer_report =
    lines (
    codes "tas run"
    ∷ codes "host a 10.0.0.1"
    ∷ codes "2 stray b:x.0 AR seq 0 ack 1 win 0 = none"
    ∷ codes "flow 0 slot 0.1 10.0.0.1:49152 10.0.0.2:80"
    ∷ codes "0 p0.0 connect iss 0 = ok"
    ∷ codes "0 c0.0 emit = S seq 0 ack 0 win 16384 mss 1460"
    ∷ codes "1 s.0 tick = quiet"
    ∷ codes "1 s.1 abort = none"
    ∷ codes "state CLOSED aborted"
    ∷ codes "read 0 -"
    ∷ codes "host b 10.0.0.2"
    ∷ codes "1 stray a:0.0 S seq 0 ack 0 win 16384 mss 1460 = AR seq 0 ack 1 win 0"
    ∷ codes "end 3 ticks"
    ∷ [])

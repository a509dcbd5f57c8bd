-- Worked replays of what a connection does: for each the bytes of a capture and the report of its replay. The reports
-- were written by another program.
use Rattle.std.specs.Prelude.{ℕ, List, [], ◌∷◌, ◌++◌, take, codes}
use Rattle.tas_runs.specs.WorkedTexts.{unhex, lines}

-- Three packets of the handshake and two bytes: the host answers the SYN, acknowledges the data, and its application
-- reads them.
abbrev pub hello_capture : List ℕ
hello_capture =
    unhex (codes "d4c3b2a1020004000000000000000000ffff000065000000")
    ++ unhex (codes
    "000000000000000028000000280000004500002800004000400626ce0a0000010a0000029c40005000000064000000005002fffffeeb0000")
    ++ unhex (codes
    "010000000000000028000000280000004500002800004000400626ce0a0000010a0000029c40005000000065000000015010fffffedb0000")
    ++ unhex (codes
    "02000000000000002a0000002a0000004500002a00004000400626cc0a0000010a0000029c40005000000065000000015018ffff966800006869")

abbrev pub hello_report : List ℕ
hello_report =
    lines (
    codes "tas replay"
    ∷ codes "host local 10.0.0.2"
    ∷ codes "flow 0 slot 0.1 10.0.0.2:80 10.0.0.1:40000"
    ∷ codes "0 s.0 passive r:1 iss 0 S seq 100 ack 0 win 65535 = ok"
    ∷ codes "0 c0.0 emit = AS seq 0 ack 101 win 65535 mss 1460"
    ∷ codes "1 s.1 tick = quiet"
    ∷ codes "1 s.2 rx r:2 A seq 101 ack 1 win 65535 = none"
    ∷ codes "1 p0.0 accept = ok"
    ∷ codes "1 p0.1 recv 65535 = notyet"
    ∷ codes "2 s.3 tick = quiet"
    ∷ codes "2 c0.1 rx r:3 AP seq 101 ack 1 win 65535 data 6869 = A seq 1 ack 103 win 65533"
    ∷ codes "2 p0.2 recv 65535 = got 6869"
    ∷ codes "state ESTABLISHED"
    ∷ codes "read 2 6869"
    ∷ codes "records 3 frames 3 passed 0 refused 0"
    ∷ codes "end 3 ticks"
    ∷ [])

-- Data that comes before what precedes it is kept, and read once the gap is filled.
abbrev pub late_start_capture : List ℕ
late_start_capture =
    unhex (codes "d4c3b2a1020004000000000000000000ffff000065000000")
    ++ unhex (codes
    "000000000000000028000000280000004500002800004000400626ce0a0000010a0000029c40005000000064000000005002fffffeeb0000")
    ++ unhex (codes
    "010000000000000028000000280000004500002800004000400626ce0a0000010a0000029c40005000000065000000015010fffffedb0000")
    ++ unhex (codes
    "02000000000000002a0000002a0000004500002a00004000400626cc0a0000010a0000029c40005000000067000000015018ffff9b6b00006364")
    ++ unhex (codes
    "03000000000000002a0000002a0000004500002a00004000400626cc0a0000010a0000029c40005000000065000000015018ffff9d6f00006162")

abbrev pub late_start_report : List ℕ
late_start_report =
    lines (
    codes "tas replay"
    ∷ codes "host local 10.0.0.2"
    ∷ codes "flow 0 slot 0.1 10.0.0.2:80 10.0.0.1:40000"
    ∷ codes "0 s.0 passive r:1 iss 0 S seq 100 ack 0 win 65535 = ok"
    ∷ codes "0 c0.0 emit = AS seq 0 ack 101 win 65535 mss 1460"
    ∷ codes "1 s.1 tick = quiet"
    ∷ codes "1 s.2 rx r:2 A seq 101 ack 1 win 65535 = none"
    ∷ codes "1 p0.0 accept = ok"
    ∷ codes "1 p0.1 recv 65535 = notyet"
    ∷ codes "2 s.3 tick = quiet"
    ∷ codes "2 c0.1 rx r:3 AP seq 103 ack 1 win 65535 data 6364 = A seq 1 ack 101 win 65535"
    ∷ codes "2 p0.2 recv 65535 = notyet"
    ∷ codes "3 s.4 tick = quiet"
    ∷ codes "3 c0.2 rx r:4 AP seq 101 ack 1 win 65535 data 6162 = A seq 1 ack 105 win 65531"
    ∷ codes "3 p0.3 recv 65535 = got 61626364"
    ∷ codes "state ESTABLISHED"
    ∷ codes "read 4 61626364"
    ∷ codes "records 4 frames 4 passed 0 refused 0"
    ∷ codes "end 4 ticks"
    ∷ [])

-- What the local side sent in the capture is offered again, and sent.
abbrev pub sending_capture : List ℕ
sending_capture =
    unhex (codes "d4c3b2a1020004000000000000000000ffff000065000000")
    ++ unhex (codes
    "000000000000000028000000280000004500002800004000400626ce0a0000010a0000029c40005000000064000000005002fffffeeb0000")
    ++ unhex (codes
    "010000000000000028000000280000004500002800004000400626ce0a0000020a00000100509c4000000000000000655012fffffeda0000")
    ++ unhex (codes
    "020000000000000028000000280000004500002800004000400626ce0a0000010a0000029c40005000000065000000015010fffffedb0000")
    ++ unhex (codes
    "03000000000000002a0000002a0000004500002a00004000400626cc0a0000010a0000029c40005000000065000000015018ffff966800006869")
    ++ unhex (codes
    "04000000000000002a0000002a0000004500002a00004000400626cc0a0000020a00000100509c4000000001000000675018ffff8f6400006f6b")

abbrev pub sending_report : List ℕ
sending_report =
    lines (
    codes "tas replay"
    ∷ codes "host local 10.0.0.2"
    ∷ codes "flow 0 slot 0.1 10.0.0.2:80 10.0.0.1:40000"
    ∷ codes "0 s.0 passive r:1 iss 0 S seq 100 ack 0 win 65535 = ok"
    ∷ codes "0 c0.0 emit = AS seq 0 ack 101 win 65535 mss 1460"
    ∷ codes "1 s.1 tick = quiet"
    ∷ codes "2 s.2 tick = quiet"
    ∷ codes "2 s.3 rx r:3 A seq 101 ack 1 win 65535 = none"
    ∷ codes "2 p0.0 accept = ok"
    ∷ codes "2 p0.1 recv 65535 = notyet"
    ∷ codes "3 s.4 tick = quiet"
    ∷ codes "3 c0.1 rx r:4 AP seq 101 ack 1 win 65535 data 6869 = A seq 1 ack 103 win 65533"
    ∷ codes "3 p0.2 recv 65535 = got 6869"
    ∷ codes "4 s.5 tick = quiet"
    ∷ codes "4 p0.3 send 2 = took 6f6b"
    ∷ codes "4 c0.2 emit = AP seq 1 ack 103 win 65535 data 6f6b"
    ∷ codes "state ESTABLISHED"
    ∷ codes "read 2 6869"
    ∷ codes "records 5 frames 5 passed 0 refused 0"
    ∷ codes "end 5 ticks"
    ∷ [])

-- Both sides end their streams.
abbrev pub both_ends_capture : List ℕ
both_ends_capture =
    unhex (codes "d4c3b2a1020004000000000000000000ffff000065000000")
    ++ unhex (codes
    "000000000000000028000000280000004500002800004000400626ce0a0000010a0000029c40005000000064000000005002fffffeeb0000")
    ++ unhex (codes
    "010000000000000028000000280000004500002800004000400626ce0a0000010a0000029c40005000000065000000015010fffffedb0000")
    ++ unhex (codes
    "02000000000000002a0000002a0000004500002a00004000400626cc0a0000010a0000029c40005000000065000000015018ffff966800006869")
    ++ unhex (codes
    "030000000000000028000000280000004500002800004000400626ce0a0000010a0000029c40005000000067000000015011fffffed80000")
    ++ unhex (codes
    "040000000000000028000000280000004500002800004000400626ce0a0000020a00000100509c4000000001000000685011fffffed70000")
    ++ unhex (codes
    "050000000000000028000000280000004500002800004000400626ce0a0000010a0000029c40005000000068000000025010fffffed70000")

abbrev pub both_ends_report : List ℕ
both_ends_report =
    lines (
    codes "tas replay"
    ∷ codes "host local 10.0.0.2"
    ∷ codes "flow 0 slot 0.1 10.0.0.2:80 10.0.0.1:40000"
    ∷ codes "0 s.0 passive r:1 iss 0 S seq 100 ack 0 win 65535 = ok"
    ∷ codes "0 c0.0 emit = AS seq 0 ack 101 win 65535 mss 1460"
    ∷ codes "1 s.1 tick = quiet"
    ∷ codes "1 s.2 rx r:2 A seq 101 ack 1 win 65535 = none"
    ∷ codes "1 p0.0 accept = ok"
    ∷ codes "1 p0.1 recv 65535 = notyet"
    ∷ codes "2 s.3 tick = quiet"
    ∷ codes "2 c0.1 rx r:3 AP seq 101 ack 1 win 65535 data 6869 = A seq 1 ack 103 win 65533"
    ∷ codes "2 p0.2 recv 65535 = got 6869"
    ∷ codes "3 s.4 tick = quiet"
    ∷ codes "3 s.5 rx r:4 AF seq 103 ack 1 win 65535 = A seq 1 ack 104 win 65535"
    ∷ codes "3 p0.3 recv 65535 = end"
    ∷ codes "4 s.6 tick = quiet"
    ∷ codes "4 p0.4 shut = ok"
    ∷ codes "4 c0.2 emit = AF seq 1 ack 104 win 65535"
    ∷ codes "5 s.7 tick = quiet"
    ∷ codes "5 s.8 rx r:6 A seq 104 ack 2 win 65535 = none"
    ∷ codes "5 p0.5 recv 65535 = end"
    ∷ codes "state CLOSED done"
    ∷ codes "read 2 6869"
    ∷ codes "records 6 frames 6 passed 0 refused 0"
    ∷ codes "end 6 ticks"
    ∷ [])

-- A reset in the window, but not at the next place, is asked for again; one at the next place closes.
abbrev pub resets_capture : List ℕ
resets_capture =
    unhex (codes "d4c3b2a1020004000000000000000000ffff000065000000")
    ++ unhex (codes
    "000000000000000028000000280000004500002800004000400626ce0a0000010a0000029c40005000000064000000005002fffffeeb0000")
    ++ unhex (codes
    "010000000000000028000000280000004500002800004000400626ce0a0000010a0000029c40005000000065000000015010fffffedb0000")
    ++ unhex (codes
    "02000000000000002a0000002a0000004500002a00004000400626cc0a0000010a0000029c40005000000065000000015018ffff966800006869")
    ++ unhex (codes
    "030000000000000028000000280000004500002800004000400626ce0a0000010a0000029c400050000000680000000050040000fee50000")
    ++ unhex (codes
    "040000000000000028000000280000004500002800004000400626ce0a0000010a0000029c400050000000670000000050040000fee60000")

abbrev pub resets_report : List ℕ
resets_report =
    lines (
    codes "tas replay"
    ∷ codes "host local 10.0.0.2"
    ∷ codes "flow 0 slot 0.1 10.0.0.2:80 10.0.0.1:40000"
    ∷ codes "0 s.0 passive r:1 iss 0 S seq 100 ack 0 win 65535 = ok"
    ∷ codes "0 c0.0 emit = AS seq 0 ack 101 win 65535 mss 1460"
    ∷ codes "1 s.1 tick = quiet"
    ∷ codes "1 s.2 rx r:2 A seq 101 ack 1 win 65535 = none"
    ∷ codes "1 p0.0 accept = ok"
    ∷ codes "1 p0.1 recv 65535 = notyet"
    ∷ codes "2 s.3 tick = quiet"
    ∷ codes "2 c0.1 rx r:3 AP seq 101 ack 1 win 65535 data 6869 = A seq 1 ack 103 win 65533"
    ∷ codes "2 p0.2 recv 65535 = got 6869"
    ∷ codes "3 s.4 tick = quiet"
    ∷ codes "3 s.5 rx r:4 R seq 104 ack 0 win 0 = A seq 1 ack 103 win 65535"
    ∷ codes "3 p0.3 recv 65535 = notyet"
    ∷ codes "4 s.6 tick = quiet"
    ∷ codes "4 s.7 rx r:5 R seq 103 ack 0 win 0 = none"
    ∷ codes "4 p0.4 recv 65535 = closed reset"
    ∷ codes "state CLOSED reset"
    ∷ codes "read 2 6869"
    ∷ codes "records 5 frames 5 passed 0 refused 0"
    ∷ codes "end 5 ticks"
    ∷ [])

-- The capture of what the host sent in the first of these: its SYN-ACK and one ACK.
abbrev pub hello_sent : List ℕ
hello_sent =
    unhex (codes "d4c3b2a1020004000000000000000000ffff000065000000")
    ++ unhex (codes
    "00000000000000002c0000002c0000004500002c00004000400626ca0a0000020a00000100509c4000000000000000656012ffffe71e0000020405b4")
    ++ unhex (codes
    "020000000000000028000000280000004500002800004000400626ce0a0000020a00000100509c4000000001000000675010fffdfedb0000")

-- The same bytes without the last one: the third record is cut short.
abbrev pub cut_capture : List ℕ
cut_capture = take 193 hello_capture

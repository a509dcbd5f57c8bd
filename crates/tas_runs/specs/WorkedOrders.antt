-- Replays worked by hand: which first numbers a capture gives, which local bytes are offered, and in which order a
-- run's frames are written.
use Rattle.std.specs.Prelude.{ℕ, List, [], ◌∷◌, ◌++◌, codes}
use Rattle.tas_runs.specs.WorkedTexts.{unhex, lines}

-- A local SYN is sent again, the connect is refused, and the four-tuple is opened once more: a number that is shown
-- twice is one number, and the second flow has the second number.
abbrev pub second_number_capture : List ℕ
second_number_capture =
    unhex (codes "d4c3b2a1020004000000000000000000ffff000065000000")
    ++ unhex (codes "000000000000000028000000280000004500002800004000400626ce0a0000020a00000100509c4000001b5800000000")
    ++ unhex (codes "5002ffffe3f70000")
    ++ unhex (codes "010000000000000028000000280000004500002800004000400626ce0a0000020a00000100509c4000001b5800000000")
    ++ unhex (codes "5002ffffe3f70000")
    ++ unhex (codes "020000000000000028000000280000004500002800004000400626ce0a0000010a0000029c4000500000000000001b59")
    ++ unhex (codes "5014ffffe3e40000")
    ++ unhex (codes "030000000000000028000000280000004500002800004000400626ce0a0000020a00000100509c400000232800000000")
    ++ unhex (codes "5002ffffdc270000")

abbrev pub second_number_report : List ℕ
second_number_report =
    lines (
    codes "tas replay"
    ∷ codes "host local 10.0.0.2"
    ∷ codes "flow 0 slot 0.1 10.0.0.2:80 10.0.0.1:40000"
    ∷ codes "0 p0.0 connect iss 7000 = ok"
    ∷ codes "0 c0.0 emit = S seq 7000 ack 0 win 65535 mss 1460"
    ∷ codes "1 s.0 tick = quiet"
    ∷ codes "2 s.1 tick = quiet"
    ∷ codes "2 s.2 rx r:3 AR seq 0 ack 7001 win 65535 = none"
    ∷ codes "2 p0.1 recv 65535 = closed refused"
    ∷ codes "state CLOSED refused"
    ∷ codes "read 0 -"
    ∷ codes "flow 1 slot 0.2 10.0.0.2:80 10.0.0.1:40000"
    ∷ codes "3 p0.0 connect iss 9000 = ok"
    ∷ codes "3 c0.0 emit = S seq 9000 ack 0 win 65535 mss 1460"
    ∷ codes "state SYN-SENT"
    ∷ codes "read 0 -"
    ∷ codes "records 4 frames 4 passed 0 refused 0"
    ∷ codes "end 4 ticks"
    ∷ [])

-- The bytes of a local SYN follow it: all of them are offered, from the first.
abbrev pub syn_with_data_capture : List ℕ
syn_with_data_capture =
    unhex (codes "d4c3b2a1020004000000000000000000ffff000065000000")
    ++ unhex (codes "000000000000000028000000280000004500002800004000400626ce0a0000010a0000029c4000500000006400000000")
    ++ unhex (codes "5002fffffeeb0000")
    ++ unhex (codes "01000000000000002a0000002a0000004500002a00004000400626cc0a0000020a00000100509c400000000000000065")
    ++ unhex (codes "5012ffff8f6d00006f6b")
    ++ unhex (codes "020000000000000028000000280000004500002800004000400626ce0a0000010a0000029c4000500000006500000001")
    ++ unhex (codes "5010fffffedb0000")

abbrev pub syn_with_data_report : List ℕ
syn_with_data_report =
    lines (
    codes "tas replay"
    ∷ codes "host local 10.0.0.2"
    ∷ codes "flow 0 slot 0.1 10.0.0.2:80 10.0.0.1:40000"
    ∷ codes "0 s.0 passive r:1 iss 0 S seq 100 ack 0 win 65535 = ok"
    ∷ codes "0 c0.0 emit = AS seq 0 ack 101 win 65535 mss 1460"
    ∷ codes "1 s.1 tick = quiet"
    ∷ codes "2 s.2 tick = quiet"
    ∷ codes "2 s.3 rx r:3 A seq 101 ack 1 win 65535 = none"
    ∷ codes "2 p0.0 accept = ok"
    ∷ codes "2 p0.1 send 2 = took 6f6b"
    ∷ codes "2 p0.2 recv 65535 = notyet"
    ∷ codes "2 c0.1 emit = AP seq 1 ack 101 win 65535 data 6f6b"
    ∷ codes "state ESTABLISHED"
    ∷ codes "read 0 -"
    ∷ codes "records 3 frames 3 passed 0 refused 0"
    ∷ codes "end 3 ticks"
    ∷ [])

-- Local bytes past a gap are not offered; of those that overlap what was shown, the new ones are.
abbrev pub local_gap_capture : List ℕ
local_gap_capture =
    unhex (codes "d4c3b2a1020004000000000000000000ffff000065000000")
    ++ unhex (codes "000000000000000028000000280000004500002800004000400626ce0a0000010a0000029c4000500000006400000000")
    ++ unhex (codes "5002fffffeeb0000")
    ++ unhex (codes "010000000000000028000000280000004500002800004000400626ce0a0000010a0000029c4000500000006500000001")
    ++ unhex (codes "5010fffffedb0000")
    ++ unhex (codes "02000000000000002a0000002a0000004500002a00004000400626cc0a0000020a00000100509c400000000300000065")
    ++ unhex (codes "5018ffff865600007879")
    ++ unhex (codes "03000000000000002a0000002a0000004500002a00004000400626cc0a0000020a00000100509c400000000100000065")
    ++ unhex (codes "5018ffff8f6600006f6b")
    ++ unhex (codes "04000000000000002b0000002b0000004500002b00004000400626cb0a0000020a00000100509c400000000200000065")
    ++ unhex (codes "5018ffff1a6e00006b6179")

abbrev pub local_gap_report : List ℕ
local_gap_report =
    lines (
    codes "tas replay"
    ∷ codes "host local 10.0.0.2"
    ∷ codes "flow 0 slot 0.1 10.0.0.2:80 10.0.0.1:40000"
    ∷ codes "0 s.0 passive r:1 iss 0 S seq 100 ack 0 win 65535 = ok"
    ∷ codes "0 c0.0 emit = AS seq 0 ack 101 win 65535 mss 1460"
    ∷ codes "1 s.1 tick = quiet"
    ∷ codes "1 s.2 rx r:2 A seq 101 ack 1 win 65535 = none"
    ∷ codes "1 p0.0 accept = ok"
    ∷ codes "1 p0.1 recv 65535 = notyet"
    ∷ codes "2 s.3 tick = quiet"
    ∷ codes "3 s.4 tick = quiet"
    ∷ codes "3 p0.2 send 2 = took 6f6b"
    ∷ codes "3 c0.1 emit = AP seq 1 ack 101 win 65535 data 6f6b"
    ∷ codes "4 s.5 tick = quiet"
    ∷ codes "4 p0.3 send 2 = took 6179"
    ∷ codes "4 c0.2 emit = AP seq 3 ack 101 win 65535 data 6179"
    ∷ codes "state ESTABLISHED"
    ∷ codes "read 0 -"
    ∷ codes "records 5 frames 5 passed 0 refused 0"
    ∷ codes "end 5 ticks"
    ∷ [])

-- In one tick a segment of no flow is answered and a flow is opened: what the flow sends is written first, and the
-- answer to the segment of no flow last, though its frame came first.
abbrev pub strays_last_capture : List ℕ
strays_last_capture =
    unhex (codes "d4c3b2a1020004000000000000000000ffff000065000000")
    ++ unhex (codes "000000000000000028000000280000004500002800004000400626ce0a0000010a000002000100500000000500000009")
    ++ unhex (codes "5010ffff9b730000")
    ++ unhex (codes "010000000000000028000000280000004500002800004000400626ce0a0000010a0000029c4000500000006400000000")
    ++ unhex (codes "5002fffffeeb0000")

abbrev pub strays_last_sent : List ℕ
strays_last_sent =
    unhex (codes "d4c3b2a1020004000000000000000000ffff000065000000")
    ++ unhex (codes "00000000000000002c0000002c0000004500002c00004000400626ca0a0000020a00000100509c400000000000000065")
    ++ unhex (codes "6012ffffe71e0000020405b4")
    ++ unhex (codes "000000000000000028000000280000004500002800004000400626ce0a0000020a000001005000010000000900000000")
    ++ unhex (codes "500400009b840000")

-- Replays whose windows are scaled (RFC 7323, section 2): for each the bytes of a capture and the report of its replay,
-- the first written by another program, the second by hand.
use Rattle.std.specs.Prelude.{ℕ, List, [], ◌∷◌, ◌++◌, codes}
use Rattle.tas_runs.specs.WorkedTexts.{unhex, lines}

-- An upload over Ethernet: both SYN segments bear the shift 7. The answer offers 65,535 bytes, as a SYN does; the next
-- one has room for 262,142, which are 2,047 units of 128.
abbrev pub scaled_upload_capture : List ℕ
scaled_upload_capture =
    unhex (codes "d4c3b2a1020004000000000000000000ffff000001000000")
    ++ unhex (codes "00000000000000004a0000004a00000000000000000000000000000008004500003c00004000400626ba0a0000010a00")
    ++ unhex (codes "00029c4000500000006400000000a002faf09c170000020405b40402080a000000010000000001030307")
    ++ unhex (codes "01000000000000003e0000003e00000000000000000000000000000008004500003000004000400626c60a0000020a00")
    ++ unhex (codes "000100509c4000001b58000000657012ffffb6b80000020405b401030307")
    ++ unhex (codes "02000000000000003c0000003c00000000000000000000000000000008004500002800004000400626ce0a0000010a00")
    ++ unhex (codes "00029c4000500000006500001b595010ffffe3830000000000000000")
    ++ unhex (codes "0300000000000000380000003800000000000000000000000000000008004500002a00004000400626cc0a0000010a00")
    ++ unhex (codes "00029c4000500000006500001b595018ffff7b1000006869")

abbrev pub scaled_upload_report : List ℕ
scaled_upload_report =
    lines (
    codes "tas replay"
    ∷ codes "host local 10.0.0.2"
    ∷ codes "flow 0 slot 0.1 10.0.0.2:80 10.0.0.1:40000"
    ∷ codes "0 s.0 passive r:1 iss 7000 S seq 100 ack 0 win 64240 mss 1460 ws 7 = ok"
    ∷ codes "0 c0.0 emit = AS seq 7000 ack 101 win 65535 mss 1460 ws 7"
    ∷ codes "1 s.1 tick = quiet"
    ∷ codes "2 s.2 tick = quiet"
    ∷ codes "2 s.3 rx r:3 A seq 101 ack 7001 win 65535 = none"
    ∷ codes "2 p0.0 accept = ok"
    ∷ codes "2 p0.1 recv 65535 = notyet"
    ∷ codes "3 s.4 tick = quiet"
    ∷ codes "3 c0.1 rx r:4 AP seq 101 ack 7001 win 65535 data 6869 = A seq 7001 ack 103 win 2047"
    ∷ codes "3 p0.2 recv 65535 = got 6869"
    ∷ codes "state ESTABLISHED"
    ∷ codes "read 2 6869"
    ∷ codes "records 4 frames 4 passed 0 refused 0"
    ∷ codes "end 4 ticks"
    ∷ [])

-- A connect whose SYN bears the shift 12, and is sent again with the shift 2: the flow's is that of the first, of which
-- it takes 10. It has room for 262,144 bytes, which are 256 units of 1,024, and for 255 whole ones once two bytes came.
-- The next flow of the four-tuple has the next number, whose SYN bears no shift: its answer bears none either.
abbrev pub own_scales_capture : List ℕ
own_scales_capture =
    unhex (codes "d4c3b2a1020004000000000000000000ffff000065000000")
    ++ unhex (codes "000000000000000030000000300000004500003000004000400626c60a0000020a00000100509c4000001b5800000000")
    ++ unhex (codes "7002ffffb8280000020405b40103030c")
    ++ unhex (codes "010000000000000030000000300000004500003000004000400626c60a0000020a00000100509c4000001b5800000000")
    ++ unhex (codes "7002ffffb8320000020405b401030302")
    ++ unhex (codes "020000000000000030000000300000004500003000004000400626c60a0000010a0000029c4000500000006400001b59")
    ++ unhex (codes "701201f4b5c80000020405b401030303")
    ++ unhex (codes "03000000000000002a0000002a0000004500002a00004000400626cc0a0000010a0000029c4000500000006500001b59")
    ++ unhex (codes "501801f4791c00006869")
    ++ unhex (codes "040000000000000028000000280000004500002800004000400626ce0a0000010a0000029c4000500000006700000000")
    ++ unhex (codes "50040000fee60000")
    ++ unhex (codes "050000000000000030000000300000004500003000004000400626c60a0000010a0000029c4000500000038400000000")
    ++ unhex (codes "700201f4ce110000020405b401030303")
    ++ unhex (codes "06000000000000002c0000002c0000004500002c00004000400626ca0a0000020a00000100509c400000232800000385")
    ++ unhex (codes "6012ffffc0d60000020405b4")

abbrev pub own_scales_report : List ℕ
own_scales_report =
    lines (
    codes "tas replay"
    ∷ codes "host local 10.0.0.2"
    ∷ codes "flow 0 slot 0.1 10.0.0.2:80 10.0.0.1:40000"
    ∷ codes "0 p0.0 connect iss 7000 = ok"
    ∷ codes "0 c0.0 emit = S seq 7000 ack 0 win 65535 mss 1460 ws 10"
    ∷ codes "1 s.0 tick = quiet"
    ∷ codes "2 s.1 tick = quiet"
    ∷ codes "2 s.2 rx r:3 AS seq 100 ack 7001 win 500 mss 1460 ws 3 = A seq 7001 ack 101 win 256"
    ∷ codes "2 p0.1 recv 65535 = notyet"
    ∷ codes "3 s.3 tick = quiet"
    ∷ codes "3 c0.1 rx r:4 AP seq 101 ack 7001 win 500 data 6869 = A seq 7001 ack 103 win 255"
    ∷ codes "3 p0.2 recv 65535 = got 6869"
    ∷ codes "4 s.4 tick = quiet"
    ∷ codes "4 s.5 rx r:5 R seq 103 ack 0 win 0 = none"
    ∷ codes "4 p0.3 recv 65535 = closed reset"
    ∷ codes "state CLOSED reset"
    ∷ codes "read 2 6869"
    ∷ codes "flow 1 slot 0.2 10.0.0.2:80 10.0.0.1:40000"
    ∷ codes "5 s.0 passive r:6 iss 9000 S seq 900 ack 0 win 500 mss 1460 ws 3 = ok"
    ∷ codes "5 c0.0 emit = AS seq 9000 ack 901 win 65535 mss 1460"
    ∷ codes "6 s.1 tick = quiet"
    ∷ codes "state SYN-RECEIVED"
    ∷ codes "read 0 -"
    ∷ codes "records 7 frames 7 passed 0 refused 0"
    ∷ codes "end 7 ticks"
    ∷ [])

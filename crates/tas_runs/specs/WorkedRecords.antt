-- Worked replays of what the records of a capture are, which batches they come in, and what the local script does with
-- them.
use Rattle.std.specs.Prelude.{ℕ, List, [], ◌∷◌, ◌++◌, codes}
use Rattle.tas_runs.specs.WorkedTexts.{unhex, lines}

-- A packet with a wrong checksum is a line of the log and changes nothing.
abbrev pub damaged_capture : List ℕ
damaged_capture =
    unhex (codes "d4c3b2a1020004000000000000000000ffff000065000000")
    ++ unhex (codes
    "000000000000000028000000280000004500002800004000400626ce0a0000010a0000029c40005000000064000000005002fffffeeb0000")
    ++ unhex (codes
    "010000000000000028000000280000004500002800004000400626ce0a0000010a0000029c40005000000065000000015010fffffedb0000")
    ++ unhex (codes
    "02000000000000002a0000002a0000004500002a00004000400626cc0a0000010a0000029c40005000000065000000015018ffff96680000686a")

abbrev pub damaged_report : List ℕ
damaged_report =
    lines (
    codes "tas replay"
    ∷ codes "host local 10.0.0.2"
    ∷ codes "1 refused r:3 = 9"
    ∷ codes "flow 0 slot 0.1 10.0.0.2:80 10.0.0.1:40000"
    ∷ codes "0 s.0 passive r:1 iss 0 S seq 100 ack 0 win 65535 = ok"
    ∷ codes "0 c0.0 emit = AS seq 0 ack 101 win 65535 mss 1460"
    ∷ codes "1 s.1 tick = quiet"
    ∷ codes "1 s.2 rx r:2 A seq 101 ack 1 win 65535 = none"
    ∷ codes "1 p0.0 accept = ok"
    ∷ codes "1 p0.1 recv 65535 = notyet"
    ∷ codes "state ESTABLISHED"
    ∷ codes "read 0 -"
    ∷ codes "records 3 frames 2 passed 0 refused 1"
    ∷ codes "end 2 ticks"
    ∷ [])

-- The same capture where checksums are not looked at: its data are received.
abbrev pub loose_report : List ℕ
loose_report =
    lines (
    codes "tas replay"
    ∷ codes "host local 10.0.0.2"
    ∷ codes "flow 0 slot 0.1 10.0.0.2:80 10.0.0.1:40000"
    ∷ codes "0 s.0 passive r:1 iss 0 S seq 100 ack 0 win 65535 = ok"
    ∷ codes "0 c0.0 emit = AS seq 0 ack 101 win 65535 mss 1460"
    ∷ codes "1 s.1 tick = quiet"
    ∷ codes "1 s.2 rx r:2 A seq 101 ack 1 win 65535 = none"
    ∷ codes "1 p0.0 accept = ok"
    ∷ codes "1 p0.1 recv 65535 = notyet"
    ∷ codes "2 s.3 tick = quiet"
    ∷ codes "2 c0.1 rx r:3 AP seq 101 ack 1 win 65535 data 686a = A seq 1 ack 103 win 65533"
    ∷ codes "2 p0.2 recv 65535 = got 686a"
    ∷ codes "state ESTABLISHED"
    ∷ codes "read 2 686a"
    ∷ codes "records 3 frames 3 passed 0 refused 0"
    ∷ codes "end 3 ticks"
    ∷ [])

-- Two segments of one four-tuple never share a batch, also where no flow stands.
abbrev pub two_strays_capture : List ℕ
two_strays_capture =
    unhex (codes "d4c3b2a1020004000000000000000000ffff000065000000")
    ++ unhex (codes
    "000000000000000028000000280000004500002800004000400626ce0a0000010a0000020007005000000001000000005004ffff9b860000")
    ++ unhex (codes
    "010000000000000028000000280000004500002800004000400626ce0a0000010a0000020007005000000001000000005004ffff9b860000")

abbrev pub two_strays_report : List ℕ
two_strays_report =
    lines (
    codes "tas replay"
    ∷ codes "host local 10.0.0.2"
    ∷ codes "0 stray r:1 R seq 1 ack 0 win 65535 = none"
    ∷ codes "1 stray r:2 R seq 1 ack 0 win 65535 = none"
    ∷ codes "records 2 frames 2 passed 0 refused 0"
    ∷ codes "end 2 ticks"
    ∷ [])

-- Records that are passed over make no batch.
abbrev pub other_traffic_capture : List ℕ
other_traffic_capture =
    unhex (codes "d4c3b2a1020004000000000000000000ffff000065000000")
    ++ unhex (codes
    "000000000000000028000000280000004500002800004000401126ce0a0000010a0000029c40005000000064000000005002fffffeeb0000")
    ++ unhex (codes
    "010000000000000028000000280000004500002800004000401126ce0a0000010a0000029c40005000000064000000005002fffffeeb0000")
    ++ unhex (codes
    "020000000000000028000000280000004500002800004000401126ce0a0000010a0000029c40005000000064000000005002fffffeeb0000")

abbrev pub other_traffic_report : List ℕ
other_traffic_report =
    lines (
    codes "tas replay"
    ∷ codes "host local 10.0.0.2"
    ∷ codes "records 3 frames 0 passed 3 refused 0"
    ∷ codes "end 0 ticks"
    ∷ [])

-- A packet that breaks two rules is refused by the first, as a frame is read.
abbrev pub two_faults_capture : List ℕ
two_faults_capture =
    unhex (codes "d4c3b2a1020004000000000000000000ffff000065000000")
    ++ unhex (codes
    "000000000000000028000000280000004500002800004000400627ce0a0000010a0000029c40005000000064000000004002fffffeeb0000")

abbrev pub two_faults_report : List ℕ
two_faults_report =
    lines (
    codes "tas replay"
    ∷ codes "host local 10.0.0.2"
    ∷ codes "0 refused r:1 = 7"
    ∷ codes "records 1 frames 0 passed 0 refused 1"
    ∷ codes "end 1 ticks"
    ∷ [])

-- A connect takes the first number that the capture shows for its flow, also where its own SYN bears another.
abbrev pub later_number_capture : List ℕ
later_number_capture =
    unhex (codes "d4c3b2a1020004000000000000000000ffff000065000000")
    ++ unhex (codes
    "000000000000000028000000280000004500002800004000400626ce0a0000020a00000100509c4000001b58000000655012ffffe3820000")
    ++ unhex (codes
    "010000000000000028000000280000004500002800004000400626ce0a0000020a00000100509c4000002328000000005002ffffdc270000")

abbrev pub later_number_report : List ℕ
later_number_report =
    lines (
    codes "tas replay"
    ∷ codes "host local 10.0.0.2"
    ∷ codes "flow 0 slot 0.1 10.0.0.2:80 10.0.0.1:40000"
    ∷ codes "1 p0.0 connect iss 7000 = ok"
    ∷ codes "1 c0.0 emit = S seq 7000 ack 0 win 65535 mss 1460"
    ∷ codes "state SYN-SENT"
    ∷ codes "read 0 -"
    ∷ codes "records 2 frames 2 passed 0 refused 0"
    ∷ codes "end 2 ticks"
    ∷ [])

-- Where the capture shows no first number, it is that of the opening, all openings counted.
abbrev pub counted_openings_capture : List ℕ
counted_openings_capture =
    unhex (codes "d4c3b2a1020004000000000000000000ffff000065000000")
    ++ unhex (codes
    "000000000000000028000000280000004500002800004000400626ce0a0000010a0000020001005000000064000000005002ffff9b2b0000")
    ++ unhex (codes
    "010000000000000028000000280000004500002800004000400626ce0a0000020a0000010050000100001b58000000655012ffff7fc20000")
    ++ unhex (codes
    "020000000000000028000000280000004500002800004000400626ce0a0000010a0000020002005000000064000000005002ffff9b2a0000")

abbrev pub counted_openings_report : List ℕ
counted_openings_report =
    lines (
    codes "tas replay"
    ∷ codes "host local 10.0.0.2"
    ∷ codes "flow 0 slot 0.1 10.0.0.2:80 10.0.0.1:1"
    ∷ codes "0 s.0 passive r:1 iss 7000 S seq 100 ack 0 win 65535 = ok"
    ∷ codes "0 c0.0 emit = AS seq 7000 ack 101 win 65535 mss 1460"
    ∷ codes "1 s.1 tick = quiet"
    ∷ codes "state SYN-RECEIVED"
    ∷ codes "read 0 -"
    ∷ codes "flow 1 slot 1.1 10.0.0.2:80 10.0.0.1:2"
    ∷ codes "1 s.0 passive r:3 iss 64000 S seq 100 ack 0 win 65535 = ok"
    ∷ codes "1 c0.0 emit = AS seq 64000 ack 101 win 65535 mss 1460"
    ∷ codes "state SYN-RECEIVED"
    ∷ codes "read 0 -"
    ∷ codes "records 3 frames 3 passed 0 refused 0"
    ∷ codes "end 2 ticks"
    ∷ [])

-- Local data with a FIN are sent and the stream is shut in one tick.
abbrev pub data_and_end_capture : List ℕ
data_and_end_capture =
    unhex (codes "d4c3b2a1020004000000000000000000ffff000065000000")
    ++ unhex (codes
    "000000000000000028000000280000004500002800004000400626ce0a0000010a0000029c40005000000064000000005002fffffeeb0000")
    ++ unhex (codes
    "010000000000000028000000280000004500002800004000400626ce0a0000010a0000029c40005000000065000000015010fffffedb0000")
    ++ unhex (codes
    "02000000000000002a0000002a0000004500002a00004000400626cc0a0000010a0000029c40005000000065000000015018ffff966800006869")
    ++ unhex (codes
    "03000000000000002a0000002a0000004500002a00004000400626cc0a0000020a00000100509c4000000001000000675019ffff8f6300006f6b")

abbrev pub data_and_end_report : List ℕ
data_and_end_report =
    lines (
    codes "tas replay"
    ∷ codes "host local 10.0.0.2"
    ∷ codes "flow 0 slot 0.1 10.0.0.2:80 10.0.0.1:40000"
    ∷ codes "0 s.0 passive r:1 iss 0 S seq 100 ack 0 win 65535 = ok"
    ∷ codes "0 c0.0 emit = AS seq 0 ack 101 win 65535 mss 1460"
    ∷ codes "1 s.1 tick = quiet"
    ∷ codes "1 s.2 rx r:2 A seq 101 ack 1 win 65535 = none"
    ∷ codes "1 p0.0 accept = ok"
    ∷ codes "1 p0.1 recv 65535 = notyet"
    ∷ codes "2 s.3 tick = quiet"
    ∷ codes "2 c0.1 rx r:3 AP seq 101 ack 1 win 65535 data 6869 = A seq 1 ack 103 win 65533"
    ∷ codes "2 p0.2 recv 65535 = got 6869"
    ∷ codes "3 s.4 tick = quiet"
    ∷ codes "3 p0.3 send 2 = took 6f6b"
    ∷ codes "3 p0.4 shut = ok"
    ∷ codes "3 c0.2 emit = AP seq 1 ack 103 win 65535 data 6f6b"
    ∷ codes "3 c0.3 emit = AF seq 3 ack 103 win 65535"
    ∷ codes "state FIN-WAIT-1"
    ∷ codes "read 2 6869"
    ∷ codes "records 4 frames 4 passed 0 refused 0"
    ∷ codes "end 4 ticks"
    ∷ [])

-- What the local side sent before the handshake was over is offered after it.
abbrev pub early_data_capture : List ℕ
early_data_capture =
    unhex (codes "d4c3b2a1020004000000000000000000ffff000065000000")
    ++ unhex (codes
    "000000000000000028000000280000004500002800004000400626ce0a0000010a0000029c40005000000064000000005002fffffeeb0000")
    ++ unhex (codes
    "01000000000000002a0000002a0000004500002a00004000400626cc0a0000020a00000100509c4000000001000000655019ffff8f6500006f6b")
    ++ unhex (codes
    "020000000000000028000000280000004500002800004000400626ce0a0000010a0000029c40005000000065000000015010fffffedb0000")

abbrev pub early_data_report : List ℕ
early_data_report =
    lines (
    codes "tas replay"
    ∷ codes "host local 10.0.0.2"
    ∷ codes "flow 0 slot 0.1 10.0.0.2:80 10.0.0.1:40000"
    ∷ codes "0 s.0 passive r:1 iss 0 S seq 100 ack 0 win 65535 = ok"
    ∷ codes "0 c0.0 emit = AS seq 0 ack 101 win 65535 mss 1460"
    ∷ codes "1 s.1 tick = quiet"
    ∷ codes "2 s.2 tick = quiet"
    ∷ codes "2 s.3 rx r:3 A seq 101 ack 1 win 65535 = none"
    ∷ codes "2 p0.0 accept = ok"
    ∷ codes "2 p0.1 send 2 = took 6f6b"
    ∷ codes "2 p0.2 shut = ok"
    ∷ codes "2 p0.3 recv 65535 = notyet"
    ∷ codes "2 c0.1 emit = AP seq 1 ack 101 win 65535 data 6f6b"
    ∷ codes "2 c0.2 emit = AF seq 3 ack 101 win 65535"
    ∷ codes "state FIN-WAIT-1"
    ∷ codes "read 0 -"
    ∷ codes "records 3 frames 3 passed 0 refused 0"
    ∷ codes "end 3 ticks"
    ∷ [])

-- After a refused connect the application still asks to read.
abbrev pub refused_connect_capture : List ℕ
refused_connect_capture =
    unhex (codes "d4c3b2a1020004000000000000000000ffff000065000000")
    ++ unhex (codes
    "000000000000000028000000280000004500002800004000400626ce0a0000020a00000100509c4000001b58000000005002ffffe3f70000")
    ++ unhex (codes
    "010000000000000028000000280000004500002800004000400626ce0a0000010a0000029c4000500000000000001b595014ffffe3e40000")

abbrev pub refused_connect_report : List ℕ
refused_connect_report =
    lines (
    codes "tas replay"
    ∷ codes "host local 10.0.0.2"
    ∷ codes "flow 0 slot 0.1 10.0.0.2:80 10.0.0.1:40000"
    ∷ codes "0 p0.0 connect iss 7000 = ok"
    ∷ codes "0 c0.0 emit = S seq 7000 ack 0 win 65535 mss 1460"
    ∷ codes "1 s.0 tick = quiet"
    ∷ codes "1 s.1 rx r:2 AR seq 0 ack 7001 win 65535 = none"
    ∷ codes "1 p0.1 recv 65535 = closed refused"
    ∷ codes "state CLOSED refused"
    ∷ codes "read 0 -"
    ∷ codes "records 2 frames 2 passed 0 refused 0"
    ∷ codes "end 2 ticks"
    ∷ [])

-- A flow that is reset before it was accepted gets no call.
abbrev pub reset_while_opening_capture : List ℕ
reset_while_opening_capture =
    unhex (codes "d4c3b2a1020004000000000000000000ffff000065000000")
    ++ unhex (codes
    "000000000000000028000000280000004500002800004000400626ce0a0000010a0000029c40005000000064000000005002fffffeeb0000")
    ++ unhex (codes
    "010000000000000028000000280000004500002800004000400626ce0a0000010a0000029c40005000000065000000005004fffffee80000")

abbrev pub reset_while_opening_report : List ℕ
reset_while_opening_report =
    lines (
    codes "tas replay"
    ∷ codes "host local 10.0.0.2"
    ∷ codes "flow 0 slot 0.1 10.0.0.2:80 10.0.0.1:40000"
    ∷ codes "0 s.0 passive r:1 iss 0 S seq 100 ack 0 win 65535 = ok"
    ∷ codes "0 c0.0 emit = AS seq 0 ack 101 win 65535 mss 1460"
    ∷ codes "1 s.1 tick = quiet"
    ∷ codes "1 s.2 rx r:2 R seq 101 ack 0 win 65535 = none"
    ∷ codes "state CLOSED reset"
    ∷ codes "read 0 -"
    ∷ codes "records 2 frames 2 passed 0 refused 0"
    ∷ codes "end 2 ticks"
    ∷ [])

-- A local reset aborts a flow that was not accepted yet.
abbrev pub abort_while_opening_capture : List ℕ
abort_while_opening_capture =
    unhex (codes "d4c3b2a1020004000000000000000000ffff000065000000")
    ++ unhex (codes
    "000000000000000028000000280000004500002800004000400626ce0a0000010a0000029c40005000000064000000005002fffffeeb0000")
    ++ unhex (codes
    "010000000000000028000000280000004500002800004000400626ce0a0000020a00000100509c4000000001000000005004ffffff4c0000")

abbrev pub abort_while_opening_report : List ℕ
abort_while_opening_report =
    lines (
    codes "tas replay"
    ∷ codes "host local 10.0.0.2"
    ∷ codes "flow 0 slot 0.1 10.0.0.2:80 10.0.0.1:40000"
    ∷ codes "0 s.0 passive r:1 iss 0 S seq 100 ack 0 win 65535 = ok"
    ∷ codes "0 c0.0 emit = AS seq 0 ack 101 win 65535 mss 1460"
    ∷ codes "1 s.1 tick = quiet"
    ∷ codes "1 p0.0 abort = R seq 1 ack 0 win 0"
    ∷ codes "state CLOSED aborted"
    ∷ codes "read 0 -"
    ∷ codes "records 2 frames 2 passed 0 refused 0"
    ∷ codes "end 2 ticks"
    ∷ [])

-- A four-tuple is opened again after its flow was closed, and its slot has the next generation.
abbrev pub used_again_capture : List ℕ
used_again_capture =
    unhex (codes "d4c3b2a1020004000000000000000000ffff000065000000")
    ++ unhex (codes
    "000000000000000028000000280000004500002800004000400626ce0a0000010a0000029c40005000000064000000005002fffffeeb0000")
    ++ unhex (codes
    "010000000000000028000000280000004500002800004000400626ce0a0000010a0000029c40005000000065000000015010fffffedb0000")
    ++ unhex (codes
    "02000000000000002a0000002a0000004500002a00004000400626cc0a0000010a0000029c40005000000065000000015018ffff966800006869")
    ++ unhex (codes
    "030000000000000028000000280000004500002800004000400626ce0a0000010a0000029c40005000000067000000005004fffffee60000")
    ++ unhex (codes
    "040000000000000028000000280000004500002800004000400626ce0a0000010a0000029c400050000001f4000000005002fffffd5b0000")

abbrev pub used_again_report : List ℕ
used_again_report =
    lines (
    codes "tas replay"
    ∷ codes "host local 10.0.0.2"
    ∷ codes "flow 0 slot 0.1 10.0.0.2:80 10.0.0.1:40000"
    ∷ codes "0 s.0 passive r:1 iss 0 S seq 100 ack 0 win 65535 = ok"
    ∷ codes "0 c0.0 emit = AS seq 0 ack 101 win 65535 mss 1460"
    ∷ codes "1 s.1 tick = quiet"
    ∷ codes "1 s.2 rx r:2 A seq 101 ack 1 win 65535 = none"
    ∷ codes "1 p0.0 accept = ok"
    ∷ codes "1 p0.1 recv 65535 = notyet"
    ∷ codes "2 s.3 tick = quiet"
    ∷ codes "2 c0.1 rx r:3 AP seq 101 ack 1 win 65535 data 6869 = A seq 1 ack 103 win 65533"
    ∷ codes "2 p0.2 recv 65535 = got 6869"
    ∷ codes "3 s.4 tick = quiet"
    ∷ codes "3 s.5 rx r:4 R seq 103 ack 0 win 65535 = none"
    ∷ codes "3 p0.3 recv 65535 = closed reset"
    ∷ codes "state CLOSED reset"
    ∷ codes "read 2 6869"
    ∷ codes "flow 1 slot 0.2 10.0.0.2:80 10.0.0.1:40000"
    ∷ codes "4 s.0 passive r:5 iss 64000 S seq 500 ack 0 win 65535 = ok"
    ∷ codes "4 c0.0 emit = AS seq 64000 ack 501 win 65535 mss 1460"
    ∷ codes "state SYN-RECEIVED"
    ∷ codes "read 0 -"
    ∷ codes "records 5 frames 5 passed 0 refused 0"
    ∷ codes "end 5 ticks"
    ∷ [])

-- A segment that comes after its flow was closed by a reset is of no flow, and is answered by a reset.
abbrev pub late_segment_capture : List ℕ
late_segment_capture =
    unhex (codes "d4c3b2a1020004000000000000000000ffff000065000000")
    ++ unhex (codes
    "000000000000000028000000280000004500002800004000400626ce0a0000010a0000029c40005000000064000000005002fffffeeb0000")
    ++ unhex (codes
    "010000000000000028000000280000004500002800004000400626ce0a0000010a0000029c40005000000065000000015010fffffedb0000")
    ++ unhex (codes
    "02000000000000002a0000002a0000004500002a00004000400626cc0a0000010a0000029c40005000000065000000015018ffff966800006869")
    ++ unhex (codes
    "030000000000000028000000280000004500002800004000400626ce0a0000010a0000029c40005000000067000000015014fffffed50000")
    ++ unhex (codes
    "040000000000000028000000280000004500002800004000400626ce0a0000010a0000029c40005000000067000000015010fffffed90000")

abbrev pub late_segment_report : List ℕ
late_segment_report =
    lines (
    codes "tas replay"
    ∷ codes "host local 10.0.0.2"
    ∷ codes "4 stray r:5 A seq 103 ack 1 win 65535 = R seq 1 ack 0 win 0"
    ∷ codes "flow 0 slot 0.1 10.0.0.2:80 10.0.0.1:40000"
    ∷ codes "0 s.0 passive r:1 iss 0 S seq 100 ack 0 win 65535 = ok"
    ∷ codes "0 c0.0 emit = AS seq 0 ack 101 win 65535 mss 1460"
    ∷ codes "1 s.1 tick = quiet"
    ∷ codes "1 s.2 rx r:2 A seq 101 ack 1 win 65535 = none"
    ∷ codes "1 p0.0 accept = ok"
    ∷ codes "1 p0.1 recv 65535 = notyet"
    ∷ codes "2 s.3 tick = quiet"
    ∷ codes "2 c0.1 rx r:3 AP seq 101 ack 1 win 65535 data 6869 = A seq 1 ack 103 win 65533"
    ∷ codes "2 p0.2 recv 65535 = got 6869"
    ∷ codes "3 s.4 tick = quiet"
    ∷ codes "3 s.5 rx r:4 AR seq 103 ack 1 win 65535 = none"
    ∷ codes "3 p0.3 recv 65535 = closed reset"
    ∷ codes "state CLOSED reset"
    ∷ codes "read 2 6869"
    ∷ codes "records 5 frames 5 passed 0 refused 0"
    ∷ codes "end 5 ticks"
    ∷ [])

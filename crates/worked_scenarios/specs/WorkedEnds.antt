-- Worked runs of scenarios: for each its text and the report of its run in serial order. The reports were written
-- by another program.
use Rattle.std.specs.Prelude.{ℕ, List, [], ◌∷◌, ◌++◌, codes}
use Rattle.tas_runs.specs.WorkedTexts.{lines}
use Rattle.scenario_runs.specs.WorkedRuns.{hello}
use Rattle.worked_scenarios.specs.WorkedTalks.{nobody}

-- Nobody listens, and every frame of the host is lost; but its answers to segments of no flow are no frames of a flow,
-- so that the report is that of `nobody`.
abbrev pub unanswered : List ℕ
unanswered = nobody ++ lines (codes "dropeach b 1" ∷ [])

-- A client is killed whose script is over, while its socket is still its own.
abbrev pub killed_late : List ℕ
killed_late =
    lines (
    codes "host a 10.0.0.1 iss 1000 rto 3"
    ∷ codes "host b 10.0.0.2 iss 5000 rto 3"
    ∷ codes "app b server"
    ∷ codes "listen lst 80"
    ∷ codes "accept s lst"
    ∷ codes "recv s 5"
    ∷ codes "send s world"
    ∷ codes "close s"
    ∷ codes "app a client"
    ∷ codes "connect s b 80"
    ∷ codes "kill a client at 12"
    ∷ [])

abbrev pub killed_late_report : List ℕ
killed_late_report =
    lines (
    codes "tas run"
    ∷ codes "host a 10.0.0.1"
    ∷ codes "flow 0 slot 0.1 10.0.0.1:49152 10.0.0.2:80"
    ∷ codes "0 p1.0 connect iss 1000 = ok"
    ∷ codes "0 c0.0 emit = S seq 1000 ack 0 win 16384 mss 1460"
    ∷ codes "1 s.0 tick = quiet"
    ∷ codes "1 p1.1 ready = notyet"
    ∷ codes "2 s.1 tick = quiet"
    ∷ codes "2 s.2 rx b:0.0 AS seq 5000 ack 1001 win 16384 mss 1460 = A seq 1001 ack 5001 win 16384"
    ∷ codes "2 p1.2 ready = ok"
    ∷ codes "3 s.3 tick = quiet"
    ∷ codes "4 s.4 tick = quiet"
    ∷ codes "5 s.5 tick = quiet"
    ∷ codes "6 s.6 tick = quiet"
    ∷ codes "7 s.7 tick = quiet"
    ∷ codes "8 s.8 tick = quiet"
    ∷ codes "9 s.9 tick = quiet"
    ∷ codes "10 s.10 tick = quiet"
    ∷ codes "10 s.11 control = cwnd 4380 ssthresh 65535"
    ∷ codes "11 s.12 tick = quiet"
    ∷ codes "12 s.13 tick = quiet"
    ∷ codes "12 s.14 abort = R seq 1001 ack 0 win 0"
    ∷ codes "state CLOSED aborted"
    ∷ codes "read 0 -"
    ∷ codes "host b 10.0.0.2"
    ∷ codes "0 p0 listen 80 = ok"
    ∷ codes "1 p0 accept 80 = notyet"
    ∷ codes "2 p0 accept 80 = notyet"
    ∷ codes "flow 0 slot 0.1 10.0.0.2:80 10.0.0.1:49152"
    ∷ codes "1 s.0 passive a:0.0 iss 5000 S seq 1000 ack 0 win 16384 mss 1460 = ok"
    ∷ codes "1 c0.0 emit = AS seq 5000 ack 1001 win 16384 mss 1460"
    ∷ codes "2 s.1 tick = quiet"
    ∷ codes "3 s.2 tick = quiet"
    ∷ codes "3 s.3 rx a:0.1 A seq 1001 ack 5001 win 16384 = none"
    ∷ codes "3 p0.0 accept = ok"
    ∷ codes "4 s.4 tick = quiet"
    ∷ codes "4 p0.1 recv 5 = notyet"
    ∷ codes "5 s.5 tick = quiet"
    ∷ codes "5 p0.2 recv 5 = notyet"
    ∷ codes "6 s.6 tick = quiet"
    ∷ codes "6 p0.3 recv 5 = notyet"
    ∷ codes "7 s.7 tick = quiet"
    ∷ codes "7 p0.4 recv 5 = notyet"
    ∷ codes "8 s.8 tick = quiet"
    ∷ codes "8 p0.5 recv 5 = notyet"
    ∷ codes "9 s.9 tick = quiet"
    ∷ codes "9 p0.6 recv 5 = notyet"
    ∷ codes "10 s.10 tick = quiet"
    ∷ codes "10 s.11 control = cwnd 4380 ssthresh 65535"
    ∷ codes "10 p0.7 recv 5 = notyet"
    ∷ codes "11 s.12 tick = quiet"
    ∷ codes "11 p0.8 recv 5 = notyet"
    ∷ codes "12 s.13 tick = quiet"
    ∷ codes "12 p0.9 recv 5 = notyet"
    ∷ codes "13 s.14 tick = quiet"
    ∷ codes "13 s.15 rx a:0.2 R seq 1001 ack 0 win 0 = none"
    ∷ codes "13 p0.10 recv 5 = closed reset"
    ∷ codes "14 p0.11 send 5 = closed reset"
    ∷ codes "15 p0.12 close = ok"
    ∷ codes "state CLOSED reset"
    ∷ codes "read 0 -"
    ∷ codes "end 16 ticks"
    ∷ [])

-- The hello, and a kill after its end.
abbrev pub killed_after : List ℕ
killed_after = hello ++ lines (codes "kill a client at 100" ∷ [])

-- A slot is kept until the flow is closed and given up.
abbrev pub slot_kept : List ℕ
slot_kept =
    lines (
    codes "host a 10.0.0.1 iss 1000 slots 1 rto 3"
    ∷ codes "host b 10.0.0.2 iss 5000 rto 3"
    ∷ codes "app b server"
    ∷ codes "listen lst 80"
    ∷ codes "accept s lst"
    ∷ codes "recv s 5"
    ∷ codes "send s world"
    ∷ codes "close s"
    ∷ codes "app a client"
    ∷ codes "connect s b 80"
    ∷ codes "send s hello"
    ∷ codes "recv s 5"
    ∷ codes "close s"
    ∷ codes "app a late"
    ∷ codes "wait 8"
    ∷ codes "connect s b 80"
    ∷ codes "close s"
    ∷ [])

abbrev pub slot_kept_report : List ℕ
slot_kept_report =
    lines (
    codes "tas run"
    ∷ codes "host a 10.0.0.1"
    ∷ codes "8 p2 connect 10.0.0.2:80 = noflowslot"
    ∷ codes "flow 0 slot 0.1 10.0.0.1:49152 10.0.0.2:80"
    ∷ codes "0 p1.0 connect iss 1000 = ok"
    ∷ codes "0 c0.0 emit = S seq 1000 ack 0 win 16384 mss 1460"
    ∷ codes "1 s.0 tick = quiet"
    ∷ codes "1 p1.1 ready = notyet"
    ∷ codes "2 s.1 tick = quiet"
    ∷ codes "2 s.2 rx b:0.0 AS seq 5000 ack 1001 win 16384 mss 1460 = A seq 1001 ack 5001 win 16384"
    ∷ codes "2 p1.2 ready = ok"
    ∷ codes "3 s.3 tick = quiet"
    ∷ codes "3 p1.3 send 5 = took 68656c6c6f"
    ∷ codes "3 c0.1 emit = AP seq 1001 ack 5001 win 16384 data 68656c6c6f"
    ∷ codes "4 s.4 tick = quiet"
    ∷ codes "4 p1.4 recv 5 = notyet"
    ∷ codes "5 s.5 tick = quiet"
    ∷ codes "5 c0.2 rx b:0.1 A seq 5001 ack 1006 win 16379 = none"
    ∷ codes "5 p1.5 recv 5 = notyet"
    ∷ codes "6 s.6 tick = quiet"
    ∷ codes "6 c0.3 rx b:0.2 AP seq 5001 ack 1006 win 16384 data 776f726c64 = A seq 1006 ack 5006 win 16379"
    ∷ codes "6 p1.6 recv 5 = got 776f726c64"
    ∷ codes "7 s.7 tick = quiet"
    ∷ codes "7 s.8 rx b:0.3 AF seq 5006 ack 1006 win 16384 = A seq 1006 ack 5007 win 16384"
    ∷ codes "7 p1.7 close = ok"
    ∷ codes "7 c0.4 emit = AF seq 1006 ack 5007 win 16384"
    ∷ codes "8 s.9 tick = quiet"
    ∷ codes "9 s.10 tick = quiet"
    ∷ codes "9 s.11 rx b:0.4 A seq 5007 ack 1007 win 16384 = none"
    ∷ codes "state CLOSED done"
    ∷ codes "read 5 776f726c64"
    ∷ codes "host b 10.0.0.2"
    ∷ codes "0 p0 listen 80 = ok"
    ∷ codes "1 p0 accept 80 = notyet"
    ∷ codes "2 p0 accept 80 = notyet"
    ∷ codes "flow 0 slot 0.1 10.0.0.2:80 10.0.0.1:49152"
    ∷ codes "1 s.0 passive a:0.0 iss 5000 S seq 1000 ack 0 win 16384 mss 1460 = ok"
    ∷ codes "1 c0.0 emit = AS seq 5000 ack 1001 win 16384 mss 1460"
    ∷ codes "2 s.1 tick = quiet"
    ∷ codes "3 s.2 tick = quiet"
    ∷ codes "3 s.3 rx a:0.1 A seq 1001 ack 5001 win 16384 = none"
    ∷ codes "3 p0.0 accept = ok"
    ∷ codes "4 s.4 tick = quiet"
    ∷ codes "4 c0.1 rx a:0.2 AP seq 1001 ack 5001 win 16384 data 68656c6c6f = A seq 5001 ack 1006 win 16379"
    ∷ codes "4 p0.1 recv 5 = got 68656c6c6f"
    ∷ codes "5 s.5 tick = quiet"
    ∷ codes "5 p0.2 send 5 = took 776f726c64"
    ∷ codes "5 c0.2 emit = AP seq 5001 ack 1006 win 16384 data 776f726c64"
    ∷ codes "6 s.6 tick = quiet"
    ∷ codes "6 p0.3 close = ok"
    ∷ codes "6 c0.3 emit = AF seq 5006 ack 1006 win 16384"
    ∷ codes "7 s.7 tick = quiet"
    ∷ codes "7 c0.4 rx a:0.3 A seq 1006 ack 5006 win 16379 = none"
    ∷ codes "8 s.8 tick = quiet"
    ∷ codes "8 c0.5 rx a:0.4 A seq 1006 ack 5007 win 16384 = none"
    ∷ codes "8 s.9 rx a:0.5 AF seq 1006 ack 5007 win 16384 = A seq 5007 ack 1007 win 16384"
    ∷ codes "9 s.10 tick = quiet"
    ∷ codes "10 s.11 tick = quiet"
    ∷ codes "10 s.12 control = cwnd 4386 ssthresh 65535"
    ∷ codes "11 s.13 tick = quiet"
    ∷ codes "12 s.14 tick = quiet"
    ∷ codes "13 s.15 tick = quiet"
    ∷ codes "14 s.16 tick = quiet"
    ∷ codes "15 s.17 tick = quiet"
    ∷ codes "16 s.18 tick = quiet"
    ∷ codes "17 s.19 tick = quiet"
    ∷ codes "18 s.20 tick = quiet"
    ∷ codes "19 s.21 tick = quiet"
    ∷ codes "20 s.22 tick = done"
    ∷ codes "state CLOSED done"
    ∷ codes "read 5 68656c6c6f"
    ∷ codes "end 21 ticks"
    ∷ [])

-- The limit ends a run whose scripts have not ended.
abbrev pub stalled : List ℕ
stalled =
    lines (
    codes "host a 10.0.0.1 iss 1000 rto 3"
    ∷ codes "host b 10.0.0.2 iss 5000 rto 3"
    ∷ codes "app b server"
    ∷ codes "listen lst 80"
    ∷ codes "accept s lst"
    ∷ codes "recv s 5"
    ∷ codes "send s world"
    ∷ codes "close s"
    ∷ codes "app a client"
    ∷ codes "connect s b 80"
    ∷ codes "send s hello"
    ∷ codes "recv s 5"
    ∷ codes "close s"
    ∷ codes "limit 3"
    ∷ [])

abbrev pub stalled_report : List ℕ
stalled_report =
    lines (
    codes "tas run"
    ∷ codes "host a 10.0.0.1"
    ∷ codes "flow 0 slot 0.1 10.0.0.1:49152 10.0.0.2:80"
    ∷ codes "0 p1.0 connect iss 1000 = ok"
    ∷ codes "0 c0.0 emit = S seq 1000 ack 0 win 16384 mss 1460"
    ∷ codes "1 s.0 tick = quiet"
    ∷ codes "1 p1.1 ready = notyet"
    ∷ codes "2 s.1 tick = quiet"
    ∷ codes "2 s.2 rx b:0.0 AS seq 5000 ack 1001 win 16384 mss 1460 = A seq 1001 ack 5001 win 16384"
    ∷ codes "2 p1.2 ready = ok"
    ∷ codes "state ESTABLISHED"
    ∷ codes "read 0 -"
    ∷ codes "host b 10.0.0.2"
    ∷ codes "0 p0 listen 80 = ok"
    ∷ codes "1 p0 accept 80 = notyet"
    ∷ codes "2 p0 accept 80 = notyet"
    ∷ codes "flow 0 slot 0.1 10.0.0.2:80 10.0.0.1:49152"
    ∷ codes "1 s.0 passive a:0.0 iss 5000 S seq 1000 ack 0 win 16384 mss 1460 = ok"
    ∷ codes "1 c0.0 emit = AS seq 5000 ack 1001 win 16384 mss 1460"
    ∷ codes "2 s.1 tick = quiet"
    ∷ codes "state SYN-RECEIVED"
    ∷ codes "read 0 -"
    ∷ codes "end 3 ticks"
    ∷ [])

-- A run of three ticks.
abbrev pub cut_short : List ℕ
cut_short =
    lines (
    codes "limit 3"
    ∷ codes "host a 10.0.0.1"
    ∷ codes "host b 10.0.0.2"
    ∷ codes "app b x"
    ∷ codes "listen l 80"
    ∷ codes "app a y"
    ∷ codes "wait 1"
    ∷ codes "connect s b 80"
    ∷ [])

abbrev pub cut_short_report : List ℕ
cut_short_report =
    lines (
    codes "tas run"
    ∷ codes "host a 10.0.0.1"
    ∷ codes "flow 0 slot 0.1 10.0.0.1:49152 10.0.0.2:80"
    ∷ codes "1 p1.0 connect iss 0 = ok"
    ∷ codes "1 c0.0 emit = S seq 0 ack 0 win 16384 mss 1460"
    ∷ codes "2 s.0 tick = quiet"
    ∷ codes "2 p1.1 ready = notyet"
    ∷ codes "state SYN-SENT"
    ∷ codes "read 0 -"
    ∷ codes "host b 10.0.0.2"
    ∷ codes "0 p0 listen 80 = ok"
    ∷ codes "flow 0 slot 0.1 10.0.0.2:80 10.0.0.1:49152"
    ∷ codes "2 s.0 passive a:0.0 iss 0 S seq 0 ack 0 win 16384 mss 1460 = ok"
    ∷ codes "2 c0.0 emit = AS seq 0 ack 1 win 16384 mss 1460"
    ∷ codes "state SYN-RECEIVED"
    ∷ codes "read 0 -"
    ∷ codes "end 3 ticks"
    ∷ [])

-- Flows may be open at the limit.
abbrev pub open_flows : List ℕ
open_flows =
    lines (
    codes "limit 4"
    ∷ codes "host a 10.0.0.1"
    ∷ codes "host b 10.0.0.2"
    ∷ codes "app b x"
    ∷ codes "listen l 80"
    ∷ codes "app a y"
    ∷ codes "wait 1"
    ∷ codes "connect s b 80"
    ∷ [])

abbrev pub open_flows_report : List ℕ
open_flows_report =
    lines (
    codes "tas run"
    ∷ codes "host a 10.0.0.1"
    ∷ codes "flow 0 slot 0.1 10.0.0.1:49152 10.0.0.2:80"
    ∷ codes "1 p1.0 connect iss 0 = ok"
    ∷ codes "1 c0.0 emit = S seq 0 ack 0 win 16384 mss 1460"
    ∷ codes "2 s.0 tick = quiet"
    ∷ codes "2 p1.1 ready = notyet"
    ∷ codes "3 s.1 tick = quiet"
    ∷ codes "3 s.2 rx b:0.0 AS seq 0 ack 1 win 16384 mss 1460 = A seq 1 ack 1 win 16384"
    ∷ codes "3 p1.2 ready = ok"
    ∷ codes "state ESTABLISHED"
    ∷ codes "read 0 -"
    ∷ codes "host b 10.0.0.2"
    ∷ codes "0 p0 listen 80 = ok"
    ∷ codes "flow 0 slot 0.1 10.0.0.2:80 10.0.0.1:49152"
    ∷ codes "2 s.0 passive a:0.0 iss 0 S seq 0 ack 0 win 16384 mss 1460 = ok"
    ∷ codes "2 c0.0 emit = AS seq 0 ack 1 win 16384 mss 1460"
    ∷ codes "3 s.1 tick = quiet"
    ∷ codes "state SYN-RECEIVED"
    ∷ codes "read 0 -"
    ∷ codes "end 4 ticks"
    ∷ [])

-- The hello, and a byte is inverted that the packet does not have.
abbrev pub no_such_byte : List ℕ
no_such_byte = hello ++ lines (codes "corrupt a 0 2 45" ∷ [])

-- Steps on a socket whose connection was refused.
abbrev pub all_steps : List ℕ
all_steps =
    lines (
    codes "host a 10.0.0.1"
    ∷ codes "host b 10.0.0.2"
    ∷ codes "app a x"
    ∷ codes "connect s b 80"
    ∷ codes "send s hi"
    ∷ codes "recv s 1"
    ∷ codes "shut s"
    ∷ codes "abort s"
    ∷ codes "send s hi"
    ∷ codes "close s"
    ∷ [])

abbrev pub all_steps_report : List ℕ
all_steps_report =
    lines (
    codes "tas run"
    ∷ codes "host a 10.0.0.1"
    ∷ codes "flow 0 slot 0.1 10.0.0.1:49152 10.0.0.2:80"
    ∷ codes "0 p0.0 connect iss 0 = ok"
    ∷ codes "0 c0.0 emit = S seq 0 ack 0 win 16384 mss 1460"
    ∷ codes "1 s.0 tick = quiet"
    ∷ codes "1 p0.1 ready = notyet"
    ∷ codes "2 s.1 tick = quiet"
    ∷ codes "2 s.2 rx b:x.0 AR seq 0 ack 1 win 0 = none"
    ∷ codes "2 p0.2 ready = closed refused"
    ∷ codes "3 p0.3 send 2 = closed refused"
    ∷ codes "4 p0.4 recv 1 = closed refused"
    ∷ codes "5 p0.5 shut = closed refused"
    ∷ codes "6 p0.6 abort = closed refused"
    ∷ codes "state CLOSED refused"
    ∷ codes "read 0 -"
    ∷ codes "host b 10.0.0.2"
    ∷ codes "1 stray a:0.0 S seq 0 ack 0 win 16384 mss 1460 = AR seq 0 ack 1 win 0"
    ∷ codes "end 9 ticks"
    ∷ [])

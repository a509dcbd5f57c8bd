-- Worked runs of scenarios: for each its text and the report of its run in serial order. The reports were written by
-- another program.
use Rattle.std.specs.Prelude.{ℕ, List, [], ◌∷◌, ◌++◌, codes}
use Rattle.tas_runs.specs.WorkedTexts.{lines}

-- A space at the front of a text belongs to it.
abbrev pub spaced_text : List ℕ
spaced_text =
    lines (
    codes "host a 10.0.0.1 iss 1000 rto 3"
    ∷ codes "host b 10.0.0.2 iss 5000 rto 3"
    ∷ codes "app b server"
    ∷ codes "listen lst 80"
    ∷ codes "accept s lst"
    ∷ codes "recv s 5"
    ∷ codes "send s world"
    ∷ codes "close s"
    ∷ codes "app a client"
    ∷ codes "connect s b 80"
    ∷ codes "send s  four"
    ∷ codes "recv s 5"
    ∷ codes "close s"
    ∷ [])

abbrev pub spaced_text_report : List ℕ
spaced_text_report =
    lines (
    codes "tas run"
    ∷ codes "host a 10.0.0.1"
    ∷ codes "flow 0 slot 0.1 10.0.0.1:49152 10.0.0.2:80"
    ∷ codes "0 p1.0 connect iss 1000 = ok"
    ∷ codes "0 c0.0 emit = S seq 1000 ack 0 win 16384 mss 1460"
    ∷ codes "1 s.0 tick = quiet"
    ∷ codes "1 p1.1 ready = notyet"
    ∷ codes "2 s.1 tick = quiet"
    ∷ codes "2 s.2 rx b:0.0 AS seq 5000 ack 1001 win 16384 mss 1460 = A seq 1001 ack 5001 win 16384"
    ∷ codes "2 p1.2 ready = ok"
    ∷ codes "3 s.3 tick = quiet"
    ∷ codes "3 p1.3 send 5 = took 20666f7572"
    ∷ codes "3 c0.1 emit = AP seq 1001 ack 5001 win 16384 data 20666f7572"
    ∷ codes "4 s.4 tick = quiet"
    ∷ codes "4 p1.4 recv 5 = notyet"
    ∷ codes "5 s.5 tick = quiet"
    ∷ codes "5 c0.2 rx b:0.1 A seq 5001 ack 1006 win 16379 = none"
    ∷ codes "5 p1.5 recv 5 = notyet"
    ∷ codes "6 s.6 tick = quiet"
    ∷ codes "6 c0.3 rx b:0.2 AP seq 5001 ack 1006 win 16384 data 776f726c64 = A seq 1006 ack 5006 win 16379"
    ∷ codes "6 p1.6 recv 5 = got 776f726c64"
    ∷ codes "7 s.7 tick = quiet"
    ∷ codes "7 s.8 rx b:0.3 AF seq 5006 ack 1006 win 16384 = A seq 1006 ack 5007 win 16384"
    ∷ codes "7 p1.7 close = ok"
    ∷ codes "7 c0.4 emit = AF seq 1006 ack 5007 win 16384"
    ∷ codes "8 s.9 tick = quiet"
    ∷ codes "9 s.10 tick = quiet"
    ∷ codes "9 s.11 rx b:0.4 A seq 5007 ack 1007 win 16384 = none"
    ∷ codes "state CLOSED done"
    ∷ codes "read 5 776f726c64"
    ∷ codes "host b 10.0.0.2"
    ∷ codes "0 p0 listen 80 = ok"
    ∷ codes "1 p0 accept 80 = notyet"
    ∷ codes "2 p0 accept 80 = notyet"
    ∷ codes "flow 0 slot 0.1 10.0.0.2:80 10.0.0.1:49152"
    ∷ codes "1 s.0 passive a:0.0 iss 5000 S seq 1000 ack 0 win 16384 mss 1460 = ok"
    ∷ codes "1 c0.0 emit = AS seq 5000 ack 1001 win 16384 mss 1460"
    ∷ codes "2 s.1 tick = quiet"
    ∷ codes "3 s.2 tick = quiet"
    ∷ codes "3 s.3 rx a:0.1 A seq 1001 ack 5001 win 16384 = none"
    ∷ codes "3 p0.0 accept = ok"
    ∷ codes "4 s.4 tick = quiet"
    ∷ codes "4 c0.1 rx a:0.2 AP seq 1001 ack 5001 win 16384 data 20666f7572 = A seq 5001 ack 1006 win 16379"
    ∷ codes "4 p0.1 recv 5 = got 20666f7572"
    ∷ codes "5 s.5 tick = quiet"
    ∷ codes "5 p0.2 send 5 = took 776f726c64"
    ∷ codes "5 c0.2 emit = AP seq 5001 ack 1006 win 16384 data 776f726c64"
    ∷ codes "6 s.6 tick = quiet"
    ∷ codes "6 p0.3 close = ok"
    ∷ codes "6 c0.3 emit = AF seq 5006 ack 1006 win 16384"
    ∷ codes "7 s.7 tick = quiet"
    ∷ codes "7 c0.4 rx a:0.3 A seq 1006 ack 5006 win 16379 = none"
    ∷ codes "8 s.8 tick = quiet"
    ∷ codes "8 c0.5 rx a:0.4 A seq 1006 ack 5007 win 16384 = none"
    ∷ codes "8 s.9 rx a:0.5 AF seq 1006 ack 5007 win 16384 = A seq 5007 ack 1007 win 16384"
    ∷ codes "9 s.10 tick = quiet"
    ∷ codes "10 s.11 tick = quiet"
    ∷ codes "10 s.12 control = cwnd 4386 ssthresh 65535"
    ∷ codes "11 s.13 tick = quiet"
    ∷ codes "12 s.14 tick = quiet"
    ∷ codes "13 s.15 tick = quiet"
    ∷ codes "14 s.16 tick = quiet"
    ∷ codes "15 s.17 tick = quiet"
    ∷ codes "16 s.18 tick = quiet"
    ∷ codes "17 s.19 tick = quiet"
    ∷ codes "18 s.20 tick = quiet"
    ∷ codes "19 s.21 tick = quiet"
    ∷ codes "20 s.22 tick = done"
    ∷ codes "state CLOSED done"
    ∷ codes "read 5 20666f7572"
    ∷ codes "end 21 ticks"
    ∷ [])

-- Spaces part words, however many, and a line of spaces is empty.
abbrev pub spaced_lines : List ℕ
spaced_lines =
    lines (
    codes "host a 10.0.0.1"
    ∷ codes "limit   5  "
    ∷ codes "   "
    ∷ [])

-- what a host shows whose run has no event
abbrev pub idle_report : List ℕ
idle_report =
    lines (
    codes "tas run"
    ∷ codes "host a 10.0.0.1"
    ∷ codes "end 1 ticks"
    ∷ [])

-- The hello, where a line on a frame that is never sent stands between steps.
abbrev pub between_steps : List ℕ
between_steps =
    lines (
    codes "host a 10.0.0.1 iss 1000 rto 3"
    ∷ codes "host b 10.0.0.2 iss 5000 rto 3"
    ∷ codes "app b server"
    ∷ codes "listen lst 80"
    ∷ codes "accept s lst"
    ∷ codes "recv s 5"
    ∷ codes "send s world"
    ∷ codes "close s"
    ∷ codes "app a client"
    ∷ codes "drop b 7 7"
    ∷ codes "connect s b 80"
    ∷ codes "send s hello"
    ∷ codes "recv s 5"
    ∷ codes "close s"
    ∷ [])

-- A text of one space.
abbrev pub blank_text : List ℕ
blank_text =
    lines (
    codes "host a 10.0.0.1 iss 1000 rto 3"
    ∷ codes "host b 10.0.0.2 iss 5000 rto 3"
    ∷ codes "app b server"
    ∷ codes "listen lst 80"
    ∷ codes "accept s lst"
    ∷ codes "recv s 1"
    ∷ codes "send s world"
    ∷ codes "close s"
    ∷ codes "app a client"
    ∷ codes "connect s b 80"
    ∷ codes "send s  "
    ∷ codes "recv s 5"
    ∷ codes "close s"
    ∷ [])

abbrev pub blank_text_report : List ℕ
blank_text_report =
    lines (
    codes "tas run"
    ∷ codes "host a 10.0.0.1"
    ∷ codes "flow 0 slot 0.1 10.0.0.1:49152 10.0.0.2:80"
    ∷ codes "0 p1.0 connect iss 1000 = ok"
    ∷ codes "0 c0.0 emit = S seq 1000 ack 0 win 16384 mss 1460"
    ∷ codes "1 s.0 tick = quiet"
    ∷ codes "1 p1.1 ready = notyet"
    ∷ codes "2 s.1 tick = quiet"
    ∷ codes "2 s.2 rx b:0.0 AS seq 5000 ack 1001 win 16384 mss 1460 = A seq 1001 ack 5001 win 16384"
    ∷ codes "2 p1.2 ready = ok"
    ∷ codes "3 s.3 tick = quiet"
    ∷ codes "3 p1.3 send 1 = took 20"
    ∷ codes "3 c0.1 emit = AP seq 1001 ack 5001 win 16384 data 20"
    ∷ codes "4 s.4 tick = quiet"
    ∷ codes "4 p1.4 recv 5 = notyet"
    ∷ codes "5 s.5 tick = quiet"
    ∷ codes "5 c0.2 rx b:0.1 A seq 5001 ack 1002 win 16383 = none"
    ∷ codes "5 p1.5 recv 5 = notyet"
    ∷ codes "6 s.6 tick = quiet"
    ∷ codes "6 c0.3 rx b:0.2 AP seq 5001 ack 1002 win 16384 data 776f726c64 = A seq 1002 ack 5006 win 16379"
    ∷ codes "6 p1.6 recv 5 = got 776f726c64"
    ∷ codes "7 s.7 tick = quiet"
    ∷ codes "7 s.8 rx b:0.3 AF seq 5006 ack 1002 win 16384 = A seq 1002 ack 5007 win 16384"
    ∷ codes "7 p1.7 close = ok"
    ∷ codes "7 c0.4 emit = AF seq 1002 ack 5007 win 16384"
    ∷ codes "8 s.9 tick = quiet"
    ∷ codes "9 s.10 tick = quiet"
    ∷ codes "9 s.11 rx b:0.4 A seq 5007 ack 1003 win 16384 = none"
    ∷ codes "state CLOSED done"
    ∷ codes "read 5 776f726c64"
    ∷ codes "host b 10.0.0.2"
    ∷ codes "0 p0 listen 80 = ok"
    ∷ codes "1 p0 accept 80 = notyet"
    ∷ codes "2 p0 accept 80 = notyet"
    ∷ codes "flow 0 slot 0.1 10.0.0.2:80 10.0.0.1:49152"
    ∷ codes "1 s.0 passive a:0.0 iss 5000 S seq 1000 ack 0 win 16384 mss 1460 = ok"
    ∷ codes "1 c0.0 emit = AS seq 5000 ack 1001 win 16384 mss 1460"
    ∷ codes "2 s.1 tick = quiet"
    ∷ codes "3 s.2 tick = quiet"
    ∷ codes "3 s.3 rx a:0.1 A seq 1001 ack 5001 win 16384 = none"
    ∷ codes "3 p0.0 accept = ok"
    ∷ codes "4 s.4 tick = quiet"
    ∷ codes "4 c0.1 rx a:0.2 AP seq 1001 ack 5001 win 16384 data 20 = A seq 5001 ack 1002 win 16383"
    ∷ codes "4 p0.1 recv 1 = got 20"
    ∷ codes "5 s.5 tick = quiet"
    ∷ codes "5 p0.2 send 5 = took 776f726c64"
    ∷ codes "5 c0.2 emit = AP seq 5001 ack 1002 win 16384 data 776f726c64"
    ∷ codes "6 s.6 tick = quiet"
    ∷ codes "6 p0.3 close = ok"
    ∷ codes "6 c0.3 emit = AF seq 5006 ack 1002 win 16384"
    ∷ codes "7 s.7 tick = quiet"
    ∷ codes "7 c0.4 rx a:0.3 A seq 1002 ack 5006 win 16379 = none"
    ∷ codes "8 s.8 tick = quiet"
    ∷ codes "8 c0.5 rx a:0.4 A seq 1002 ack 5007 win 16384 = none"
    ∷ codes "8 s.9 rx a:0.5 AF seq 1002 ack 5007 win 16384 = A seq 5007 ack 1003 win 16384"
    ∷ codes "9 s.10 tick = quiet"
    ∷ codes "10 s.11 tick = quiet"
    ∷ codes "10 s.12 control = cwnd 4386 ssthresh 65535"
    ∷ codes "11 s.13 tick = quiet"
    ∷ codes "12 s.14 tick = quiet"
    ∷ codes "13 s.15 tick = quiet"
    ∷ codes "14 s.16 tick = quiet"
    ∷ codes "15 s.17 tick = quiet"
    ∷ codes "16 s.18 tick = quiet"
    ∷ codes "17 s.19 tick = quiet"
    ∷ codes "18 s.20 tick = quiet"
    ∷ codes "19 s.21 tick = quiet"
    ∷ codes "20 s.22 tick = done"
    ∷ codes "state CLOSED done"
    ∷ codes "read 1 20"
    ∷ codes "end 21 ticks"
    ∷ [])

-- A kill at tick 0.
abbrev pub killed_at_once : List ℕ
killed_at_once =
    lines (
    codes "host a 10.0.0.1"
    ∷ codes "app a x"
    ∷ codes "wait 3"
    ∷ codes "kill a x at 0"
    ∷ [])

-- A comment with a byte outside 32 to 126, in the second line.
abbrev pub strange_byte : List ℕ
strange_byte = lines (codes "host a 10.0.0.1" ∷ (codes "# " ++ 200 ∷ []) ∷ [])

-- A CR at the end of the text, without LF.
abbrev pub bare_return : List ℕ
bare_return = codes "host a 10.0.0.1" ++ 13 ∷ []

-- A listener's name where a socket's stands, in the fourth line.
abbrev pub wrong_name : List ℕ
wrong_name = lines (codes "host a 10.0.0.1" ∷ codes "app a x" ∷ codes "listen l 80" ∷ codes "send l t" ∷ [])

-- A name that stands before its use nowhere, in the third line.
abbrev pub unknown_name : List ℕ
unknown_name = lines (codes "host a 10.0.0.1" ∷ codes "app a x" ∷ codes "send s t" ∷ [])

-- More pairs of words than there are options.
abbrev pub many_options : List ℕ
many_options = lines (codes "host a 10.0.0.1 iss 1 iss 1 iss 1 iss 1 iss 1 iss 1 iss 1 iss 1" ∷ [])

-- Another word in the place of an option's name, in the second line.
abbrev pub unknown_option : List ℕ
unknown_option = lines (codes "host a 10.0.0.1" ∷ codes "host b 10.0.0.2 foo bar" ∷ [])

-- An option without its number, in the second line.
abbrev pub half_option : List ℕ
half_option = lines (codes "host a 10.0.0.1" ∷ codes "host b 10.0.0.2 iss" ∷ [])

-- Which segments the fast path takes, the letters of flags, and which packets of a capture are passed over.
use Rattle.std.specs.Prelude.{ℕ, List, [], ◌∷◌, ◌++◌, None, map, take, codes}
use Rattle.tas_model.specs.declared.entry.Caller.{Caller}
use Rattle.tas_model.specs.declared.entry.Caller.TheVariants.{Slow, Core}
use Rattle.tas_model.specs.declared.entry.Entry.{Entry}
use Rattle.tas_model.specs.LegalHistory.{replay}
use Rattle.tas_model.specs.WorkedHistories.{segment}
use Rattle.host_rounds.specs.Deliveries.{rx_caller}
use Rattle.tas_runs.specs.WorkedTexts.{unhex, lines}
use Rattle.worked_histories.specs.Beginnings.{patient_params}
use Rattle.worked_histories.specs.WorkedProgress.{connected_begins_anew}
use Rattle.worked_histories.specs.WorkedEndings.{wait_after_fin_wait_2, wait_after_closing, fin_has_a_place}

-- ----- the fast path
-- Who takes a segment after this history, in serial order: one with ACK; with PSH, ECE or CWR besides; with URG, FIN,
-- SYN or RST besides; and one without ACK.
abbrev pub takers : List Entry → List Caller
takers h = map (λ (flags : ℕ). rx_caller (replay patient_params h) (segment flags 5001 1001 1000 None []))
    (16 ∷ 24 ∷ 80 ∷ 144 ∷ 48 ∷ 17 ∷ 18 ∷ 20 ∷ 0 ∷ [])

-- ESTABLISHED, FIN-WAIT-1, FIN-WAIT-2 and CLOSE-WAIT
abbrev pub while_open : List (List Entry)
while_open = take 3 wait_after_fin_wait_2 ∷ take 5 wait_after_fin_wait_2 ∷ take 6 wait_after_fin_wait_2
    ∷ take 4 fin_has_a_place ∷ []

-- the fast path takes what is common
abbrev pub by_the_fast_path : List Caller
by_the_fast_path = Core 0 ∷ Core 0 ∷ Core 0 ∷ Core 0 ∷ Slow ∷ Slow ∷ Slow ∷ Slow ∷ Slow ∷ []

-- SYN-SENT, SYN-RECEIVED, CLOSING, LAST-ACK, TIME-WAIT and CLOSED
abbrev pub while_not_open : List (List Entry)
while_not_open = take 2 connected_begins_anew ∷ take 2 wait_after_fin_wait_2 ∷ take 8 wait_after_closing
    ∷ take 6 fin_has_a_place ∷ take 7 wait_after_fin_wait_2 ∷ wait_after_fin_wait_2 ∷ []

-- ----- texts
-- no bit, each bit from the lowest on, and all
abbrev pub all_flags : List ℕ
all_flags = 0 ∷ 1 ∷ 2 ∷ 4 ∷ 8 ∷ 16 ∷ 32 ∷ 64 ∷ 128 ∷ 255 ∷ []

abbrev pub all_letters : List (List ℕ)
all_letters = codes "-" ∷ codes "F" ∷ codes "S" ∷ codes "R" ∷ codes "P" ∷ codes "A" ∷ codes "U" ∷ codes "E" ∷ codes "C"
    ∷ codes "CEUAPRSF" ∷ []

-- ----- packets that break a rule of reading
-- A SYN, changed ten times: too short, of another version, with a header too short, shorter than it says, with more
-- fragments to come, a later fragment, of another protocol, with a wrong sum, with a TCP header too short, and with a
-- wrong sum of TCP.
abbrev pub broken_capture : List ℕ
broken_capture =
    unhex (codes "d4c3b2a1020004000000000000000000ffff000065000000")
    ++ unhex (codes
    "000000000000000013000000130000004500002800004000400626ce0a0000010a0000")
    ++ unhex (codes
    "010000000000000028000000280000006500002800004000400606ce0a0000010a0000029c40005000000064000000005002fffffeeb0000")
    ++ unhex (codes
    "020000000000000028000000280000004400002800004000400627ce0a0000010a0000029c40005000000064000000005002fffffeeb0000")
    ++ unhex (codes
    "030000000000000028000000280000004500002900004000400626cd0a0000010a0000029c40005000000064000000005002fffffeeb0000")
    ++ unhex (codes
    "040000000000000028000000280000004500002800002000400646ce0a0000010a0000029c40005000000064000000005002fffffeeb0000")
    ++ unhex (codes
    "050000000000000028000000280000004500002800000001400666cd0a0000010a0000029c40005000000064000000005002fffffeeb0000")
    ++ unhex (codes
    "060000000000000028000000280000004500002800004000401126c30a0000010a0000029c40005000000064000000005002fffffeeb0000")
    ++ unhex (codes
    "070000000000000028000000280000004500002800004000400627ce0a0000010a0000029c40005000000064000000005002fffffeeb0000")
    ++ unhex (codes
    "080000000000000028000000280000004500002800004000400626ce0a0000010a0000029c40005000000064000000004002ffff0eec0000")
    ++ unhex (codes
    "090000000000000028000000280000004500002800004000400626ce0a0000010a0000029c40005000000064000000005002ffffffeb0000")

-- Other versions, fragments and other protocols are passed over, and each other packet is a line.
abbrev pub broken_report : List ℕ
broken_report =
    lines (
    codes "tas replay"
    ∷ codes "host local 10.0.0.2"
    ∷ codes "0 refused r:1 = 1"
    ∷ codes "0 refused r:3 = 3"
    ∷ codes "0 refused r:4 = 4"
    ∷ codes "0 refused r:8 = 7"
    ∷ codes "0 refused r:9 = 8"
    ∷ codes "0 refused r:10 = 9"
    ∷ codes "records 10 frames 0 passed 4 refused 6"
    ∷ codes "end 1 ticks"
    ∷ [])

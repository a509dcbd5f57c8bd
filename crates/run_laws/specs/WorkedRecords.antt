-- A worked capture of packets that break the rules of reading, told by hand.
use Rattle.std.specs.Prelude.{ℕ, List, [], ◌∷◌, ◌++◌, codes}
use Rattle.tas_runs.specs.WorkedTexts.{unhex, lines}

-- Version 6, a total length above the packet's, a fragment, another protocol, a header of four words, and four bytes.
abbrev pub broken_capture : List ℕ
broken_capture =
    unhex (codes "d4c3b2a1020004000000000000000000ffff000065000000")
    ++ unhex (codes "000000000000000014000000140000006500001400004000400600000a0000010a000002")
    ++ unhex (codes "010000000000000014000000140000004500001500004000400600000a0000010a000002")
    ++ unhex (codes "020000000000000014000000140000004500001400002000400600000a0000010a000002")
    ++ unhex (codes "030000000000000014000000140000004500001400004000401100000a0000010a000002")
    ++ unhex (codes "040000000000000014000000140000004400001400004000400600000a0000010a000002")
    ++ unhex (codes "0500000000000000040000000400000045000000")

-- Refusals 2, 5 and 6 are passed over; each other one is a line.
abbrev pub broken_report : List ℕ
broken_report =
    lines (
    codes "tas replay"
    ∷ codes "host local 10.0.0.2"
    ∷ codes "0 refused r:2 = 4"
    ∷ codes "0 refused r:5 = 3"
    ∷ codes "0 refused r:6 = 1"
    ∷ codes "records 6 frames 0 passed 3 refused 3"
    ∷ codes "end 1 ticks"
    ∷ [])

-- Worked frames of a link: in which order they come, told by hand.
use Rattle.std.specs.Prelude.{ℕ, List, [], ◌∷◌}
use Rattle.link_script.specs.declared.frames.Sent.{Sent}
use Rattle.link_script.specs.declared.script.LinkAct.TheVariants as acts
use Rattle.link_script.specs.LinkLines.{LinkLines}

-- a frame to host 0; 4294967295 in the place of a flow means none
abbrev pub sent : (tick host flow number copy : ℕ) → Sent
sent t host flow n copy =
    record { id = record { host = host; flow = flow; number = n; copy = copy }; tick = t; to = 0; packet = [] }

abbrev pub no_flow : ℕ
no_flow = 4294967295

-- Frame 0 of flow 5 of host 0 comes twice, and frame 9 of flow 9 of host 9 two ticks later than it would.
abbrev pub some_lines : LinkLines
some_lines =
    record {
      acts =
          (record { host = 0; flow = 5; number = 0 }, acts.Dup)
          ∷ (record { host = 9; flow = 9; number = 9 }, acts.Delay 2)
          ∷ [];
      drops = [];
    }

-- Sent in this order; all but the one of tick 8 are due in tick 10.
abbrev pub all_sent : List Sent
all_sent =
    sent 9 1 0 0 0
    ∷ sent 9 0 no_flow 0 0
    ∷ sent 9 0 5 1 0
    ∷ sent 8 0 0 0 0
    ∷ sent 9 0 5 0 0
    ∷ sent 9 0 3 7 0
    ∷ sent 7 9 9 9 0
    ∷ []

-- By tick of emission, then by host, by flow, those of no flow behind those of flows, by number, and by copy.
abbrev pub all_due : List Sent
all_due =
    sent 7 9 9 9 0
    ∷ sent 9 0 3 7 0
    ∷ sent 9 0 5 0 0
    ∷ sent 9 0 5 0 1
    ∷ sent 9 0 5 1 0
    ∷ sent 9 0 no_flow 0 0
    ∷ sent 9 1 0 0 0
    ∷ []

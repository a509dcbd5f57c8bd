-- The text of the scenario of `bulk`: so many clients on one host, each with a server of its own on another, over a
-- link that loses one frame of seven of each client.
use Rattle.std.specs.Prelude.{ℕ, ◌+◌, List, [], ◌∷◌, ◌++◌, codes, decimal}
use Rattle.std.specs.List.{flat_map, range_with_len}
use Rattle.scenario_text.specs.Canonical.{line_of}

-- two hosts with a short retransmission timeout
abbrev pub bulk_hosts : List ℕ
bulk_hosts =
    line_of (codes "limit") (codes "5000" ∷ [])
    ++ line_of (codes "host") (codes "a" ∷ codes "10.0.0.1" ∷ codes "rto" ∷ codes "8" ∷ [])
    ++ line_of (codes "host") (codes "b" ∷ codes "10.0.0.2" ∷ codes "rto" ∷ codes "8" ∷ [])
    ++ line_of (codes "dropeach") (codes "a" ∷ codes "7" ∷ [])

-- the application of a host whose name is a letter and a number
abbrev pub numbered_app : (host : List ℕ) (letter i : ℕ) → List ℕ
numbered_app host letter i = line_of (codes "app") (host ∷ (letter ∷ decimal i) ∷ [])

-- the i-th server listens on port 1000 + i, and takes all that its client sends
abbrev pub server_text : (i : ℕ) → List ℕ
server_text i =
    numbered_app (codes "b") 115 i
    ++ line_of (codes "listen") (codes "l" ∷ decimal (1000 + i) ∷ [])
    ++ line_of (codes "accept") (codes "s" ∷ codes "l" ∷ [])
    ++ line_of (codes "drain") (codes "s" ∷ [])
    ++ line_of (codes "close") (codes "s" ∷ [])

-- the i-th client sends 65,536 bytes to it
abbrev pub client_text : (i : ℕ) → List ℕ
client_text i =
    numbered_app (codes "a") 99 i
    ++ line_of (codes "connect") (codes "s" ∷ codes "b" ∷ decimal (1000 + i) ∷ [])
    ++ line_of (codes "fill") (codes "s" ∷ codes "65536" ∷ [])
    ++ line_of (codes "close") (codes "s" ∷ [])

-- the text with n of each, the servers first
abbrev pub bulk_text : (n : ℕ) → List ℕ
bulk_text n = bulk_hosts ++ flat_map server_text (range_with_len 0 n) ++ flat_map client_text (range_with_len 0 n)

-- The words of a run in one order: the command, what it needs, and its options; and the number of `bulk` at the end.
-- Behind `--` and behind `=` a word is a value, whatever it begins with.
use Rattle.std.specs.Prelude.{List, [], ◌∷◌, ◌++◌, ℕ, Bool, Option, None, Some, codes, decimal, if◌then◌else◌}

-- the option, where it is given
abbrev pub where_given : (given : Bool) → (option : List ℕ) → List (List ℕ)
where_given given option = if given then option ∷ [] else []

-- the option of the cores, where they are asked for
abbrev pub cores_words : (cores : Option ℕ) → List (List ℕ)
cores_words None = []
cores_words (Some n) = (codes "--cores=" ++ decimal n) ∷ []

abbrev pub run_words : (cores : Option ℕ) → (pcap : Bool) → List (List ℕ)
run_words cores pcap = codes "tas" ∷ codes "run" ∷ (cores_words cores ++ where_given pcap (codes "--pcap"))

abbrev pub bulk_words : (clients : ℕ) → (cores : Option ℕ) → List (List ℕ)
bulk_words clients cores =
    codes "tas" ∷ codes "bulk" ∷ (cores_words cores ++ codes "--" ∷ decimal clients ∷ [])

abbrev pub replay_words : (local : List ℕ) → (cores : Option ℕ) → (pcap loose : Bool) → List (List ℕ)
replay_words local cores pcap loose =
    codes "tas" ∷ codes "replay" ∷ (codes "--local=" ++ local)
    ∷ (cores_words cores ++ (where_given pcap (codes "--pcap") ++ where_given loose (codes "--loose-sums")))

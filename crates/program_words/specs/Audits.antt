-- The word that asks for an audit: beside the forms of runs it is a form of its own, without options.
use Rattle.std.specs.Prelude.{Bool, false, ℕ, List, [], ◌∷◌, codes, bytes_eq}

-- the words are the one word `audit`
abbrev pub is_audit : (words : List (List ℕ)) → Bool
is_audit (word ∷ []) = bytes_eq word (codes "audit")
is_audit _ = false

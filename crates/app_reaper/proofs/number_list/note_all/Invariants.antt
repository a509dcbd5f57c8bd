use Rattle.std.proofs.Common.{◌≡◌, ℕ, ◌+◌, ◌≤◌, position, take}
use Rattle.std.specs.Prelude.{nat_eq}
use Rattle.std.specs.HashMap.{get, hash_map_len, spare}
use Rattle.app_reaper.specs.Numbers.{is_number}
use Rattle.app_reaper.proofs.number_list.note_all.Given as goal

-- the places of the first numbers are noted
abbrev pub invariant-loop-place : goal.invariant-loop-place
invariant-loop-place l =
    ((n : ℕ) → get nat_eq l.places n ≡ position (is_number n) (take l.place l.numbers.items))
    × (hash_map_len l.places ≤ l.place)
    × (hash_map_len l.fn.places + spare l.fn.places ≤ hash_map_len l.places + spare l.places)

-- The commands of the protocol, as their lines give them.
use Rattle.std.specs.Prelude.{ℕ, ◌+◌, List, [], ◌∷◌, Option, Some, codes, bytes_eq, if◌then◌else◌}
use Rattle.std.specs.List.{list_all}
use Rattle.kv_sessions.specs.Lines.{is_key, number_of}

pub data Command : Type 0 where
  Set : (key : List ℕ) (flags len : ℕ) → Command
  Get : (keys : List (List ℕ)) → Command
  Delete : (key : List ℕ) → Command
  Quit : Command
  -- any other line
  Unknown : Command

-- a set of these numbers. Values don't expire, so the time is read and ignored.
abbrev pub set_by : (key : List ℕ) → (flags time len : Option ℕ) → Command
set_by key (Some flags) (Some time) (Some len) = Set key flags len
set_by key _ _ _ = Unknown

-- set KEY FLAGS TIME LEN
abbrev pub set_of : (arguments : List (List ℕ)) → Command
set_of (key ∷ flags ∷ time ∷ len ∷ []) =
    if is_key key then set_by key (number_of flags) (number_of time) (number_of len) else Unknown
set_of _ = Unknown

-- get KEY.., with at least one key
abbrev pub get_of : (arguments : List (List ℕ)) → Command
get_of [] = Unknown
get_of (key ∷ keys) = if list_all is_key (key ∷ keys) then Get (key ∷ keys) else Unknown

-- delete KEY
abbrev pub delete_of : (arguments : List (List ℕ)) → Command
delete_of (key ∷ []) = if is_key key then Delete key else Unknown
delete_of _ = Unknown

-- quit
abbrev pub quit_of : (arguments : List (List ℕ)) → Command
quit_of [] = Quit
quit_of _ = Unknown

-- the command of a line of these words
abbrev pub command_of : (words : List (List ℕ)) → Command
command_of [] = Unknown
command_of (name ∷ arguments) =
    if bytes_eq name (codes "set") then set_of arguments
    else (if bytes_eq name (codes "get") then get_of arguments
    else (if bytes_eq name (codes "delete") then delete_of arguments
    else (if bytes_eq name (codes "quit") then quit_of arguments
    else Unknown)))

-- How many bytes belong to a command behind its line: the data of a set, and CR LF.
abbrev pub block_len : Command → ℕ
block_len (Set key flags len) = len + 2
block_len _ = 0

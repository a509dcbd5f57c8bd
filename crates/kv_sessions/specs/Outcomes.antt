-- What each command does: its reply, the map after it, and whether the session ends.
use Rattle.std.specs.Prelude.{ℕ, Bool, true, false, not, ◌&&◌, nat_lt, nat_le, List, [], ◌++◌, length, take, drop}
use Rattle.std.specs.Prelude.{flat_map, Option, Some, None, codes, decimal, bytes_eq, if◌then◌else◌}
use Rattle.std.specs.FinMap as map
use Rattle.kv_sessions.specs.Stored.{Item, Map}
use Rattle.kv_sessions.specs.Commands.{Command, Set, Get, Delete, Quit, Unknown}
use Rattle.kv_sessions.specs.declared.TheConstants.{MOST_DATA, MOST_KEYS}

pub record Outcome : Type 0 where
  pub reply : List ℕ
  pub map : Map
  pub ends : Bool

abbrev pub goes_on : (reply : List ℕ) → Map → Outcome
goes_on reply m = record { reply = reply; map = m; ends = false }

abbrev pub ends_with : (reply : List ℕ) → Map → Outcome
ends_with reply m = record { reply = reply; map = m; ends = true }

-- ----- set
-- a key more, where as many are held as may be
abbrev pub is_full_for : Map → (key : List ℕ) → Bool
is_full_for m key = not (map.contains_key m key) && nat_le MOST_KEYS (map.len m)

abbrev pub too_large : Map → Outcome
too_large m = goes_on (codes "SERVER_ERROR object too large for cache\r\n") m

-- A set whose block, which is its data and two bytes more, has come.
abbrev pub set_outcome : Map → (key : List ℕ) → (flags len : ℕ) → (block : List ℕ) → Outcome
set_outcome m key flags len block =
    if nat_lt MOST_DATA len then too_large m
    else (if not (bytes_eq (drop len block) (codes "\r\n")) then ends_with (codes "CLIENT_ERROR bad data chunk\r\n") m
    else (if is_full_for m key then goes_on (codes "SERVER_ERROR out of memory storing object\r\n") m
    else goes_on (codes "STORED\r\n") (map.insert m key (record { flags = flags; bytes = take len block }))))

-- ----- get
-- VALUE KEY FLAGS LEN
abbrev pub head_text : (key : List ℕ) → Item → List ℕ
head_text key item = codes "VALUE " ++ (key ++ (codes " " ++ (decimal item.flags ++ (codes " "
    ++ (decimal (length item.bytes) ++ codes "\r\n")))))

-- that line and the data, where the key is held
abbrev pub value_text : (key : List ℕ) → Option Item → List ℕ
value_text key None = []
value_text key (Some item) = head_text key item ++ (item.bytes ++ codes "\r\n")

abbrev pub values_text : Map → (keys : List (List ℕ)) → List ℕ
values_text m keys = flat_map (λ (key : List ℕ). value_text key (map.get m key)) keys

-- ----- delete
abbrev pub delete_outcome : Map → (key : List ℕ) → Outcome
delete_outcome m key = if map.contains_key m key then goes_on (codes "DELETED\r\n") (map.remove m key)
    else goes_on (codes "NOT_FOUND\r\n") m

-- What a command does where the map is m and its block has come.
abbrev pub outcome : Map → Command → (block : List ℕ) → Outcome
outcome m (Set key flags len) block = set_outcome m key flags len block
outcome m (Get keys) block = goes_on (values_text m keys ++ codes "END\r\n") m
outcome m (Delete key) block = delete_outcome m key
outcome m Quit block = ends_with [] m
outcome m Unknown block = goes_on (codes "ERROR\r\n") m

-- what a line that is too long does
abbrev pub too_long : Map → Outcome
too_long m = ends_with (codes "CLIENT_ERROR line too long\r\n") m

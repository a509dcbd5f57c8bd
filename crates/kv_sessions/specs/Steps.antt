-- How a session goes on from what it is at, piece by piece.
use Rattle.std.specs.Prelude.{◌≡◌, ◌<◌, ◌≤◌, ◌+◌, ◌^◌, ℕ, nat_lt, nat_le, ◌==◌, List, [], ◌++◌, length, position}
use Rattle.std.specs.Prelude.{None, ⊤}
use Rattle.std.specs.Prelude.{if◌then◌else◌}
use Rattle.kv_sessions.specs.Stored.{Map}
use Rattle.kv_sessions.specs.Lines.{FirstLine, Unended, TooLong, Line, text_of, words_of, is_line_feed}
use Rattle.kv_sessions.specs.Commands as commands
use Rattle.kv_sessions.specs.Outcomes.{Outcome, outcome, too_long, too_large}
use Rattle.kv_sessions.specs.Sessions.{Standing, InLine, InBlock, InDropped, Over, IsAfter, in_block}
use Rattle.kv_sessions.specs.declared.request.Request.{Request}
use Rattle.kv_sessions.specs.declared.request.Request.TheVariants as requests
use Rattle.kv_sessions.specs.declared.mode.Mode.{Mode}
use Rattle.kv_sessions.specs.declared.mode.Mode.TheVariants as modes
use Rattle.kv_sessions.specs.declared.TheConstants.{MOST_DATA, LONGEST_LINE}

-- the command that a request is
abbrev pub command_in : Request → commands.Command
command_in (requests.Set key flags len) = commands.Set key.now flags len
command_in (requests.Get keys) = commands.Get (words_of keys.now)
command_in (requests.Delete key) = commands.Delete key.now
command_in requests.Quit = commands.Quit
command_in requests.Unknown = commands.Unknown

-- what a session is at in this mode
abbrev pub standing_in : Mode → Standing
standing_in (modes.Line line) = InLine line.items
standing_in (modes.Block b) = InBlock b.key.items b.flags b.len b.bytes.items
standing_in (modes.Dropped missing) = InDropped missing
standing_in modes.Over = Over

-- what waits is less than a line, or less than a block
abbrev pub IsShort : Mode → Type 0
IsShort (modes.Line line) = (length line.items < LONGEST_LINE + 2) × (position is_line_feed line.items ≡ None)
IsShort (modes.Block b) = (b.len ≤ MOST_DATA) × (length b.bytes.items < b.len + 2)
IsShort (modes.Dropped missing) = (0 < missing) × (missing < 2 ^ 33)
IsShort modes.Over = ⊤

-- What taking bytes does: a reply, the map after it, and what the session is at then.
pub record Step : Type 0 where
  pub reply : List ℕ
  pub map : Map
  pub standing : Standing

-- more bytes are wanted
abbrev pub stays : Map → Standing → Step
stays m standing = record { reply = []; map = m; standing = standing }

-- a command was done
abbrev pub done : Outcome → Step
done o = record { reply = o.reply; map = o.map; standing = if o.ends then Over else InLine [] }

-- behind the line of a command
abbrev pub command_step : Map → commands.Command → Step
command_step m (commands.Set key flags len) = stays m (in_block (commands.Set key flags len) [])
command_step m (commands.Get keys) = done (outcome m (commands.Get keys) [])
command_step m (commands.Delete key) = done (outcome m (commands.Delete key) [])
command_step m commands.Quit = done (outcome m commands.Quit [])
command_step m commands.Unknown = done (outcome m commands.Unknown [])

-- where these bytes have come of a line
abbrev pub line_step : Map → (got : List ℕ) → FirstLine → Step
line_step m got Unended = stays m (InLine got)
line_step m got TooLong = done (too_long m)
line_step m got (Line text rest) = command_step m (commands.command_of (words_of text))

-- where these bytes have come of a set's block
abbrev pub block_step : Map → (key : List ℕ) → (flags len : ℕ) → (got : List ℕ) → Step
block_step m key flags len got = if nat_lt (length got) (len + 2) then stays m (InBlock key flags len got)
    else done (outcome m (commands.Set key flags len) got)

-- where so many bytes are missing of the block of a set that is too large
abbrev pub dropped_step : Map → (missing : ℕ) → Step
dropped_step m missing = if missing == 0 then done (too_large m) else stays m (InDropped missing)

-- no byte stands behind the line
abbrev pub IsLast : FirstLine → Type 0
IsLast (Line text rest) = rest ≡ []
IsLast _ = ⊤

-- the line that ends behind these bytes
abbrev pub ended_line : (before : List ℕ) → FirstLine
ended_line before = if nat_le (length (text_of before)) LONGEST_LINE then Line (text_of before) [] else TooLong

-- the line whose end isn't among these bytes
abbrev pub open_line : List ℕ → FirstLine
open_line bytes = if nat_lt (length bytes) (LONGEST_LINE + 2) then Unended else TooLong

-- Replies, store and mode are what a step makes of them.
pub record Made (s : Step) (before after : List ℕ) (store : Map) (mode : Mode) : Type 0 where
  pub replies : after ≡ before ++ s.reply
  pub map : store ≡ s.map
  pub stands : standing_in mode ≡ s.standing
  pub short : IsShort mode

-- The bytes `taken` led from the one standing, store and replies to the other ones.
abbrev pub Leads : (session : Standing) (store : Map) (replies taken : List ℕ) (later : Standing) (later_store : Map)
    (later_replies : List ℕ) → Type 0
Leads session store replies taken later later_store later_replies = (m : Map) (stream said : List ℕ)
    → IsAfter m stream (said ++ replies) session store
    → IsAfter m (stream ++ taken) (said ++ later_replies) later later_store

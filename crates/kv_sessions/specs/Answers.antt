-- What a stream of bytes is answered: by its commands, one after another.
use Rattle.std.specs.Prelude.{ℕ, zero, suc, Bool, true, false, nat_lt, List, [], ◌++◌, length, take, drop}
use Rattle.std.specs.Prelude.{if◌then◌else◌}
use Rattle.kv_sessions.specs.Stored.{Map}
use Rattle.kv_sessions.specs.Lines.{FirstLine, Unended, TooLong, Line, first_line, words_of}
use Rattle.kv_sessions.specs.Commands.{Command, command_of, block_len}
use Rattle.kv_sessions.specs.Outcomes.{Outcome, outcome, too_long}

-- What bytes begin with: no whole command yet, a line that is too long, or a command with its block, and the bytes
-- behind it.
pub data Next : Type 0 where
  Waits : Next
  LineTooLong : Next
  Whole : (command : Command) (block rest : List ℕ) → Next

-- a command is whole once its line and its block have come
abbrev pub with_block : Command → (behind_line : List ℕ) → Next
with_block command behind_line =
    let len = block_len command in
    if nat_lt (length behind_line) len then Waits else Whole command (take len behind_line) (drop len behind_line)

abbrev pub next_by : FirstLine → Next
next_by Unended = Waits
next_by TooLong = LineTooLong
next_by (Line text rest) = with_block (command_of (words_of text)) rest

abbrev pub next_command : List ℕ → Next
next_command bytes = next_by (first_line bytes)

-- The replies to a stream, joined; the map after all its whole commands; whether the session ended; and, where it
-- did not, the bytes of a command that is not whole.
pub record Answers : Type 0 where
  pub replies : List ℕ
  pub map : Map
  pub ended : Bool
  pub left : List ℕ

abbrev pub waiting : Map → (left : List ℕ) → Answers
waiting m left = record { replies = []; map = m; ended = false; left = left }

abbrev pub over : Outcome → Answers
over o = record { replies = o.reply; map = o.map; ended = true; left = [] }

abbrev pub behind : (reply : List ℕ) → Answers → Answers
behind reply later = record later { replies = reply ++ later.replies }

-- the answers of a command, and then of what comes behind it, where the session goes on
abbrev pub then_later : (ends : Bool) → Outcome → (later : Map → Answers) → Answers
then_later true o later = over o
then_later false o later = behind o.reply (later o.map)

abbrev pub by_next : (later : List ℕ → Map → Answers) → Map → List ℕ → Next → Answers
by_next later m bytes Waits = waiting m bytes
by_next later m bytes LineTooLong = over (too_long m)
by_next later m bytes (Whole command block rest) =
    then_later (outcome m command block).ends (outcome m command block) (later rest)

-- the answers of at most n commands
unfoldable pub answers_of : (n : ℕ) → List ℕ → Map → Answers
answers_of zero bytes m = waiting m bytes
answers_of (suc n) bytes m = by_next (answers_of n) m bytes (next_command bytes)

-- What a stream is answered where the map is m before it. Each command has a byte at least.
abbrev pub answers : Map → (stream : List ℕ) → Answers
answers m stream = answers_of (length stream) stream m

-- the answers, once these bytes have come too
abbrev pub more_by : (ended : Bool) → Answers → (more : List ℕ) → Answers
more_by true a more = a
more_by false a more = behind a.replies (answers a.map (a.left ++ more))

abbrev pub and_more : Answers → (more : List ℕ) → Answers
and_more a more = more_by a.ended a more

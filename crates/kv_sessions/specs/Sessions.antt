-- What a session is at, and how that follows from the stream that it was fed.
use Rattle.std.specs.Prelude.{◌≡◌, ◌≤◌, ℕ, ◌+◌, ◌-◌, Bool, true, false, nat_le, List, [], ◌++◌, length, take}
use Rattle.std.specs.Prelude.{if◌then◌else◌}
use Rattle.kv_sessions.specs.Stored.{Map}
use Rattle.kv_sessions.specs.Lines.{FirstLine, Unended, TooLong, Line, first_line, words_of}
use Rattle.kv_sessions.specs.Commands.{Command, Set, command_of}
use Rattle.kv_sessions.specs.Answers.{Answers, answers}
use Rattle.kv_sessions.specs.declared.TheConstants.{MOST_DATA}

pub data Standing : Type 0 where
  -- in a line, of which these bytes have come
  InLine : (bytes : List ℕ) → Standing
  -- in the block of a set, of which these bytes have come
  InBlock : (key : List ℕ) (flags len : ℕ) (bytes : List ℕ) → Standing
  -- in the block of a set that is too large, of which so many bytes are still to come
  InDropped : (missing : ℕ) → Standing
  Over : Standing

abbrev pub is_over : Standing → Bool
is_over Over = true
is_over _ = false

-- behind the line of a command that wants a block
abbrev pub in_block : Command → (behind_line : List ℕ) → Standing
in_block (Set key flags len) got = if nat_le len MOST_DATA then InBlock key flags len got
    else InDropped (len + 2 - length got)
in_block _ got = InLine []

abbrev pub in_line : (left : List ℕ) → FirstLine → Standing
in_line left Unended = InLine left
in_line left TooLong = Over
in_line left (Line text rest) = in_block (command_of (words_of text)) rest

-- at what these bytes of a command that is not whole leave a session
abbrev pub at_left : (left : List ℕ) → Standing
at_left left = in_line left (first_line left)

abbrev pub at_end : (ended : Bool) → (left : List ℕ) → Standing
at_end true left = Over
at_end false left = at_left left

abbrev pub standing : Answers → Standing
standing a = at_end a.ended a.left

-- A session that began over the map m was fed the bytes of `stream`, in whatever pieces, and answered `said`; and the
-- store is as its last call left it.
pub record IsAfter (m : Map) (stream said : List ℕ) (session : Standing) (store : Map) : Type 0 where
  pub replies : said ≡ (answers m stream).replies
  pub map : store ≡ (answers m stream).map
  pub stands : session ≡ standing (answers m stream)

-- Feeding `bytes` answers `reply`: whatever the session was fed and answered before, it is then after that and these
-- bytes, and has answered that and this reply.
abbrev pub Answered : (session : Standing) (store : Map) (bytes reply : List ℕ) (later : Standing) (later_store : Map)
    → Type 0
Answered session store bytes reply later later_store = (m : Map) (stream said : List ℕ)
    → IsAfter m stream said session store → IsAfter m (stream ++ bytes) (said ++ reply) later later_store

-- The store has the effects of whole commands alone: those of the stream, and of the first n of `bytes`.
abbrev pub HasWhole : (session : Standing) (store : Map) (bytes : List ℕ) (later_store : Map) → Type 0
HasWhole session store bytes later_store = (m : Map) (stream said : List ℕ) → IsAfter m stream said session store
    → (n : ℕ) × (n ≤ length bytes) × (later_store ≡ (answers m (stream ++ take n bytes)).map)

-- The word of a slot as a number: generation in bits 63 to 32, busy bit 18, doomed bit 17, live bit 16, pins in bits
-- 15 to 0.
use Rattle.std.specs.Prelude.{ℕ, ◌+◌, ◌*◌, ◌/◌, ◌%◌, ◌<◌, Bool, true, false, ◌==◌, List, slice_index_or, slice_set}
use Rattle.flow_lock.specs.declared.word.Word.{Word}
use Rattle.flow_lock.specs.declared.view.Mark.{Mark}

abbrev pub flag : Bool → ℕ
flag true = 1
flag false = 0

abbrev pub code : Word → ℕ
code w = w.generation * 4294967296 + flag w.busy * 262144 + flag w.doomed * 131072 + flag w.live * 65536 + w.pins

abbrev pub word_of : ℕ → Word
word_of n = record {
  generation = n / 4294967296;
  pins = n % 65536;
  live = n / 65536 % 2 == 1;
  doomed = n / 131072 % 2 == 1;
  busy = n / 262144 % 2 == 1;
}

-- what fits into a word
abbrev pub Small : Word → Type 0
Small w = (w.generation < 4294967296) × (w.pins < 65536)

-- a word that is neither doomed nor busy
abbrev pub plain_word : ℕ → ℕ → Bool → Word
plain_word g p l = record { generation = g; pins = p; live = l; doomed = false; busy = false }

-- the word of a slot that no flow has, after so many generations
abbrev pub dead_word : ℕ → Word
dead_word g = record { generation = g; pins = 0; live = false; doomed = false; busy = false }

-- the word of a flow that was just opened: the slow path has the one pin
abbrev pub live_word : ℕ → Word
live_word g = record { generation = g; pins = 1; live = true; doomed = false; busy = false }

-- the word of a doomed flow that one pass alone has pinned
abbrev pub sole_word : ℕ → Word
sole_word g = record { generation = g; pins = 1; live = true; doomed = true; busy = false }

-- the word of a slot, among the words of all slots
abbrev pub word_at : List Word → ℕ → Word
word_at ws i = slice_index_or ws i (dead_word 0)

abbrev pub put_word : ℕ → Word → List Word → List Word
put_word i w ws = slice_set ws i w

-- what the slow path remembers of a word
abbrev pub mark_of : Word → Mark
mark_of w = record { generation = w.generation; live = w.live; doomed = w.doomed }

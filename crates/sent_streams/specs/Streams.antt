-- What the segments of one direction of a connection say: its stream, from its first number on.
use Rattle.std.specs.Prelude.{◌≡◌, ℕ, Bool, true, false, ◌||◌, List, [], ◌∷◌, ⊤}
use Rattle.tas_model.specs.declared.entry.Call.{Call}
use Rattle.tas_model.specs.declared.entry.Call.TheVariants as calls
use Rattle.tas_model.specs.declared.entry.Entry.{Entry}
use Rattle.tas_model.specs.declared.entry.Reply.{Reply}
use Rattle.tas_model.specs.declared.entry.Reply.TheVariants as replies
use Rattle.tas_model.specs.declared.entry.Seg.{Seg}
use Rattle.tas_model.specs.Segments.{is_rst, is_syn, seq_at}
use Rattle.tas_model.specs.Receive.{is_heard}
use Rattle.tas_model.specs.Outputs.{SaysPart}
use Rattle.host_rounds.specs.Lists.{Each}

-- The segment is of the direction with this first number, and says nothing but the stream: a SYN, where it is no reset,
-- bears the first number, and payload and FIN are the stream's.
pub record IsOf (first : ℕ) (stream : List ℕ) (seg : Seg) : Type 0 where
  pub begins : is_rst seg ≡ false → is_syn seg ≡ true → seg.head.seq ≡ seq_at first 0
  pub says : is_heard seg ≡ true → SaysPart first stream seg

-- The call takes no other segment; and a connection is opened by a SYN alone.
abbrev pub Takes : (first : ℕ) (stream : List ℕ) → Call → Type 0
Takes first stream (calls.Rx frame seg) = IsOf first stream seg
Takes first stream (calls.Passive frame iss seg) = IsOf first stream seg × (is_rst seg ≡ false) × (is_syn seg ≡ true)
Takes first stream _ = ⊤

-- Whatever came to the endpoint is of that direction.
abbrev pub AllTaken : (first : ℕ) (stream : List ℕ) → List Entry → Type 0
AllTaken first stream h = Each (λ (x : Entry). Takes first stream x.call) h

-- ----- the end
abbrev pub is_end : Reply → Bool
is_end replies.End = true
is_end _ = false

-- A Recv was answered by the end of the peer's stream.
abbrev pub told_end : List Entry → Bool
told_end [] = false
told_end (x ∷ xs) = is_end x.reply || told_end xs

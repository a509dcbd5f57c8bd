-- Who called, which frame came, and addresses, at the front of a text.
use Rattle.std.specs.Prelude.{ℕ, ◌+◌, ◌-◌, ◌*◌, ◌^◌, ◌==◌, Bool, not, List, [], ◌∷◌, length, position, bytes_eq}
use Rattle.std.specs.Prelude.{codes}
use Rattle.std.specs.Prelude.{Option, Some, None, if◌then◌else◌}
use Rattle.std.specs.List.{take_while}
use Rattle.tas_model.specs.declared.entry.FrameId.{FrameId}
use Rattle.tas_model.specs.declared.entry.Caller.{Caller}
use Rattle.tas_model.specs.declared.entry.Caller.TheVariants.{Slow, Core, App}
use Rattle.tas_model.specs.declared.entry.Reason.{Reason}
use Rattle.tas_model.specs.declared.entry.Reason.TheVariants as reasons
use Rattle.report_lines.specs.Fronts.{Reader, with, or, word, made, after, both, one_of, past, number, u8, u16, u32}
use Rattle.report_lines.specs.Fronts.{u64}

-- the slow path, a core or an application
abbrev pub callers : List (Reader Caller)
callers = word (codes "s") Slow ∷ made (λ (k : ℕ). Core k) (after (codes "c") u32)
    ∷ made (λ (k : ℕ). App k) (after (codes "p") u32) ∷ []

unfoldable pub caller : Reader Caller
caller = one_of callers

abbrev pub reasons_of : List (Reader Reason)
reasons_of = word (codes "done") reasons.Done ∷ word (codes "reset") reasons.Reset
    ∷ word (codes "refused") reasons.Refused ∷ word (codes "timedout") reasons.TimedOut
    ∷ word (codes "aborted") reasons.Aborted ∷ []

unfoldable pub reason : Reader Reason
reason = one_of reasons_of

-- ----- frames
-- a byte of a host's name
abbrev pub is_named : ℕ → Bool
is_named c = not (c == 58)

-- the host of this name by its number; `-` is one past the last
abbrev pub host_of : (names : List (List ℕ)) → (name : List ℕ) → Option ℕ
host_of names name = or (position (λ (n : List ℕ). bytes_eq n name) names)
    (if bytes_eq name (codes "-") then Some (length names) else None)

unfoldable pub host : (names : List (List ℕ)) → Reader ℕ
host names text = with (λ h. Some (h, past is_named text)) (host_of names (take_while is_named text))

-- the opening number of a flow, or `x` where there is none
unfoldable pub flow : Reader ℕ
flow = one_of (number 4294967294 ∷ word (codes "x") (2 ^ 32 - 1) ∷ [])

-- a second copy bears a `+`
abbrev pub nothing : Reader ℕ
nothing text = Some (0, text)

unfoldable pub copy : Reader ℕ
copy = one_of (word (codes "+") 1 ∷ nothing ∷ [])

-- a frame that a host sent: the host, its flow, and the frame's number
abbrev pub sent_of : ℕ × (ℕ × (ℕ × ℕ)) → FrameId
sent_of (host, (flow, (number, copy))) = record { host = host; flow = flow; number = number; copy = copy }

unfoldable pub sent_frame : (names : List (List ℕ)) → Reader FrameId
sent_frame names = made sent_of (both (host names) (both (after (codes ":") flow)
    (both (after (codes ".") u64) copy)))

-- a record of a capture
abbrev pub record_of : ℕ → FrameId
record_of number = record { host = 2 ^ 32 - 1; flow = 2 ^ 32 - 1; number = number; copy = 0 }

unfoldable pub record_frame : Reader FrameId
record_frame = made record_of (after (codes "r:") u64)

unfoldable pub frame : (names : List (List ℕ)) → Reader FrameId
frame names = one_of (sent_frame names ∷ record_frame ∷ [])

-- ----- addresses
-- four numbers up to 255 with dots
abbrev pub addr_of : ℕ × (ℕ × (ℕ × ℕ)) → ℕ
addr_of (a, (b, (c, d))) = ((a * 256 + b) * 256 + c) * 256 + d

unfoldable pub addr : Reader ℕ
addr = made addr_of (both u8 (both (after (codes ".") u8) (both (after (codes ".") u8) (after (codes ".") u8))))

-- an address with a port
unfoldable pub socket : Reader (ℕ × ℕ)
socket = both addr (after (codes ":") u16)

-- What the bytes of a segment do (RFC 9293, section 3.10.7.4, seventh): those in order are received, and one stretch
-- past a gap is kept.
use Rattle.std.specs.Prelude.{ℕ, ◌+◌, ◌-◌, ◌==◌, ◌&&◌, Bool, List, [], ◌∷◌, ◌++◌, length, take, drop, nat_le, min, max}
use Rattle.std.specs.Prelude.{Option, Some, None, if◌then◌else◌}
use Rattle.tas_model.specs.Endpoint.{Receiving, Island, next_place}

-- The part of a payload, whose first byte has place q, at places from r to below r + window.
abbrev pub trimmed : (r window q : ℕ) → List ℕ → List ℕ
trimmed r window q payload = take (r + window - max q r) (drop (r - q) payload)

-- ----- past a gap
-- The part overlaps the island or touches it.
abbrev pub meets : Island → (at : ℕ) → List ℕ → Bool
meets i at part = nat_le at (i.at + length i.bytes) && nat_le i.at (at + length part)

-- The union of both. Where both have a byte, the island's stands.
abbrev pub joined : Island → (at : ℕ) → List ℕ → Island
joined i at part =
    record {
      at = min at i.at;
      bytes = take (i.at - at) part ++ i.bytes ++ drop (i.at + length i.bytes - at) part;
    }

-- A part past a gap becomes the island, or is joined to it, or is dropped.
abbrev pub kept_apart : Option Island → (at : ℕ) → List ℕ → Option Island
kept_apart None at part = Some (record { at = at; bytes = part })
kept_apart (Some i) at part = if meets i at part then Some (joined i at part) else Some i

-- ----- in order
-- Where the island begins at or before the end of what is in order, its bytes past that end are in order too.
abbrev pub bridged : Receiving → Option Island → Receiving
bridged rx None = rx
bridged rx (Some i) =
    if nat_le i.at (length rx.got) then record rx { got = rx.got ++ drop (length rx.got - i.at) i.bytes; island = None }
    else rx

-- A part that begins where the bytes in order end is received.
abbrev pub grown : Receiving → List ℕ → Receiving
grown rx part = bridged (record rx { got = rx.got ++ part }) rx.island

-- ----- the rule
-- The part whose first byte has index `at` in the stream: empty, in order, or past a gap.
abbrev pub with_part : Receiving → (at : ℕ) → List ℕ → Receiving
with_part rx at [] = rx
with_part rx at (b ∷ part) =
    if at == length rx.got then grown rx (b ∷ part) else record rx { island = kept_apart rx.island at (b ∷ part) }

-- The whole rule: after the peer's FIN nothing is received.
abbrev pub with_data : Receiving → (window q : ℕ) → List ℕ → Receiving
with_data rx window q payload =
    let r : ℕ = next_place rx in
    if rx.ended then rx else with_part rx (max q r - 1) (trimmed r window q payload)

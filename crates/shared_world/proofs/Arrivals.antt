-- The frames that come to a host, as it takes them and as the definitions of runs have them: for the answers for
-- `comings_at` and `play_tick`.
use Rattle.std.proofs.Common.{◌≡◌, ℕ, ◌==◌, true, false, Bool, List, [], ◌∷◌, ◌++◌, map, filter, Option, Some, None}
use Rattle.std.proofs.Common.{refl, sym, ap, ◌∙◌}
use Rattle.std.proofs.lemmas.List.{map-append}
use Rattle.std.proofs.lemmas.List.Elements.{filter-append}
use Rattle.segment_fields.specs.Refusals.{number_of}
use Rattle.segment_fields.specs.Text.{refusal, fields_in}
use Rattle.segment_fields.specs.declared.segment.Refused.{Refused}
use Rattle.host_rounds.specs.Deliveries.{Arrival, Packet}
use Rattle.tas_runs.specs.Records.{Content, Damaged, Remote, receiver_tuple, segment_of, due_content}
use Rattle.link_script.specs.LinkLines.{LinkLines}
use Rattle.link_script.specs.DueFrames.{due}
use Rattle.link_script.specs.declared.frames.Sent.{Sent}
use Rattle.core_phase.specs.Words as words
use Rattle.core_phase.specs.Words.{arrival_of}
use Rattle.phase_orders.specs.CoreTurns.{arrivals_of}
use Rattle.scenario_runs.specs.Worlds as worlds
use Rattle.scenario_runs.specs.Worlds.{arrival, arrivals_at}
use Rattle.shared_world.specs.Stepping.{frame_of, frames_to}

-- ----- frames of a list
abbrev pub comes_to : (number : ℕ) → Sent → Bool
comes_to n f = f.to == n

-- Frames that are due behind others come behind those.
pub frames_append : (n : ℕ) (came more : List Sent) → frames_to n (came ++ more) ≡ frames_to n came ++ frames_to n more
frames_append n came more =
    ap (map frame_of) (filter-append (comes_to n) came more)
    ∙ map-append frame_of (filter (comes_to n) came) (filter (comes_to n) more)

-- ----- as the host reads them
abbrev content_by : Option Refused → List ℕ → Content
content_by (Some r) b = Damaged (number_of r)
content_by None b = Remote (receiver_tuple (fields_in b)) (segment_of (fields_in b))

due_by : (b : List ℕ) → due_content false b ≡ content_by (refusal true b) b
due_by b = by (refusal true b)
  where
    by : (o : Option Refused) → ◌≡◌ {A = Content} (elim o [
      | Some rule ↦ Damaged (number_of rule)
      | None ↦ Remote (receiver_tuple (fields_in b)) (segment_of (fields_in b))
    ]) (content_by o b)
    by (Some r) = refl
    by None = refl

packets : (o : Option Refused) (b : List ℕ) → words.packet_by o b ≡ worlds.packet_by (content_by o b)
packets (Some r) b = refl
packets None b = refl

-- What a core reads of a frame is what comes in it.
pub one_arrival : (f : Sent) → arrival_of true (frame_of f) ≡ arrival f
one_arrival f =
    ap (λ (p : Packet). record { frame = f.id; packet = p })
    (packets (refusal true f.packet) f.packet ∙ ap worlds.packet_by (sym (due_by f.packet)))

mapped : (fs : List Sent) → arrivals_of true (map frame_of fs) ≡ map arrival fs
mapped [] = refl
mapped (f ∷ fs) =
    ap (λ (a : Arrival). a ∷ arrivals_of true (map frame_of fs)) (one_arrival f)
    ∙ ap (λ (xs : List Arrival). arrival f ∷ xs) (mapped fs)

-- The frames that come to a host, of those that are due, are those that come to it in the run.
pub arrived : (lines : LinkLines) (sent : List Sent) (t n : ℕ) (came : List Sent) → came ≡ due lines sent t
    → arrivals_of true (frames_to n came) ≡ arrivals_at lines sent t n
arrived lines sent t n came is =
    mapped (filter (comes_to n) came) ∙ ap (λ (fs : List Sent). map arrival (filter (comes_to n) fs)) is

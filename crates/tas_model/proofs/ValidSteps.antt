-- Each rule keeps an endpoint valid.
use Rattle.std.proofs.Common.{◌≡◌, ℕ, ◌+◌, ◌-◌, ◌<◌, ◌≤◌, true, false, List, [], ◌∷◌, ◌++◌, length, take, drop, max}
use Rattle.std.proofs.Common.{Option, Some, None, refl, sym, subst, arith, length-append, length-take, length-drop, leb}
use Rattle.std.proofs.Common.{eqb}
use Rattle.std.proofs.lemmas.Bool.Decides.{nat_tests}
use Rattle.tas_model.proofs.Tests.{on_cond}
use Rattle.tas_model.specs.Endpoint.{Sending, Receiving, Island, next_place}
use Rattle.tas_model.specs.Receive.{after_duplicate, after_advance, with_window, sending_after, moves_window}
use Rattle.tas_model.specs.Receive.{is_duplicate, ack_verdict, Good}
use Rattle.tas_model.specs.Reassembly.{trimmed, meets, joined, kept_apart, bridged, grown, with_part, with_data}
use Rattle.tas_model.specs.Valid.{ValidSending, ValidReceiving, IsPastGap}

duplicate_keeps : (ring : ℕ) (tx : Sending) (a len window : ℕ) → ValidSending ring tx
    → ValidSending ring (after_duplicate tx a len window)
duplicate_keeps ring tx a len window v = grind (arith, nat_tests)

advance_keeps : (ring : ℕ) (tx : Sending) (a : ℕ) → a ≤ tx.max → ValidSending ring tx
    → ValidSending ring (after_advance tx a)
advance_keeps ring tx a h v = grind (arith, nat_tests)

window_keeps : (ring : ℕ) (tx : Sending) (a q window : ℕ) → ValidSending ring tx
    → ValidSending ring (with_window tx a q window)
window_keeps ring tx a q window v = grind (arith, nat_tests)

trimmed_length : (r window q : ℕ) (payload : List ℕ) → length (trimmed r window q payload) ≤ r + window - max q r
trimmed_length r window q payload = omega (arith, length-take (r + window - max q r) (drop (r - q) payload))

joined_end : (i : Island) (at : ℕ) (part : List ℕ) (limit : ℕ) → i.at + length i.bytes ≤ limit
    → at + length part ≤ limit → (joined i at part).at + length (joined i at part).bytes ≤ limit
joined_end i at part limit hi hp = grind (arith, length-append {A = ℕ}, length-take {A = ℕ}, length-drop {A = ℕ})

joined_some : (i : Island) (at : ℕ) (part : List ℕ) → 0 < length i.bytes → 0 < length (joined i at part).bytes
joined_some i at part some =
    omega (
      arith,
      length-append (take (i.at - at) part ++ i.bytes) (drop (i.at + length i.bytes - at) part),
      length-append (take (i.at - at) part) i.bytes,
    )

apart_keeps : (got limit : ℕ) (o : Option Island) (at : ℕ) (part : List ℕ) → IsPastGap got limit o → got < at
    → at + length part ≤ limit → 0 < length part → IsPastGap got limit (kept_apart o at part)
apart_keeps got limit None at part h past fits some = record { past = past; within = fits; some = some }
apart_keeps got limit (Some i) at part h past fits some =
    on_cond (IsPastGap got limit) (meets i at part) (Some (joined i at part)) (Some i)
    (λ t. record {
      past = omega (arith, h.past);
      within = joined_end i at part limit h.within fits;
      some = joined_some i at part h.some;
    }) (λ f. h)

bridged_joins : (ring : ℕ) (rx : Receiving) (i : Island) → rx.read ≤ length rx.got → length rx.got ≤ rx.read + ring
    → i.at + length i.bytes ≤ rx.read + ring
    → ValidReceiving ring (record rx { got = rx.got ++ drop (length rx.got - i.at) i.bytes; island = None })
bridged_joins ring rx i read room fits =
    let all : length (rx.got ++ drop (length rx.got - i.at) i.bytes)
    ≡ length rx.got + (length i.bytes - (length rx.got - i.at)) =
    omega (
      arith,
      length-append rx.got (drop (length rx.got - i.at) i.bytes),
      length-drop (length rx.got - i.at) i.bytes,
    ) in
    record { read = omega arith; room = omega arith; island = tt }

-- an island with bytes, in the room
abbrev FitsIn : (limit : ℕ) → Option Island → Type 0
FitsIn limit None = Unit {0}
FitsIn limit (Some i) = (i.at + length i.bytes ≤ limit) × (0 < length i.bytes)

bridged_keeps : (ring : ℕ) (rx : Receiving) (o : Option Island) → rx.read ≤ length rx.got
    → length rx.got ≤ rx.read + ring
    → FitsIn (rx.read + ring) o → rx.island ≡ o → ValidReceiving ring (bridged rx o)
bridged_keeps ring rx None read room island is =
    record { read = read; room = room; island = subst (IsPastGap (length rx.got) (rx.read + ring)) (sym is) tt }
bridged_keeps ring rx (Some i) read room island is =
    on_cond (ValidReceiving ring) (leb i.at (length rx.got))
    (record rx { got = rx.got ++ drop (length rx.got - i.at) i.bytes; island = None }) rx
    (λ t. bridged_joins ring rx i read room island.0)
    (λ f. record {
      read = read;
      room = room;
      island = subst (IsPastGap (length rx.got) (rx.read + ring)) (sym is)
          (record { past = past f; within = island.0; some = island.1 });
    })
  where
    past : leb i.at (length rx.got) ≡ false → length rx.got < i.at
    past f = grind (arith, nat_tests)

fits_in : (got limit : ℕ) (o : Option Island) → IsPastGap got limit o → FitsIn limit o
fits_in got limit None h = tt
fits_in got limit (Some i) h = (h.within, h.some)

grown_keeps : (ring : ℕ) (rx : Receiving) (part : List ℕ) → ValidReceiving ring rx
    → length rx.got + length part ≤ rx.read + ring → ValidReceiving ring (grown rx part)
grown_keeps ring rx part v fits =
    bridged_keeps ring (record rx { got = rx.got ++ part }) rx.island (omega (arith, v.read, length-append rx.got part))
    (omega (arith, length-append rx.got part))
    (fits_in (length rx.got) (rx.read + ring) rx.island v.island) refl

part_keeps : (ring : ℕ) (rx : Receiving) (at : ℕ) (part : List ℕ) → ValidReceiving ring rx → length rx.got ≤ at
    → (0 < length part → at + length part ≤ rx.read + ring) → ValidReceiving ring (with_part rx at part)
part_keeps ring rx at [] v low fits = v
part_keeps ring rx at (b ∷ part) v low fits' =
    let fits : at + length (b ∷ part) ≤ rx.read + ring = fits' (omega arith) in
    on_cond (ValidReceiving ring) (eqb at (length rx.got)) (grown rx (b ∷ part))
    (record rx { island = kept_apart rx.island at (b ∷ part) })
    (λ t. grown_keeps ring rx (b ∷ part) v (there t))
    (λ f. record {
      read = v.read;
      room = v.room;
      island = apart_keeps (length rx.got) (rx.read + ring) rx.island at (b ∷ part) v.island (past f) fits
          (omega arith);
    })
  where
    there : eqb at (length rx.got) ≡ true → length rx.got + length (b ∷ part) ≤ rx.read + ring
    there t = grind (arith, nat_tests, fits' (omega arith))

    past : eqb at (length rx.got) ≡ false → length rx.got < at
    past f = grind (arith, nat_tests)

-- rule 6
pub data_keeps : (ring : ℕ) (rx : Receiving) (window q : ℕ) (payload : List ℕ)
    → window ≤ ring - (length rx.got - rx.read)
    → ValidReceiving ring rx → ValidReceiving ring (with_data rx window q payload)
data_keeps ring rx window q payload small v =
    on_cond (ValidReceiving ring) rx.ended rx
    (with_part rx (max q (next_place rx) - 1) (trimmed (next_place rx) window q payload))
    (λ t. v)
    (λ f. part_keeps ring rx (max q (next_place rx) - 1) (trimmed (next_place rx) window q payload) v (low f) (high f))
  where
    low : rx.ended ≡ false → length rx.got ≤ max q (next_place rx) - 1
    low f = grind arith

    high : rx.ended ≡ false → 0 < length (trimmed (next_place rx) window q payload)
        → max q (next_place rx) - 1 + length (trimmed (next_place rx) window q payload) ≤ rx.read + ring
    high f some = let r : next_place rx ≡ 1 + length rx.got = grind arith in
        omega (arith, v.room, v.read, trimmed_length (next_place rx) window q payload)

pub good_tells : (tx : Sending) (a : ℕ) → ack_verdict tx a ≡ Good → a ≤ tx.max
good_tells tx a is = grind (arith, nat_tests)

-- rule 5
pub sending_keeps : (ring : ℕ) (tx : Sending) (a q len window : ℕ) → ack_verdict tx a ≡ Good → ValidSending ring tx
    → ValidSending ring (sending_after tx a q len window)
sending_keeps ring tx a q len window good v =
    let moved : ValidSending ring (after_advance (after_duplicate tx a len window) a) =
    advance_keeps ring (after_duplicate tx a len window) a (same_max (good_tells tx a good))
    (duplicate_keeps ring tx a len window v) in
    on_cond (ValidSending ring) (moves_window tx a q)
    (with_window (after_advance (after_duplicate tx a len window) a) a q window)
    (after_advance (after_duplicate tx a len window) a)
    (λ t. window_keeps ring (after_advance (after_duplicate tx a len window) a) a q window moved) (λ f. moved)
  where
    same_max : a ≤ tx.max → a ≤ (after_duplicate tx a len window).max
    same_max h = on_cond (λ (x : Sending). a ≤ x.max) (is_duplicate tx a len window) _ tx (λ t. h) (λ f. h)

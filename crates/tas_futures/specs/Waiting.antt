-- Where tasks wait for the sides of sockets.
use Rattle.std.specs.Prelude.{◌≡◌, ◌≢◌, ℕ, ◌+◌, ◌*◌, ◌≤◌, ◌⊎◌, true, false, List, [], ◌∷◌, length, Option, Some, None}
use Rattle.std.specs.Prelude.{IfSome, IsSome, IsSomeAnd, slice_get, slice_set, ◌==◌, if◌then◌else◌}
use Rattle.context_queue.specs.declared.note.Note.{Note}
use Rattle.futures.specs.Task.{Hears, Wakes}
use Rattle.futures.specs.declared.task.context.Context.{Context}
use Rattle.libtas_sockets.specs.declared.socket.Socket.{Socket}
use Rattle.tas_futures.specs.declared.side.Side.{Side}
use Rattle.tas_futures.specs.declared.side.Side.TheVariants.{Read, Write}
use Rattle.tas_futures.specs.declared.waiters.Place.{Place}

-- ----- keys
-- twice the socket's number, and 1 more for the side that is written
abbrev pub key_of : Socket → Side → ℕ
key_of s Read = 2 * s.0
key_of s Write = 2 * s.0 + 1

-- ----- who waits
-- the place of this key waits for that source
abbrev pub IsSourceAt : List Place → (key : ℕ) → (source : ℕ) → Type 0
IsSourceAt places key source = IsSomeAnd (slice_get places key) (λ p. source ≡ p.source.id)

-- The task waits at the place of this key: this poll has registered at its source, and its waker is there.
abbrev pub IsWaiting : List Place → (key : ℕ) → (before after : Context) → Type 0
IsWaiting places key before after = IsSomeAnd (slice_get places key)
    (λ p. Hears after p.source.id × IsSome p.waker
    × ((after.lacks_waker ≡ true) ⊎ IsSomeAnd p.waker (λ w. Wakes w before)))

-- it can't, for want of memory: there was no place yet, or no waker could be made
abbrev pub CannotWait : List Place → (key : ℕ) → Context → Type 0
CannotWait places key after = (length places ≤ key) ⊎ (after.lacks_waker ≡ true)

-- who waits at other keys waits there still, for the same
abbrev pub KeepsOthers : (key : ℕ) → (before after : List Place) → Type 0
KeepsOthers key before after = (k : ℕ) → k ≢ key → IfSome (slice_get before k) (λ p. slice_get after k ≡ Some p)

-- ----- who is woken
-- The waker at this place is gone, by which its task is woken.
abbrev pub without_waker : (key : ℕ) → List Place → List Place
without_waker key places =
    elim (slice_get places key) [ None ↦ places | Some p ↦ slice_set places key (record p { waker = None }) ]

-- the sides that notes of this kind tell of
abbrev pub sides_of : (kind : ℕ) → List Side
sides_of kind =
    if kind == 1 then Read ∷ [] else if kind == 2 then Write ∷ [] else if kind == 3 then Read ∷ Write ∷ [] else []

abbrev pub without_wakers : Socket → List Side → List Place → List Place
without_wakers s [] places = places
without_wakers s (x ∷ xs) places = without_wakers s xs (without_waker (key_of s x) places)

-- the places of the sides that a note tells of have no waker
abbrev pub notified : Note → List Place → List Place
notified n places = without_wakers (record { 0 = n.slot }) (sides_of n.kind) places

-- The books of flows whose sockets were given up in a phase: for the answers for `leavers_of` and for a phase.
use Rattle.std.proofs.Common.{◌≡◌, ◌≤◌, ◌-◌, ℕ, zero, suc, Bool, true, false, cond, List, [], ◌∷◌, ◌++◌}
use Rattle.std.proofs.Common.{map, take, drop, length, set, refl, sym, ap, ◌∙◌, arith}
use Rattle.std.specs.Prelude.{Some, slice_get, Ok, Err}
use Rattle.tas_model.specs.declared.entry.FlowId.{FlowId}
use Rattle.libtas_sockets.specs.Answers.{is_closed}
use Rattle.libtas_sockets.specs.Apps.{flow_of}
use Rattle.libtas_sockets.specs.declared.socket_error.SocketError.TheVariants as errors
use Rattle.core_phase.specs.Attempts.{pin_left}
use Rattle.core_phase.specs.declared.attempt.Answered.{Answered}
use Rattle.core_phase.specs.declared.attempt.Answered.TheVariants as answers
use Rattle.core_phase.specs.declared.attempt.Attempt.{Attempt}
use Rattle.core_phase.specs.declared.attempt.Attempt.TheVariants as attempts
use Rattle.core_phase.specs.declared.lane.AppLane.{AppLane}
use Rattle.core_phase.specs.declared.lane.Lane.{Lane}
use Rattle.core_phase.specs.declared.lane.Lane.TheVariants as lanes
use Rattle.host_books.specs.Books as host_books
use Rattle.sound_hosts.specs.Leaving.{books_left, reheld, left_by}
use Rattle.sound_phases.specs.Phased as phased
use Rattle.sound_phases.specs.Phased.{books_after}
use Rattle.core_host.specs.Books.{book_of}
use Rattle.core_host.specs.Leaving.{leaver_by, leaver_of, has_left, books_where, books_by}
use Rattle.core_host.specs.Sound.{AreApps, AreStaff}
use Rattle.core_host.specs.declared.books.Book.{Book}

-- ----- one lane
module _ (app : ℕ) (id : FlowId) (bs : List host_books.Book) where
  abbrev left_if : Bool → List host_books.Book
  left_if t = cond t (books_left app (id ∷ []) bs) bs

  never : (t : Bool) → cond t false false ≡ false
  never true = refl
  never false = refl

  closed : (answer : Answered) → left_if (has_left false answer) ≡ books_left app (pin_left id attempts.Close answer) bs
  closed answers.Nothing = refl
  closed (answers.Sent r) = refl
  closed (answers.Read r) = refl
  closed (answers.Done (Ok x)) = refl
  closed (answers.Done (Err e)) = ap left_if (never (is_closed e))

  aborted : (answer : Answered) → left_if (has_left true answer) ≡ books_left app (pin_left id attempts.Abort answer) bs
  aborted answers.Nothing = refl
  aborted (answers.Sent r) = refl
  aborted (answers.Read r) = refl
  aborted (answers.Done (Ok x)) = refl
  aborted (answers.Done (Err (errors.Closed x))) = refl
  aborted (answers.Done (Err errors.NotYet)) = refl
  aborted (answers.Done (Err errors.NotOpen)) = refl
  aborted (answers.Done (Err errors.Shut)) = refl
  aborted (answers.Done (Err (errors.Busy x))) = refl
  aborted (answers.Done (Err (errors.Stale x))) = refl
  aborted (answers.Done (Err (errors.Moved x y))) = refl
  aborted (answers.Done (Err (errors.Early x))) = refl
  aborted (answers.Done (Err (errors.SlotInUse x))) = refl
  aborted (answers.Done (Err (errors.PortInUse x))) = refl
  aborted (answers.Done (Err errors.NoPort)) = refl
  aborted (answers.Done (Err errors.NoFlowSlot)) = refl
  aborted (answers.Done (Err errors.OutOfMemory)) = refl

  tried : (before : Attempt) (w : AppLane)
      → books_where (leaver_by before app id) (lanes.App w) bs ≡ books_left app (pin_left id before w.answer) bs
  tried attempts.Nothing w = refl
  tried (attempts.Send bytes) w = refl
  tried (attempts.Recv buf) w = refl
  tried attempts.Shut w = refl
  tried attempts.Close w = closed w.answer
  tried attempts.Abort w = aborted w.answer

left_one : (v w : Lane) (bs : List host_books.Book) → books_where (leaver_of v) w bs ≡ phased.books_by v w bs
left_one (lanes.Core v) w bs = refl
left_one (lanes.App v) (lanes.App w) bs = tried v.app.number (flow_of v.app v.socket) bs v.attempt w
left_one (lanes.App v) (lanes.Core w) bs = by v.attempt
  where
    by : (before : Attempt)
        → books_where (leaver_by before v.app.number (flow_of v.app v.socket)) (lanes.Core w) bs ≡ bs
    by attempts.Nothing = refl
    by (attempts.Send bytes) = refl
    by (attempts.Recv buf) = refl
    by attempts.Shut = refl
    by attempts.Close = refl
    by attempts.Abort = refl

-- ----- all lanes
pub left_all : (vs ws : List Lane) (bs : List host_books.Book) → books_by (map leaver_of vs) ws bs ≡ books_after vs ws
    bs
left_all [] ws bs = refl
left_all (v ∷ vs) [] bs = refl
left_all (v ∷ vs) (w ∷ ws) bs =
    ap (books_by (map leaver_of vs) ws) (left_one v w bs) ∙ left_all vs ws (phased.books_by v w bs)

-- ----- the number of the application in a lane
pub none_there : (l : Lane) (ls : List Lane) (i : ℕ) → ls ≡ [] → slice_get ls i ≡ Some l → ⊥
none_there l [] i e at = absurd (cc (at))
none_there l (x ∷ ls) i e at = absurd (cc (e))

name_in : (names : List ℕ) (ls : List Lane) (i : ℕ) (l : AppLane) → AreApps names ls → slice_get ls i ≡ Some
    (lanes.App l)
    → slice_get names i ≡ Some l.app.number
name_in [] ls i l are at = absurd (none_there (lanes.App l) ls i are at)
name_in (n ∷ ns) [] i l are at = absurd are
name_in (n ∷ ns) (lanes.Core k ∷ ls) i l are at = absurd are
name_in (n ∷ ns) (lanes.App k ∷ ls) zero l are at =
    let same : k ≡ l = cc (at) in ap (λ m. Some m) (sym are.0) ∙ ap (λ (x : AppLane). Some x.app.number) same
name_in (n ∷ ns) (lanes.App k ∷ ls) (suc i) l are at = name_in ns ls i l are.1 at

pub named_at : (n first : ℕ) (names : List ℕ) (ls : List Lane) (i : ℕ) (l : AppLane) → AreStaff n first names ls
    → slice_get ls i ≡ Some (lanes.App l) → (n ≤ i) × (slice_get names (i - n) ≡ Some l.app.number)
named_at zero first names ls i l are at =
    let same : i ≡ i - 0 = omega arith in
    (omega arith, ap (slice_get names) (sym same) ∙ name_in names ls i l are at)
named_at (suc n) first names [] i l are at = absurd are
named_at (suc n) first names (lanes.App k ∷ ls) i l are at = absurd are
named_at (suc n) first names (lanes.Core k ∷ ls) zero l are at = absurd (cc (at))
named_at (suc n) first names (lanes.Core k ∷ ls) (suc i) l are at =
    let r = named_at n (suc first) names ls i l are.1 at in
    let same : i - n ≡ suc i - suc n = omega arith in
    let near : n ≤ i = r.0 in
    (omega (arith, near), ap (slice_get names) (sym same) ∙ r.1)

-- ----- the loop over all books
-- what the first books became, and what the others will become
abbrev pub half_left : (app : ℕ) → FlowId → (i : ℕ) → List Book → List host_books.Book
half_left app id i bs = map book_of (take i bs) ++ map (reheld (left_by app id)) (map book_of (drop i bs))

pub left_more : (app : ℕ) (id : FlowId) (i : ℕ) (bs : List Book) (b d : Book) → slice_get bs i ≡ Some b
    → book_of d ≡ reheld (left_by app id) (book_of b) → half_left app id (suc i) (set bs i d) ≡ half_left app id i bs
left_more app id i [] b d here made = absurd (cc (here))
left_more app id zero (x ∷ xs) b d here made =
    let same : b ≡ x = cc (here) in
    (λ j. made j ∷ map (reheld (left_by app id)) (map book_of xs))
    ∙ ap (λ (y : Book). reheld (left_by app id) (book_of y) ∷ map (reheld (left_by app id)) (map book_of xs)) same
left_more app id (suc i) (x ∷ xs) b d here made =
    ap (λ l. book_of x ∷ l) (left_more app id i xs b d here made)

pub left_ends : (app : ℕ) (id : FlowId) (i : ℕ) (bs : List Book) → length bs ≤ i → half_left app id i bs ≡ map book_of
    bs
left_ends app id zero [] long = refl
left_ends app id (suc i) [] long = refl
left_ends app id zero (x ∷ xs) long = absurd (omega arith)
left_ends app id (suc i) (x ∷ xs) long = ap (λ l. book_of x ∷ l) (left_ends app id i xs (omega arith))

-- A tick of a host whose cores and applications take turns side by side.
use Rattle.std.specs.Prelude.{◌≡◌, ℕ, ◌<◌, ◌≤◌, List, [], ◌++◌, All, length, filter, count_by, IsPermutation}
use Rattle.host_rounds.specs.Deliveries.{Arrival}
use Rattle.host_rounds.specs.Scripts.{Site, Scripts}
use Rattle.host_rounds.specs.Rounds.{Due, on_host}
use Rattle.host_rounds.specs.SerialOrder.{slow_phase, emit_phase}
use Rattle.core_rounds.specs.SharedTicks.{alone_phase}
use Rattle.core_rounds.specs.Shares.{AreDistinct, is_asked_by}
use Rattle.flow_lock.specs.Orders.{Order, played}
use Rattle.flow_lock.specs.declared.view.Held.{Held}
use Rattle.host_books.specs.Books.{Setting, site_of}
use Rattle.host_books.specs.Leavings.{books_after, scripts_after}
use Rattle.host_books.specs.Ticks.{Beside, site_before, site_after}
use Rattle.lane_orders.specs.Turns.{Did, IsByWorkers, AreTurns, IsOfTurns, AreGiven}
use Rattle.lane_orders.specs.Turns.{left_below, asked_below, leavings_below}

-- Turns that were taken side by side, and the deeds of a run that they are.
pub record Phase {S A : Type 0} (scripts : Scripts S A) (t : ℕ) : Type 0 where
  pub setting : Setting
  pub state : S
  pub known : List Held
  pub order : Order
  pub turns : ℕ
  pub did : ℕ → Did S A
  pub are : AreTurns scripts t setting state known order turns did
  pub beside : Beside scripts t
  pub of_turns : IsOfTurns scripts t setting state known order turns did beside

-- the host and the scripts after these turns, as what their tries leave turn by turn
abbrev pub site_left : {S A : Type 0} → {scripts : Scripts S A} → {t : ℕ} → Phase scripts t → Site S
site_left {t = t} p =
    site_of (record (p.setting) { books = books_after (leavings_below t p.turns p.did) p.setting.books })
    (played p.known p.order) (scripts_after (leavings_below t p.turns p.did) p.state)

-- The frames that came were handed out to so many cores, each once, as the steering named the cores.
pub record IsHandOut {S A : Type 0} (frames : List Arrival) (cores turns : ℕ) (did : ℕ → Did S A) : Type 0 where
  pub handed : List ℕ
  pub same : length handed ≡ length frames
  pub below : All (λ core. core < cores) handed
  pub turned : cores ≤ turns
  pub given : AreGiven cores handed frames did

-- Of each who asks at most one ask was made in a turn, and with those that are left it is what is due, in its order.
pub record AreTried {S A : Type 0} (scripts : Scripts S A) (asks tried later : List A) : Type 0 where
  pub one : (n : ℕ) → count_by (is_asked_by scripts n) tried ≤ 1
  pub all : (n : ℕ) → filter (is_asked_by scripts n) (tried ++ later) ≡ filter (is_asked_by scripts n) asks

-- The slow path gives up closed flows and lets time pass. The frames that came, each once, are handed out, and cores
-- and applications take turns side by side. The slow path takes the frames that they left, and the applications ask
-- what is left. Then cores that were handed no frame take turns again, and the slow path sends what may still go. The
-- host has so many cores, numbered from 0 on, and one at least.
pub record IsTickOfTurns {S A : Type 0} (scripts : Scripts S A) (cores t : ℕ) (due : Due A) (before after : Site S)
    : Type 0 where
  pub some : 0 < cores
  pub first : Phase scripts t
  pub workers : (p : ℕ) → IsByWorkers cores (first.did p)
  pub slow : on_host (slow_phase t) before ≡ site_before first.beside
  pub distinct : AreDistinct due.frames
  pub handed : IsHandOut due.frames cores first.turns first.did
  pub rest : List Arrival
  pub left : IsPermutation (left_below first.turns first.did) rest
  pub later : List A
  pub tried : AreTried scripts due.asks (asked_below first.turns first.did) later
  pub second : Phase scripts t
  pub alone : alone_phase scripts t (site_after first.beside) rest later ≡ site_before second.beside
  pub senders : (p : ℕ) → IsByWorkers cores (second.did p)
  pub none : (p : ℕ) → (second.did p).frames ≡ []
  pub silent : asked_below second.turns second.did ≡ []
  pub made : on_host (emit_phase t) (site_after second.beside) ≡ after

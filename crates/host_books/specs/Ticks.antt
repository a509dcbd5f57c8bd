-- A tick of a host whose cores and applications work side by side twice: on the frames that came and what is asked,
-- and, after the slow path and the applications, on what may go.
use Rattle.std.specs.Prelude.{◌≡◌, ℕ, ◌<◌, List, ◌++◌, map, filter, IsPermutation}
use Rattle.host_rounds.specs.Lists.{Each}
use Rattle.host_rounds.specs.Deliveries.{Arrival}
use Rattle.host_rounds.specs.Scripts.{Site, Scripts}
use Rattle.host_rounds.specs.Rounds as rounds
use Rattle.host_rounds.specs.Rounds.{Due, on_host}
use Rattle.host_rounds.specs.Cores.{IsWorkerOf}
use Rattle.host_rounds.specs.SerialOrder.{slow_phase, emit_phase}
use Rattle.core_rounds.specs.SharedTicks.{alone_phase}
use Rattle.core_rounds.specs.Shares.{AreDistinct, frames_in, asks_in, is_asked_by}
use Rattle.flow_lock.specs.Orders.{Order, played}
use Rattle.flow_lock.specs.declared.view.Held.{Held}
use Rattle.host_books.specs.Books.{Setting, site_of}
use Rattle.host_books.specs.Tries.{Word, IsWord, IsSendWord, ToldAs, told_of}

-- ----- side by side
-- One order of deeds in the table, with its words, and what they leave.
pub record Beside {S A : Type 0} (scripts : Scripts S A) (t : ℕ) : Type 0 where
  pub setting : Setting
  pub state : S
  pub known : List Held
  pub order : Order
  pub words : List (Word S A)
  pub each : Each (IsWord t setting.books) words
  pub told : ToldAs scripts t setting state known order (map told_of words)

-- the deeds of the run
abbrev pub deeds_of : {S A : Type 0} → {scripts : Scripts S A} → {t : ℕ} → Beside scripts t → List (rounds.Deed A)
deeds_of b = map told_of b.words

abbrev pub site_before : {S A : Type 0} → {scripts : Scripts S A} → {t : ℕ} → Beside scripts t → Site S
site_before b = site_of b.setting b.known b.state

abbrev pub site_after : {S A : Type 0} → {scripts : Scripts S A} → {t : ℕ} → Beside scripts t → Site S
site_after b = site_of (record (b.setting) { books = b.told.after }) (played b.known b.order) b.told.next

-- each is by the slow path or one of so many cores
abbrev pub AreByWorkers : {A : Type 0} → (cores : ℕ) → List (rounds.Deed A) → Type 0
AreByWorkers {A} cores deeds = Each (λ (m : rounds.Deed A). IsWorkerOf cores m.by) deeds

-- ----- a tick
-- The slow path gives up closed flows and lets time pass. Of the frames that came, each once, some are taken beside the
-- others, and so are some asks. The slow path takes the frames that are left, and the applications ask what is left.
-- Then segments alone are sent side by side, and the slow path sends what may still go. The host has so many cores,
-- numbered from 0 on, and one at least.
pub record IsTickOfPhases {S A : Type 0} (scripts : Scripts S A) (cores t : ℕ) (due : Due A) (before after : Site S)
    : Type 0 where
  pub some : 0 < cores
  pub first : Beside scripts t
  pub workers : AreByWorkers cores (deeds_of first)
  pub slow : on_host (slow_phase t) before ≡ site_before first
  pub rest : List Arrival
  pub later : List A
  pub distinct : AreDistinct due.frames
  pub frames : IsPermutation (frames_in (deeds_of first) ++ rest) due.frames
  pub asks : (n : ℕ)
      → filter (is_asked_by scripts n) (asks_in (deeds_of first) ++ later) ≡ filter (is_asked_by scripts n) due.asks
  pub second : Beside scripts t
  pub alone : alone_phase scripts t (site_after first) rest later ≡ site_before second
  pub sends : Each (IsSendWord t second.setting.books) second.words
  pub senders : AreByWorkers cores (deeds_of second)
  pub made : on_host (emit_phase t) (site_after second) ≡ after

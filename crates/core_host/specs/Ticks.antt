-- A tick of a host, step by step: what its lanes do side by side, what is done alone, and what its scripts ask.
use Rattle.std.specs.Prelude.{◌≡◌, ℕ, List, [], ◌∷◌, Option, None, ⊤}
use Rattle.host_rounds.specs.Lists.{Each}
use Rattle.host_rounds.specs.Rounds.{Due}
use Rattle.host_rounds.specs.Scripts.{Site, Scripts}
use Rattle.host_rounds.specs.SerialOrder.{ask_phase}
use Rattle.core_rounds.specs.Shares.{AreDistinct}
use Rattle.core_worker.specs.declared.frames.Frame.{Frame}
use Rattle.frame_steering.specs.declared.handing.GroupMove.{GroupMove}
use Rattle.slow_handshake.specs.Numbers.{FirstNumbers}
use Rattle.host_books.specs.Leavings.{Leaving, books_after, scripts_after}
use Rattle.host_books.specs.Tries.{Try}
use Rattle.core_phase.specs.declared.lane.Lane.{Lane}
use Rattle.core_phase.specs.declared.lane.Lane.TheVariants as lanes
use Rattle.lane_orders.specs.Ticks.{AreTried}
use Rattle.phase_orders.specs.CoreTurns.{arrivals_of}
use Rattle.phase_orders.specs.Lanes.{IsTryBy, IsAsk, AreAllApart, all_asked, AreLeavings}
use Rattle.slow_rounds.specs.Rests.{starts_by}
use Rattle.sound_hosts.specs.Hosts.{setting_of}
use Rattle.core_host.specs.Emission.{AreTriesSet, IsKicked, IsRestSent}
use Rattle.core_host.specs.Ending.{AreFiled}
use Rattle.core_host.specs.Handing.{IsHandedOut}
use Rattle.core_host.specs.Serving.{IsServed, AreTaken}
use Rattle.core_host.specs.Sharing.{all_in_tick, IsPlayed}
use Rattle.core_host.specs.Sound.{IsStaffSound, IsClear, IsUnasked}
use Rattle.core_host.specs.Steps.{IsTimePassed}
use Rattle.core_host.specs.Views.{Staffed, seen_by}

-- ----- what is tried
-- each application tries what its script asks, or nothing where that asks nothing
abbrev pub IsSetTo : {S A : Type 0} → Option (Try S A) → Lane → Type 0
IsSetTo o (lanes.Core l) = o ≡ None
IsSetTo o (lanes.App l) = IsTryBy o l

abbrev pub AreSetTo : {S A : Type 0} → List (Option (Try S A)) → List Lane → Type 0
AreSetTo [] [] = ⊤
AreSetTo [] (l ∷ ls) = ⊥
AreSetTo (o ∷ os) [] = ⊥
AreSetTo (o ∷ os) (l ∷ ls) = IsSetTo o l × AreSetTo os ls

-- ----- steps
-- What applications asked alone left the cores, and what is looked at, as they were; where cores had nothing left and
-- applications tried nothing, it is so still. Records that were filed have the histories that are known of their flows,
-- if they had.
pub record AreAsked (before after : Staffed) : Type 0 where
  pub sound : IsStaffSound after
  pub cores : after.cores ≡ before.cores
  pub checks : after.host.slow.check_sums ≡ before.host.slow.check_sums
  pub clear : Each IsClear before.lanes → Each IsClear after.lanes
  pub unasked : Each IsUnasked before.lanes → Each IsUnasked after.lanes
  pub filed : AreFiled before.host → AreFiled after.host

-- ----- ticks
-- Between two ticks nothing is left to do, and no application tries anything.
pub record IsBetweenTicks (h : Staffed) : Type 0 where
  pub sound : IsStaffSound h
  pub clear : Each IsClear h.lanes
  pub unasked : Each IsUnasked h.lanes

-- with how far its scripts are
abbrev pub site_in : {S : Type 0} → Staffed → S → Site S
site_in h state = record { host = seen_by h; scripts = state }

-- Time passed; the frames that are due, each once, were handed to cores; applications tried what their scripts asked,
-- beside the cores, and the scripts went on by the answers; the slow path served what was left; the scripts asked all
-- else alone; cores that were kicked sent, side by side, and what might still go was sent.
--
-- `stand` to `left` are of the scripts: what they ask stands, each ask apart from the others; of each who asks, one ask
-- at most was made beside the others; and what the answers leave is what the books, and then the scripts, have.
pub record IsTick {S A : Type 0} (scripts : Scripts S A) (t : ℕ) (due : Due A) (before after : Staffed)
    (state next : S) : Type 0 where
  pub passed : Staffed
  pub time : IsTimePassed t before passed
  -- frames
  pub frames : List Frame
  pub come : arrivals_of before.host.slow.check_sums frames ≡ due.frames
  pub distinct : AreDistinct due.frames
  pub moves : List GroupMove
  pub handed : Staffed
  pub dealt : IsHandedOut moves frames passed handed
  -- what is tried
  pub trying : Staffed
  pub tries : AreTriesSet handed trying
  pub asks : List (Option (Try S A))
  pub set : AreSetTo asks trying.lanes
  pub stand : Each (IsAsk scripts t (setting_of trying.host) state) asks
  pub apart : AreAllApart scripts t asks
  pub played : Staffed
  pub first : IsPlayed t trying played
  pub later : List A
  pub tried : AreTried scripts due.asks (all_asked asks played.lanes) later
  pub heard : S
  pub left : (ls : List (Leaving S)) → AreLeavings t asks (all_in_tick t trying.lanes) played.lanes ls
      → (books_after ls trying.host.books ≡ played.host.books) × (scripts_after ls state ≡ heard)
  pub told : Staffed
  pub answers : AreTriesSet played told
  pub none : Each IsUnasked told.lanes
  -- alone
  pub numbers : FirstNumbers
  pub starts : scripts.starts ≡ starts_by numbers
  pub served : Staffed
  pub serves : IsServed numbers t told served
  pub asked : Staffed
  pub alone : ask_phase scripts t (site_in served heard) later ≡ site_in asked next
  pub stays : AreAsked served asked
  -- segments
  pub kicked : Staffed
  pub kicks : IsKicked asked kicked
  pub sent : Staffed
  pub second : IsPlayed t kicked sent
  pub quiet : Staffed
  pub forgot : AreTriesSet sent quiet
  pub silent : Each IsUnasked quiet.lanes
  pub rest : IsRestSent t quiet after

-- Time passed; the slow path took the frames that are due, in their order; the scripts asked all that they ask alone;
-- and what might go was sent.
pub record IsTickAlone {S A : Type 0} (scripts : Scripts S A) (t : ℕ) (due : Due A) (before after : Staffed)
    (state next : S) : Type 0 where
  pub passed : Staffed
  pub time : IsTimePassed t before passed
  pub frames : List Frame
  pub come : arrivals_of before.host.slow.check_sums frames ≡ due.frames
  pub numbers : FirstNumbers
  pub starts : scripts.starts ≡ starts_by numbers
  pub served : Staffed
  pub serves : AreTaken numbers t frames passed served
  pub asked : Staffed
  pub alone : ask_phase scripts t (site_in served state) due.asks ≡ site_in asked next
  pub stays : AreAsked served asked
  pub rest : IsRestSent t asked after

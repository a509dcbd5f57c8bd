-- The history that stretches mean: a stretch is one entry, a run of quiet ticks, or several such runs with a Control
-- behind each.
use Rattle.std.specs.Prelude.{◌≡◌, ℕ, zero, suc, ◌+◌, ◌*◌, ◌^◌, ◌<◌, ◌≤◌, ◌==◌, ◌&&◌, Bool, true, false, List, [], ◌∷◌}
use Rattle.std.specs.Prelude.{◌++◌, length, flat_map, ⊤, ◌-◌, slice_get, Option, Some, None}
use Rattle.tas_model.specs.declared.entry.Caller.{Caller}
use Rattle.tas_model.specs.declared.entry.Call.TheVariants as calls
use Rattle.tas_model.specs.declared.entry.Reply.TheVariants as replies
use Rattle.tas_model.specs.declared.entry.Entry.{Entry}
use Rattle.tas_model.specs.LegalHistory.{same_caller, last_tick}
use Rattle.flow_state.specs.declared.slot.CallSlot.{CallSlot}
use Rattle.flow_state.specs.declared.slot.CallSlot.TheVariants as cs
use Rattle.flow_state.specs.declared.slot.ReplySlot.{ReplySlot}
use Rattle.flow_state.specs.declared.slot.ReplySlot.TheVariants as rs
use Rattle.flow_state.specs.declared.slot.Slot.{Slot}
use Rattle.flow_state.specs.declared.stretch.QuietRun.{QuietRun}
use Rattle.flow_state.specs.declared.paced.PacedRun.{PacedRun}
use Rattle.flow_state.specs.declared.stretch.Stretch.{Stretch}
use Rattle.flow_state.specs.declared.stretch.Stretch.TheVariants.{One, Quiet, Paced}
use Rattle.flow_state.specs.declared.call.Answer.{Answer}
use Rattle.flow_state.specs.Calls.{reply_of}
use Rattle.flow_state.specs.Arena.{Memory}
use Rattle.flow_state.specs.Slots.{entry_of, IsWithin}

-- a call of Tick that nothing came of
abbrev pub quiet_tick : Caller → (number tick : ℕ) → Entry
quiet_tick caller number tick = record {
  caller = caller;
  number = number;
  tick = tick;
  call = calls.Tick;
  reply = replies.Quiet;
}

-- so many of one caller, each at the tick after the one before; the first has this number and tick
abbrev pub quiet_ticks : Caller → (number tick count : ℕ) → List Entry
quiet_ticks caller number tick zero = []
quiet_ticks caller number tick (suc n) = quiet_tick caller number tick ∷ quiet_ticks caller (number + 1) (tick + 1) n

-- those of a run
abbrev pub run_entries : QuietRun → List Entry
run_entries r = quiet_ticks r.caller r.number r.tick (suc r.more)

-- a Control of which this window and threshold came, in bytes
abbrev pub control_entry : Caller → (number tick cwnd ssthresh : ℕ) → Entry
control_entry caller number tick cwnd ssthresh = record {
  caller = caller;
  number = number;
  tick = tick;
  call = calls.Control;
  reply = replies.Window cwnd ssthresh;
}

-- In what runs with a Control behind each are alike: their caller, how many quiet ticks follow on the first of each,
-- and what came of each Control.
pub record Pace : Type 0 where
  pub caller : Caller
  pub more : ℕ
  pub cwnd : ℕ
  pub ssthresh : ℕ

-- one run, the first of which has this number and tick, and in the tick of its last the Control
abbrev pub paced : Pace → (number tick : ℕ) → List Entry
paced p number tick = quiet_ticks p.caller number tick (suc p.more)
    ++ control_entry p.caller (number + p.more + 1) (tick + p.more) p.cwnd p.ssthresh ∷ []

-- so many, each from the tick after the one before
abbrev pub paced_times : Pace → (number tick count : ℕ) → List Entry
paced_times p number tick zero = []
paced_times p number tick (suc n) =
    paced p number tick ++ paced_times p (number + (p.more + 2)) (tick + (p.more + 1)) n

abbrev pub pace_of : PacedRun → Pace
pace_of r = record { caller = r.run.caller; more = r.run.more; cwnd = r.cwnd; ssthresh = r.ssthresh }

-- those of all its runs
abbrev pub paced_entries : PacedRun → List Entry
paced_entries r = paced_times (pace_of r) r.run.number r.run.tick (suc r.more)

-- those of its first run
abbrev pub first_paced : PacedRun → List Entry
first_paced r = paced (pace_of r) r.run.number r.run.tick

-- those of a stretch
abbrev pub entries_in : Memory → Stretch → List Entry
entries_in memory (One tick s) = entry_of memory tick s ∷ []
entries_in memory (Quiet r) = run_entries r
entries_in memory (Paced r) = paced_entries r

-- the whole history
abbrev pub entries_of : Memory → List Stretch → List Entry
entries_of memory stretches = flat_map (entries_in memory) stretches

-- ----- conditions
-- numbers and ticks of a run can be written
pub record IsRun (r : QuietRun) : Type 0 where
  pub number : r.number + r.more < 2 ^ 64
  pub tick : r.tick + r.more < 2 ^ 32

-- It knows the number and the tick that follow on its runs, and these can be written.
pub record IsPacedRun (r : PacedRun) : Type 0 where
  pub number : r.number ≡ r.run.number + suc r.more * (r.run.more + 2)
  pub tick : r.tick ≡ r.run.tick + suc r.more * (r.run.more + 1)
  pub low_number : r.number < 2 ^ 64
  pub low_tick : r.tick < 2 ^ 32

-- a stretch names nothing but the first n bytes, and the first k segments that came
abbrev pub StretchWithin : (n k : ℕ) → Stretch → Type 0
StretchWithin n k (One tick s) = IsWithin n k s
StretchWithin n k (Quiet r) = IsRun r
StretchWithin n k (Paced r) = IsPacedRun r

-- nor does any of all
abbrev pub AllWithin : (n k : ℕ) → List Stretch → Type 0
AllWithin n k [] = ⊤
AllWithin n k (s ∷ ss) = StretchWithin n k s × AllWithin n k ss

-- what all name stands somewhere
abbrev pub ArePlaced : List Stretch → Type 0
ArePlaced stretches = (n : ℕ) × (k : ℕ) × AllWithin n k stretches

-- what all name stands in this memory
abbrev pub AllStand : Memory → List Stretch → Type 0
AllStand memory stretches = AllWithin (length memory.bytes) (length memory.came) stretches

-- ----- tests
abbrev pub is_quiet_pair : CallSlot → ReplySlot → Bool
is_quiet_pair cs.Tick rs.Quiet = true
is_quiet_pair _ _ = false

-- it is the entry of a quiet tick
abbrev pub is_quiet_tick : Slot → Bool
is_quiet_tick s = is_quiet_pair s.call s.reply

-- a quiet tick with this caller, number and tick is the next one of the run
abbrev pub comes_next : QuietRun → Caller → (number tick : ℕ) → Bool
comes_next r caller number tick =
    same_caller r.caller caller && number == r.number + r.more + 1 && tick == r.tick + r.more + 1

abbrev pub ends_so : Option Stretch → Caller → (number tick : ℕ) → Bool
ends_so None caller number tick = false
ends_so (Some (One at s)) caller number tick = false
ends_so (Some (Quiet r)) caller number tick = comes_next r caller number tick
ends_so (Some (Paced r)) caller number tick = false

-- it is the next one of the run that the stretches end with
abbrev pub goes_on : List Stretch → Caller → (number tick : ℕ) → Bool
goes_on ss caller number tick = ends_so (slice_get ss (length ss - 1)) caller number tick

-- the entry of this slot, at this tick, is by the run's caller, in its last tick and next behind it
abbrev pub follows_run : QuietRun → (tick : ℕ) → Slot → Bool
follows_run r tick s = same_caller r.caller s.caller && s.number == r.number + r.more + 1 && tick == r.tick + r.more

-- the runs `next` are of the same pace, and the first of them is the next one
abbrev pub paces_on : (runs next : PacedRun) → Bool
paces_on r next =
    same_caller r.run.caller next.run.caller && r.run.more == next.run.more && r.cwnd == next.cwnd
    && r.ssthresh == next.ssthresh && r.number == next.run.number && r.tick == next.run.tick

-- ----- one entry more
-- The stretches have the entry of this slot, at this tick, behind the others. Where no stretch came to them, a tick
-- passed, and also where one went.
pub record Added (before after : List Stretch) (tick : ℕ) (s : Slot) : Type 0 where
  pub entries : (memory : Memory) → entries_of memory after ≡ entries_of memory before ++ entry_of memory tick s ∷ []
  pub within : (n k : ℕ) → AllWithin n k before → IsWithin n k s → AllWithin n k after
  pub few : (memory : Memory) → last_tick 0 (entries_of memory before) ≤ tick
      → length before + 2 * last_tick 0 (entries_of memory before) + 1 ≤ length after + 2 * tick

-- the entry of a Tick with an answer that has no bytes
abbrev pub tick_entry : Caller → (number tick : ℕ) → Answer → Entry
tick_entry caller number tick answer = record {
  caller = caller;
  number = number;
  tick = tick;
  call = calls.Tick;
  reply = reply_of answer [];
}

-- a slot of that entry, wherever its memory ends
pub record IsTickSlot (caller : Caller) (number tick : ℕ) (answer : Answer) (s : Slot) : Type 0 where
  pub entry : (memory : Memory) → entry_of memory tick s ≡ tick_entry caller number tick answer
  pub within : (n k : ℕ) → IsWithin n k s

-- the stretches have the entry of a Tick more
abbrev pub AddedTick : (before after : List Stretch) → Caller → (number tick : ℕ) → Answer → Type 0
AddedTick before after caller number tick answer =
    (s : Slot) × IsTickSlot caller number tick answer s × Added before after tick s

-- the stretches, as many as they were, have so many quiet ticks more, from the one after their last
pub record AddedTicks (before after : List Stretch) (caller : Caller) (number tick n : ℕ) : Type 0 where
  pub entries : (memory : Memory)
      → entries_of memory after ≡ entries_of memory before ++ quiet_ticks caller number tick n
  pub within : (b k : ℕ) → AllWithin b k before → AllWithin b k after
  pub next : (memory : Memory) → tick ≡ last_tick 0 (entries_of memory before) + 1
  pub same : length after ≡ length before

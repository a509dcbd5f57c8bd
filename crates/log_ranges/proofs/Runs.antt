-- Entries and lines that stand in runs have their numbers in range.
use Rattle.std.proofs.Common.{ℕ, zero, suc, ◌+◌, ◌*◌, ◌≤◌, ◌<◌, ◌^◌, [], ◌∷◌, arith}
use Rattle.tas_model.specs.declared.entry.Caller.{Caller}
use Rattle.tas_model.specs.declared.entry.FrameId.{FrameId}
use Rattle.host_rounds.specs.Lists.{Each}
use Rattle.host_rounds.proofs.Lists.{each_append}
use Rattle.flow_state.specs.Stretches.{quiet_ticks, control_entry, Pace, paced, paced_times}
use Rattle.tas_core.specs.declared.stretch.LogRun.{LogRun}
use Rattle.tas_core.specs.declared.stretch.RunKind.{RunKind}
use Rattle.tas_core.specs.declared.stretch.RunKind.TheVariants.{Dropped, Refused}
use Rattle.tas_core.specs.Stretches.{event_by, numbered_lines}
use Rattle.log_ranges.specs.Ranges.{CallerFits, EntryFits, FrameFits, EventFits, LineFits}

-- ----- entries
pub quiet_fit : (caller : Caller) (number tick count : ℕ) → CallerFits caller → number + count ≤ 2 ^ 64
    → tick + count ≤ 2 ^ 32 → Each EntryFits (quiet_ticks caller number tick count)
quiet_fit caller number tick zero by few low = tt
quiet_fit caller number tick (suc n) by few low = (
  record { tick = omega (arith, low); caller = by; number = omega (arith, few); call = tt; reply = tt },
  quiet_fit caller (number + 1) (tick + 1) n by (omega (arith, few)) (omega (arith, low)),
)

-- a run and its Control
module _ (p : Pace) (by : CallerFits p.caller) (cwnd : p.cwnd < 2 ^ 32) (ssthresh : p.ssthresh < 2 ^ 32) where
  once_fit : (number tick : ℕ) → number + (p.more + 2) ≤ 2 ^ 64 → tick + (p.more + 1) ≤ 2 ^ 32
      → Each EntryFits (paced p number tick)
  once_fit number tick few low =
      each_append EntryFits (quiet_ticks p.caller number tick (suc p.more))
      (control_entry p.caller (number + p.more + 1) (tick + p.more) p.cwnd p.ssthresh ∷ [])
      (quiet_fit p.caller number tick (suc p.more) by (omega (arith, few)) (omega (arith, low))) (
        record {
          tick = omega (arith, low);
          caller = by;
          number = omega (arith, few);
          call = tt;
          reply = (cwnd, ssthresh);
        },
        tt,
      )

  pub paced_fit : (number tick count : ℕ) → number + count * (p.more + 2) ≤ 2 ^ 64
      → tick + count * (p.more + 1) ≤ 2 ^ 32 → Each EntryFits (paced_times p number tick count)
  paced_fit number tick zero few low = tt
  paced_fit number tick (suc n) few low =
      each_append EntryFits (paced p number tick) (paced_times p (number + (p.more + 2)) (tick + (p.more + 1)) n)
      (once_fit number tick (omega (arith, few)) (omega (arith, low)))
      (paced_fit (number + (p.more + 2)) (tick + (p.more + 1)) n (omega (arith, few)) (omega (arith, low)))

-- ----- lines
-- the number of a rule
abbrev pub KindFits : RunKind → Type 0
KindFits (Dropped backlog) = Unit {0}
KindFits (Refused number) = number < 2 ^ 8

kind_fits : (k : RunKind) (f : FrameId) → KindFits k → FrameFits f → EventFits (event_by k f)
kind_fits (Dropped backlog) f kind fits = fits
kind_fits (Refused number) f kind fits = (fits, kind)

pub numbered_fit : (r : LogRun) (number count : ℕ) → r.tick < 2 ^ 32 → KindFits r.kind → r.first.flow < 2 ^ 32
    → number + count ≤ 2 ^ 64 → Each LineFits (numbered_lines r number count)
numbered_fit r number zero tick kind flow few = tt
numbered_fit r number (suc n) tick kind flow few = (
  record {
    tick = tick;
    event = kind_fits r.kind _ kind (record { flow = flow; number = omega (arith, few) });
  },
  numbered_fit r (number + 1) n tick kind flow (omega (arith, few)),
)

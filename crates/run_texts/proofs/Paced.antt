-- Runs of quiet ticks with Controls between them: their lines, and that they give no bytes and send nothing.
use Rattle.std.proofs.Common.{◌≡◌, ℕ, zero, suc, ◌+◌, List, [], ◌∷◌, ◌++◌, Ok, flat_map, refl, ap, ◌∙◌, append_assoc}
use Rattle.std.proofs.lemmas.List.Concat.{flat_map-append}
use Rattle.tas_num.specs.Streams.{SinkState}
use Rattle.tas_model.specs.declared.entry.Entry.{Entry}
use Rattle.tas_model.specs.declared.entry.FourTuple.{FourTuple}
use Rattle.tas_model.specs.Outputs.{bytes_read, given_bytes}
use Rattle.tas_runs.specs.Report.{entry_text, entries_text}
use Rattle.flow_state.specs.declared.paced.PacedRun.{PacedRun}
use Rattle.flow_state.specs.Stretches.{quiet_ticks, control_entry, Pace, paced, paced_times, paced_entries}
use Rattle.flow_state.specs.Stretches.{IsPacedRun}
use Rattle.run_texts.specs.Frames.{entry_frames}
use Rattle.run_texts.specs.Writes.{Writes}
use Rattle.run_texts.proofs.Quiet.{quiet_reads_none, quiet_sends_none}

-- the lines of entries and of those behind them
pub entries_both : (names : List (List ℕ)) (xs ys : List Entry)
    → entries_text names xs ++ entries_text names ys ≡ entries_text names (xs ++ ys)
entries_both names [] ys = refl
entries_both names (x ∷ xs) ys =
    append_assoc (entry_text names x) (entries_text names xs) (entries_text names ys)
    ∙ ap (λ t. entry_text names x ++ t) (entries_both names xs ys)

-- the lines of all runs before these were written
pub record WroteUpTo (names : List (List ℕ)) (before : SinkState) (waiting : List ℕ) (after : SinkState)
    (waits : List ℕ) (runs left : PacedRun) : Type 0 where
  pub front : List ℕ
  pub whole : front ++ entries_text names (paced_entries left) ≡ entries_text names (paced_entries runs)
  pub wrote : Writes before waiting (Ok tt) after waits front

-- which are the same whatever the names of hosts
pub record Between (before : SinkState) (waiting : List ℕ) (after : SinkState) (waits : List ℕ)
    (runs left : PacedRun) : Type 0 where
  pub fits : IsPacedRun left
  pub upto : (names : List (List ℕ)) → WroteUpTo names before waiting after waits runs left

-- what of a list of entries comes to nothing on both sides
none_of : {B : Type 0} (f : Entry → List B) (xs ys : List Entry) → flat_map f xs ≡ [] → flat_map f ys ≡ []
    → flat_map f (xs ++ ys) ≡ []
none_of f xs ys first second = flat_map-append f xs ys ∙ (ap (λ t. t ++ flat_map f ys) first ∙ second)

pub paced_reads_none : (p : Pace) (n t k : ℕ) → bytes_read (paced_times p n t k) ≡ []
paced_reads_none p n t zero = refl
paced_reads_none p n t (suc k) =
    none_of (λ (x : Entry). given_bytes x.reply) (paced p n t)
    (paced_times p (n + (p.more + 2)) (t + (p.more + 1)) k)
    (none_of (λ (x : Entry). given_bytes x.reply) (quiet_ticks p.caller n t (suc p.more))
    (control_entry p.caller (n + p.more + 1) (t + p.more) p.cwnd p.ssthresh ∷ [])
    (quiet_reads_none p.caller n t (suc p.more)) refl)
    (paced_reads_none p (n + (p.more + 2)) (t + (p.more + 1)) k)

pub paced_sends_none : (tuple : FourTuple) (p : Pace) (n t k : ℕ)
    → flat_map (entry_frames tuple) (paced_times p n t k) ≡ []
paced_sends_none tuple p n t zero = refl
paced_sends_none tuple p n t (suc k) =
    none_of (entry_frames tuple) (paced p n t) (paced_times p (n + (p.more + 2)) (t + (p.more + 1)) k)
    (none_of (entry_frames tuple) (quiet_ticks p.caller n t (suc p.more))
    (control_entry p.caller (n + p.more + 1) (t + p.more) p.cwnd p.ssthresh ∷ [])
    (quiet_sends_none tuple p.caller n t (suc p.more)) refl)
    (paced_sends_none tuple p (n + (p.more + 2)) (t + (p.more + 1)) k)

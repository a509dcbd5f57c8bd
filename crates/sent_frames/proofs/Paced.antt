-- Runs of quiet ticks with Controls between them: their last tick, and that they send nothing.
use Rattle.std.proofs.Common.{◌≡◌, ℕ, zero, suc, ◌+◌, ◌*◌, Bool, true, false, cond, List, [], ◌∷◌, ◌++◌, filter}
use Rattle.std.proofs.Common.{refl, sym, ap, ◌∙◌, arith, append_assoc}
use Rattle.std.proofs.lemmas.List.Concat.{flat_map-append}
use Rattle.std.proofs.lemmas.List.Elements.{filter-append}
use Rattle.tas_model.specs.declared.entry.Entry.{Entry}
use Rattle.tas_model.specs.LegalHistory.{last_tick}
use Rattle.tas_model.specs.Outputs.{segments_in, sent}
use Rattle.flow_state.specs.declared.paced.PacedRun.{PacedRun}
use Rattle.flow_state.specs.Stretches.{quiet_ticks, control_entry, Pace, paced_times, pace_of, paced_entries}
use Rattle.flow_state.specs.Stretches.{IsPacedRun}
use Rattle.flow_state.proofs.Pacing.{times_push}
use Rattle.flow_state.proofs.Runs.{last_push}
use Rattle.sent_frames.specs.declared.frames.Origin.{Origin}
use Rattle.sent_frames.specs.Sending.{entry_frames, sent_by}
use Rattle.sent_frames.proofs.Numbered.{entry_frames-append}
use Rattle.sent_frames.proofs.Starting.{quiet_sends_none, quiet_has_none, quiet_frames}

-- the tick behind them is the one after their last
pub paced_last : (r : PacedRun) (m : ℕ) → IsPacedRun r → last_tick m (paced_entries r) + 1 ≡ r.tick
paced_last r m is =
    let p : Pace = pace_of r in
    let n : ℕ = r.run.number + r.more * (p.more + 2) in
    let t : ℕ = r.run.tick + r.more * (p.more + 1) in
    let before : List Entry = paced_times p r.run.number r.run.tick r.more in
    let ticks : List Entry = quiet_ticks p.caller n t (suc p.more) in
    let control : Entry = control_entry p.caller (n + p.more + 1) (t + p.more) p.cwnd p.ssthresh in
    let all : paced_entries r ≡ (before ++ ticks) ++ control ∷ [] =
    times_push p r.run.number r.run.tick r.more ∙ sym (append_assoc before ticks (control ∷ [])) in
    omega (arith, ap (last_tick m) all, last_push m (before ++ ticks) control, is.tick)

-- two lists that send nothing
none_sent : (xs ys : List Entry) → sent xs ≡ [] → sent ys ≡ [] → sent (xs ++ ys) ≡ []
none_sent xs ys first second =
    flat_map-append (λ (x : Entry). segments_in x.reply) xs ys
    ∙ (ap (λ s. s ++ sent ys) first ∙ second)

-- nor do a Control and whatever of it passes a test
control_sends_none : (test : Bool) (p : Pace) (n t : ℕ)
    → sent (cond test (control_entry p.caller n t p.cwnd p.ssthresh ∷ []) []) ≡ []
control_sends_none true p n t = refl
control_sends_none false p n t = refl

pub paced_sends_none : (pass : Entry → Bool) (p : Pace) (n t k : ℕ) → sent (filter pass (paced_times p n t k)) ≡ []
paced_sends_none pass p n t zero = refl
paced_sends_none pass p n t (suc k) =
    let ticks : List Entry = quiet_ticks p.caller n t (suc p.more) in
    let control : Entry = control_entry p.caller (n + p.more + 1) (t + p.more) p.cwnd p.ssthresh in
    let rest : List Entry = paced_times p (n + (p.more + 2)) (t + (p.more + 1)) k in
    ap sent (filter-append pass (ticks ++ control ∷ []) rest)
    ∙ none_sent (filter pass (ticks ++ control ∷ [])) (filter pass rest)
    (ap sent (filter-append pass ticks (control ∷ []))
    ∙ none_sent (filter pass ticks) (filter pass (control ∷ []))
    (quiet_sends_none pass p.caller n t (suc p.more))
    (control_sends_none (pass control) p (n + p.more + 1) (t + p.more)))
    (paced_sends_none pass p (n + (p.more + 2)) (t + (p.more + 1)) k)

pub paced_has_none : (p : Pace) (n t k : ℕ) → sent (paced_times p n t k) ≡ []
paced_has_none p n t zero = refl
paced_has_none p n t (suc k) =
    let ticks : List Entry = quiet_ticks p.caller n t (suc p.more) in
    let control : Entry = control_entry p.caller (n + p.more + 1) (t + p.more) p.cwnd p.ssthresh in
    none_sent (ticks ++ control ∷ []) (paced_times p (n + (p.more + 2)) (t + (p.more + 1)) k)
    (none_sent ticks (control ∷ []) (quiet_has_none p.caller n t (suc p.more)) refl)
    (paced_has_none p (n + (p.more + 2)) (t + (p.more + 1)) k)

-- and so they add no frames
none_added : (o : Origin) (m : ℕ) (xs ys : List Entry) → ((j : ℕ) → entry_frames o j xs ≡ [])
    → ((j : ℕ) → entry_frames o j ys ≡ []) → entry_frames o m (xs ++ ys) ≡ []
none_added o m xs ys first second =
    entry_frames-append o m xs ys
    ∙ (ap (λ fs. fs ++ entry_frames o (m + sent_by xs) ys) (first m) ∙ second (m + sent_by xs))

pub paced_frames : (o : Origin) (m : ℕ) (p : Pace) (n t k : ℕ) → entry_frames o m (paced_times p n t k) ≡ []
paced_frames o m p n t zero = refl
paced_frames o m p n t (suc k) =
    let ticks : List Entry = quiet_ticks p.caller n t (suc p.more) in
    let control : Entry = control_entry p.caller (n + p.more + 1) (t + p.more) p.cwnd p.ssthresh in
    none_added o m (ticks ++ control ∷ []) (paced_times p (n + (p.more + 2)) (t + (p.more + 1)) k)
    (λ j. none_added o j ticks (control ∷ []) (λ i. quiet_frames o i p.caller n t (suc p.more)) (λ i. refl))
    (λ j. paced_frames o j p (n + (p.more + 2)) (t + (p.more + 1)) k)

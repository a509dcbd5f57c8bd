-- A record that lacks quiet ticks of its flow's history: all that the flow sent is in it.
use Rattle.std.proofs.Common.{◌≡◌, ℕ, ◌+◌, Bool, true, false, ltb, cond, List, [], ◌∷◌, ◌++◌, length, filter}
use Rattle.std.proofs.Common.{refl, sym, ap, ◌∙◌, append-nil, arith}
use Rattle.std.proofs.lemmas.List.Elements.{filter-append}
use Rattle.tas_model.specs.declared.entry.FourTuple.{FourTuple}
use Rattle.tas_model.specs.declared.entry.Entry.{Entry}
use Rattle.tas_model.specs.declared.entry.Reply.{Reply}
use Rattle.tas_model.specs.Outputs.{segments_in, sent}
use Rattle.flow_state.specs.Flow as records
use Rattle.host_rounds.specs.Lists.{Each}
use Rattle.host_rounds.specs.Logs.{Flow}
use Rattle.local_host.specs.Lacking.{IsQuietEntry, LacksTicks}
use Rattle.scenario_runs.specs.Worlds.{World, host_at, frames_of_entries}
use Rattle.sent_frames.specs.declared.frames.Origin.{Origin}
use Rattle.sent_frames.specs.Sending.{entry_frames, segment_frames, sent_by, sent_before}
use Rattle.sent_frames.proofs.Numbered.{sent_by-append, entry_frames-append}

-- ----- quiet ticks send nothing
none_by : (xs : List Entry) → Each IsQuietEntry xs → sent_by xs ≡ 0
none_by [] quiet = refl
none_by (x ∷ xs) quiet =
    ap (λ (r : Reply). length (segments_in r ++ sent xs)) quiet.0.reply ∙ none_by xs quiet.1

none_before : (t : ℕ) (xs : List Entry) → Each IsQuietEntry xs → sent_before t xs ≡ 0
none_before t [] quiet = refl
none_before t (x ∷ xs) quiet = by_test (ltb x.tick t) (none_before t xs quiet.1)
  where
    rest : List Entry
    rest = filter (λ (y : Entry). ltb y.tick t) xs

    by_test : (b : Bool) → sent_by rest ≡ 0 → sent_by (cond b (x ∷ rest) rest) ≡ 0
    by_test true none = ap (λ (r : Reply). length (segments_in r ++ sent rest)) quiet.0.reply ∙ none
    by_test false none = none

no_frames : (o : Origin) (n : ℕ) (xs : List Entry) → Each IsQuietEntry xs → entry_frames o n xs ≡ []
no_frames o n [] quiet = refl
no_frames o n (x ∷ xs) quiet =
    ap (λ (r : Reply). segment_frames o n x.tick (segments_in r) ++ entry_frames o (n + length (segments_in r)) xs)
    quiet.0.reply
    ∙ no_frames o (n + 0) xs quiet.1

-- ----- what the flow sent
-- in all
pub lacking_by : (r : records.Flow) (f : Flow) → LacksTicks r f → sent_by r.entries ≡ sent_by f.entries
lacking_by r f lacks =
    let none : sent_by lacks.ticks ≡ 0 = none_by lacks.ticks lacks.quiet in
    let all : sent_by (r.entries ++ lacks.ticks) ≡ sent_by r.entries + sent_by lacks.ticks =
    sent_by-append r.entries lacks.ticks in
    let same : sent_by r.entries ≡ sent_by (r.entries ++ lacks.ticks) = omega (arith, all, none) in
    same ∙ ap sent_by (sym lacks.entries)

-- before a tick
pub lacking_before : (t : ℕ) (r : records.Flow) (f : Flow) → LacksTicks r f
    → sent_before t r.entries ≡ sent_before t f.entries
lacking_before t r f lacks =
    let p : Entry → Bool = λ (x : Entry). ltb x.tick t in
    let none : sent_by (filter p lacks.ticks) ≡ 0 = none_before t lacks.ticks lacks.quiet in
    let all : sent_by (filter p r.entries ++ filter p lacks.ticks)
    ≡ sent_by (filter p r.entries) + sent_by (filter p lacks.ticks) =
    sent_by-append (filter p r.entries) (filter p lacks.ticks) in
    let same : sent_by (filter p r.entries) ≡ sent_by (filter p r.entries ++ filter p lacks.ticks) =
    omega (arith, all, none) in
    same
    ∙ (ap sent_by (sym (filter-append p r.entries lacks.ticks)) ∙ ap (sent_before t) (sym lacks.entries))

-- and as which frames
lacking_entries : (o : Origin) (n : ℕ) (r : records.Flow) (f : Flow) → LacksTicks r f
    → entry_frames o n r.entries ≡ entry_frames o n f.entries
lacking_entries o n r f lacks =
    sym (ap (entry_frames o n) lacks.entries
    ∙ (entry_frames-append o n r.entries lacks.ticks
    ∙ (ap (λ fs. entry_frames o n r.entries ++ fs) (no_frames o (n + sent_by r.entries) lacks.ticks lacks.quiet)
    ∙ append-nil (entry_frames o n r.entries))))

pub lacking_frames : (w : World) (host flow : ℕ) (r : records.Flow) (f : Flow) → LacksTicks r f
    → frames_of_entries host flow 0 (host_at w r.tuple.raddr) r.tuple r.entries
    ≡ frames_of_entries host flow 0 (host_at w f.tuple.raddr) f.tuple f.entries
lacking_frames w host flow r f lacks =
    ap (λ (tu : FourTuple). frames_of_entries host flow 0 (host_at w tu.raddr) tu r.entries) lacks.tuple
    ∙ lacking_entries (record { host = host; flow = flow; to = host_at w f.tuple.raddr; tuple = f.tuple }) 0 r f lacks

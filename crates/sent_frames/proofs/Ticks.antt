-- Frames by the ticks in which they were sent.
use Rattle.std.proofs.Common.{◌≡◌, ℕ, ◌+◌, ◌≤◌, ◌<◌, Bool, true, false, eqb, ltb, List, [], ◌∷◌}
use Rattle.std.proofs.Common.{◌++◌}
use Rattle.std.proofs.Common.{length, Option, Some, None, refl, ap, ◌∙◌, arith}
use Rattle.std.proofs.lemmas.Bool.Decides.{nat_tests}
use Rattle.std.proofs.lemmas.List.Elements.{filter-append}
use Rattle.tas_model.specs.declared.entry.FourTuple.{FourTuple}
use Rattle.tas_model.specs.declared.entry.Head.{Head}
use Rattle.tas_model.specs.declared.entry.Seg.{Seg}
use Rattle.tas_model.specs.declared.entry.Entry.{Entry}
use Rattle.tas_model.specs.Outputs.{segments_in}
use Rattle.host_rounds.specs.declared.log.LogLine.{LogLine}
use Rattle.link_script.specs.Emitted.{behind_earlier}
use Rattle.link_script.specs.declared.frames.Sent.{Sent}
use Rattle.scenario_runs.specs.Worlds.{World, answer_on, frames_of_answer, frames_of_log}
use Rattle.sent_frames.specs.declared.frames.Origin.{Origin}
use Rattle.sent_frames.specs.Sending.{of_tick, AreUpTo, EntriesBefore, LinesBefore, segment_frames, entry_frames}

not_at : (n t : ℕ) → n < t → eqb n t ≡ false
not_at n t h = grind (arith, nat_tests, h)

-- ----- frames of earlier ticks
segments_of_other : (o : Origin) (n k t : ℕ) (segs : List Seg) → k < t → of_tick t (segment_frames o n k segs) ≡ []
segments_of_other o n k t [] h = refl
segments_of_other o n k t (seg ∷ segs) h =
    let e : eqb k t ≡ false = not_at k t h in
    rw e (segments_of_other o (n + 1) k t segs h)

pub none_of_tick : (o : Origin) (n t : ℕ) (xs : List Entry) → EntriesBefore t xs → of_tick t (entry_frames o n xs) ≡ []
none_of_tick o n t [] h = refl
none_of_tick o n t (x ∷ xs) h =
    filter-append (λ (f : Sent). eqb f.tick t) (segment_frames o n x.tick (segments_in x.reply)) _
    ∙ (ap (λ fs. fs ++ of_tick t (entry_frames o (n + length (segments_in x.reply)) xs))
    (segments_of_other o n x.tick t (segments_in x.reply) h.0)
    ∙ none_of_tick o (n + length (segments_in x.reply)) t xs h.1)

answer_of_other : (world : World) (host n k t : ℕ) (a : Option (FourTuple × Head)) → k < t
    → of_tick t (frames_of_answer world host n k a) ≡ []
answer_of_other world host n k t None h = refl
answer_of_other world host n k t (Some a) h = let e : eqb k t ≡ false = not_at k t h in rw e refl

pub no_answers : (world : World) (host n t : ℕ) (ls : List LogLine) → LinesBefore t ls
    → of_tick t (frames_of_log world host n ls) ≡ []
no_answers world host n t [] h = refl
no_answers world host n t (l ∷ ls) h =
    let front : List Sent = frames_of_answer world host n l.tick (answer_on l.event) in
    filter-append (λ (f : Sent). eqb f.tick t) front _
    ∙ (ap (λ fs. fs ++ of_tick t (frames_of_log world host (n + length front) ls))
    (answer_of_other world host n l.tick t (answer_on l.event) h.0)
    ∙ no_answers world host (n + length front) t ls h.1)

-- ----- a frame behind all others
pub behind_all : (fs : List Sent) (s : Sent) → AreUpTo s.tick fs → behind_earlier fs s ≡ fs ++ s ∷ []
behind_all [] s h = refl
behind_all (f ∷ fs) s h =
    let e : ltb s.tick f.tick ≡ false = (let l : f.tick ≤ s.tick = h.0 in grind (arith, nat_tests, l)) in
    by_test (ltb s.tick f.tick) e (behind_all fs s h.1)
  where
    by_test : (b : Bool) → b ≡ false → behind_earlier fs s ≡ fs ++ s ∷ []
        → elim b [ true ↦ s ∷ f ∷ fs | false ↦ f ∷ behind_earlier fs s ] ≡ f ∷ (fs ++ s ∷ [])
    by_test true i r = absurd (cc (i))
    by_test false i r = ap (λ gs. f ∷ gs) r

pub up_to_more : (t : ℕ) (fs : List Sent) (s : Sent) → s.tick ≤ t → AreUpTo t fs → AreUpTo t (fs ++ s ∷ [])
up_to_more t [] s h all = (h, tt)
up_to_more t (f ∷ fs) s h all = (all.0, up_to_more t fs s h all.1)

-- A host of shared flows, and all of them one after the other: their frames of a tick, and their counts.
use Rattle.std.proofs.Common.{◌≡◌, ℕ, ◌+◌, List, [], ◌∷◌, ◌++◌, length, refl, arith}
use Rattle.std.specs.Prelude.{Result, OnOk}
use Rattle.link_script.specs.declared.frames.Sent.{Sent}
use Rattle.scenario_runs.specs.Applications.{Script}
use Rattle.scenario_runs.specs.Worlds.{World, frames_of_hosts}
use Rattle.sent_frames.specs.declared.counts.SentCounts.{SentCounts}
use Rattle.sent_frames.specs.Sending.{of_tick}
use Rattle.scenario_world.specs.Playing.{IsCountedBefore, IsCounted, AreCountedBefore, AreCounted}
use Rattle.scenario_world.proofs.Counted.{piece_more}
use Rattle.scenario_world.proofs.WorldTicks.{host_frames}
use Rattle.core_host.specs.Views.{Staffed, seen_by}
use Rattle.core_host.proofs.Played.{ok_map}
use Rattle.shared_world.specs.Sites.{sites_in}

-- ----- counts of hosts
-- so it is with some scripts
abbrev pub AreToCount : (t : ℕ) → List Staffed → List SentCounts → Type 0
AreToCount t hosts counts =
    (scripts : List (List Script)) × (length scripts ≡ length hosts)
    × AreCountedBefore t (sites_in hosts scripts) counts

-- the first one, and the others
pub first_to_count : (t : ℕ) (h : Staffed) (hs : List Staffed) (c : SentCounts) (cs : List SentCounts)
    → AreToCount t (h ∷ hs) (c ∷ cs) → IsCountedBefore t (seen_by h) c × AreToCount t hs cs
first_to_count t h hs c cs to = by_scripts to.0 to.1 to.2 where
  by_scripts : (scripts : List (List Script)) → length scripts ≡ length (h ∷ hs)
      → AreCountedBefore t (sites_in (h ∷ hs) scripts) (c ∷ cs)
      → IsCountedBefore t (seen_by h) c × AreToCount t hs cs
  by_scripts [] len counted = absurd (omega (arith, len))
  by_scripts (x ∷ xs) len counted =
      let rest : length xs ≡ length hs = omega (arith, len) in (counted.0, (xs, rest, counted.1))

-- ----- all hosts
-- They are counted, where the first is, and the others are.
pub all_counted : {T E : Type 0} (r : Result T E) (h : Staffed) (hs : List Staffed) (c : SentCounts)
    (cs : List SentCounts) → IsCounted (seen_by h) c
    → ((scripts : List (List Script)) → length scripts ≡ length hs → OnOk r (AreCounted (sites_in hs scripts) cs))
    → (scripts : List (List Script)) → length scripts ≡ length (h ∷ hs)
    → OnOk r (AreCounted (sites_in (h ∷ hs) scripts) (c ∷ cs))
all_counted r h hs c cs one rest [] len = absurd (omega (arith, len))
all_counted r h hs c cs one rest (x ∷ xs) len =
    let fewer : length xs ≡ length hs = omega (arith, len) in ok_map r (λ all. (one, all)) (rest xs fewer)

-- and their frames are those of the first, and those of the others
pub all_sent : {T E : Type 0} (r : Result T E) (t n : ℕ) (world : World) (h : Staffed) (hs : List Staffed)
    (old middle end : List Sent) → middle ≡ old ++ of_tick t (host_frames world n (seen_by h))
    → ((scripts : List (List Script)) → length scripts ≡ length hs
    → OnOk r (end ≡ middle ++ of_tick t (frames_of_hosts world (n + 1) (sites_in hs scripts))))
    → (scripts : List (List Script)) → length scripts ≡ length (h ∷ hs)
    → OnOk r (end ≡ old ++ of_tick t (frames_of_hosts world n (sites_in (h ∷ hs) scripts)))
all_sent r t n world h hs old middle end one rest [] len = absurd (omega (arith, len))
all_sent r t n world h hs old middle end one rest (x ∷ xs) len =
    let fewer : length xs ≡ length hs = omega (arith, len) in
    ok_map r
    (λ more.
    piece_more t old middle end (host_frames world n (seen_by h)) (frames_of_hosts world (n + 1) (sites_in hs xs))
    (frames_of_hosts world n (sites_in (h ∷ hs) (x ∷ xs))) one more refl)
    (rest xs fewer)

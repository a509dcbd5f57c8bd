-- Frames can go that nothing comes of any more.
use Rattle.std.proofs.Common.{◌≡◌, ℕ, ◌+◌, ◌-◌, ◌<◌, ◌≤◌, Bool, true, false, cond, eqb, leb, ltb, List, [], ◌∷◌, filter}
use Rattle.std.proofs.Common.{refl, sym, ap, ◌∙◌, subst, arith}
use Rattle.std.proofs.lemmas.Bool.Decides.{nat_tests}
use Rattle.tas_model.specs.declared.entry.FrameId.{FrameId}
use Rattle.link_script.specs.declared.frames.Sent.{Sent}
use Rattle.link_script.specs.DueFrames.{act_on, delay_by, is_due, longest_delay}
use Rattle.link_script.specs.LinkLines.{LinkLines}
use Rattle.scenario_text.specs.declared.scenario.Scenario.{Scenario}
use Rattle.scenario_runs.specs.Worlds.{World}
use Rattle.sent_frames.specs.Sending.{of_tick}
use Rattle.scenario_world.specs.declared.traffic.Traffic.{Traffic}
use Rattle.scenario_world.specs.Playing.{FramesBefore, AreCounted, AreKept, AreRecent, IsWorldOf}

-- the frames from a tick on
abbrev from : (low : ℕ) → List Sent → List Sent
from low fs = filter (λ (f : Sent). leb low f.tick) fs

still_before : (t low : ℕ) (fs : List Sent) → FramesBefore t fs → FramesBefore t (from low fs)
still_before t low [] before = tt
still_before t low (f ∷ fs) before = by_low (leb low f.tick) (still_before t low fs before.1)
  where
    by_low : (b : Bool) → FramesBefore t (from low fs) → FramesBefore t (cond b (f ∷ from low fs) (from low fs))
    by_low true rest = (before.0, rest)
    by_low false rest = rest

-- of each tick from there on they are all
same_from : (low k : ℕ) (fs : List Sent) → low ≤ k → of_tick k (from low fs) ≡ of_tick k fs
same_from low k [] le = refl
same_from low k (f ∷ fs) le = by_low (leb low f.tick) refl (same_from low k fs le)
  where
    by_low : (b : Bool) → leb low f.tick ≡ b → of_tick k (from low fs) ≡ of_tick k fs
        → of_tick k (cond b (f ∷ from low fs) (from low fs)) ≡ of_tick k (f ∷ fs)
    by_low true e r = ap (λ gs. cond (eqb f.tick k) (f ∷ gs) gs) r
    by_low false e r = let apart : eqb f.tick k ≡ false = grind (arith, nat_tests, e, le) in rw apart r

-- A frame that was sent longer ago than the longest delay comes no more.
gone : (lines : LinkLines) (longest t u : ℕ) (f : Sent) → ((id : FrameId) → delay_by (act_on lines id) ≤ longest)
    → f.tick < t - longest → t + 1 ≤ u → is_due lines u f ≡ false
gone lines longest t u f all before le =
    let own : delay_by (act_on lines f.id) ≤ longest = all f.id in
    let apart : eqb (f.tick + 1 + delay_by (act_on lines f.id)) u ≡ false =
    grind (arith, nat_tests, own, before, le) in
    rw apart refl

still_kept : (s : Scenario) (t longest : ℕ) (world : World) (kept : List Sent) (last : ℕ)
    → AreKept s (t + 1) world kept last → ((id : FrameId) → delay_by (act_on s.link id) ≤ longest)
    → AreKept s (t + 1) world (from (t - longest) kept) last
still_kept s t longest world kept last k all = by_low (ltb k.low (t - longest)) refl
  where
    by_low : (b : Bool) → ltb k.low (t - longest) ≡ b → AreKept s (t + 1) world (from (t - longest) kept) last
    by_low true e =
        let l : k.low < t - longest = grind (arith, nat_tests, e) in
        record {
          early = still_before (t + 1) (t - longest) kept k.early;
          low = t - longest;
          over = λ f u before le. gone s.link longest t u f all before le;
          same = λ n le. same_from (t - longest) n kept le ∙ k.same n (omega (arith, l, le));
          coming = k.coming;
        }
    by_low false e =
        let l : t - longest ≤ k.low = grind (arith, nat_tests, e) in
        record {
          early = still_before (t + 1) (t - longest) kept k.early;
          low = k.low;
          over = k.over;
          same = λ n le. same_from (t - longest) n kept (omega (arith, l, le)) ∙ k.same n le;
          coming = k.coming;
        }

-- The hosts are a world as before where these frames are gone.
pub forgotten : (s : Scenario) (t longest low : ℕ) (world : World) (k l : Traffic) → IsWorldOf s (t + 1) world k
    → low ≡ t - longest → ((id : FrameId) → delay_by (act_on s.link id) ≤ longest)
    → l.addresses.items ≡ k.addresses.items → l.counts.items ≡ k.counts.items
    → l.sent ≡ filter (λ (f : Sent). leb low f.tick) k.sent → l.last ≡ k.last → IsWorldOf s (t + 1) world l
forgotten s t longest low world k l w is all addresses counts sent last =
    record {
      params = w.params;
      early = w.early;
      addresses = addresses ∙ w.addresses;
      counted = subst (λ cs. AreCounted world cs) (sym counts) w.counted;
      kept = subst (λ fs. AreKept s (t + 1) world fs l.last) (sym sent)
          (subst (λ fs. AreKept s (t + 1) world fs l.last) (ap (λ n. from n k.sent) (sym is))
          (subst (λ n. AreKept s (t + 1) world (from (t - longest) k.sent) n) (sym last)
          (still_kept s t longest world k.sent k.last w.kept all)));
    }

-- What is left is recent.
pub recent : (lines : LinkLines) (t longest low : ℕ) (fs gs : List Sent) → low ≡ t - longest
    → longest ≡ longest_delay lines → gs ≡ filter (λ (f : Sent). leb low f.tick) fs → AreRecent lines t gs
recent lines t longest low fs gs is most left = subst (AreRecent lines t) (sym left) (all fs)
  where
    all : (hs : List Sent) → AreRecent lines t (from low hs)
    all [] = tt
    all (f ∷ hs) = by_low (leb low f.tick) refl (all hs)
      where
        by_low : (b : Bool) → leb low f.tick ≡ b → AreRecent lines t (from low hs)
            → AreRecent lines t (cond b (f ∷ from low hs) (from low hs))
        by_low true e rest =
            let near : t ≤ f.tick + longest_delay lines = grind (arith, nat_tests, e, is, most) in (near, rest)
        by_low false e rest = rest

-- What the lanes of a phase left is collected and served: for the law left_frames_are_rest_phases.
use Rattle.std.proofs.Common.{◌≡◌, ℕ, ◌+◌, ◌<◌, ◌≤◌, true, List, [], ◌∷◌, ◌++◌, map, length, refl, sym, ap, ◌∙◌}
use Rattle.std.proofs.Common.{subst, append-nil, append_assoc}
use Rattle.tas_model.specs.declared.entry.Caller.TheVariants.{Slow}
use Rattle.tas_model.specs.declared.entry.FlowId.{FlowId}
use Rattle.host_rounds.specs.Deliveries.{delivered, received}
use Rattle.host_rounds.specs.Scripts.{Scripts}
use Rattle.host_rounds.specs.declared.log.LogLine.{LogLine}
use Rattle.host_rounds.proofs.Lists.{fold_append}
use Rattle.core_rounds.specs.CoreTicks.{rest_phase}
use Rattle.slow_handshake.specs.Numbers.{FirstNumbers}
use Rattle.core_worker.specs.Workers as cores
use Rattle.core_worker.specs.declared.frames.PassedFrame.{PassedFrame}
use Rattle.core_phase.specs.declared.lane.Lane.{Lane}
use Rattle.core_phase.specs.declared.lane.Lane.TheVariants as lanes
use Rattle.slow_worker.specs.Turns.{IsTurn}
use Rattle.slow_worker.specs.Workers.{Worker, waiting}
use Rattle.host_books.specs.Words.{joined}
use Rattle.sound_hosts.specs.Hosts.{CoreHost, host_of}
use Rattle.sound_hosts.specs.Moving.{with_slow}
use Rattle.sound_hosts.specs.Sound.{IsHostSound}
use Rattle.sound_turns.specs.Serving.{without_frames, with_opened}
use Rattle.sound_turns.proofs.Serving.{collected_sound, no_frames}
use Rattle.phase_orders.specs.Collecting.{exceptions_of, deferred_of, log_of, frames_of, all_broken, all_passed}
use Rattle.phase_orders.specs.Collecting.{collected}
use Rattle.phase_orders.specs.CoreTurns.{arrivals_of, frame_in, lines_of}
use Rattle.phase_orders.proofs.Collecting.{broken_lines}
use Rattle.slow_rounds.specs.Collecting.{IsLaneCollected, AreCollected}
use Rattle.sound_hosts.specs.Counting.{IsCounted}
use Rattle.slow_rounds.specs.Rests.{starts_by, rest_of}
use Rattle.slow_rounds.proofs.FirstTurns.{same_host}
use Rattle.slow_rounds.proofs.LaterTurns.{later_made}

-- ----- what was collected
-- these frames and lines stand behind the worker's own
record IsMore (exceptions deferred : List PassedFrame) (log : List LogLine) (v w : Worker) : Type 0 where
  pub exceptions_are : w.exceptions.list ≡ v.exceptions.list ++ exceptions
  pub deferred_are : w.deferred.list ≡ v.deferred.list ++ deferred
  pub log_is : w.log ≡ v.log ++ log
  pub rest : w ≡ record v { exceptions = w.exceptions; deferred = w.deferred; log = w.log }

none_more : (v w : Worker) → w ≡ v → IsMore [] [] [] v w
none_more v w e = record {
  exceptions_are = ap (λ (x : Worker). x.exceptions.list) e ∙ sym (append-nil v.exceptions.list);
  deferred_are = ap (λ (x : Worker). x.deferred.list) e ∙ sym (append-nil v.deferred.list);
  log_is = ap (λ (x : Worker). x.log) e ∙ sym (append-nil v.log);
  rest = e ∙ (λ i. record v { exceptions = (sym e i).exceptions; deferred = (sym e i).deferred; log = (sym e i).log });
}

two_more : (a b : List PassedFrame) (l : List LogLine) (c d : List PassedFrame) (m : List LogLine) (v u w : Worker)
    → IsMore a b l v u → IsMore c d m u w → IsMore (a ++ c) (b ++ d) (l ++ m) v w
two_more a b l c d m v u w x y = record {
  exceptions_are = y.exceptions_are ∙ (ap (λ fs. fs ++ c) x.exceptions_are ∙ append_assoc v.exceptions.list a c);
  deferred_are = y.deferred_are ∙ (ap (λ fs. fs ++ d) x.deferred_are ∙ append_assoc v.deferred.list b d);
  log_is = y.log_is ∙ (ap (λ ls. ls ++ m) x.log_is ∙ append_assoc v.log l m);
  rest = y.rest
      ∙ ap (λ (z : Worker). record z { exceptions = w.exceptions; deferred = w.deferred; log = w.log }) x.rest;
}

one_collected : (l : Lane) (v w : Worker) → IsLaneCollected l v w
    → IsMore (exceptions_of l) (deferred_of l) (log_of l) v w
one_collected (lanes.Core l) v w (d, is) =
    record { exceptions_are = is.exceptions; deferred_are = is.deferred; log_is = is.log; rest = is.rest }
one_collected (lanes.App l) v w e = none_more v w e

all_collected : (ls : List Lane) (v w : Worker) → AreCollected ls v w
    → IsMore (joined exceptions_of ls) (joined deferred_of ls) (joined log_of ls) v w
all_collected [] v w e = none_more v w e
all_collected (l ∷ ls) v w (u, one, rest) =
    two_more (exceptions_of l) (deferred_of l) (log_of l) (joined exceptions_of ls) (joined deferred_of ls)
    (joined log_of ls) v u w (one_collected l v u one) (all_collected ls u w rest)

one_sound : (l : Lane) (h : CoreHost) (w : Worker) → IsLaneCollected l h.slow w → IsHostSound (without_frames h)
    → IsHostSound (without_frames (with_slow w h))
one_sound (lanes.Core l) h w (d, is) sound = collected_sound h l.worker d w is sound
one_sound (lanes.App l) h w e sound =
    subst (λ (x : Worker). IsHostSound (without_frames (with_slow x h))) (sym e) sound

all_sound : (ls : List Lane) (h : CoreHost) (w : Worker) → AreCollected ls h.slow w → IsHostSound (without_frames h)
    → IsHostSound (without_frames (with_slow w h))
all_sound [] h w e sound = subst (λ (x : Worker). IsHostSound (without_frames (with_slow x h))) (sym e) sound
all_sound (l ∷ ls) h w (u, one, rest) sound =
    all_sound ls (with_slow u h) w rest (one_sound l h u one sound)

both_none : {X : Type 0} (xs ys : List X) → xs ++ ys ≡ [] → (xs ≡ []) × (ys ≡ [])
both_none [] ys e = (refl, e)
both_none (x ∷ xs) ys e = absurd (cc (e))

-- ----- and served
module _ {S A : Type 0} (scripts : Scripts S A) (h : CoreHost) (tick : ℕ) (before after : List Lane) (u : Worker)
    (sound : IsHostSound h) (are : AreCollected after h.slow u)
    (lines : joined log_of after ≡ lines_of h.slow.check_sums tick (all_broken h.slow.check_sums before)) where
  more : IsMore (joined exceptions_of after) (joined deferred_of after) (joined log_of after) h.slow u
  more = all_collected after h.slow u are

  none : (h.slow.exceptions.list ≡ []) × (h.slow.deferred.list ≡ [])
  none = both_none h.slow.exceptions.list h.slow.deferred.list sound.waiting

  passed : waiting u ≡ all_passed after
  passed = λ i. (more.exceptions_are ∙ ap (λ fs. fs ++ joined exceptions_of after) none.0) i
      ++ (more.deferred_are ∙ ap (λ fs. fs ++ joined deferred_of after) none.1) i

  rest : rest_of u ≡ arrivals_of h.slow.check_sums (map frame_in (all_passed after))
  rest = λ i. arrivals_of (ap (λ (x : Worker). x.check_sums) more.rest i) (map frame_in (passed i))

  with_lines : host_of (with_slow u h)
      ≡ rest_phase scripts tick (host_of h) (arrivals_of h.slow.check_sums (all_broken h.slow.check_sums before))
  with_lines =
      same_host (host_of (with_slow u h)) (record (host_of h) {
        log = h.slow.log ++ lines_of h.slow.check_sums tick (all_broken h.slow.check_sums before);
      })
      (ap (λ (x : Worker). x.path.params) more.rest)
      (ap (λ (x : Worker). (host_of (with_slow x h)).listeners) more.rest)
      (more.log_is ∙ ap (λ ls. h.slow.log ++ ls) lines)
      (ap (λ (x : Worker). (host_of (with_slow x h)).flows) more.rest)
      ∙ sym (broken_lines scripts tick h.slow.check_sums (host_of h) (joined frames_of before))

  pub left_made : (ns : FirstNumbers) (c : cores.Common) (w : Worker) → scripts.starts ≡ starts_by ns → IsCounted h
      → length h.books + length (all_passed after) < 4294967295 → IsTurn true ns c tick u w
      → (ids : List FlowId) × (length ids ≤ length (all_passed after))
      × IsHostSound (with_opened ids w h) × IsCounted (with_opened ids w h)
      × (host_of (with_opened ids w h) ≡ rest_phase scripts tick (host_of h) (collected h.slow.check_sums before after))
  left_made ns c w given counted few turn =
      let r = later_made scripts (with_slow u h) ns c tick w given
      (all_sound after h u are (no_frames h sound))
      (ap (λ (x : Worker). x.pass.view.opened) more.rest ∙ counted)
      (subst (λ (fs : List PassedFrame). length h.books + length fs < 4294967295) (sym passed) few) turn in (
        r.0,
        subst (λ (fs : List PassedFrame). length r.0 ≤ length fs) passed r.1,
        r.2,
        r.3,
        r.4
            ∙ ((λ i. rest_phase scripts tick (with_lines i) (rest i))
            ∙ sym (fold_append (delivered (received Slow) scripts.starts tick) (host_of h)
            (arrivals_of h.slow.check_sums (all_broken h.slow.check_sums before))
            (arrivals_of h.slow.check_sums (map frame_in (all_passed after))))),
      )

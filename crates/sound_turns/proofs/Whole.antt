-- Whole turns of the slow path's worker: for the laws first_turns_keep_it and later_turns_keep_it.
use Rattle.std.proofs.Common.{ℕ, ◌+◌, ◌<◌, ◌≤◌, List, length, true, false, sym, ap, ◌∙◌, subst}
use Rattle.tas_model.specs.declared.entry.FlowId.{FlowId}
use Rattle.core_worker.specs.Workers as cores
use Rattle.slow_handshake.specs.Numbers.{FirstNumbers}
use Rattle.slow_worker.specs.Turns.{IsTurn, AreKicksPosted}
use Rattle.slow_worker.specs.Workers.{Worker, IsSound, sight_of, waiting}
use Rattle.host_books.specs.Books.{Book}
use Rattle.sound_hosts.specs.Hosts.{CoreHost}
use Rattle.sound_hosts.specs.Sound.{IsHostSound}
use Rattle.sound_turns.specs.Passing.{AreSwept, with_books}
use Rattle.sound_turns.specs.Serving.{without_frames, with_opened, IsLike}
use Rattle.sound_turns.proofs.Serving.{AreFramesServed, like_sound, frames_sound}
use Rattle.sound_turns.proofs.Times.{time_sound}

-- the kicks are posted
pub posted_like : (c : cores.Common) (m w : Worker) → AreKicksPosted c m w → IsLike m w
posted_like c m w posted =
    posted.rest
    ∙ (λ i. record m {
      log = ap (λ (x : Worker). x.log) (sym posted.rest) i;
      check_sums = ap (λ (x : Worker). x.check_sums) (sym posted.rest) i;
      exceptions = ap (λ (x : Worker). x.exceptions) (sym posted.rest) i;
      deferred = ap (λ (x : Worker). x.deferred) (sym posted.rest) i;
      time = ap (λ (x : Worker). x.time) (sym posted.rest) i;
      senders = ap (λ (x : Worker). x.senders) (sym posted.rest) i;
      kicks = w.kicks;
      kickers = w.kickers;
    })

pub first_sound : (h : CoreHost) (ns : FirstNumbers) (c : cores.Common) (tick : ℕ) (w : Worker) → IsHostSound h
    → IsTurn false ns c tick h.slow w → IsSound h.table (sight_of w)
    → (books : List Book) × AreSwept h.books books × IsHostSound (with_books books w h)
first_sound h ns c tick w sound (m, passed, posted) kept =
    let t = time_sound h tick m sound passed
    (subst (λ (x : Worker). IsSound h.table (sight_of x)) posted.rest kept) in (
      t.0,
      t.1,
      like_sound (with_books t.0 m h) m w t.2 (posted_like c m w posted)
          (ap waiting posted.rest ∙ t.2.waiting),
    )

pub later_sound : (h : CoreHost) (ns : FirstNumbers) (c : cores.Common) (tick : ℕ) (w : Worker)
    → IsHostSound (without_frames h) → length h.books + length (waiting h.slow) < 4294967295
    → IsTurn true ns c tick h.slow w
    → (ids : List FlowId) × (length ids ≤ length (waiting h.slow)) × IsHostSound (with_opened ids w h)
later_sound h ns c tick w sound few (m, all, posted) =
    let r : AreFramesServed h m = frames_sound h ns c tick m sound few all in (
      r.ids,
      r.few,
      like_sound (with_opened r.ids m h) m w r.sound (posted_like c m w posted)
          (ap waiting posted.rest ∙ r.sound.waiting),
    )

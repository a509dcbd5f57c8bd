-- Lines of frames that break a rule of reading: for the law collected_lines_are_refusals.
use Rattle.std.proofs.Common.{◌≡◌, ℕ, Bool, List, ◌++◌, sym, ap, ◌∙◌}
use Rattle.host_rounds.specs.Scripts.{Scripts}
use Rattle.core_rounds.specs.CoreTicks.{rest_phase}
use Rattle.core_worker.specs.Workers as cores
use Rattle.core_worker.specs.declared.frames.Frame.{Frame}
use Rattle.slow_worker.specs.Queues.{IsCollected}
use Rattle.slow_worker.specs.Workers.{Worker}
use Rattle.sound_hosts.specs.Hosts.{CoreHost, host_of}
use Rattle.sound_hosts.specs.Moving.{with_slow}
use Rattle.phase_orders.specs.CoreTurns.{arrivals_of, broken_in, lines_of}
use Rattle.phase_orders.proofs.Collecting.{broken_lines}
use Rattle.slow_rounds.proofs.FirstTurns.{same_host}

pub collected_made : {S A : Type 0} (scripts : Scripts S A) (h : CoreHost) (tick : ℕ) (check : Bool)
    (frames : List Frame) (a b : cores.Worker) (w : Worker) → IsCollected a b h.slow w
    → a.log ≡ lines_of check tick (broken_in check frames)
    → host_of (with_slow w h) ≡ rest_phase scripts tick (host_of h) (arrivals_of check (broken_in check frames))
collected_made scripts h tick check frames a b w is lines =
    same_host (host_of (with_slow w h))
    (record (host_of h) { log = h.slow.log ++ lines_of check tick (broken_in check frames) })
    (ap (λ (x : Worker). x.path.params) is.rest)
    (ap (λ (x : Worker). (host_of (with_slow x h)).listeners) is.rest)
    (is.log ∙ ap (λ ls. h.slow.log ++ ls) lines)
    (ap (λ (x : Worker). (host_of (with_slow x h)).flows) is.rest)
    ∙ sym (broken_lines scripts tick check (host_of h) frames)

use Rattle.std.proofs.Common.{◌≡◌, ◌<◌, All, length}
use Rattle.local_host.specs.declared.steer.GroupMove.{GroupMove}
use Rattle.local_host.proofs.steer.Cores.steer_all.Given as goal

-- each frame so far has a core, and the moves that wait are of groups
abbrev pub invariant-loop-arrival : goal.invariant-loop-arrival
invariant-loop-arrival g l =
    (l.self ≡ l.fn.self) × (length l.steered.items ≡ l.arrival-index)
    × All (λ core. core < l.fn.self.count) l.steered.items × All (λ (m : GroupMove). m.group < 64) l.left.items

-- Measures or invariants of kills/leave_all.
use Rattle.std.proofs.Common.{◌≡◌, drop}
use Rattle.sound_hosts.specs.Leaving.{books_left}
use Rattle.core_host.proofs.kills.leave_all.Given as goal

-- the sockets that are left lead to the same end
abbrev pub invariant-loop-at : goal.invariant-loop-at
invariant-loop-at l =
    books_left l.app (drop l.at l.pins.list) l.books ≡ books_left l.app l.pins.list l.fn.books

use Rattle.std.proofs.Common.{◌≡◌, ℕ, ◌<◌, false, get_or, take, length}
use Rattle.std.specs.List.{list_any}
use Rattle.host_rounds.specs.Hosts.{is_in_slot}
use Rattle.local_host.specs.Index.{passes_at}
use Rattle.local_host.proofs.slot_marks.mark_anew.Given as goal

abbrev pub invariant-loop-place : goal.invariant-loop-place
invariant-loop-place l = record {
  len : length l.taken ≡ length l.fn.taken;
  taken : (slot : ℕ) → slot < length l.fn.taken → get_or l.taken slot false
      ≡ list_any (passes_at (is_in_slot slot) l.flows) (take l.place-index l.standing);
}

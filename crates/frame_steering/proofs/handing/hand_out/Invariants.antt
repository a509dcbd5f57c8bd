use Rattle.std.proofs.Common.{◌≡◌, ◌<◌, ◌≤◌, All, length, take, filter, vec_len, vec_capacity}
use Rattle.frame_steering.specs.Handing.{waits, AreHanded}
use Rattle.frame_steering.proofs.handing.hand_out.Given as goal

-- the frames so far are handed out, and the moves of groups that had none wait
abbrev pub invariant-loop-group : goal.invariant-loop-group
invariant-loop-group g l = record {
  place : l.steer.place ≡ l.fn.steer.place;
  counted : vec_len l.handed ≡ l.group-index;
  has_room : length l.fn.groups ≤ vec_capacity l.handed;
  below : All (λ core. core < l.fn.cores) l.handed.items;
  handed : AreHanded l.fn.cores l.fn.steer.tables l.fn.moves (take l.group-index l.fn.groups) l.handed.items
      (filter (waits l.waiting) l.fn.moves) l.steer.tables;
}

-- Kicks: flows with something to send, of which their cores are told.
use Rattle.std.specs.Prelude.{◌≡◌, ℕ, List, [], ◌∷◌, ◌++◌, ◌⊎◌, ⊤, length, slice_get, slice_set, Some}
use Rattle.crossbeam_queue.specs.Fifo.{Held}
use Rattle.context_queue.specs.Notes.{Place, Sender, HoldsPosts}
use Rattle.steering.specs.Tables as tables
use Rattle.core_worker.specs.Kicks.{kick_note}
use Rattle.core_worker.specs.Workers.{Common}
use Rattle.core_worker.specs.declared.kicks.Kick.{Kick}

-- How kicks go to cores: the tables of steering that were seen, and what was posted to each core's queue.
pub record Kicking : Type 0 where
  pub steer : tables.Sight
  pub senders : List Sender

-- ----- what is asked
-- each sender posts to the queue of its core
abbrev pub AreOn : List Place → List Sender → Type 0
AreOn [] [] = ⊤
AreOn (q ∷ qs) (s ∷ ss) = (s.line ≡ q.line) × AreOn qs ss
AreOn qs ss = ⊥

-- The pass is one of the host's steering, which has the host's cores, and each core has its sender.
pub record CanKick (c : Common) (k : Kicking) : Type 0 where
  pub steer : k.steer.place ≡ c.steering
  pub cores : c.steering.cores ≡ length c.kicks
  pub own : AreOn c.kicks k.senders

-- ----- one kick
-- It was posted behind all that the sender had posted; or it is kept, since the queue was full at some moment.
abbrev pub IsPostedOrKept : (room : ℕ) → Kick → (before after : Sender) → (kept : List Kick) → Type 0
IsPostedOrKept room k s t kept =
    ((t ≡ record s { posts = s.posts ++ kick_note k ∷ [] }) × (kept ≡ []))
    ⊎ ((t ≡ s) × Held room (HoldsPosts s) × (kept ≡ k ∷ []))

-- So it was with the queue of the core that the flow's group was then on, and no other.
pub record IsKicked (c : Common) (k : Kick) (x y : Kicking) (kept : List Kick) : Type 0 where
  pub core : ℕ
  pub place : Place
  pub sender : Sender
  pub after : Sender
  pub later : tables.Begins x.steer.tables y.steer.tables
  pub same : y.steer.place ≡ x.steer.place
  pub on : tables.IsCoreIn y.steer.tables (tables.group_of k.tuple) core
  pub queue : slice_get c.kicks core ≡ Some place
  pub own : slice_get x.senders core ≡ Some sender
  pub posted : IsPostedOrKept place.room k sender after kept
  pub rest : y.senders ≡ slice_set x.senders core after

-- ----- all kicks
-- Each of these was posted or kept, once and one after the other.
abbrev pub AreKicked : Common → List Kick → (x y : Kicking) → (kept : List Kick) → Type 0
AreKicked c [] x y kept = (y ≡ x) × (kept ≡ [])
AreKicked c (k ∷ ks) x y kept =
    (z : Kicking) × (one : List Kick) × (more : List Kick)
    × IsKicked c k x z one × AreKicked c ks z y more × (kept ≡ one ++ more)

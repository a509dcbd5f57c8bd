-- The posts of a crew: desks, as the side sees them that hands jobs out.
use Rattle.std.specs.Prelude.{◌≡◌, List, ◌++◌, map}
use Rattle.std.specs.Arc.{arc_value}
use Rattle.atomic_table.specs.Seated.{TableId}
use Rattle.crew.specs.Desks.{IsAtRest, IsIdle, IsOut, IsStopped}
use Rattle.crew.specs.declared.post.Post.{Post}

-- whose desk it is
abbrev pub desk_of : {W : Type 0} → Post W → TableId
desk_of p = arc_value p.desk

-- nothing is out
pub record IsReady {W : Type 0} (p : Post W) : Type 0 where
  pub rests : IsAtRest (desk_of p) p.dispatcher.seat

-- nothing is out, and a thread is behind the desk
pub record HasThread {W : Type 0} (p : Post W) : Type 0 where
  pub idle : IsIdle (desk_of p) p.dispatcher.seat

-- this job is out
pub record IsOutAt {W : Type 0} (x : W) (p : Post W) : Type 0 where
  pub out : IsOut (desk_of p) x p.dispatcher.seat

-- its thread was told that no more jobs come
pub record HasStopped {W : Type 0} (p : Post W) : Type 0 where
  pub stopped : IsStopped (desk_of p) p.dispatcher.seat

-- ----- all posts
abbrev pub desks_of : {W : Type 0} → List (Post W) → List TableId
desks_of ps = map desk_of ps

-- the same desks, and maybe more
abbrev pub Continues : List TableId → List TableId → Type 0
Continues ds es = (more : List TableId) × (es ≡ ds ++ more)

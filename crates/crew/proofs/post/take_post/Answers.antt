-- Answers of the proof of post/take_post.
use Rattle.std.proofs.lemmas.List.Elements.{All-pop}
use Rattle.crew.specs.Crews.{IsReady}
use Rattle.crew.proofs.Posts.{desks_taken}
use Rattle.crew.proofs.post.take_post.Goals as goal

pub returns-clause-rest : goal.returns-clause-rest
returns-clause-rest g c = (All-pop IsReady _ _ _ c.pop.ensures.items c.requires).0

pub returns-clause-desks : goal.returns-clause-desks
returns-clause-desks g c = desks_taken _ _ _ c.pop.ensures.items

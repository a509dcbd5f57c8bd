-- Answers of the proof of post/Post/recall.
use Rattle.std.proofs.Common.{sym, subst}
use Rattle.atomic_table.specs.Seated.{TableId}
use Rattle.crew.specs.Desks.{IsOut}
use Rattle.crew.proofs.post.Post.recall.Goals as goal

pub returns-clause-none : goal.returns-clause-none
returns-clause-none g c = λ none x out.
    let there = subst (λ (t : TableId). IsOut t x c.args.self.now.dispatcher.seat) (sym c.deref.ensures) out.out in
    let still = c.recall.ensures.none none x there in
    record { out = subst (λ (t : TableId). IsOut t x c.recall.new.dispatcher.seat) c.deref.ensures still }

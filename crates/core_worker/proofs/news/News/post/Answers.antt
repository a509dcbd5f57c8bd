use Rattle.core_worker.proofs.Posts.{both_posted}
use Rattle.core_worker.proofs.news.News.post.Goals as goal

pub returns-clause-posted : goal.returns-clause-posted
returns-clause-posted g c =
    both_posted _ _ _ c.args.sender.now c.post_where.new.sender _ c.post_where.ensures.posted
    (both_posted _ _ _ _ c.post_where-2.new.sender _ c.post_where-2.ensures.posted c.post_where-3.ensures.posted)

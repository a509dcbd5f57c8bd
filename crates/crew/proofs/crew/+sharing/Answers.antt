-- Answers of the proof of crew/+sharing.
use Rattle.std.proofs.Common.{sym, subst, arith}
use Rattle.std.specs.Prelude.{All}
use Rattle.std.proofs.lemmas.List.Elements.{All-push}
use Rattle.crew.specs.Crews.{IsReady}
use Rattle.crew.proofs.Zipped.{zip_cut, cut_lengths}
use Rattle.crew.proofs.crew.+sharing.Goals as goal

pub share-put_behind-requires : goal.share-put_behind-requires
share-put_behind-requires g t c =
    let as_many = cut_lengths g.W.Job.made c.cut-cut.result.at _ _ _ _ _ c.in-Ok.ensures.items c.in-Ok.ensures.tail
    c.work_all-2.ensures.made (c.finish-done.ensures.made _ c.send.ensures.out) in record {
      room = omega (
        arith,
        as_many,
        c.args.jobs.now.ok.0,
        c.args.jobs.now.ok.1,
        c.in-Ok.ensures.capacity,
        c.work_all-2.ensures.room,
      );
    }

pub share-returns-clause-made : goal.share-returns-clause-made
share-returns-clause-made g t c =
    zip_cut g.W.Job.made c.cut-cut.result.at _ _ _ _ _ _ c.in-Ok.ensures.items c.in-Ok.ensures.tail
    c.work_all-2.ensures.made (c.finish-done.ensures.made _ c.send.ensures.out) c.put_behind.ensures.items

pub work_all-returns-clause-ready : goal.work_all-returns-clause-ready
work_all-returns-clause-ready g t c =
    subst (All IsReady) (sym c.push_reserved.ensures.items)
    (All-push IsReady _ _ c.share.ensures.ready c.share.ensures.one)

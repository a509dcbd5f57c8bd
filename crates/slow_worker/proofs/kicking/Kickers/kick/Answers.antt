use Rattle.std.proofs.Common.{◌≡◌, ◌∙◌, sym, subst, ap, arith, set, [], ◌∷◌, ◌++◌}
use Rattle.std.specs.Prelude.{OnOk, OnErr}
use Rattle.context_queue.specs.Notes.{Sender}
use Rattle.context_queue.specs.declared.note.Note.{Note}
use Rattle.core_worker.specs.Workers.{Common}
use Rattle.slow_worker.specs.contracts.kicking.Kickers.{the_view}
use Rattle.slow_worker.specs.Kicking.{Kicking, CanKick, IsKicked}
use Rattle.slow_worker.proofs.Kicks.{within, as_many, on_at, on_still, same_line, kicked_ok, kept_err}
use Rattle.slow_worker.proofs.kicking.Kickers.kick.Goals as goal

pub index_mut-requires : goal.index_mut-requires
index_mut-requires g c =
    let can = subst (λ (k : Kicking). CanKick c.args.shared.now k) (sym c.self.view_is) c.requires.can in
    let many = as_many c.args.shared.now.kicks c.self.inside.senders.items can.own in
    let cores = ap (λ (k : Common). k.steering.cores) c.shared.view_is in
    omega (arith, many, can.cores, cores, c.core_of-core.ensures.below)

pub post-requires : goal.post-requires
post-requires g c =
    let can = subst (λ (k : Kicking). CanKick c.args.shared.now k) (sym c.self.view_is) c.requires.can in
    let s : Sender = c.index_mut.result.now in
    record {
      own = ap (λ (x : Sender). x.line) c.index_mut.ensures.value
          ∙ on_at c.args.shared.now.kicks c.self.inside.senders.items _ c.kicks-queue.result.now s can.own
          c.kicks-queue.ensures;
    }

pub returns-clause-can : goal.returns-clause-can
returns-clause-can g c =
    let can = subst (λ (k : Kicking). CanKick c.args.shared.now k) (sym c.self.view_is) c.requires.can in
    let s : Sender = c.index_mut.result.now in
    record {
      steer = c.core_of-core.ensures.own ∙ can.steer;
      cores = can.cores;
      own = on_still c.args.shared.now.kicks c.self.inside.senders.items _ s c.post.new.s can.own
          (same_line _ s c.post.new.s c.post.result c.post.ensures.posted c.post.ensures.err
          ∙ ap (λ (x : Sender). x.line) c.index_mut.ensures.value);
    }

pub returns-clause-posted : goal.returns-clause-posted
returns-clause-posted g c =
    let can = subst (λ (k : Kicking). CanKick c.args.shared.now k) (sym c.self.view_is) c.requires.can in
    let cores = ap (λ (k : Common). k.steering.cores) c.shared.view_is in
    let s : Sender = c.index_mut.result.now in
    subst (λ (x : Kicking). OnOk c.post.result (IsKicked c.args.shared.now c.args.kick x
    (record {
      steer = c.core_of-core.new.p;
      senders = set c.self.inside.senders.items c.core_of-core.result c.post.new.s;
    })
    [])) c.self.view_is
    (kicked_ok c.args.shared.now c.args.kick (the_view c.self.inside) c.core_of-core.new.p c.core_of-core.result
    c.kicks-queue.result.now c.index_mut.result.now c.post.new.s c.group.result c.post.result
    c.core_of-core.ensures.seen c.core_of-core.ensures.own c.group.ensures.group c.core_of-core.ensures.core
    c.kicks-queue.ensures
    (within c.args.shared.now (the_view c.self.inside) _ _ can cores c.core_of-core.ensures.below)
    c.index_mut.ensures.value
    (subst (λ (n : Note). OnOk c.post.result (c.post.new.s ≡ record s { posts = s.posts ++ n ∷ [] })) c.note.ensures
    c.post.ensures.posted))

pub returns-clause-kept : goal.returns-clause-kept
returns-clause-kept g c =
    let can = subst (λ (k : Kicking). CanKick c.args.shared.now k) (sym c.self.view_is) c.requires.can in
    let cores = ap (λ (k : Common). k.steering.cores) c.shared.view_is in
    subst (λ (x : Kicking). OnErr c.post.result (IsKicked c.args.shared.now c.args.kick x
    (record {
      steer = c.core_of-core.new.p;
      senders = set c.self.inside.senders.items c.core_of-core.result c.post.new.s;
    })
    (c.args.kick ∷ []))) c.self.view_is
    (kept_err c.args.shared.now c.args.kick (the_view c.self.inside) c.core_of-core.new.p c.core_of-core.result
    c.kicks-queue.result.now c.index_mut.result.now c.post.new.s c.group.result c.post.result
    c.core_of-core.ensures.seen c.core_of-core.ensures.own c.group.ensures.group c.core_of-core.ensures.core
    c.kicks-queue.ensures
    (within c.args.shared.now (the_view c.self.inside) _ _ can cores c.core_of-core.ensures.below)
    c.index_mut.ensures.value c.post.ensures.full c.post.ensures.err)

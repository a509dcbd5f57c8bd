use Rattle.std.proofs.Common.{◌≡◌, List, ap, sym, ◌∙◌, subst}
use Rattle.std.proofs.Math.Seq.{map-set_same}
use Rattle.std.specs.Prelude.{Some, position}
use Rattle.core_worker.specs.News.{notes_about}
use Rattle.core_worker.specs.Telling.{AreOwnSenders, app_of, is_sender_for}
use Rattle.core_worker.specs.declared.senders.AppSender.{AppSender}
use Rattle.core_worker.proofs.Told.{sender_at, has_queue, no_sender, one_line, told_by}
use Rattle.core_worker.proofs.senders.AppSenders.tell.Goals as goal

pub unreachable-requires : goal.unreachable-requires
unreachable-requires g c =
    let ss : List AppSender = c.args.self.now in
    no_sender c.args.shared.now.queues ss c.in-Some.app c.in-Some-place_of.i c.requires.own
    (sym c.in-Some-place_of.ensures) c.in_default-queue.ensures.none

pub post-requires : goal.post-requires
post-requires g c =
    let ss : List AppSender = c.self.inside.senders.items in
    let at : position (is_sender_for c.in-Some.app) ss ≡ Some c.in-Some-place_of.i =
    subst (λ (l : List AppSender). position (is_sender_for c.in-Some.app) l ≡ Some c.in-Some-place_of.i)
    (sym c.self.view_is) (sym c.in-Some-place_of.ensures) in
    let own : AreOwnSenders c.args.shared.now.queues ss =
    subst (AreOwnSenders c.args.shared.now.queues) (sym c.self.view_is) c.requires.own in
    let found = sender_at _ ss _ _ c.index_mut.result.now own at c.index_mut.ensures.value in
    let s : AppSender = c.index_mut.result.now in
    let has = has_queue c.args.shared.now.queues c.in-Some.app s found.0 found.2 in
    record { own = one_line _ has.0 _ s.sender has.1 has.2 c.in-Some-queue.ensures.some }

pub returns-clause-told : goal.returns-clause-told
returns-clause-told g c =
    let ss : List AppSender = c.self.inside.senders.items in
    let at : position (is_sender_for c.in-Some.app) ss ≡ Some c.in-Some-place_of.i =
    subst (λ (l : List AppSender). position (is_sender_for c.in-Some.app) l ≡ Some c.in-Some-place_of.i)
    (sym c.self.view_is) (sym c.in-Some-place_of.ensures) in
    let own : AreOwnSenders c.args.shared.now.queues ss =
    subst (AreOwnSenders c.args.shared.now.queues) (sym c.self.view_is) c.requires.own in
    let notes = notes_about c.args.flow c.args.news in
    let told = told_by _ _ notes ss _ c.index_mut.result.now _ c.post.new.sender own at c.index_mut.ensures.value
    c.in-Some-queue.ensures.some c.post.ensures.posted in
    rw (c.in-Some.is, ← c.self.view_is) told

-- whoever posts keeps its application
pub invariant_of-self : goal.invariant_of-self
invariant_of-self g c =
    c.self.invariant
    ∙ sym (map-set_same app_of c.self.inside.senders.items c.in-Some-place_of.i
    (record { app = c.index_mut.result.now.app; sender = c.post.new.sender }) c.index_mut.result.now
    (ap app_of c.index_mut.ensures.value))

use Rattle.std.proofs.Common.{ℕ, ◌<◌, ◌+◌, ◌++◌, ◌∷◌, [], List, take, filter, sym, subst, ◌∙◌, arith}
use Rattle.std.proofs.lemmas.List.{take_more}
use Rattle.std.proofs.lemmas.List.Elements.{All-push}
use Rattle.std.specs.Prelude.{slice_index_or, All}
use Rattle.frame_steering.specs.declared.handing.GroupMove.{GroupMove}
use Rattle.frame_steering.specs.Handing.{waits, AreHanded}
use Rattle.frame_steering.proofs.Growing.{handed_more}
use Rattle.frame_steering.proofs.handing.hand_out.Goals as goal

pub note-requires : goal.note-requires
note-requires g c =
    let counted = c.loop-group.invariant.counted in
    let has_room = c.loop-group.invariant.has_room in
    let low = c.loop-group-test.true in
    grind (arith, counted, has_room, low)

-- a frame more
pub loop-group-preserved : goal.loop-group-preserved
loop-group-preserved g c =
    let kept = c.loop-group.invariant in
    let n : ℕ = c.args.cores in
    let groups : List ℕ = c.args.groups.now in
    let moves : List GroupMove = c.args.moves.now in
    let at : ℕ = c.loop-group.group-index in
    let core : ℕ = c.core_of-core.result in
    let so_far : List ℕ = c.loop-group.handed.items in
    let wait : List GroupMove = filter (waits c.move_group.new.waiting) moves in
    record {
      place = c.move_group.ensures.own ∙ (c.core_of-core.ensures.own ∙ kept.place);
      counted = let len = c.note.ensures.len in grind (arith, len, kept.counted);
      has_room = let room = c.note.ensures.room in grind (arith, room, kept.has_room);
      below = subst (All (λ k. k < n)) (sym c.note.ensures.items)
          (All-push (λ k. k < n) so_far core kept.below
          (subst (λ k. core < k) (sym c.requires.cores.0) c.core_of-core.ensures.below));
      handed = subst
          (λ cs. AreHanded n c.args.steer.now.tables moves (take (at + 1) groups) cs wait c.move_group.new.steer.tables)
          (sym c.note.ensures.items)
          (subst (λ gs. AreHanded n c.args.steer.now.tables moves gs (so_far ++ core ∷ []) wait
          c.move_group.new.steer.tables) (sym (take_more groups at 0 c.loop-group-test.true))
          (subst (λ l. AreHanded n c.args.steer.now.tables moves (take at groups ++ slice_index_or groups at 0 ∷ [])
          (so_far ++ core ∷ []) l c.move_group.new.steer.tables) (sym c.move_group.ensures.left)
          (handed_more n c.args.steer.now.tables c.loop-group.steer.tables c.move_group.new.steer.tables moves
          (filter (waits c.loop-group.waiting) moves) (take at groups) so_far (slice_index_or groups at 0) core
          kept.handed
          (record {
            found = c.core_of-core.new.p.tables;
            seen = c.core_of-core.ensures.seen;
            names = c.core_of-core.ensures.core;
            moved = c.move_group.ensures.moved;
          }))));
    }

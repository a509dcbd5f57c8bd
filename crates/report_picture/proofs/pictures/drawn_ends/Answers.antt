use Rattle.std.proofs.Common.{◌≡◌, List, ℕ, [], map, Option, Some, ap, sym, ◌∙◌}
use denote.Ref.{Bor}
use Rattle.ladder_picture.specs.Rungs.{rungs_of, with_log}
use Rattle.report_picture.specs.Pictures.{look, left_end, right_end, or_0, number_of}
use Rattle.report_picture.proofs.Drawn.{put_so, same_end, same_rungs}
use Rattle.report_picture.proofs.pictures.drawn_ends.Goals as goal

pub returns : goal.returns
returns c =
    let names = map (λ (n : Bor (List ℕ)). n.now) c.args.names.now in
    let drawn = c.args.drawn.now in
    let ours = c.args.ends.now.ours in
    let theirs = c.args.ends.now.theirs in
    put_so c.put_drawing.new.out.items c.new-out.result.items c.look_of-look.result
    (look c.args.absolute c.args.peer ours.known theirs.known) c.args.absolute
    (record { name = c.name_of.result.now; addr = drawn.tuple.laddr; port = drawn.tuple.lport }) (left_end names drawn)
    (record { name = c.name_of-2.result.now; addr = drawn.tuple.raddr; port = drawn.tuple.rport })
    (right_end names c.args.peer drawn)
    c.deref-3.result.now
    (rungs_of (with_log ours.rows.items ours.log.items (or_0 c.args.peer) (number_of c.args.other))
    (with_log theirs.rows.items theirs.log.items drawn.host (Some drawn.number)))
    c.new-out.ensures.items c.look_of-look.ensures
    (same_end drawn.tuple.laddr drawn.tuple.lport _ _ c.name_of.ensures)
    (same_end drawn.tuple.raddr drawn.tuple.rport _ _ c.name_of-2.ensures)
    (c.deref-3.ensures.value
    ∙ (c.in_ok-rungs.ensures
    ∙ same_rungs c.deref.result.now
    (with_log ours.rows.items ours.log.items (or_0 c.args.peer) (number_of c.args.other)) c.deref-2.result.now
    (with_log theirs.rows.items theirs.log.items drawn.host (Some drawn.number))
    (c.deref.ensures.value
    ∙ (c.in_ok-ours.ensures
    ∙ ap (λ (f : Option ℕ). with_log ours.rows.items ours.log.items (or_0 c.args.peer) f) c.number_of.ensures))
    (c.deref-2.ensures.value ∙ c.in_ok-theirs.ensures)))
    c.in_ok-put_drawing.ensures

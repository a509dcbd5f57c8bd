-- Answers of the proof of kills/leave_all.
use Rattle.std.proofs.Common.{◌≡◌, ◌+◌, [], ◌∷◌, drop, sym, ap, ◌∙◌}
use Rattle.sound_hosts.specs.Leaving.{books_left}
use Rattle.core_host.proofs.Gone.{drop_next}
use Rattle.core_host.proofs.kills.leave_all.Goals as goal

pub loop-at-preserved : goal.loop-at-preserved
loop-at-preserved c =
    let l = c.loop-at in
    let pins = c.args.pins.now.list in
    ap (books_left c.args.app (drop (l.at + 1) pins)) (c.leave.ensures ∙ ap (λ id. books_left c.args.app (id ∷ [])
    l.books) c.id.ensures)
    ∙ (ap (λ ids. books_left c.args.app ids l.books) (sym (drop_next pins l.at c.pin.result.now c.pin.ensures))
    ∙ l.invariant)

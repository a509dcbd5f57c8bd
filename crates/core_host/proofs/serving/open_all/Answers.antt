-- Answers of the proof of serving/open_all.
use Rattle.std.proofs.Common.{◌++◌, ap, ◌∙◌, drop, map, ◌+◌, ◌∷◌, []}
use Rattle.sound_turns.specs.Serving.{syn_book}
use Rattle.core_host.proofs.Served.{opened_more}
use Rattle.core_host.proofs.serving.open_all.Goals as goal

pub loop-at-preserved : goal.loop-at-preserved
loop-at-preserved c =
    let l = c.loop-at in
    let pins = c.args.pins.now.list in
    ap (λ bs. bs ++ map syn_book (drop (l.at + 1) pins))
    (c.in_ok-open.ensures ∙ ap (λ id. l.books ++ syn_book id ∷ []) c.id.ensures)
    ∙ (opened_more l.books pins l.at c.pin.result.now c.pin.ensures ∙ l.invariant)

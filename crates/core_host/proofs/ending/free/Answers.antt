-- Answers of the proof of ending/free.
use Rattle.std.proofs.Common.{[], ap, ◌∙◌, subst}
use lib.ListN.{get_elem?}
use Rattle.flow_lock.specs.Answers.{IsFreed}
use Rattle.flow_lock.specs.Passes.{Seen}
use Rattle.core_host.proofs.Freeing.{doomed_mark, one_freed}
use Rattle.core_host.proofs.ending.free.Goals as goal

pub free-requires-clause-doomed : goal.free-requires-clause-doomed
free-requires-clause-doomed c =
    let s = c.args.slow.now in
    ap (λ (x : Seen). get_elem? x.view.marks c.args.pin.slot) c.doom.ensures
    ∙ doomed_mark c.args.table.now s s c.args.pin [] c.requires

pub returns-clause-freed : goal.returns-clause-freed
returns-clause-freed c =
    one_freed c.args.table.now c.args.slow.now c.free.new.slow c.args.pin
    (c.free.ensures.table ∙ ap (λ (x : Seen). x.table) c.doom.ensures)
    (subst (λ (x : Seen). IsFreed c.args.pin x.view c.free.new.slow.view) c.doom.ensures c.in-Ok.ensures.freed)

use Rattle.std.proofs.Common.{◌∙◌, ◌++◌, ◌∷◌, [], ap, subst, sym}
use Rattle.tas_model.specs.declared.entry.Entry.{Entry}
use Rattle.flow_state.specs.declared.stretch.Stretch.TheVariants.{One}
use Rattle.flow_state.specs.Stretches.{AllWithin, entries_of}
use Rattle.flow_state.proofs.Runs.{within_push, quiet_entry}
use Rattle.flow_state.proofs.stretch.add.Goals as goal

pub returns-then-is_quiet_tick-clause-entries : goal.returns-then-is_quiet_tick-clause-entries
returns-then-is_quiet_tick-clause-entries c memory =
    c.add_quiet.ensures.entries memory
    ∙ ap (λ (x : Entry). entries_of memory c.args.stretches.now.items ++ x ∷ [])
    (sym (quiet_entry memory c.args.tick c.args.slot.now (sym c.is_quiet_tick.ensures ∙ c.if-is_quiet_tick.true)))

pub returns-then-is_quiet_tick-clause-within : goal.returns-then-is_quiet_tick-clause-within
returns-then-is_quiet_tick-clause-within c n k all is = c.add_quiet.ensures.within n k all

pub returns-else-is_quiet_tick-clause-within : goal.returns-else-is_quiet_tick-clause-within
returns-else-is_quiet_tick-clause-within c n k all is =
    subst (AllWithin n k) (sym c.push.ensures.items)
    (within_push n k c.args.stretches.now.items (One c.args.tick c.args.slot.now) is all)

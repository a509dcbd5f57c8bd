use Rattle.std.proofs.Common.{◌≡◌, ◌++◌, List, ap, subst, sym, ◌∙◌, arith}
use Rattle.tas_model.specs.declared.entry.Entry.{Entry}
use Rattle.tas_model.specs.LegalHistory.{last_tick}
use Rattle.flow_state.specs.declared.stretch.Stretch.TheVariants.{Quiet}
use Rattle.flow_state.specs.Stretches.{AllWithin, entries_of, run_entries}
use Rattle.flow_state.proofs.Pacing.{entries_push}
use Rattle.flow_state.proofs.Runs.{within_push}
use Rattle.flow_state.proofs.stretch.add_quiet.Goals as goal

pub returns-then-not-lengthen-clause-entries : goal.returns-then-not-lengthen-clause-entries
returns-then-not-lengthen-clause-entries c memory =
    let same = c.lengthen.ensures.unmade c.if-not-lengthen.true in
    let kept : entries_of memory c.close_run.new.stretches.items ≡ entries_of memory c.args.stretches.now.items =
    c.close_run.ensures.entries memory ∙ ap (λ v. entries_of memory v.items) same in
    ap (entries_of memory) c.push.ensures.items
    ∙ (entries_push memory c.close_run.new.stretches.items (Quiet c.first_of.result)
    ∙ (ap (λ (xs : List Entry). xs ++ run_entries c.first_of.result) kept
    ∙ ap (λ r. entries_of memory c.args.stretches.now.items ++ run_entries r) c.first_of.ensures.run))

pub returns-then-not-lengthen-clause-few : goal.returns-then-not-lengthen-clause-few
returns-then-not-lengthen-clause-few c memory low =
    let same = c.lengthen.ensures.unmade c.if-not-lengthen.true in
    let last : last_tick 0 (entries_of memory c.lengthen.new.stretches.items)
    ≡ last_tick 0 (entries_of memory c.args.stretches.now.items) =
    ap (λ v. last_tick 0 (entries_of memory v.items)) same in
    omega (
      arith,
      last,
      c.close_run.ensures.few memory (omega (arith, last, low)),
      c.push.ensures.len,
      c.lengthen.ensures.len,
    )

pub returns-then-not-lengthen-clause-within : goal.returns-then-not-lengthen-clause-within
returns-then-not-lengthen-clause-within c n k all =
    subst (AllWithin n k) (sym c.push.ensures.items)
    (within_push n k c.close_run.new.stretches.items (Quiet c.first_of.result) c.first_of.ensures.fits
    (c.close_run.ensures.within n k (c.lengthen.ensures.within n k all)))

pub returns-else-not-lengthen-clause-entries : goal.returns-else-not-lengthen-clause-entries
returns-else-not-lengthen-clause-entries c memory = c.lengthen.ensures.entries memory c.if-not-lengthen.false

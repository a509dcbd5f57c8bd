use Rattle.std.proofs.Common.{◌≡◌, ◌-◌, ◌++◌, ◌∷◌, [], List, length, take, sym, ap, ◌∙◌, arith, append_assoc}
use Rattle.tas_model.specs.declared.entry.Entry.{Entry}
use Rattle.tas_model.specs.LegalHistory.{last_tick}
use Rattle.flow_state.specs.declared.paced.PacedRun.{PacedRun}
use Rattle.flow_state.specs.declared.stretch.Stretch.{Stretch}
use Rattle.flow_state.specs.declared.stretch.Stretch.TheVariants.{One, Quiet}
use Rattle.flow_state.specs.Arena.{Memory}
use Rattle.flow_state.specs.Slots.{entry_of}
use Rattle.flow_state.specs.Stretches.{entries_of, run_entries, paced_entries}
use Rattle.flow_state.proofs.Pacing.{if_some, last_two, cut_two}
use Rattle.flow_state.proofs.Runs.{last_push}
use Rattle.flow_state.proofs.paced.last_paced.Goals.{After-paced_by}
use Rattle.flow_state.proofs.paced.last_paced.Goals as goal

abbrev run : After-paced_by → Stretch
run c = Quiet c.in-Quiet-One.run'

abbrev control : After-paced_by → Stretch
control c = One c.in-Quiet-One.at c.in-Quiet-One.slot

-- the stretches before both
abbrev before : After-paced_by → List Stretch
before c = take (length c.args.stretches.now - 2) c.args.stretches.now

cut : (c : After-paced_by) → c.args.stretches.now ≡ before c ++ run c ∷ control c ∷ []
cut c = last_two c.args.stretches.now (run c) (control c) _ _ c.if-count-lt2.false c.in-Quiet-One.is-0
    c.in-Quiet-One.is-1

whole : (c : After-paced_by) (memory : Memory) → entries_of memory c.args.stretches.now
    ≡ entries_of memory (before c)
    ++ (run_entries c.in-Quiet-One.run' ++ entry_of memory c.in-Quiet-One.at c.in-Quiet-One.slot ∷ [])
whole c memory = cut_two memory c.args.stretches.now (run c) (control c) (cut c)

-- what is known of the run with its Control
abbrev IsClosed : After-paced_by → PacedRun → Type 0
IsClosed c p = (memory : Memory) → run_entries c.in-Quiet-One.run'
    ++ entry_of memory c.in-Quiet-One.at c.in-Quiet-One.slot ∷ [] ≡ paced_entries p

pub returns-in-Quiet-One-clause-entries : goal.returns-in-Quiet-One-clause-entries
returns-in-Quiet-One-clause-entries c =
    if_some (IsClosed c) _ c.paced_by.result
    (λ p is memory. whole c memory ∙ ap (λ (xs : List Entry). entries_of memory (before c) ++ xs) (is memory))
    c.paced_by.ensures.entries

pub returns-in-Quiet-One-clause-later : goal.returns-in-Quiet-One-clause-later
returns-in-Quiet-One-clause-later c =
    if_some (IsClosed c) _ c.paced_by.result
    (λ p is memory.
    let h : List Entry = entries_of memory (before c) in
    let r : List Entry = run_entries c.in-Quiet-One.run' in
    let x : Entry = entry_of memory c.in-Quiet-One.at c.in-Quiet-One.slot in
    omega (
      arith,
      ap (last_tick 0) (whole c memory ∙ sym (append_assoc h r (x ∷ []))),
      last_push 0 (h ++ r) x,
      c.if-at-tick.true,
    ))
    c.paced_by.ensures.entries

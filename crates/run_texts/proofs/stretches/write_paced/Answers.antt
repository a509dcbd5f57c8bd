use Rattle.std.proofs.Common.{rules, ℕ, ◌+◌, ◌++◌, [], List, ap, refl, sym, ◌∙◌, append_assoc}
use Rattle.tas_model.specs.declared.entry.Entry.{Entry}
use Rattle.tas_runs.specs.Report.{entries_text}
use Rattle.flow_state.specs.declared.paced.PacedRun.{PacedRun}
use Rattle.flow_state.specs.Stretches.{pace_of, paced_times, paced_entries, first_paced}
use Rattle.run_texts.proofs.Paced.{entries_both}
use Rattle.run_texts.proofs.Writing.{wrote_as, wrote_both, wrote_then, wrote_nothing, stopped_at}
use Rattle.run_texts.proofs.stretches.write_paced.Goals as goal

pub loop-left-init : goal.loop-left-init
loop-left-init g c =
    record { fits = c.requires; upto = λ names. record { front = []; whole = refl; wrote = wrote_nothing _ _ } }

pub returns-in_err-write_first : goal.returns-in_err-write_first
returns-in_err-write_first g c names =
    let left : PacedRun = c.loop-left.left in
    let done = c.loop-left.invariant.upto names in
    let rest : List Entry = paced_times (pace_of left) (left.run.number + (left.run.more + 2))
    (left.run.tick + (left.run.more + 1)) left.more in
    wrote_both _ _ _ _ done.front (entries_text names (paced_entries left)) _ done.whole done.wrote
    (wrote_as _ _ _ _ _ (entries_both names (first_paced left) rest)
    (stopped_at _ _ _ _ (entries_text names (first_paced left)) (entries_text names rest) (search rules) (search rules)
    (c.write_first.ensures names)))

pub loop-left-preserved : goal.loop-left-preserved
loop-left-preserved g c =
    let left : PacedRun = c.loop-left.left in
    record {
      fits = c.in-Some.ensures.fits;
      upto = λ names.
          let done = c.loop-left.invariant.upto names in
          let first : List ℕ = entries_text names (first_paced left) in
          record {
            front = done.front ++ first;
            whole = append_assoc done.front first (entries_text names (paced_entries c.in-Some.rest))
                ∙ (ap (λ t. done.front ++ t) (entries_both names (first_paced left) (paced_entries c.in-Some.rest)
                ∙ ap (entries_text names) (sym c.in-Some.ensures.rest)) ∙ done.whole);
            wrote = wrote_then _ _ _ _ done.front first done.wrote (c.in_ok-write_first.ensures names);
          };
    }

pub returns-in-None : goal.returns-in-None
returns-in-None g c names =
    let left : PacedRun = c.loop-left.left in
    let done = c.loop-left.invariant.upto names in
    wrote_both _ _ _ _ done.front (entries_text names (first_paced left)) _
    (ap (λ t. done.front ++ t) (ap (entries_text names) (sym c.in-None.ensures.last)) ∙ done.whole) done.wrote
    (c.in_ok-write_first.ensures names)

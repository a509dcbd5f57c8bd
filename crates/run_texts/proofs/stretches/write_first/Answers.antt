use Rattle.std.proofs.Common.{rules, ℕ, ◌+◌, ◌++◌, ◌∷◌, [], List, ap, sym, ◌∙◌, append-nil}
use Rattle.tas_model.specs.declared.entry.Entry.{Entry}
use Rattle.tas_runs.specs.Report.{entry_text, entries_text}
use Rattle.flow_state.specs.declared.paced.PacedRun.{PacedRun}
use Rattle.flow_state.specs.Stretches.{run_entries, control_entry}
use Rattle.run_texts.specs.declared.line_texts.ControlLine.{ControlLine}
use Rattle.run_texts.proofs.Decades.{run_is}
use Rattle.run_texts.proofs.Paced.{entries_both}
use Rattle.run_texts.proofs.Writing.{wrote_as, wrote_both, stopped_at}
use Rattle.run_texts.proofs.stretches.write_first.Goals as goal

abbrev line_of : ControlLine → List ℕ
line_of t = entry_text [] (control_entry t.start.caller t.start.number t.start.tick t.window.cwnd t.window.ssthresh)

abbrev control : PacedRun → Entry
control r = control_entry r.run.caller (r.run.number + r.run.more + 1) (r.run.tick + r.run.more) r.cwnd r.ssthresh

pub returns-in_err-put_lines : goal.returns-in_err-put_lines
returns-in_err-put_lines g c names =
    let runs : PacedRun = c.args.runs.now in
    let x : List ℕ = entries_text names (run_entries runs.run) in
    let y : List ℕ = entries_text names (control runs ∷ []) in
    wrote_as _ _ _ (x ++ y) _ (entries_both names (run_entries runs.run) (control runs ∷ []))
    (stopped_at _ _ _ _ x y (search rules) (search rules)
    (wrote_as _ _ _ _ x (run_is names runs.run) c.put_lines.ensures))

pub returns : goal.returns
returns g c names =
    let runs : PacedRun = c.args.runs.now in
    let x : List ℕ = entries_text names (run_entries runs.run) in
    let y : List ℕ = entries_text names (control runs ∷ []) in
    wrote_both _ _ _ _ x y _ (entries_both names (run_entries runs.run) (control runs ∷ []))
    (wrote_as _ _ _ _ x (run_is names runs.run) c.in_ok-put_lines.ensures)
    (wrote_as _ _ _ _ y (ap line_of c.control_line.ensures ∙ sym (append-nil (entry_text names (control runs))))
    c.put_text.ensures)

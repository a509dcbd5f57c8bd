use Rattle.std.proofs.Common.{rules, List, ℕ, [], ◌∷◌, ◌++◌, map}
use Rattle.tas_runs.specs.Report.{frame_text}
use Rattle.run_texts.proofs.Writing.{wrote_then}
use Rattle.run_texts.proofs.FrameIds.{stopped_before}
use Rattle.run_texts.proofs.logs.write_fate.Goals as goal

pub returns-in_err-put : goal.returns-in_err-put
returns-in_err-put g c =
    let frame : List ℕ = frame_text (map (λ n. n.now) c.args.names.now) c.args.frame in
    let why : List ℕ = g.T.Text.text c.args.why.now in
    stopped_before _ _ _ _ c.args.fate.now (frame ∷ why ∷ []) (search rules) (search rules) c.put.ensures

pub returns-in_err-write_frame_id : goal.returns-in_err-write_frame_id
returns-in_err-write_frame_id g c =
    let frame : List ℕ = frame_text (map (λ n. n.now) c.args.names.now) c.args.frame in
    let why : List ℕ = g.T.Text.text c.args.why.now in
    stopped_before _ _ _ _ (c.args.fate.now ++ frame) (why ∷ []) (search rules) (search rules)
    (wrote_then _ _ _ _ c.args.fate.now frame c.in_ok-put.ensures c.write_frame_id.ensures)

pub returns : goal.returns
returns g c =
    let frame : List ℕ = frame_text (map (λ n. n.now) c.args.names.now) c.args.frame in
    wrote_then _ _ _ _ (c.args.fate.now ++ frame) (g.T.Text.text c.args.why.now)
    (wrote_then _ _ _ _ c.args.fate.now frame c.in_ok-put.ensures c.in_ok-write_frame_id.ensures) c.put_text.ensures
